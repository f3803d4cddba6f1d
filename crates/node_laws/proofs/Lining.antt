-- The pending write sets stay in line with the live transactions, when one of these begins, changes
-- or ends.
use Rattle.std.proofs.Common.{◌≡◌, ℕ, ◌+◌, false, List, [], ◌∷◌, ◌++◌, Some, refl, ap, sym, subst, ◌∙◌, arith}
use Rattle.std.specs.Prelude.{◌==◌}
use Rattle.std.specs.List.{AllByRecursion}
use Rattle.std.specs.Ordering.{nat_cmp, eq_by_cmp}
use Rattle.finite_map.specs.FiniteMap.{FiniteMap, get, insert, remove}
use Rattle.wsrep_base.specs.declared.ids.TrxId.{TrxId}
use Rattle.order_event.specs.declared.event.Event.{Event}
use Rattle.write_set.specs.declared.write_set.WriteSet.{WriteSet}
use Rattle.client_trx.specs.Live.{Live}
use Rattle.finite_map.proofs.Edits.{numbers, untied, Inserted, AtKey, Elsewhere, inserted, left}
use Rattle.node_meaning.specs.Facts.{sets_of, SerialsRise, IsOurs, IsLive, Lined, StandsBy}
use Rattle.node_laws.proofs.SetLists.{unequal, all_push, all_each, serials_push, of-other}

-- a transaction stands as it did where the write sets that are its own are the same
pub moved : (order : List Event) (m b p c : ℕ) (before after : List WriteSet) (t : Live)
    → sets_of t.trx.begin after ≡ sets_of t.trx.begin before → IsLive order m b p c before t
    → IsLive order m b p c after t
moved order m b p c before after t same h = record {
  of_member = h.of_member;
  begun = h.begun;
  stands = subst (λ mine. StandsBy order p c mine t t.status) (sym same) h.stands;
}

pub later_begin : (order : List Event) (m b p c : ℕ) (sets : List WriteSet) (t : Live)
    → IsLive order m b p c sets t → IsLive order m (b + 1) p c sets t
later_begin order m b p c sets t h = record {
  of_member = h.of_member;
  begun = omega (arith, h.begun);
  stands = h.stands;
}

module _ (order : List Event) (m b serial p c : ℕ) (live : FiniteMap nat_cmp Live)
    (sets : List WriteSet) (l : Lined order m b serial p c live sets) where
  -- ---- one that is live changes or ends
  module _ (s : ℕ) (t : Live) (is : get live s ≡ Some t) where
    -- another one has another begin number
    pub elsewhere : (o : ℕ) (v : Live) → eq_by_cmp nat_cmp o s ≡ false → get live o ≡ Some v
        → t.trx.begin == v.trx.begin ≡ false
    elsewhere o v differs there =
        unequal t.trx.begin v.trx.begin (λ same. untied numbers o s differs
        (l.begins o s v t there is (sym same)))

    changed_by : (q d : ℕ) (u : Live) (after : List WriteSet) → IsLive order m b q d after u
        → ((o : ℕ) (v : Live) → t.trx.begin == v.trx.begin ≡ false → IsLive order m b p c sets v
        → IsLive order m b q d after v)
        → (o : ℕ) (v : Live) → Inserted numbers live s u o v → IsLive order m b q d after v
    changed_by q d u after new others o v (AtKey key value) =
        subst (IsLive order m b q d after) (sym value) new
    changed_by q d u after new others o v (Elsewhere differs there) =
        others o v (elsewhere o v differs there) (l.each o v there)

    begun_by : (u : Live) → u.trx ≡ t.trx → (o : ℕ) (v : Live) → Inserted numbers live s u o v
        → (w : Live) × (get live o ≡ Some w) × (v.trx.begin ≡ w.trx.begin)
    begun_by u same o v (AtKey key value) = (
      t,
      ap (get live) key ∙ is,
      ap (λ (x : Live). x.trx.begin) value
          ∙ ap (λ (x : TrxId). x.begin) same,
    )
    begun_by u same o v (Elsewhere differs there) = (v, there, refl)

    -- it is as it is now, over other pending write sets and places
    pub replaced : (q d : ℕ) (u : Live) → u.trx ≡ t.trx → (after : List WriteSet) (next : ℕ)
        → AllByRecursion (IsOurs m b q) after → SerialsRise 0 after next
        → IsLive order m b q d after u
        → ((o : ℕ) (v : Live) → t.trx.begin == v.trx.begin ≡ false → IsLive order m b p c sets v
        → IsLive order m b q d after v)
        → Lined order m b next q d (insert live s u) after
    replaced q d u same after next ours serials new others = record {
      ours = ours;
      serials = serials;
      each = λ o v there. changed_by q d u after new others o v
          (inserted numbers live s u o v there);
      begins = λ o k v w one other alike.
          let x = begun_by u same o v (inserted numbers live s u o v one) in
          let y = begun_by u same k w (inserted numbers live s u k w other) in
          l.begins o k x.0 y.0 x.1 y.1 (sym x.2 ∙ alike ∙ y.2);
    }

    -- it ends
    pub ended : (q d : ℕ) (after : List WriteSet) (next : ℕ) → AllByRecursion (IsOurs m b q) after
        → SerialsRise 0 after next
        → ((o : ℕ) (v : Live) → t.trx.begin == v.trx.begin ≡ false → IsLive order m b p c sets v
        → IsLive order m b q d after v)
        → Lined order m b next q d (remove live s) after
    ended q d after next ours serials others = record {
      ours = ours;
      serials = serials;
      each = λ o v there.
          let was = left numbers live s o v there in
          others o v (elsewhere o v was.elsewhere was.there) (l.each o v was.there);
      begins = λ o k v w one other alike. l.begins o k v w (left numbers live s o v one).there
          (left numbers live s k w other).there alike;
    }

    -- nothing is sent
    pub replaced_here : (u : Live) → u.trx ≡ t.trx → IsLive order m b p c sets u
        → Lined order m b serial p c (insert live s u) sets
    replaced_here u same new = replaced p c u same sets serial l.ours l.serials new
        (λ o v differs h. h)

    pub ended_here : Lined order m b serial p c (remove live s) sets
    ended_here = ended p c sets serial l.ours l.serials (λ o v differs h. h)

    -- one of its write sets is sent
    module _ (w : WriteSet) (begin : w.begin ≡ t.trx.begin) (number : w.serial ≡ serial)
        (ours : IsOurs m b p w) where
      abbrev more : List WriteSet
      more = sets ++ w ∷ []

      beside : (o : ℕ) (v : Live) → t.trx.begin == v.trx.begin ≡ false → IsLive order m b p c sets v
          → IsLive order m b p c more v
      beside o v differs h =
          moved order m b p c sets more v (of-other v.trx.begin sets w
          (ap (λ k. k == v.trx.begin) begin ∙ differs)) h

      pub sent : (u : Live) → u.trx ≡ t.trx → IsLive order m b p c more u
          → Lined order m b (serial + 1) p c (insert live s u) more
      sent u same new =
          replaced p c u same more (serial + 1) (all_push (IsOurs m b p) sets w l.ours ours)
          (serials_push 0 sets serial w number l.serials) new beside

      pub sent_last : Lined order m b (serial + 1) p c (remove live s) more
      sent_last =
          ended p c more (serial + 1) (all_push (IsOurs m b p) sets w l.ours ours)
          (serials_push 0 sets serial w number l.serials) beside

  -- ---- one begins
  begun_each : (s : ℕ) (u : Live) → IsLive order m (b + 1) p c sets u → (o : ℕ) (v : Live)
      → Inserted numbers live s u o v → IsLive order m (b + 1) p c sets v
  begun_each s u new o v (AtKey key value) = subst (IsLive order m (b + 1) p c sets) (sym value) new
  begun_each s u new o v (Elsewhere differs there) =
      later_begin order m b p c sets v (l.each o v there)

  apart_by : (s : ℕ) (u : Live) → u.trx.begin ≡ b → (o q : ℕ) (v w : Live)
      → Inserted numbers live s u o v → Inserted numbers live s u q w
      → v.trx.begin ≡ w.trx.begin → o ≡ q
  apart_by s u new o q v w (AtKey one _) (AtKey other _) alike = one ∙ sym other
  apart_by s u new o q v w (AtKey one value) (Elsewhere differs there) alike =
      let below = (l.each q w there).begun in
      let here : v.trx.begin ≡ b = ap (λ (x : Live). x.trx.begin) value ∙ new in
      absurd (omega (arith, below, here, alike))
  apart_by s u new o q v w (Elsewhere differs there) (AtKey other value) alike =
      let below = (l.each o v there).begun in
      let here : w.trx.begin ≡ b = ap (λ (x : Live). x.trx.begin) value ∙ new in
      absurd (omega (arith, below, here, alike))
  apart_by s u new o q v w (Elsewhere _ one) (Elsewhere _ other) alike =
      l.begins o q v w one other alike

  later_ours : (w : WriteSet) → IsOurs m b p w → IsOurs m (b + 1) p w
  later_ours w h = record { of_member = h.of_member; begun = omega (arith, h.begun); seen = h.seen }

  -- a transaction begins with the next begin number
  pub begun : (s : ℕ) (u : Live) → u.trx.begin ≡ b → IsLive order m (b + 1) p c sets u
      → Lined order m (b + 1) serial p c (insert live s u) sets
  begun s u first new = record {
    ours = all_each (IsOurs m b p) (IsOurs m (b + 1) p) later_ours sets l.ours;
    serials = l.serials;
    each = λ o v there. begun_each s u new o v (inserted numbers live s u o v there);
    begins = λ o q v w one other alike. apart_by s u first o q v w
        (inserted numbers live s u o v one) (inserted numbers live s u q w other) alike;
  }
