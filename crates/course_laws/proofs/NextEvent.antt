-- What holds over the order so far holds when one more event is certified: an event of another
-- member, a view that has the member, or the member's oldest pending write set, which is decided.
use Rattle.std.proofs.Common.{◌≡◌, ℕ, ◌+◌, ◌≤◌, Bool, true, false, cond, List, [], ◌∷◌, ◌++◌, length, Option, Some, None, refl, ap, sym, subst, ◌∙◌, arith, eq-eqb, true≢false, length-append}
use Rattle.std.specs.Prelude.{◌==◌, ◌||◌, max, is_some, unwrap_or}
use Rattle.std.specs.List.{AllByRecursion}
use Rattle.std.specs.Ordering.{nat_cmp}
use Rattle.std.proofs.lemmas.Bool.{not_from_false}
use Rattle.std.proofs.lemmas.List.Sums.{fold-append}
use Rattle.std.proofs.lemmas.Option.{same_Some}
use Rattle.finite_map.specs.FiniteMap.{FiniteMap, get}
use Rattle.wsrep_base.specs.declared.ids.TrxId.{TrxId}
use Rattle.wsrep_base.specs.declared.verdict.Verdict.TheVariants as verdict
use Rattle.wsrep_base.specs.declared.verdict.Judged.TheVariants as became
use Rattle.order_event.specs.declared.event.Event.{Event}
use Rattle.order_event.specs.declared.event.Event.TheVariants.{Write}
use Rattle.write_set.specs.declared.write_set.WriteSet.{WriteSet}
use Rattle.write_set.specs.Reading.{decoded}
use Rattle.cert_meaning.specs.declared.items.Fragment.{Fragment}
use Rattle.cert_meaning.specs.declared.members.Standing.{Standing}
use Rattle.cert_meaning.specs.State.{FoldState, fragments_of}
use Rattle.cert_meaning.specs.Verdict as rules
use Rattle.cert_meaning.specs.Verdict.{trx_of, is_rollback, is_broken, is_start}
use Rattle.cert_meaning.specs.Fold.{Adds, effect_of, judged_as, judged_write, after, fragment_by}
use Rattle.cert_meaning.proofs.FoldLaws.{number-after}
use Rattle.client_trx.specs.Live.{Live}
use Rattle.node_meaning.specs.Facts.{SerialsRise, IsOurs, IsFragmentOf}
use Rattle.node_laws.proofs.SetLists.{unequal}
use Rattle.node_laws.proofs.Fates.{grown}
use Rattle.node_laws.proofs.Heads.{count}
use Rattle.course_laws.specs.Laws.{IsByConflict}
use Rattle.course_laws.specs.Ordered.{IsPlaced, OnlyEnds, HasSent, GoesOn, Rises, Entered}
use Rattle.course_laws.proofs.Members.{IsApart, kept_open, member_own, floor_below}
use Rattle.course_laws.proofs.Placing.{next_decided, rises_lower}

-- ---- a transaction that stays where it was
broken_same : (s r : FoldState) (w : WriteSet)
    → get r.open_trx (trx_of w) ≡ get s.open_trx (trx_of w) → is_broken r w ≡ is_broken s w
unfolding is_broken
broken_same s r w same = rw same

goes_same : (s r : FoldState) (v p : ℕ) (t : Live)
    → get r.open_trx t.trx ≡ get s.open_trx t.trx → GoesOn s v p t → GoesOn r v p t
goes_same s r v p t same h = record {
  synced = h.synced;
  sent = λ running.
      let g = h.sent running in
      record { opened = rw same g.opened; count = rw same g.count; seen = rw same g.seen };
}

-- ---- an event that is none of the member's write sets
module _ (s : FoldState) (e : Event) (m v b serial p : ℕ) (live : FiniteMap nat_cmp Live)
    (sets : List WriteSet) (seen left : List ℕ) (h : Entered s m v b serial p live sets seen)
    (apart : (trx : TrxId) → trx.member ≡ m → IsApart e trx) (now : Standing)
    (stands : get (after s e).members m ≡ Some now) (same : now.serial ≡ h.standing.serial)
    (rises : Rises now.report left (max p v))
    (mine : (se : ℕ) (t : Live) → get live se ≡ Some t → t.trx.member ≡ m) where
  abbrev r : FoldState
  r = after s e

  kept : (trx : TrxId) → trx.member ≡ m → get r.open_trx trx ≡ get s.open_trx trx
  kept trx member = kept_open s e trx (apart trx member)

  still_placed : (ws : List WriteSet) → AllByRecursion (IsOurs m b p) ws
      → AllByRecursion (IsPlaced s) ws → AllByRecursion (IsPlaced r) ws
  still_placed [] ours all = tt
  still_placed (w ∷ ws) ours all = (
    λ back. broken_same s r w (kept (trx_of w) ours.0.of_member) ∙ all.0 back,
    still_placed ws ours.1 all.1,
  )

  pub beside_entered : AllByRecursion (IsOurs m b p) sets → Entered r m v b serial p live sets left
  beside_entered ours = record {
    entered = omega (arith, h.entered, number-after s e);
    standing = now;
    is_member = stands;
    floor = floor_below s e m now stands;
    serials = subst (λ k. SerialsRise k sets serial) (sym same) h.serials;
    rises = rises;
    placed = still_placed sets ours h.placed;
    ends = h.ends;
    each = λ se t there. goes_same s r v p t (kept t.trx (mine se t there)) (h.each se t there);
    unbegun = λ trx member above. kept trx member ∙ h.unbegun trx member above;
  }

-- ---- the fragments of a transaction whose fragment passes
-- what the flags of a fragment say
record IsFragment (flags : ℕ) (first : Bool) : Type 0 where
  starts : (flags == 1 || flags == 3) ≡ first
  stays : flags == 4 ≡ false
  adds : effect_of (cond (flags == 4) became.Rollback
      (cond (flags == 2 || flags == 3) became.Commit became.Fragment)) ≡ Adds

is_fragment : (first : Bool) → IsFragment (cond first 1 0) first
is_fragment true = record { starts = refl; stays = refl; adds = refl }
is_fragment false = record { starts = refl; stays = refl; adds = refl }

some_open : (o : Option (List Fragment)) (fs : List Fragment) (f : Fragment)
    → unwrap_or o [] ≡ fs ++ f ∷ [] → is_some o ≡ true
some_open None [] f is = cc
some_open None (g ∷ fs) f is = cc
some_open (Some gs) fs f is = refl

-- ---- the member's own oldest pending write set
module _ (s : FoldState) (m v b serial p : ℕ) (live : FiniteMap nat_cmp Live) (w : WriteSet)
    (rest : List WriteSet) (left : List ℕ)
    (h : Entered s m v b serial p live (w ∷ rest) (w.last_seen ∷ left))
    (ours : AllByRecursion (IsOurs m b p) (w ∷ rest)) (body : List ℕ)
    (read : decoded body ≡ Some w) (behind : p ≤ s.number) where
  abbrev next : FoldState
  next = after s (Write m body)

  -- it is decided
  pub head_decided : IsByConflict (rules.verdict s m w)
  head_decided =
      let seen = ours.0.seen in
      next_decided s m w h.standing (record {
        is_member = h.is_member;
        own = ours.0.of_member;
        serial = h.serials.0;
        past = omega (arith, seen, behind);
        fresh = omega (arith, h.floor, h.rises.0);
        placed = h.placed.0;
      })

  abbrev st : Standing
  st = record h.standing { serial = w.serial }

  stands : get next.members m ≡ Some st
  stands = member_own s m body w h.standing read ours.0.of_member head_decided h.is_member

  others_kept : (trx : TrxId) → (w.begin ≡ trx.begin → ⊥)
      → get next.open_trx trx ≡ get s.open_trx trx
  others_kept trx differs =
      kept_open s (Write m body) trx (λ x x_read sender same.
      differs (ap (λ (y : WriteSet). y.begin) (same_Some w x (sym read ∙ x_read))
      ∙ ap (λ (t : TrxId). t.begin) same))

  -- those behind it stay where they may stand
  behind_placed : (ws : List WriteSet) → AllByRecursion (IsPlaced s) ws → OnlyEnds w ws
      → AllByRecursion (IsPlaced next) ws
  behind_placed [] all ends = tt
  behind_placed (x ∷ ws) all ends = (
    λ back.
        broken_same s next x
        (others_kept (trx_of x) (λ same. true≢false (sym (ends.0 (sym same)) ∙ back)))
        ∙ all.0 back,
    behind_placed ws all.1 ends.1,
  )

  -- so does each other live transaction
  pub other_goes : (t : Live) → w.begin == t.trx.begin ≡ false → GoesOn s v p t → GoesOn next v p t
  other_goes t differs g =
      goes_same s next v p t (others_kept t.trx
      (λ same. true≢false (sym (eq-eqb w.begin t.trx.begin same) ∙ differs))) g

  -- one whose fragment it is has sent what has passed
  pub fragment_sent_passed : (t u : Live) → rules.verdict s m w ≡ verdict.Pass → trx_of w ≡ t.trx
      → IsFragmentOf s t w → u.trx ≡ t.trx → u.sent ≡ t.sent → HasSent next p u
  fragment_sent_passed t u pass of_trx f same sent =
      let fs = fragments_of s (trx_of w) in
      let last = fragment_by s w in
      let kind = subst (λ flags. IsFragment flags (w.fragment == 0)) (sym f.flags)
      (is_fragment (w.fragment == 0)) in
      let counted : length (fragments_of s (trx_of w)) ≡ w.fragment =
      count w s m kind.starts kind.stays pass in
      let adds : effect_of (judged_write s m (Some w)) ≡ Adds =
      ap (λ x. effect_of (judged_as w x)) pass ∙ kind.adds in
      let more : fragments_of next u.trx ≡ fs ++ last ∷ [] =
      ap (fragments_of next) (same ∙ sym of_trx) ∙ grown s m body w read adds in
      let seen = ours.0.seen in
      record {
        opened = some_open (get next.open_trx u.trx) fs last more
            ∙ sym (not_from_false _ (unequal u.sent 0
            (λ none. omega (arith, none, sent, f.number))));
        count = ap length more ∙ length-append fs (last ∷ []) ∙ ap (λ k. k + 1) counted ∙ f.number
            ∙ sym sent;
        seen = rw (more, fold-append (λ (_ : ℕ) (x : Fragment). x.last_seen) 0 fs (last ∷ []))
            seen;
      }

  -- all of it, where the live transactions are so now
  pub head_entered : (now : FiniteMap nat_cmp Live)
      → ((se : ℕ) (t : Live) → get now se ≡ Some t → GoesOn next v p t)
      → Entered next m v b serial p now rest left
  head_entered now each = record {
    entered = omega (arith, h.entered, number-after s (Write m body));
    standing = st;
    is_member = stands;
    floor = floor_below s (Write m body) m st stands;
    serials = h.serials.1;
    rises = rises_lower h.standing.report w.last_seen left (max p v) h.rises.0 h.rises.1;
    placed = behind_placed rest h.placed.1 h.ends.0;
    ends = h.ends.1;
    each = each;
    unbegun = λ trx member above.
        let begun = ours.0.begun in
        others_kept trx (λ same. omega (arith, same, begun, above)) ∙ h.unbegun trx member above;
  }
