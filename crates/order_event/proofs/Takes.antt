-- What is read is spelled so.
use Rattle.std.proofs.Common.{◌≡◌, ℕ, zero, suc, ◌^◌, ◌<◌, Bool, true, false, cond, eqb, List, [], ◌∷◌, ◌++◌, length, flat_map, Ok, Err, Option, Some, None, refl, sym, ap, subst, ◌∙◌}
use Rattle.std.specs.Prelude.{◌==◌, not}
use Rattle.std.specs.Int.{w32, w64, to_be_bytes}
use Rattle.std.proofs.lemmas.Bool.{eqb-true, and_from}
use Rattle.std.proofs.lemmas.List.{append-nil, nil_from_length}
use Rattle.std.proofs.lemmas.List.Concat.{flat_map-cons}
use Rattle.wsrep_base.specs.Place.{Place, place_in}
use Rattle.wsrep_base.proofs.Fields.{IsBytes, read_ok, passed, ok_is, Took, took_none, took_then, bytes_take, number_takes, wide32, wide64, byte_takes}
use Rattle.order_event.specs.declared.event.Event.{Event}
use Rattle.order_event.specs.declared.event.Event.TheVariants.{Write, View, Report}
use Rattle.order_event.specs.declared.fault.EventFault.TheVariants.{Short, BadTag}
use Rattle.order_event.specs.Spelling.{spelling, is_above, rise_from, HasSpelling}
use Rattle.order_event.specs.Reading.{member_at, members_at, write_at, view_at, report_at, event_at, read}

not_false : (b : Bool) → not b ≡ false → b ≡ true
not_false true e = refl
not_false false e = absurd cc

abbrev TakesMember : Option ℕ → Place → ℕ × Place → Type 0
TakesMember before p x = Took p (to_be_bytes w32 x.0) x.1 × (is_above before x.0 ≡ true)

member_takes : (before : Option ℕ) (p : Place) (x : ℕ × Place) → IsBytes p.left
    → member_at before p ≡ Ok x → TakesMember before p x
unfolding member_at
member_takes before p x fits e =
    let a = read_ok ℕ _ _ x e in
    let b = passed _ _ _ x a.2 in
    let t = number_takes Short w32 (2 ^ 32) wide32 p a.0 fits a.1 in
    subst (TakesMember before p) (ok_is a.0 x b.1) (t.0, not_false (is_above before a.0.0) b.0)

record AreMembers (count : ℕ) (before : Option ℕ) (p : Place) (x : List ℕ × Place) : Type 0 where
  pub took : Took p (flat_map (to_be_bytes w32) x.0) x.1
  pub count_is : length x.0 ≡ count
  pub rising : rise_from before x.0 ≡ true

members_take : (count : ℕ) (before : Option ℕ) (p : Place) (x : List ℕ × Place) → IsBytes p.left
    → members_at count before p ≡ Ok x → AreMembers count before p x
unfolding members_at
members_take zero before p x fits e =
    subst (AreMembers 0 before p) (ok_is ([], p) x e)
    (record { took = took_none p fits; count_is = refl; rising = refl })
members_take (suc n) before p x fits e =
    let a = read_ok ℕ _ _ x e in
    let b = read_ok (List ℕ) _ _ x a.2 in
    let m = to_be_bytes w32 a.0.0 in
    let first = member_takes before p a.0 fits a.1 in
    let others = members_take n (Some a.0.0) a.0.1 b.0 first.0.fits b.1 in
    let both = took_then p m a.0.1 (flat_map (to_be_bytes w32) b.0.0) b.0.1 first.0 others.took in
    subst (AreMembers (suc n) before p) (ok_is (a.0.0 ∷ b.0.0, b.0.1) x b.2) (record {
      took = rw flat_map-cons both;
      count_is = ap suc others.count_is;
      rising =
          and_from (is_above before a.0.0) (rise_from (Some a.0.0) b.0.0) first.1 others.rising;
    })

-- the bytes between two places are the spelling of the event
record IsFront (p : Place) (x : Event × Place) : Type 0 where
  pub has_spelling : HasSpelling x.0
  pub took : Took p (spelling x.0) x.1

module _ (p q : Place) (x : Event × Place) where
  write_takes : Took p (1 ∷ []) q → write_at q ≡ Ok x → IsFront p x
  unfolding write_at spelling
  write_takes tag e =
      let a = read_ok ℕ _ _ x e in
      let b = read_ok ℕ _ _ x a.2 in
      let c = read_ok (List ℕ) _ _ x b.2 in
      let m = to_be_bytes w32 a.0.0 in
      let n = to_be_bytes w32 b.0.0 in
      let body = c.0.0 in
      let end = c.0.1 in
      let ta = number_takes Short w32 (2 ^ 32) wide32 q a.0 tag.fits a.1 in
      let tb = number_takes Short w32 (2 ^ 32) wide32 a.0.1 b.0 ta.0.fits b.1 in
      let tc = bytes_take Short b.0.0 b.0.1 c.0 tb.0.fits c.1 in
      let t1 = took_then a.0.1 n b.0.1 body end tb.0 tc.0 in
      let t0 = took_then q m a.0.1 (n ++ body) end ta.0 t1 in
      let taken : Took p (1 ∷ (m ++ (n ++ body))) end =
      took_then p (1 ∷ []) q (m ++ (n ++ body)) end tag t0 in
      let count : b.0.0 ≡ length body = sym tc.1 in
      subst (IsFront p) (ok_is (Write a.0.0 body, end) x c.2) (record {
        has_spelling = subst (λ n. n < 2 ^ 32) count tb.1;
        took = subst (λ n. Took p (1 ∷ (m ++ (to_be_bytes w32 n ++ body))) end) count taken;
      })

  view_takes : Took p (2 ∷ []) q → view_at q ≡ Ok x → IsFront p x
  unfolding view_at spelling
  view_takes tag e =
      let a = read_ok ℕ _ _ x e in
      let b = read_ok ℕ _ _ x a.2 in
      let c = read_ok (List ℕ) _ _ x b.2 in
      let v = to_be_bytes w32 a.0.0 in
      let n = to_be_bytes w32 b.0.0 in
      let ms = flat_map (to_be_bytes w32) c.0.0 in
      let end = c.0.1 in
      let ta = number_takes Short w32 (2 ^ 32) wide32 q a.0 tag.fits a.1 in
      let tb = number_takes Short w32 (2 ^ 32) wide32 a.0.1 b.0 ta.0.fits b.1 in
      let tc = members_take b.0.0 None b.0.1 c.0 tb.0.fits c.1 in
      let t1 = took_then a.0.1 n b.0.1 ms end tb.0 tc.took in
      let t0 = took_then q v a.0.1 (n ++ ms) end ta.0 t1 in
      let taken : Took p (2 ∷ (v ++ (n ++ ms))) end =
      took_then p (2 ∷ []) q (v ++ (n ++ ms)) end tag t0 in
      let count : b.0.0 ≡ length c.0.0 = sym tc.count_is in
      subst (IsFront p) (ok_is (View a.0.0 c.0.0, end) x c.2) (record {
        has_spelling = (subst (λ n. n < 2 ^ 32) count tb.1, tc.rising);
        took = subst (λ n. Took p (2 ∷ (v ++ (to_be_bytes w32 n ++ ms))) end) count taken;
      })

  report_takes : Took p (3 ∷ []) q → report_at q ≡ Ok x → IsFront p x
  unfolding report_at spelling
  report_takes tag e =
      let a = read_ok ℕ _ _ x e in
      let b = read_ok ℕ _ _ x a.2 in
      let m = to_be_bytes w32 a.0.0 in
      let n = to_be_bytes w64 b.0.0 in
      let ta = number_takes Short w32 (2 ^ 32) wide32 q a.0 tag.fits a.1 in
      let tb = number_takes Short w64 (2 ^ 64) wide64 a.0.1 b.0 ta.0.fits b.1 in
      let t0 = took_then q m a.0.1 n b.0.1 ta.0 tb.0 in
      subst (IsFront p) (ok_is (Report a.0.0 b.0.0, b.0.1) x b.2) (record {
        has_spelling = tt;
        took = took_then p (3 ∷ []) q (m ++ n) b.0.1 tag t0;
      })

  -- the event by the tests of its tag
  by_tag : (tag : ℕ) (one two three : Bool) → Took p (tag ∷ []) q
      → eqb tag 1 ≡ one → eqb tag 2 ≡ two → eqb tag 3 ≡ three
      → cond one (write_at q) (cond two (view_at q) (cond three (report_at q) (Err BadTag))) ≡ Ok x
      → IsFront p x
  by_tag tag true two three took is _ _ e =
      write_takes (subst (λ t. Took p (t ∷ []) q) (eqb-true tag 1 is) took) e
  by_tag tag false true three took _ is _ e =
      view_takes (subst (λ t. Took p (t ∷ []) q) (eqb-true tag 2 is) took) e
  by_tag tag false false true took _ _ is e =
      report_takes (subst (λ t. Took p (t ∷ []) q) (eqb-true tag 3 is) took) e
  by_tag tag false false false took _ _ _ e = absurd cc

event_takes : (p : Place) (x : Event × Place) → IsBytes p.left → event_at p ≡ Ok x → IsFront p x
unfolding event_at
event_takes p x fits e =
    let a = read_ok ℕ _ _ x e in
    let tag = a.0.0 in
    let took = byte_takes Short p a.0 fits a.1 in
    by_tag p a.0.1 x tag (eqb tag 1) (eqb tag 2) (eqb tag 3) took refl refl refl a.2

pub read_takes : (bytes : List ℕ) (e : Event) → IsBytes bytes → read bytes ≡ Ok e
    → HasSpelling e × (bytes ≡ spelling e)
unfolding read
read_takes bytes e fits is =
    let a = read_ok Event _ _ e is in
    let b = passed _ _ _ e a.2 in
    let front = event_takes (place_in bytes 0) a.0 fits a.1 in
    let left = a.0.1.left in
    let ended : length left ≡ 0 = eqb-true (length left) 0 (not_false (length left == 0) b.0) in
    let text = spelling a.0.0 in
    let whole : bytes ≡ text =
    front.took.parts ∙ ap (λ rest. text ++ rest) (nil_from_length left ended) ∙ append-nil text in
    subst (λ (y : Event). HasSpelling y × (bytes ≡ spelling y)) (ok_is a.0.0 e b.1)
    (front.has_spelling, whole)
