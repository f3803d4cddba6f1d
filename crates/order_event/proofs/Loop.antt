-- Reading members one after the other, as a loop does.
use Rattle.std.proofs.Common.{◌≡◌, ℕ, suc, ◌-◌, ◌+◌, ◌≤◌, ◌<◌, List, [], ◌∷◌, ◌++◌, Option, Some, Result, Ok, Err, refl, sym, ap, ◌∙◌, arith}
use Rattle.std.proofs.lemmas.List.{append-nil}
use Rattle.wsrep_base.specs.Place.{Place}
use Rattle.wsrep_base.proofs.Fields.{with_front, regroup}
use Rattle.order_event.specs.declared.fault.EventFault.{EventFault}
use Rattle.order_event.specs.declared.fault.EventFault.TheVariants as fault
use Rattle.order_event.specs.Reading.{Read, Fails, member_at, members_at}

module _ (front : List ℕ) (count i : ℕ) (before : Option ℕ) (p : Place) (total : Read (List ℕ))
    (so_far : with_front front (members_at (count - i) before p) ≡ total) where
  pub goes_on : (m : ℕ) (after : Place) → i < count → member_at before p ≡ Ok (m, after)
      → with_front (front ++ m ∷ []) (members_at (count - (i + 1)) (Some m) after) ≡ total
  unfolding members_at
  goes_on m after below is =
      let more : count - i ≡ suc (count - (i + 1)) = omega arith in
      let one : with_front front (members_at (count - i) before p)
      ≡ with_front (front ++ m ∷ []) (members_at (count - (i + 1)) (Some m) after) =
      rw (more, is) (regroup front m (members_at (count - (i + 1)) (Some m) after)) in
      sym one ∙ so_far

  pub ends : (f : EventFault) → i < count → member_at before p ≡ Err f → total ≡ Err f
  unfolding members_at
  ends f below is =
      let more : count - i ≡ suc (count - (i + 1)) = omega arith in
      let one : with_front front (members_at (count - i) before p) ≡ Err f =
      rw (more, is) refl in
      sym so_far ∙ one

  pub is_done : count ≤ i → total ≡ Ok (front, p)
  unfolding members_at
  is_done all =
      let more : count - i ≡ 0 = omega arith in
      let one : with_front front (members_at (count - i) before p) ≡ Ok (front, p) =
      rw more (ap (λ (ms : List ℕ). Ok (ms, p)) (append-nil front)) in
      sym so_far ∙ one

-- a fault that is met is a fault that is given
pub fails : {X : Type 0} (f : EventFault) (read : Result X EventFault) → read ≡ Err f → Fails f read
fails (fault.Short at) read e = e
fails (fault.Trailing at) read e = e
fails fault.BadTag read e = e
fails (fault.NotCanonical at) read e = e
fails fault.NoMemory read e = tt
