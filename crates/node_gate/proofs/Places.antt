-- Where the value is.
use Rattle.std.proofs.Common.{◌≡◌, ℕ, ◌⊎◌, true, false, All, List, [], ◌∷◌, ◌++◌, map, set, sym, ap, ◌∙◌, subst, inl, inr, ⊎_elim, Option}
use Rattle.std.proofs.lemmas.Bool.{false≢true}
use Rattle.std.proofs.lemmas.List.Elements.{All-set, All-push}
use mathlib.Core.Option.{none, some}
use mathlib.Core.Option as maybe
use mathlib.Core.Logic.{dite}
use native.Mathlib.Decide.{ℕ_discrete}
use lib.ListN.{get_elem?}
use Rattle.atomic_table.proofs.Lists.{at_set, set_here, set_else, at_longer, at_map}
use Rattle.node_gate.specs.declared.view.Lock.TheVariants.{Serving}
use Rattle.node_gate.specs.declared.view.Turn.{Turn}
use Rattle.node_gate.specs.declared.view.View.{View}
use Rattle.node_gate.specs.Tickets.{Tickets}
use Rattle.node_gate.specs.Views.{lock_of}
use Rattle.node_gate.specs.Law.{HoldsInTurn, AtHome, IsOut}
use Rattle.node_gate.proofs.Counts.{inside, same_read}
use Rattle.node_gate.proofs.Histories.{all_at, all_from, is_false}
use Rattle.node_gate.proofs.Locks.{alone}

module _ {C E M : Type 0} (entries : C → List E) (count : List E → ℕ) (mark : C → M) (its : M)
    (shown : ℕ) (log : List (Turn E)) (homes : List (maybe.Option (Option C))) where
  abbrev Place : List (View E M) → Type 0
  Place views = AtHome entries count mark its shown log homes views ⊎ IsOut {C = C} shown log homes views

  -- one view changes, and it holds the value as before
  pub kept : (views : List (View E M)) (i : ℕ) (v w : View E M) → Place views
      → get_elem? views i ≡ some v → w.holds ≡ v.holds
      → (v.holds ≡ true → (w.seen ≡ v.seen) × (w.published ≡ v.published))
      → Place (set views i w)
  kept views i v w place at same seen = ⊎_elim
      (λ h. inl record {
        value = h.value;
        at_home = h.at_home;
        has = h.has;
        shows = h.shows;
        marked = h.marked;
        free = All-set (λ x. x.holds ≡ false) views i w
            (same ∙ all_at (λ x. x.holds ≡ false) views i v h.free at) h.free;
      })
      (λ o. inr (dite (ℕ_discrete o.seat i)
      (λ e. let is : o.holder ≡ v = same_read views i o.holder v
      (subst (λ k. get_elem? views k ≡ some o.holder) e o.there) at in
      let holds : v.holds ≡ true = ap (λ x. x.holds) (sym is) ∙ o.holds in record {
        seat = i;
        holder = w;
        out = o.out;
        there = set_here views i w (inside views i v at).0;
        holds = same ∙ holds;
        knows = (seen holds).0 ∙ ap (λ x. x.seen) (sym is) ∙ o.knows;
        shows = o.shows ∙ ap (λ x. x.published) is ∙ sym (seen holds).1;
      })
      (λ other. record {
        seat = o.seat;
        holder = o.holder;
        out = o.out;
        there = set_else views i o.seat w other ∙ o.there;
        holds = o.holds;
        knows = o.knows;
        shows = o.shows;
      }))) place

  -- one more view, which does not hold the value
  pub pushed : (views : List (View E M)) (w : View E M) → Place views → w.holds ≡ false
      → Place (views ++ w ∷ [])
  pushed views w place free = ⊎_elim
      (λ h. inl record {
        value = h.value;
        at_home = h.at_home;
        has = h.has;
        shows = h.shows;
        marked = h.marked;
        free = All-push (λ x. x.holds ≡ false) views w h.free free;
      })
      (λ o. inr record {
        seat = o.seat;
        holder = o.holder;
        out = o.out;
        there = at_longer views (w ∷ []) o.seat o.holder o.there;
        holds = o.holds;
        knows = o.knows;
        shows = o.shows;
      }) place

  -- who holds the value is the one seat that has read its turn
  holder_is : (views : List (View E M)) (ticket serving i k : ℕ) (v : View E M)
      → Tickets (map lock_of views) ticket serving → All HoldsInTurn views
      → get_elem? views i ≡ some v → v.lock ≡ Serving k → (o : IsOut {C = C} shown log homes views)
      → o.holder ≡ v
  holder_is views ticket serving i k v tickets holding at turn o =
      let h = all_at HoldsInTurn views o.seat o.holder holding o.there o.holds in
      let e : o.seat ≡ i = alone (map lock_of views) ticket serving o.seat i h.0 k tickets
      (at_map lock_of views o.seat o.holder o.there ∙ ap some h.1)
      (at_map lock_of views i v at ∙ ap some turn) in
      same_read views i o.holder v (subst (λ j. get_elem? views j ≡ some o.holder) e o.there) at

  -- whose turn it is and who does not hold the value finds it at home
  pub is_home : (views : List (View E M)) (ticket serving i k : ℕ) (v : View E M)
      → Tickets (map lock_of views) ticket serving → All HoldsInTurn views
      → get_elem? views i ≡ some v → v.lock ≡ Serving k → v.holds ≡ false → Place views
      → AtHome entries count mark its shown log homes views
  is_home views ticket serving i k v tickets holding at turn free place = ⊎_elim (λ h. h)
      (λ o. absurd (false≢true (sym free ∙ ap (λ x. x.holds)
      (sym (holder_is views ticket serving i k v tickets holding at turn o)) ∙ o.holds))) place

  -- whose turn it is and who holds the value has seen the whole history
  pub is_out : (views : List (View E M)) (ticket serving i k : ℕ) (v : View E M)
      → Tickets (map lock_of views) ticket serving → All HoldsInTurn views
      → get_elem? views i ≡ some v → v.lock ≡ Serving k → v.holds ≡ true → Place views
      → (homes ≡ none ∷ []) × (v.seen ≡ log) × (shown ≡ v.published)
  is_out views ticket serving i k v tickets holding at turn holds place = ⊎_elim
      (λ h. absurd (false≢true (sym (all_at (λ x. x.holds ≡ false) views i v h.free at) ∙ holds)))
      (λ o. let is = holder_is views ticket serving i k v tickets holding at turn o in
      (o.out, ap (λ x. x.seen) (sym is) ∙ o.knows, o.shows ∙ ap (λ x. x.published) is)) place

  -- once the one seat that has read its turn does not hold the value, no seat holds it
  pub frees : (views : List (View E M)) (ticket serving i k : ℕ) (v w : View E M)
      → Tickets (map lock_of views) ticket serving → All HoldsInTurn views
      → get_elem? views i ≡ some v → v.lock ≡ Serving k → w.holds ≡ false
      → All (λ x. x.holds ≡ false) (set views i w)
  frees views ticket serving i k v w tickets holding at turn free =
      all_from (λ x. x.holds ≡ false) (set views i w) (λ j x e. ⊎_elim
      (λ p. ap (λ y. y.holds) (sym p.1) ∙ free)
      (λ p. is_false x.holds (λ holds.
      let h = all_at HoldsInTurn views j x holding p.1 holds in
      p.0 (alone (map lock_of views) ticket serving j i h.0 k tickets
      (at_map lock_of views j x p.1 ∙ ap some h.1) (at_map lock_of views i v at ∙ ap some turn))))
      (at_set views i j w x e))
