-- What a change of one seat leaves as it was.
use Rattle.std.proofs.Common.{◌≡◌, ℕ, ◌+◌, ◌≤◌, true, All, List, [], ◌∷◌, ◌++◌, map, set, sym, ap, ◌∙◌, subst}
use Rattle.std.proofs.lemmas.List.Elements.{All-set}
use mathlib.Core.Option.{some}
use lib.ListN.{get_elem?}
use lib.Seq.{map-set}
use Rattle.atomic_table.proofs.Lists.{at_map}
use Rattle.node_gate.specs.declared.view.Lock.{Lock}
use Rattle.node_gate.specs.declared.view.Lock.TheVariants.{Idle, Waiting, Serving}
use Rattle.node_gate.specs.declared.view.View.{View}
use Rattle.node_gate.specs.Tickets.{Tickets}
use Rattle.node_gate.specs.Seats.{Seats}
use Rattle.node_gate.specs.Views.{is_alive, numbers, another, met_as, joined, lock_of, rank_of}
use Rattle.node_gate.specs.Law.{Knows}
use Rattle.node_gate.specs.Plays.{published, took}
use Rattle.node_gate.proofs.Counts.{map_kept, map_pushed}
use Rattle.node_gate.proofs.Histories.{all_at}
use Rattle.node_gate.proofs.Stories.{splits}

pub idle_unserved : (k : ℕ) → Idle ≡ Serving k → ⊥
idle_unserved k e = cc

pub waiting_unserved : (t k : ℕ) → Waiting t ≡ Serving k → ⊥
waiting_unserved t k e = cc

module _ {E M : Type 0} where
  abbrev pub relocked : View E M → Lock → View E M
  relocked v l = record v { lock = l }

  -- the locks of the views once one of them changed
  pub locks_set : (vs : List (View E M)) (id : ℕ) (w : View E M)
      → map lock_of (set vs id w) ≡ set (map lock_of vs) id w.lock
  locks_set vs id w = map-set lock_of vs id w

  pub lock_at : (vs : List (View E M)) (id : ℕ) (v : View E M) (l : Lock)
      → get_elem? vs id ≡ some v → v.lock ≡ l → get_elem? (map lock_of vs) id ≡ some l
  lock_at vs id v l at is = at_map lock_of vs id v at ∙ ap some is

  -- a change that leaves the lock
  pub locks_stay : (vs : List (View E M)) (id ticket serving : ℕ) (v w : View E M)
      → get_elem? vs id ≡ some v → w.lock ≡ v.lock → Tickets (map lock_of vs) ticket serving
      → Tickets (map lock_of (set vs id w)) ticket serving
  locks_stay vs id ticket serving v w at same tickets =
      subst (λ ls. Tickets ls ticket serving) (sym (map_kept lock_of vs id v w at same)) tickets

  -- a change that leaves who the seat is
  pub ranks_stay : (vs : List (View E M)) (id : ℕ) (v w : View E M) → get_elem? vs id ≡ some v
      → rank_of w ≡ rank_of v → Seats (map rank_of vs) → Seats (map rank_of (set vs id w))
  ranks_stay vs id v w at same seats =
      subst Seats (sym (map_kept rank_of vs id v w at same)) seats

  -- a change of the lock alone leaves who the seat is
  pub same_rank : (v : View E M) (old new : Lock) → v.lock ≡ old → is_alive new ≡ is_alive old
      → rank_of (relocked v new) ≡ rank_of v
  same_rank v old new is same =
      ap (λ b. record { alive = b; number = v.number; splits = v.splits; met = numbers v.met })
      (same ∙ ap is_alive (sym is))

  -- who a seat is once it took another in
  pub met_rank : (v w : View E M) → rank_of (joined v w)
      ≡ record (rank_of v) { met = (rank_of v).met ++ (rank_of w).number ∷ [] }
  met_rank v w = ap (λ ns. record (rank_of v) { met = ns })
      (map_pushed (λ m. m.number) v.met (met_as w))

  -- who has seen no more than is published still has not
  pub tops_kept : (shown : ℕ) (vs : List (View E M)) (id : ℕ) (v w : View E M)
      → get_elem? vs id ≡ some v → w.published ≡ v.published
      → All (λ x. x.published ≤ shown) vs → All (λ x. x.published ≤ shown) (set vs id w)
  tops_kept shown vs id v w at same tops = All-set (λ x. x.published ≤ shown) vs id w
      (subst (λ n. n ≤ shown) (sym same) (all_at (λ x. x.published ≤ shown) vs id v tops at)) tops

  -- who knows the mark still does
  pub marks_kept : (its : M) (vs : List (View E M)) (id : ℕ) (v w : View E M)
      → get_elem? vs id ≡ some v → is_alive v.lock ≡ true → w.mark ≡ v.mark
      → All (Knows its) vs → All (Knows its) (set vs id w)
  marks_kept its vs id v w at alive same marks = All-set (Knows its) vs id w
      (λ _. same ∙ all_at (Knows its) vs id v marks at alive) marks

  -- a seat in use has its place as its number
  pub number_is : (vs : List (View E M)) (id : ℕ) (v : View E M) → Seats (map rank_of vs)
      → get_elem? vs id ≡ some v → is_alive v.lock ≡ true → v.number ≡ id
  number_is vs id v seats at alive =
      seats.numbered id (rank_of v) (at_map rank_of vs id v at) alive
