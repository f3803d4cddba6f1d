-- What a node that leaves tells its sessions: of each of them whether its transaction stays live,
-- and the answer that waits for it.
use Rattle.std.proofs.Common.{◌≡◌, ℕ, Bool, true, false, cond, List, [], ◌∷◌, ◌++◌, Option, None, Some, refl, ap, sym, ◌∙◌}
use Rattle.std.specs.Prelude.{T, fold}
use Rattle.std.specs.Ordering.{nat_cmp, eq_by_cmp}
use Rattle.std.specs.FinMap.Entries.{is_sorted}
use Rattle.std.specs.FinMap.Entries as entries
use Rattle.finite_map.specs.FiniteMap.{get, get-entries}
use Rattle.finite_map.proofs.Edits.{numbers, tied, get-put, get-put_beside, get-taken, get-taken_beside}
use Rattle.row_model.specs.declared.calls.Reply.{Reply}
use Rattle.order_event.specs.declared.event.Message.{Message}
use Rattle.client_trx.specs.Live.{Live}
use Rattle.node_meaning.specs.Node.{ModelNode}
use Rattle.node_meaning.specs.Leaving.{waits_in, told_at_leave, ended_where, leave_one, sessions_left, left_node}
use Rattle.node_meaning.proofs.EntryLaws.{later_sorted, none_later}

-- ---- one session, by what it is told
-- its transaction, where it had one
abbrev pub stays_by : Option Reply → Option Live → Option Live
stays_by None live = live
stays_by (Some r) live = None

-- and its answer
abbrev pub waits_by : Option Reply → Option Reply → Option Reply
waits_by None waiting = waiting
waits_by (Some r) waiting = Some r

module _ (n : ModelNode) (s : ℕ) where
  live_here : (o : Option Reply) → get (ended_where n s o).live s ≡ stays_by o (get n.live s)
  live_here None = refl
  live_here (Some r) = get-taken numbers n.live s

  waits_here : (o : Option Reply) → get (ended_where n s o).waiting s ≡ waits_by o (get n.waiting s)
  waits_here None = refl
  waits_here (Some r) = get-put numbers n.waiting s r

  module _ (q : ℕ) (differs : eq_by_cmp nat_cmp q s ≡ false) where
    live_beside : (o : Option Reply) → get (ended_where n s o).live q ≡ get n.live q
    live_beside None = refl
    live_beside (Some r) = get-taken_beside numbers n.live s q differs

    waits_beside : (o : Option Reply) → get (ended_where n s o).waiting q ≡ get n.waiting q
    waits_beside None = refl
    waits_beside (Some r) = get-put_beside numbers n.waiting s r q differs

-- ---- all sessions
module _ (queue : List Message) (q : ℕ) where
  -- what a session is told of its transaction, where it has one
  abbrev pub told_of : Option Live → Option Reply
  told_of None = None
  told_of (Some t) = told_at_leave (waits_in queue t) t.status

  abbrev has : List (ℕ × Live) → Option Live
  has es = entries.find nat_cmp q es

  record TellsBy (n : ModelNode) (told : Option Reply) (m : ModelNode) : Type 0 where
    live : get m.live q ≡ stays_by told (get n.live q)
    waiting : get m.waiting q ≡ waits_by told (get n.waiting q)

  first_tells : (e : ℕ × Live) (es : List (ℕ × Live)) (n m : ModelNode) (b : Bool)
      → eq_by_cmp nat_cmp q e.0 ≡ b → (b ≡ true → has es ≡ None)
      → TellsBy (leave_one queue n e) (told_of (has es)) m
      → TellsBy n (told_of (cond b (Some e.1) (has es))) m
  first_tells e es n m true same none rest =
      let o = told_at_leave (waits_in queue e.1) e.1.status in
      let key = tied numbers q e.0 same in
      record {
        live = rest.live
            ∙ ap (λ x. stays_by (told_of x) (get (ended_where n e.0 o).live q)) (none refl)
            ∙ ap (get (ended_where n e.0 o).live) key ∙ live_here n e.0 o
            ∙ ap (λ k. stays_by o (get n.live k)) (sym key);
        waiting = rest.waiting
            ∙ ap (λ x. waits_by (told_of x) (get (ended_where n e.0 o).waiting q)) (none refl)
            ∙ ap (get (ended_where n e.0 o).waiting) key ∙ waits_here n e.0 o
            ∙ ap (λ k. waits_by o (get n.waiting k)) (sym key);
      }
  first_tells e es n m false differs none rest =
      let o = told_at_leave (waits_in queue e.1) e.1.status in
      record {
        live = rest.live
            ∙ ap (stays_by (told_of (has es))) (live_beside n e.0 q differs o);
        waiting = rest.waiting
            ∙ ap (waits_by (told_of (has es))) (waits_beside n e.0 q differs o);
      }

  all_tell : (es : List (ℕ × Live)) (n : ModelNode) → T (is_sorted nat_cmp es)
      → TellsBy n (told_of (has es)) (fold (leave_one queue) n es)
  all_tell [] n rising = record { live = refl; waiting = refl }
  all_tell (e ∷ es) n rising =
      first_tells e es n _ (eq_by_cmp nat_cmp q e.0) refl
      (λ same. ap (λ k. entries.find nat_cmp k es) (tied numbers q e.0 same)
      ∙ none_later e es rising)
      (all_tell es (leave_one queue n e) (later_sorted e es rising))

module _ (n : ModelNode) (s : ℕ) where
  abbrev queue : List Message
  queue = n.ordered ++ n.outbox

  told_all : TellsBy queue s n (told_of queue s (has queue s n.live.entries)) (sessions_left n)
  unfolding sessions_left
  told_all = all_tell queue s n.live.entries n n.live.sorted

  -- the session's transaction stays live where it is told nothing
  pub left_live : get (left_node n).live s
      ≡ stays_by (told_of queue s (get n.live s)) (get n.live s)
  unfolding left_node
  left_live = told_all.live
      ∙ ap (λ o. stays_by (told_of queue s o) (get n.live s)) (sym (get-entries n.live s))

  -- and what it is told waits for it; else what waited does
  pub left_waiting : get (left_node n).waiting s
      ≡ waits_by (told_of queue s (get n.live s)) (get n.waiting s)
  unfolding left_node
  left_waiting = told_all.waiting
      ∙ ap (λ o. waits_by (told_of queue s o) (get n.waiting s)) (sym (get-entries n.live s))
