-- A node leaves: a move for each transaction that ends, and one by which it has left.
use Rattle.std.proofs.Common.{◌≡◌, ℕ, Bool, true, List, [], ◌∷◌, ◌++◌, Option, None, Some, inl, inr, refl, ap, sym, subst, ◌∙◌}
use Rattle.std.specs.Prelude.{T, fold}
use Rattle.std.specs.Ordering.{nat_cmp}
use Rattle.std.specs.FinMap.Entries.{is_sorted}
use Rattle.finite_map.specs.FiniteMap.{get}
use Rattle.finite_map.proofs.Edits.{numbers, untied, left, get-taken_beside}
use Rattle.key_sets.proofs.ListLemmas.{In}
use Rattle.row_model.specs.declared.calls.Reply.{Reply}
use Rattle.order_event.specs.declared.event.Event.{Event}
use Rattle.order_event.specs.declared.event.Message.{Message}
use Rattle.client_trx.specs.Live.{Live}
use Rattle.node_meaning.specs.declared.progress.Phase.TheVariants as phase
use Rattle.node_meaning.specs.Node.{ModelNode}
use Rattle.node_meaning.specs.Leaving.{waits_in, told_at_leave, ended_where, leave_one, sessions_left, left_node}
use Rattle.node_meaning.specs.Facts.{Facts}
use Rattle.node_meaning.proofs.EntryLaws.{in_from_get, get_from_in, later_sorted, later_key}
use Rattle.node_meaning.proofs.GrowFacts.{facts_grow}
use Rattle.node_laws.proofs.Moves.{MayLeave, Joint, Ends, Leaves, Reaches, Here, one, joined}
use Rattle.node_laws.proofs.Counts.{Grows, move_grows, reach_grows, both_grow}
use Rattle.node_laws.proofs.Waiting.{AreIdle, idle_reached}
use Rattle.node_laws.proofs.FactsMoved.{facts_moved, facts_reached}

-- ---- one transaction
-- nothing but live transactions and waiting answers changes
abbrev pub EndsOnly : ModelNode → ModelNode → Type 0
EndsOnly n m = m ≡ record n { live = m.live; waiting = m.waiting }

where_only : (n : ModelNode) (s : ℕ) (o : Option Reply) → EndsOnly n (ended_where n s o)
where_only n s None = refl
where_only n s (Some r) = refl

where_fewer : (n : ModelNode) (s : ℕ) (o : Option Reply) (q : ℕ) (u : Live)
    → get (ended_where n s o).live q ≡ Some u → get n.live q ≡ Some u
where_fewer n s None q u is = is
where_fewer n s (Some r) q u is = (left numbers n.live s q u is).there

where_stays : (n : ModelNode) (s : ℕ) (o : Option Reply) (u : Live)
    → get (ended_where n s o).live s ≡ Some u → o ≡ None
where_stays n s None u is = refl
where_stays n s (Some r) u is =
    absurd (untied numbers s s (left numbers n.live s s u is).elsewhere refl)

where_beside : (n : ModelNode) (e : ℕ × Live) (es : List (ℕ × Live)) (o : Option Reply)
    → T (is_sorted nat_cmp (e ∷ es)) → (q : ℕ) (u : Live) → In (q, u) es → get n.live q ≡ Some u
    → get (ended_where n e.0 o).live q ≡ Some u
where_beside n e es None rising q u i is = is
where_beside n e es (Some r) rising q u i is =
    get-taken_beside numbers n.live e.0 q (later_key e es rising q u i) ∙ is

-- ---- all of them
module _ (queue : List Message) where
  abbrev told_now : Live → Option Reply
  told_now t = told_at_leave (waits_in queue t) t.status

  pub all_only : (es : List (ℕ × Live)) (n : ModelNode) → EndsOnly n (fold (leave_one queue) n es)
  all_only [] n = refl
  all_only (e ∷ es) n =
      let last = fold (leave_one queue) (leave_one queue n e) es in
      all_only es (leave_one queue n e)
      ∙ ap (λ (m : ModelNode). record m { live = last.live; waiting = last.waiting })
      (where_only n e.0 (told_now e.1))

  -- a transaction that is still live was, and its commit is taken
  pub record Remains (n : ModelNode) (es : List (ℕ × Live)) (m : ModelNode) : Type 0 where
    pub was : (q : ℕ) (u : Live) → get m.live q ≡ Some u → get n.live q ≡ Some u
    pub taken : (q : ℕ) (u : Live) → get m.live q ≡ Some u → In (q, u) es → told_now u ≡ None

  pub all_remain : (es : List (ℕ × Live)) (n : ModelNode)
      → Remains n es (fold (leave_one queue) n es)
  all_remain [] n = record { was = λ q u is. is; taken = λ q u is i. absurd i }
  all_remain (e ∷ es) n =
      let rest = all_remain es (leave_one queue n e) in record {
        was = λ q u is. where_fewer n e.0 (told_now e.1) q u (rest.was q u is);
        taken = λ q u is i. by q u i (rest.was q u is) (rest.taken q u is);
      }
    where
      by : (q : ℕ) (u : Live) → In (q, u) (e ∷ es) → get (leave_one queue n e).live q ≡ Some u
          → (In (q, u) es → told_now u ≡ None) → told_now u ≡ None
      by q u (inr i) is later = later i
      by q u (inl same) is later =
          ap (λ (x : ℕ × Live). told_now x.1) same
          ∙ where_stays n e.0 (told_now e.1) u
          (ap (λ (x : ℕ × Live). get (leave_one queue n e).live x.0) (sym same) ∙ is)

  module _ (order : List Event) (given : Type 0) (works : Bool) where
    one_moves : (n : ModelNode) (s : ℕ) (t : Live) (o : Option Reply) → get n.live s ≡ Some t
        → Reaches order given works n 0 (ended_where n s o)
    one_moves n s t None there = Here
    one_moves n s t (Some r) there = one 0 n _ (Ends s t (Some r) there)

    pub all_moves : (es : List (ℕ × Live)) (n : ModelNode) → T (is_sorted nat_cmp es)
        → ((q : ℕ) (u : Live) → In (q, u) es → get n.live q ≡ Some u)
        → Reaches order given works n 0 (fold (leave_one queue) n es)
    all_moves [] n rising there = Here
    all_moves (e ∷ es) n rising there =
        joined n (leave_one queue n e) 0 _
        (one_moves n e.0 e.1 (told_now e.1) (there e.0 e.1 (inl refl)))
        (all_moves es (leave_one queue n e) (later_sorted e es rising) (λ q u i.
        where_beside n e es (told_now e.1) rising q u i (there q u (inr i))))

-- ---- the node
module _ (n : ModelNode) where
  pub left_only : EndsOnly n (sessions_left n)
  unfolding sessions_left
  left_only = all_only (n.ordered ++ n.outbox) n.live.entries n

  left_remain : Remains (n.ordered ++ n.outbox) n n.live.entries (sessions_left n)
  unfolding sessions_left
  left_remain = all_remain (n.ordered ++ n.outbox) n.live.entries n

  pub left_moves : (order : List Event) (given : Type 0) (works : Bool)
      → Reaches order given works n 0 (sessions_left n)
  unfolding sessions_left
  left_moves order given works =
      all_moves (n.ordered ++ n.outbox) order given works n.live.entries n n.live.sorted
      (λ q u i. get_from_in n.live q u i)

  pub may_leave : MayLeave (sessions_left n)
  may_leave = record {
    stay = λ s t is.
        subst (λ (m : ModelNode). told_at_leave (waits_in (m.ordered ++ m.outbox) t) t.status
        ≡ None) (sym left_only)
        (left_remain.taken s t is (in_from_get n.live s t (left_remain.was s t is)));
  }

  -- nothing else of the node changes
  pub left_is : left_node n ≡ record n {
    at = record n.at { phase = phase.Left };
    ordered = [];
    outbox = [];
    live = (left_node n).live;
    waiting = (left_node n).waiting;
  }
  unfolding left_node
  left_is = ap (λ (m : ModelNode). record m {
    at = record m.at { phase = phase.Left };
    ordered = [];
    outbox = [];
  }) left_only

  -- it gives out nothing, and no session has a transaction while an answer waits for it
  pub left_at : (left_node n).at ≡ record n.at { phase = phase.Left }
  unfolding left_node
  left_at = ap (λ (m : ModelNode). record m.at { phase = phase.Left }) left_only

  abbrev ended : Reaches [] (Unit {0}) true n 0 (sessions_left n)
  ended = left_moves [] (Unit {0}) true

  pub left_grows : Grows 0 n (left_node n)
  unfolding left_node
  left_grows =
      both_grow 0 0 n (sessions_left n) _ (reach_grows [] (Unit {0}) true n 0 _ ended)
      (move_grows [] (Unit {0}) (sessions_left n) Joint _ (Leaves may_leave))

  pub left_idle : AreIdle n.waiting n.live → AreIdle (left_node n).waiting (left_node n).live
  unfolding left_node
  left_idle = idle_reached [] (Unit {0}) true n 0 (sessions_left n) ended

  -- the facts stay over the same order, and over one that grows
  pub facts_left : (order : List Event) → Facts order n → Facts order (left_node n)
  unfolding left_node
  facts_left order f =
      facts_moved order (Unit {0}) tt (sessions_left n) Joint _ (Leaves may_leave)
      (facts_reached order (Unit {0}) true tt n 0 (sessions_left n)
      (left_moves order (Unit {0}) true) f)

  pub facts_left_over : (order more : List Event) → Facts order n
      → Facts (order ++ more) (left_node n)
  facts_left_over order more f = facts_left (order ++ more) (facts_grow order more n f)
