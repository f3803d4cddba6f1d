-- What a step of one node does to the cluster, from what it does to the node's seat.
use Rattle.std.proofs.Common.{◌≡◌, ℕ, zero, suc, ◌+◌, ◌-◌, true, false, cond, List, [], ◌∷◌, ◌++◌, length, None, Some, refl, sym, ap, subst, ◌∙◌, arith, append-nil, length-append, set, get_or, min, ◌≤◌, ◌<◌, Result, Ok, Err}
use Rattle.std.specs.Prelude.{slice_get, map, IfOk, IfErr, IsErrAnd, IsSome}
use Rattle.std.specs.List.{AllByRecursion}
use Rattle.std.proofs.lemmas.Bool.{cond_both}
use Rattle.std.proofs.lemmas.List.{length-map, map-append}
use Rattle.std.proofs.lemmas.Option.{same_Some}
use Rattle.finite_map.specs.FiniteMap.{get}
use Rattle.row_model.specs.declared.calls.Call.{Call}
use Rattle.order_event.specs.declared.event.Event.{Event}
use Rattle.order_event.specs.declared.event.Message.{Message}
use Rattle.order_event.specs.declared.step.Act.{Act}
use Rattle.order_event.specs.declared.step.Act.TheVariants as act
use Rattle.order_event.specs.declared.step.Answer.{Answer}
use Rattle.order_event.specs.declared.step.Step.{Step}
use Rattle.order_event.specs.declared.step.Answer.TheVariants as answer
use Rattle.group_order.specs.Causes as group_cause
use Rattle.group_order.specs.declared.fault.GroupFault.{GroupFault}
use Rattle.group_order.specs.declared.fault.GroupFault.TheVariants as group
use Rattle.group_order.specs.Order.{event_at, event_of, start_order, up_to}
use Rattle.node_meaning.specs.Node.{ModelNode, is_connected, start_node}
use Rattle.node_meaning.specs.Steps.{first_sent, sent_out, take_event, take_step, node_step}
use Rattle.node_meaning.specs.Cluster.{ModelCluster, set_at, order_first, with_node, step_of, step_at, cluster_step, orders_at, orders_of, node_orders, will_order, start_cluster}
use Rattle.node_parts.specs.Queue.{oldest}
use Rattle.node_core.specs.declared.node.NodeParts.{NodeParts}
use Rattle.node_core.specs.Answers.{is_started}
use Rattle.node_core.specs.Memory.{CallWants, TakeWants, CertifyWants, StartWants, ReportWants}
use Rattle.node_core.specs.Stands.{DoneOver, plain_of, quietly}
use Rattle.cluster_core.specs.declared.seat.Seat.{Seat as SeatOf}
use Rattle.cluster_core.specs.Seated.{Seat, IsSeated, SeatDone, SeatTakes, SeatUnchanged, seen, work_of}
use Rattle.cluster_core.specs.declared.fault.StepFault.{StepFault}
use Rattle.cluster_core.specs.declared.fault.StepFault.TheVariants as fault
use Rattle.cluster_core.specs.Faults.{step_fault}
use Rattle.cluster_core.specs.Acts.{IsKept, AreKept, Goes, Acted, Failed, Left, Runs, cluster_of, nodes_of}
use Rattle.node_laws.specs.Drains.{StoppedAt, after_acts, drain_acts_of}
use Rattle.cluster_core.specs.Steps.{Wants, MayFail, MayFailIn, MayFailAt, FailedBy}
use Rattle.cluster_core.specs.Orders.{EventFits, OrderIsKept}
use Rattle.cluster_core.proofs.OrderLaws.{all_append, sent_kept, start_kept}
use Rattle.cluster_core.proofs.SeatLaws.{seated_grow}

-- ---- lists
pub set_at_same : {A : Type 0} (xs : List A) (i : ℕ) (x : A) → slice_get xs i ≡ Some x → set_at xs i x ≡ xs
set_at_same [] i x there = refl
set_at_same (y ∷ ys) zero x there = ap (λ z. z ∷ ys) (sym (same_Some y x there))
set_at_same (y ∷ ys) (suc i) x there = ap (λ zs. y ∷ zs) (set_at_same ys i x there)

pub there_after : {A : Type 0} (xs : List A) (i : ℕ) (x y : A) → slice_get xs i ≡ Some x → slice_get (set_at xs i y) i ≡ Some y
there_after [] i x y there = absurd cc
there_after (z ∷ zs) zero x y there = refl
there_after (z ∷ zs) (suc i) x y there = there_after zs i x y there

-- ---- faults
-- a transfer alone needs another node
pub may_in : (c : ModelCluster) (n : ModelNode) (a : Act) (e : StepFault) → MayFail c.order n a e → MayFailIn c n a e
may_in c n (act.Transfer donor) fault.Group may = absurd may
may_in c n (act.Transfer donor) fault.NoMemory may = absurd may
may_in c n other e may = may

-- ---- where the order stays
pub goes_same : (before now : List Event) (new : Seat) → now ≡ before → IsKept before new → Goes before now new
goes_same before now new is kept = record {
  more = [];
  grown = is ∙ sym (append-nil before);
  kept = subst (λ order. IsKept order new) (sym is) kept;
}

module _ (a : Act) (order : List Event) (old : Seat) (kept : IsKept order old) where
  pub acted_alone : (new : Seat) (answer : Answer) → SeatDone order (λ n. node_step order n a) old new answer
      → ((c : ModelCluster) (i : ℕ) (n : ModelNode) → step_of c i n a ≡ with_node c i (node_step c.order n a))
      → Acted a order order old new answer
  acted_alone new answer d by_itself = record {
    same = λ nodes i there.
        ap (λ (r : Answer × ModelNode). (r.0, cluster_of order (set_at nodes i r.1))) d.same
        ∙ sym (by_itself (cluster_of order nodes) i (plain_of old.node));
    goes = goes_same order order new refl (record { order_kept = kept.order_kept; seated = d.seated });
  }

  pub failed_alone : (new : Seat) → SeatUnchanged old new → Wants order (plain_of old.node) a
      → ((a ≡ a) × (order ≡ order) × (plain_of new.node ≡ plain_of old.node) → Left a order order (plain_of old.node) (plain_of new.node) a)
      → Failed a order order old new fault.NoMemory
  failed_alone new u wants left = record {
    next = a;
    left = left (refl, refl, u.plain);
    may = subst (λ n. Wants order n a) (sym u.plain) wants;
    goes = goes_same order order new refl (record { order_kept = kept.order_kept; seated = u.seated order kept.seated });
  }

  failed_by : (new : Seat) → SeatUnchanged old new → Wants order (plain_of old.node) a
      → ((a ≡ a) × (order ≡ order) × (plain_of new.node ≡ plain_of old.node) → Left a order order (plain_of old.node) (plain_of new.node) a)
      → (b : Act) → b ≡ a → (e : StepFault) → e ≡ fault.NoMemory → Failed b order order old new e
  failed_by new u wants left b same e none =
      subst (λ x. Failed x order order old new e) (sym same)
      (subst (Failed a order order old new) (sym none) (failed_alone new u wants left))

module _ (order : List Event) (old : Seat) (kept : IsKept order old) (new : Seat) (u : SeatUnchanged old new) (b : Act) (e : StepFault) (none : e ≡ fault.NoMemory) where
  pub client_failed : (session : ℕ) (call : Call) → b ≡ act.Client session call → CallWants (plain_of old.node) session call → Failed b order order old new e
  client_failed session call same wants = failed_by (act.Client session call) order old kept new u wants (λ h. h) b same e none

  pub certify_failed : b ≡ act.Certify → CertifyWants (plain_of old.node) → Failed b order order old new e
  certify_failed same wants = failed_by act.Certify order old kept new u wants (λ h. h) b same e none

  pub start_failed : (number : ℕ) → b ≡ act.Start number → ((o : List Event) → IsSeated o old → StartWants o (plain_of old.node) number)
      → Failed b order order old new e
  start_failed number same wants = failed_by (act.Start number) order old kept new u (wants order kept.seated) (λ h. h) b same e none

  pub report_failed : b ≡ act.Report → ReportWants (plain_of old.node) → Failed b order order old new e
  report_failed same wants = failed_by act.Report order old kept new u wants (λ h. h) b same e none

-- ---- ordering
none_first : (order : List Event) (nodes : List ModelNode) (i : ℕ) (n : ModelNode) (queue : List Message) → oldest queue ≡ None
    → slice_get nodes i ≡ Some n → (answer.Nothing, cluster_of order (set_at nodes i n)) ≡ order_first (cluster_of order nodes) i n queue
none_first order nodes i n [] none there = ap (λ ns. (answer.Nothing, cluster_of order ns)) (set_at_same nodes i n there)
none_first order nodes i n (m ∷ ms) none there = absurd cc

pub order_none : (order : List Event) (seat : Seat) → oldest seat.node.queue.outbox ≡ None → IsKept order seat
    → Acted act.Order order order seat seat answer.Nothing
order_none order seat none kept = record {
  same = λ nodes i there. none_first order nodes i (plain_of seat.node) seat.node.queue.outbox none there;
  goes = goes_same order order seat refl kept;
}

sent_units : (n : ModelNode) (queue : List Message) → (first_sent n queue).units ≡ n.units
sent_units n queue = grind arith

some_first : (before now : List Event) (nodes : List ModelNode) (i number : ℕ) (n after : ModelNode) (m : Message) (queue : List Message)
    → oldest queue ≡ Some m → now ≡ before ++ event_of n.at.member m ∷ [] → number ≡ length now → after ≡ sent_out n
    → (answer.Ordered number, cluster_of now (set_at nodes i after)) ≡ order_first (cluster_of before nodes) i n queue
some_first before now nodes i number n after m [] first is counts sent = absurd cc
some_first before now nodes i number n after m (x ∷ xs) first is counts sent =
    let order : now ≡ before ++ event_of n.at.member x ∷ [] = is ∙ ap (λ k. before ++ event_of n.at.member k ∷ []) (sym (same_Some x m first)) in
    let long : number ≡ length before + 1 = counts ∙ ap length order ∙ length-append before (event_of n.at.member x ∷ []) in
    ap (λ k. (answer.Ordered k, cluster_of now (set_at nodes i after))) long
    ∙ ap (λ o. (answer.Ordered (length before + 1), cluster_of o (set_at nodes i after))) order
    ∙ ap (λ k. (answer.Ordered (length before + 1), cluster_of (before ++ event_of n.at.member x ∷ []) (set_at nodes i k))) sent

-- a step that is told nothing, and leaves the units
pub seated_still : (order : List Event) (f : ModelNode → ModelNode) (old : Seat) (node : NodeParts)
    → DoneOver order (quietly f order) old.node node tt
    → (f (plain_of old.node)).units ≡ old.node.units.units → IsSeated order old
    → (plain_of node ≡ f (plain_of old.node)) × IsSeated order (record old { node = node })
seated_still order f old node d same seated =
    let is = ap (λ (r : Unit {0} × ModelNode). r.1) d.same in (
      is,
      record {
        stands = d.stands;
        work = λ k. seated.work k ∙ ap (λ us. work_of order k (is_started (get us k)))
            (sym (ap (λ (n : ModelNode). n.units) is ∙ same));
      },
    )

-- the order grows by an event
pub goes_on : (before now : List Event) (e : Event) (new : Seat) → now ≡ before ++ e ∷ []
    → OrderIsKept (before ++ e ∷ []) → IsSeated before new → Goes before now new
goes_on before now e new is kept seated = record {
  more = e ∷ [];
  grown = is;
  kept = record {
    order_kept = subst OrderIsKept (sym is) kept;
    seated = subst (λ order. IsSeated order new) (sym is) (seated_grow before (e ∷ []) new seated);
  };
}

pub order_done : (before now : List Event) (old : Seat) (node : NodeParts) (m : Message)
    (number : ℕ) → oldest old.node.queue.outbox ≡ Some m → EventFits (event_of old.node.at.member m)
    → now ≡ before ++ event_of old.node.at.member m ∷ [] → number ≡ length now
    → DoneOver before (quietly sent_out before) old.node node tt → IsKept before old
    → Acted act.Order before now old (record old { node = node }) (answer.Ordered number)
order_done before now old node m number first fits is counts d kept =
    let sent = seated_still before sent_out old node d
    (sent_units (plain_of old.node) old.node.queue.outbox) kept.seated in
    record {
      same = λ nodes i there. some_first before now nodes i number (plain_of old.node)
          (plain_of node) m old.node.queue.outbox first is counts sent.0;
      goes = goes_on before now (event_of old.node.at.member m) (record old { node = node }) is
          (sent_kept before old.node.at.member m fits kept.order_kept) sent.1;
    }

-- ---- taking
pub next_event : (order : List Event) (n : ℕ) → event_at order (n + 1) ≡ slice_get order n
next_event order n = ap (event_at order) (let e : n + 1 ≡ suc n = omega arith in e)

pub take_acted : (before now : List Event) (old new : Seat) (a : Answer) (e : Event) → now ≡ before
    → Some e ≡ event_at before (old.node.at.taken + 1) → SeatTakes e old new a → IsKept before old → Acted act.Take before now old new a
take_acted before now old new a e is there takes kept =
    let d = takes before (sym (there ∙ next_event before old.node.at.taken)) kept.seated in
    record {
      same = λ nodes i at.
          ap (λ o. (a, cluster_of o (set_at nodes i (plain_of new.node)))) is
          ∙ ap (λ (r : Answer × ModelNode). (r.0, cluster_of before (set_at nodes i r.1))) d.same;
      goes = goes_same before now new is (record { order_kept = kept.order_kept; seated = d.seated });
    }

take_idle : (order : List Event) (n : ModelNode) → slice_get order n.at.taken ≡ None → (answer.Nothing, n) ≡ take_step order n
unfolding take_step
take_idle order n none =
    cond_both (is_connected n.at.phase) (take_event n (slice_get order n.at.taken))
    (answer.Nothing, n) (λ r. (answer.Nothing, n) ≡ r) (λ _. ap (take_event n) (sym none))
    (λ _. refl)

take_away : (order : List Event) (n : ModelNode) → is_connected n.at.phase ≡ false → (answer.Nothing, n) ≡ take_step order n
unfolding take_step
take_away order n away = ap (λ b. cond b (take_event n (slice_get order n.at.taken)) (answer.Nothing, n)) (sym away)

takes_nothing : (before now : List Event) (old : Seat) → now ≡ before → (answer.Nothing, plain_of old.node) ≡ take_step before (plain_of old.node)
    → IsKept before old → Acted act.Take before now old old answer.Nothing
takes_nothing before now old is nothing kept = record {
  same = λ nodes i at.
      ap (λ o. (answer.Nothing, cluster_of o (set_at nodes i (plain_of old.node)))) is
      ∙ ap (λ (r : Answer × ModelNode). (r.0, cluster_of before (set_at nodes i r.1))) nothing;
  goes = goes_same before now old is kept;
}

pub take_nothing : (before now : List Event) (old : Seat) → now ≡ before → None ≡ event_at before (old.node.at.taken + 1) → IsKept before old
    → Acted act.Take before now old old answer.Nothing
take_nothing before now old is none kept =
    takes_nothing before now old is (take_idle before (plain_of old.node) (sym (none ∙ next_event before old.node.at.taken))) kept

pub take_not_connected : (order : List Event) (old : Seat) → is_connected old.node.at.phase ≡ false → IsKept order old
    → Acted act.Take order order old old answer.Nothing
take_not_connected order old away kept = takes_nothing order order old refl (take_away order (plain_of old.node) away) kept

-- an event that is there is behind those that were taken
slice_within : {A : Type 0} (xs : List A) (i : ℕ) → IsSome (slice_get xs i) → i < length xs
slice_within [] i some = cc
slice_within (x ∷ xs) zero some = omega arith
slice_within (x ∷ xs) (suc i) some = omega (arith, slice_within xs i some)

pub take_failed : (before now : List Event) (old new : Seat) (e : StepFault) → now ≡ before → SeatUnchanged old new → IsKept before old
    → MayFail before (plain_of old.node) act.Take e → Failed act.Take before now old new e
take_failed before now old new e is u kept may = record {
  next = act.Take;
  left = (refl, is, u.plain);
  may = subst (λ o. MayFail o (plain_of new.node) act.Take e) (sym is) (subst (λ n. MayFail before n act.Take e) (sym u.plain) may);
  goes = goes_same before now new is (record { order_kept = kept.order_kept; seated = u.seated before kept.seated });
}

-- taking an event that is there may want memory
pub take_wants : (order : List Event) (n : ModelNode) → TakeWants n → IsSome (event_at order (n.at.taken + 1)) → Wants order n act.Take
take_wants order n connected there = (connected, slice_within order n.at.taken (subst IsSome (next_event order n.at.taken) there))

-- the group gave no event
pub event_failed : (before now : List Event) (old : Seat) (given : GroupFault) → now ≡ before → IsKept before old → is_connected old.node.at.phase ≡ true
    → group_cause.AtNoMemory (IsSome (event_at before (old.node.at.taken + 1))) given → Failed act.Take before now old old (step_fault given)
event_failed before now old given is kept connected there =
    take_failed before now old old (step_fault given) is (record { plain = refl; seated = λ order s. s }) kept (by_fault given there)
  where
    by_fault : (g : GroupFault) → group_cause.AtNoMemory (IsSome (event_at before (old.node.at.taken + 1))) g
        → MayFail before (plain_of old.node) act.Take (step_fault g)
    by_fault group.Failed h = connected
    by_fault group.NoMemory h = take_wants before (plain_of old.node) connected h

-- ---- the seats at their start
abbrev pub AreSeated : {W : Type 0} → List Event → List (SeatOf W) → Type 0
AreSeated order seats = AllByRecursion (λ s. IsSeated order (seen s)) seats

abbrev pub SeatsTo : {W : Type 0} → ℕ → List ℕ → ℕ → List (SeatOf W) → Type 0
SeatsTo gcache id k seats = (nodes_of seats ≡ map (start_node gcache id) (up_to k)) × ((order : List Event) → AreSeated order seats)

pub no_seat : {W : Type 0} (gcache : ℕ) (id : List ℕ) (seats : List (SeatOf W)) → seats ≡ [] → SeatsTo gcache id 0 seats
no_seat gcache id seats none = subst (SeatsTo gcache id 0) (sym none) (refl, λ order. tt)

pub next_seat : {W : Type 0} (gcache : ℕ) (id : List ℕ) (seats now : List (SeatOf W)) (seat : SeatOf W) (k : ℕ) → now ≡ seats ++ seat ∷ []
    → plain_of seat.node.parts ≡ start_node gcache id (k + 1) → ((order : List Event) → IsSeated order (seen seat)) → SeatsTo gcache id k seats → SeatsTo gcache id (k + 1) now
next_seat {W} gcache id seats now seat k is start seated so_far =
    let e : k + 1 ≡ suc k = omega arith in
    subst (λ j. SeatsTo gcache id j now) (sym e)
    (subst (SeatsTo gcache id (suc k)) (sym is) (
      map-append (λ (s : SeatOf W). plain_of s.node.parts) seats (seat ∷ [])
          ∙ ap (λ ns. ns ++ plain_of seat.node.parts ∷ []) so_far.0
          ∙ ap (λ n. map (start_node gcache id) (up_to k) ++ n ∷ []) (start ∙ ap (start_node gcache id) e)
          ∙ sym (map-append (start_node gcache id) (up_to k) (suc k ∷ [])),
      λ order. all_append (λ s. IsSeated order (seen s)) seats (seat ∷ []) (so_far.1 order) (seated order, tt),
    ))

-- ---- no step at all
pub runs_none : (order : List Event) (n : ModelNode) → Runs [] order order n n
unfolding after_acts
runs_none order n = record { is = λ nodes node there. ap (cluster_of order) (set_at_same nodes (node - 1) n there) }

-- ---- one seat among others
pub set_nodes : {W : Type 0} (seats : List (SeatOf W)) (i : ℕ) (seat : SeatOf W) → nodes_of (set seats i seat) ≡ set_at (nodes_of seats) i (plain_of seat.node.parts)
set_nodes [] i seat = refl
set_nodes (s ∷ ss) zero seat = refl
set_nodes (s ∷ ss) (suc i) seat = ap (λ ns. plain_of s.node.parts ∷ ns) (set_nodes ss i seat)

pub at_nodes : {W : Type 0} (seats : List (SeatOf W)) (i : ℕ) (seat : SeatOf W) → slice_get seats i ≡ Some seat → slice_get (nodes_of seats) i ≡ Some (plain_of seat.node.parts)
at_nodes [] i seat there = absurd cc
at_nodes {W} (s ∷ ss) zero seat there = ap (λ (x : SeatOf W). Some (plain_of x.node.parts)) (same_Some s seat there)
at_nodes (s ∷ ss) (suc i) seat there = at_nodes ss i seat there

all_grow : {W : Type 0} (before now more : List Event) (seats : List (SeatOf W)) → now ≡ before ++ more → AreSeated before seats → AreSeated now seats
all_grow before now more [] is all = tt
all_grow before now more (s ∷ ss) is all =
    (subst (λ order. IsSeated order (seen s)) (sym is) (seated_grow before more (seen s) all.0), all_grow before now more ss is all.1)

all_set : {A : Type 0} (P : A → Type 0) (xs : List A) (i : ℕ) (x : A) → AllByRecursion P xs → P x → AllByRecursion P (set xs i x)
all_set P [] i x all it = tt
all_set P (y ∷ ys) zero x all it = (it, all.1)
all_set P (y ∷ ys) (suc i) x all it = (all.0, all_set P ys i x all.1 it)

pub kept_set : {W : Type 0} (before now : List Event) (seats : List (SeatOf W)) (i : ℕ) (seat : SeatOf W) → Goes before now (seen seat) → AreKept before seats → AreKept now (set seats i seat)
kept_set before now seats i seat goes kept = record {
  order_kept = goes.kept.order_kept;
  seated = all_set (λ s. IsSeated now (seen s)) seats i seat (all_grow before now goes.more seats goes.grown kept.seated) goes.kept.seated;
}

left_same : (node : ℕ) (before now : List Event) (nodes : List ModelNode) (old new : ModelNode) → slice_get nodes (node - 1) ≡ Some old
    → (now ≡ before) × (new ≡ old) → cluster_of now (set_at nodes (node - 1) new) ≡ cluster_of before nodes
left_same node before now nodes old new there left =
    ap (λ o. cluster_of o (set_at nodes (node - 1) new)) left.0
    ∙ ap (λ n. cluster_of before (set_at nodes (node - 1) n)) left.1
    ∙ ap (cluster_of before) (set_at_same nodes (node - 1) old there)

-- what a step that was not done left
stopped_by : (a : Act) (node : ℕ) (before now : List Event) (nodes : List ModelNode) (old new : ModelNode) (next : Act)
    → slice_get nodes (node - 1) ≡ Some old → Left a before now old new next
    → StoppedAt a node (cluster_of before nodes) (cluster_of now (set_at nodes (node - 1) new)) next
stopped_by act.Drain node before now nodes old new next there stops = record {
  done = stops.done;
  rest = stops.rest;
  front = ap (drain_acts_of before) there ∙ stops.front;
  is = stops.ran.is nodes node there;
}
stopped_by a node before now nodes old new next there left = (left.0, left_same node before now nodes old new there (left.1, left.2))

module _ {W : Type 0} (a : Act) (before now : List Event) (seats : List (SeatOf W)) (i : ℕ) (old new : SeatOf W) (there : slice_get seats i ≡ Some old) where
  pub step_done : (x : Answer) → Acted a before now (seen old) (seen new) x
      → (x, cluster_of now (nodes_of (set seats i new))) ≡ step_at (cluster_of before (nodes_of seats)) i (slice_get (nodes_of seats) i) a
  step_done x acted =
      ap (λ ns. (x, cluster_of now ns)) (set_nodes seats i new)
      ∙ acted.same (nodes_of seats) i (at_nodes seats i old there)
      ∙ ap (λ o. step_at (cluster_of before (nodes_of seats)) i o a) (sym (at_nodes seats i old there))

  -- over the nodes of the seats
  module _ (e : StepFault) (failed : Failed a before now (seen old) (seen new) e) where
    stopped : StoppedAt a (i + 1) (cluster_of before (nodes_of seats)) (cluster_of now (nodes_of (set seats i new))) failed.next
    stopped =
        let same : (i + 1) - 1 ≡ i = omega arith in
        subst (λ ns. StoppedAt a (i + 1) (cluster_of before (nodes_of seats)) (cluster_of now ns) failed.next) (sym (set_nodes seats i new))
        (subst (λ k. StoppedAt a (i + 1) (cluster_of before (nodes_of seats)) (cluster_of now (set_at (nodes_of seats) k (plain_of new.node.parts))) failed.next) same
        (stopped_by a (i + 1) before now (nodes_of seats) (plain_of old.node.parts) (plain_of new.node.parts) failed.next
        (ap (slice_get (nodes_of seats)) same ∙ at_nodes seats i old there) failed.left))

    node_is : slice_get (nodes_of (set seats i new)) ((i + 1) - 1) ≡ Some (plain_of new.node.parts)
    node_is =
        let same : (i + 1) - 1 ≡ i = omega arith in
        ap (slice_get (nodes_of (set seats i new))) same
        ∙ ap (λ ns. slice_get ns i) (set_nodes seats i new)
        ∙ there_after (nodes_of seats) i (plain_of old.node.parts) (plain_of new.node.parts) (at_nodes seats i old there)

    pub step_failed : FailedBy a (i + 1) (cluster_of before (nodes_of seats)) (cluster_of now (nodes_of (set seats i new))) e
    step_failed =
        let c = cluster_of now (nodes_of (set seats i new)) in
        (failed.next, stopped, subst (λ o. MayFailAt c o failed.next e) (sym node_is) (may_in c (plain_of new.node.parts) failed.next e failed.may))

-- ---- answers
pub err_by : {A E : Type 0} (P Q : E → Type 0) (r : Result A E) → IsErrAnd r P → ((e : E) → P e → Q e) → IfErr r Q
err_by P Q (Ok x) h f = tt
err_by P Q (Err e) h f = f e h

pub goes_by : {A : Type 0} (a : Act) (before now : List Event) (old new : Seat) (P : A → Type 0) (r : Result A StepFault)
    → ((x : A) → P x → Goes before now new) → IfOk r P → IfErr r (Failed a before now old new) → Goes before now new
goes_by a before now old new P (Ok x) f ok err = f x ok
goes_by a before now old new P (Err e) f ok err = err.goes

-- the item at a place within a list
pub item_there : {A : Type 0} (xs : List A) (i : ℕ) (x : A) → i < length xs → x ≡ get_or xs i x → slice_get xs i ≡ Some x
item_there [] i x below is = absurd (omega (arith, below))
item_there (y ∷ ys) zero x below is = ap Some (sym is)
item_there (y ∷ ys) (suc i) x below is = item_there ys i x (omega (arith, below)) is

-- a step is the model's step of the node with its number
pub cluster_done : (c d : ModelCluster) (at : ℕ) (step : Step) (r : Answer × ModelCluster) → c ≡ d → at ≡ step.node - 1
    → r ≡ step_at c at (slice_get c.nodes at) step.act → r ≡ cluster_step d step
unfolding cluster_step
cluster_done c d at step r same is e =
    e ∙ ap (λ (k : ModelCluster). step_at k at (slice_get k.nodes at) step.act) same
    ∙ ap (λ i. step_at d i (slice_get d.nodes i) step.act) is

-- and where it was not done, of the node with its number
module _ {A : Type 0} (c d m : ModelCluster) (at : ℕ) (step : Step) (r : Result A StepFault) (same : c ≡ d) (is : at ≡ step.node - 1) (first : 1 ≤ step.node) where
  numbered : at + 1 ≡ step.node
  numbered = omega (arith, is, first)

  pub cluster_failed : IfErr r (FailedBy step.act (at + 1) c m) → IfErr r (FailedBy step.act step.node d m)
  cluster_failed left =
      subst (λ k. IfErr r (FailedBy step.act k d m)) numbered (subst (λ k. IfErr r (FailedBy step.act (at + 1) k m)) same left)

pub first_counts : (queue : List Message) → min (length queue) 1 ≡ orders_of queue
first_counts queue = grind arith

pub length-nodes : {W : Type 0} (seats : List (SeatOf W)) → length (nodes_of seats) ≡ length seats
length-nodes {W} seats = length-map seats (λ (s : SeatOf W). plain_of s.node.parts)

-- how many events the step of a seat is going to order
pub will_is : {W : Type 0} (c : ModelCluster) (seats : List (SeatOf W)) (at : ℕ) (step : Step) (seat : SeatOf W) (k : ℕ) → nodes_of seats ≡ c.nodes
    → at ≡ step.node - 1 → (1 ≤ step.node) × (step.node ≤ length c.nodes) → seat ≡ get_or seats at seat
    → k ≡ node_orders step.act (plain_of seat.node.parts) → k ≡ will_order c step
will_is c seats at step seat k nodes is fits item counts =
    let long : length seats ≡ length c.nodes = sym (length-nodes seats) ∙ ap length nodes in
    let there = item_there seats at seat (omega (arith, long, is, fits.0, fits.1)) item in
    counts
    ∙ ap (λ o. orders_at o step.act) (sym (at_nodes seats at seat there))
    ∙ ap (λ i. orders_at (slice_get (nodes_of seats) i) step.act) is
    ∙ ap (λ ns. orders_at (slice_get ns (step.node - 1)) step.act) nodes

-- ---- the cluster at its start
pub kept_start : {W : Type 0} (order : List Event) (nodes : ℕ) (seats : List (SeatOf W)) → order ≡ start_order nodes → nodes ≤ 9
    → AreSeated order seats → AreKept order seats
kept_start order nodes seats is small seated = record {
  order_kept = subst OrderIsKept (sym is) (start_kept nodes small);
  seated = seated;
}

pub cluster_start : {W : Type 0} (order : List Event) (nodes gcache : ℕ) (id : List ℕ) (seats : List (SeatOf W)) → order ≡ start_order nodes
    → nodes_of seats ≡ map (start_node gcache id) (up_to nodes) → cluster_of order (nodes_of seats) ≡ start_cluster nodes gcache id
unfolding start_cluster
cluster_start order nodes gcache id seats is starts = ap (λ o. cluster_of o (nodes_of seats)) is ∙ ap (cluster_of (start_order nodes)) starts
