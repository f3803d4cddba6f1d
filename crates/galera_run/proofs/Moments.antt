-- What holds of a run of a cluster at each of its moments, and of each of its answers.
use Rattle.std.proofs.Common.{◌≡◌, ℕ, zero, suc, ◌+◌, ◌-◌, Bool, true, false, cond, List, [], ◌∷◌, ◌++◌, take, Option, None, Some, refl, ap, sym, subst, ◌∙◌, arith, append-nil, append_assoc}
use Rattle.std.specs.Prelude.{◌==◌, ◌||◌, nat_lt, not, map, slice_get, is_some}
use Rattle.std.specs.List.{AllByRecursion}
use Rattle.std.specs.Ordering.{nat_cmp}
use Rattle.std.proofs.lemmas.List.{map-append}
use Rattle.finite_map.specs.FiniteMap.{FiniteMap, get}
use Rattle.wsrep_base.specs.declared.verdict.Judged.{Judged}
use Rattle.wsrep_base.specs.Trx.{greatest}
use Rattle.row_model.specs.declared.row.RowId.{RowId}
use Rattle.row_model.specs.declared.calls.Reply.{Reply}
use Rattle.row_model.specs.declared.calls.Reply.TheVariants as reply
use Rattle.row_model.specs.declared.calls.Call.TheVariants as call
use Rattle.row_model.specs.Rows.{Rows}
use Rattle.order_event.specs.declared.event.Event.{Event}
use Rattle.order_event.specs.declared.event.Message.{Message}
use Rattle.order_event.specs.declared.step.Act.{Act}
use Rattle.order_event.specs.declared.step.Act.TheVariants as act
use Rattle.order_event.specs.declared.step.Answer.{Answer}
use Rattle.order_event.specs.declared.step.Answer.TheVariants as answer
use Rattle.order_event.specs.declared.step.Step.{Step}
use Rattle.group_order.specs.Order.{event_of, view_without, view_with, new_member}
use Rattle.cert_meaning.specs.declared.items.CommitItem.{CommitItem}
use Rattle.cert_meaning.specs.State.{FoldState, no_events}
use Rattle.cert_meaning.specs.Fold.{after, judged, judged_all, state_at}
use Rattle.cert_meaning.proofs.FoldLaws.{judged_all-at}
use Rattle.node_meaning.specs.declared.progress.Stage.{Stage}
use Rattle.node_meaning.specs.declared.progress.Stage.TheVariants.{Started, Finished}
use Rattle.node_meaning.specs.Node.{ModelNode, ApplyUnit, is_left, is_joining, rows_at, seen_rows, ahead, passed_at}
use Rattle.node_meaning.specs.Client.{row_reply, is_pending, served, asked, told_first, client}
use Rattle.node_meaning.specs.Status.{status_step}
use Rattle.node_meaning.specs.Steps.{is_local, unqueued, took, take_event, take_step, touching_before, certify_event, certify_step, start_after, start_unit, start_step, finish_stage, finish_unit, finish_step, is_ready, committed_next, advance_step, put_report, report_step}
use Rattle.state_transfer.specs.declared.transfer.Plan.{Plan}
use Rattle.state_transfer.specs.declared.transfer.Plan.TheVariants as plan
use Rattle.node_meaning.specs.Node.{is_connected}
use Rattle.node_meaning.specs.Joining.{by_plan, transfer_plan, transfer_from, received_snapshot}
use Rattle.node_meaning.specs.Cluster.{ModelCluster, with_node, leave_now, join_now, order_first, step_of, step_at, cluster_step, run}
use Rattle.node_laws.proofs.SetLists.{equal}
use Rattle.answer_laws.specs.Answers.{Asker, Told, told_of, asked_of, told_run}
use Rattle.galera_run.specs.Headline.{HasGrown, Shows, IsOfFold, reply_to, replies}

-- ---- the order only grows
module _ (c : ModelCluster) where
  same_order : HasGrown c.order c.order
  same_order = ([], sym (append-nil c.order))

  module _ (i : ℕ) (n : ModelNode) where
    first_grown : (queue : List Message) → HasGrown c.order (order_first c i n queue).1.order
    first_grown [] = same_order
    first_grown (m ∷ ms) = (event_of n.at.member m ∷ [], refl)

    left_grown : (b : Bool)
        → HasGrown c.order (cond b (answer.Disconnected, c) (leave_now c i n)).1.order
    left_grown true = same_order
    left_grown false = (view_without c.order n.at.member ∷ [], refl)

    joined_by : (fresh ready : Bool)
        → HasGrown c.order (cond ready (join_now fresh c i n)
        (answer.NotDrained n.at.taken n.at.committed, c)).1.order
    joined_by fresh true = (view_with c.order (new_member c.order) ∷ [], refl)
    joined_by fresh false = same_order

    join_grown : (fresh left ready : Bool)
        → HasGrown c.order (cond (not left) (answer.StillJoined, c)
        (cond ready (join_now fresh c i n) (answer.NotDrained n.at.taken n.at.committed, c))).1.order
    join_grown fresh true ready = joined_by fresh ready
    join_grown fresh false ready = same_order

    transfer_grown : (joining : Bool) (done : Answer × ModelNode)
        → HasGrown c.order (cond joining (with_node c i done) (answer.NotJoining, c)).1.order
    transfer_grown true done = same_order
    transfer_grown false done = same_order

    act_grown : (a : Act) → HasGrown c.order (step_of c i n a).1.order
    act_grown act.Order = first_grown n.outbox
    act_grown act.Drain = (map (event_of n.at.member) n.outbox, refl)
    act_grown act.Leave = left_grown (is_left n.at.phase)
    act_grown (act.Join fresh) =
        join_grown fresh (is_left n.at.phase) (n.at.taken == n.at.committed)
    act_grown (act.Transfer donor) =
        transfer_grown (is_joining n.at.phase)
        (transfer_from c.order n (slice_get c.nodes (donor - 1)))
    act_grown _ = same_order

  at_grown : (i : ℕ) (o : Option ModelNode) (a : Act) → HasGrown c.order (step_at c i o a).1.order
  at_grown i None a = same_order
  at_grown i (Some n) a = act_grown i n a

  step_grown : (step : Step) → HasGrown c.order (cluster_step c step).1.order
  unfolding cluster_step
  step_grown step =
      at_grown (step.node - 1) (slice_get c.nodes (step.node - 1)) step.act

then_grown : (a b c : List Event) → HasGrown a b → HasGrown b c → HasGrown a c
then_grown a b c first second = (
  first.0 ++ second.0,
  second.1 ∙ ap (λ z. z ++ second.0) first.1 ∙ append_assoc a first.0 second.0,
)

pub run_grown : (steps : List Step) (c : ModelCluster) → HasGrown c.order (run steps c).1.order
unfolding run
run_grown [] c = same_order c
run_grown (step ∷ steps) c =
    let d = (cluster_step c step).1 in
    then_grown c.order d.order (run steps d).1.order (step_grown c step) (run_grown steps d)

-- from each moment on
pub moment_grown : (k : ℕ) (steps : List Step) (c : ModelCluster)
    → HasGrown (run (take k steps) c).1.order (run steps c).1.order
unfolding run
moment_grown zero steps c = run_grown steps c
moment_grown (suc k) [] c = same_order c
moment_grown (suc k) (step ∷ steps) c = moment_grown k steps (cluster_step c step).1

-- ---- what a read shows
module _ (rows : Rows) (id : RowId) where
  row_shows : (o : Option (List ℕ)) → get rows id ≡ o → Shows rows id (row_reply o)
  row_shows None is = is
  row_shows (Some row) is = is

  either_shows : (b : Bool) (x y : Reply × ModelNode) → Shows rows id x.0 → Shows rows id y.0
      → Shows rows id (cond b x y).0
  either_shows true x y one other = one
  either_shows false x y one other = other

pub read_shows : (order : List Event) (n : ModelNode) (session : ℕ) (id : RowId)
    → get n.waiting session ≡ None
    → Shows (seen_rows (rows_at order n.at.committed) (get n.live session)) id
    (client order n session (call.Read id)).0
unfolding client
read_shows order n session id none =
    let live = get n.live session in
    let rows = seen_rows (rows_at order n.at.committed) live in
    let otherwise = asked order n session live (call.Read id) in
    subst (λ o. Shows rows id (told_first n session o otherwise).0) (sym none)
    (either_shows rows id (is_pending live) (reply.Pending, n) _ tt
    (either_shows rows id (is_left n.at.phase) (reply.Disconnected, n) _ tt
    (either_shows rows id (is_joining n.at.phase || nat_lt n.at.committed n.at.view)
    (reply.NotSynced, n) (served order n session live (call.Read id)) tt
    (row_shows rows id (get rows id) refl))))

-- ---- verdicts
module _ (order : List Event) where
  of_fold : (before : ℕ) (e : Event) → slice_get order before ≡ Some e
      → IsOfFold order (answer.Judged (before + 1) (judged (state_at order before) e))
  of_fold before e there =
      let index : before + 1 - 1 ≡ before = omega arith in (
        omega arith,
        ap (slice_get (judged_all no_events order)) index ∙ judged_all-at order before e there,
      )

  module _ (n : ModelNode) where
    either_by : (b : Bool) (x y : Answer × ModelNode) → IsOfFold order x.0 → IsOfFold order y.0
        → IsOfFold order (cond b x y).0
    either_by true x y one other = one
    either_by false x y one other = other

    certify_by : (o : Option Event) → slice_get order n.at.certified ≡ o
        → IsOfFold order (certify_event order n o).0
    certify_by None there = tt
    certify_by (Some e) there = of_fold n.at.certified e there

    certify_of : IsOfFold order (certify_step order n).0
    unfolding certify_step
    certify_of =
        either_by (n.at.certified == n.at.taken) (answer.Nothing, n) _ tt
        (certify_by (slice_get order n.at.certified) refl)

    took_by : (o : Option ModelNode) → IsOfFold order (took n o).0
    took_by None = tt
    took_by (Some m) = tt

    take_by : (o : Option Event) → IsOfFold order (take_event n o).0
    take_by None = tt
    take_by (Some e) = took_by (unqueued n e)

    take_of : IsOfFold order (take_step order n).0
    unfolding take_step
    take_of =
        either_by (is_connected n.at.phase) _ (answer.Nothing, n)
        (take_by (slice_get order n.at.taken)) tt

    after_by : (number : ℕ) (commit : CommitItem) (o : Option ℕ)
        → IsOfFold order (start_after n number commit.keys o).0
    after_by number commit None = tt
    after_by number commit (Some earlier) = tt

    unit_by : (number : ℕ) (o : Option CommitItem)
        → IsOfFold order (start_unit order n number o).0
    unit_by number None = tt
    unit_by number (Some commit) =
        either_by (is_some (get n.units number)) (answer.NoUnit number, n) _ tt
        (either_by (is_local n.live number) (answer.Local number, n) _ tt
        (after_by number commit (greatest (touching_before
        (ahead order n.at.committed n.at.certified) number commit.keys))))

    start_of : (number : ℕ) → IsOfFold order (start_step order n number).0
    unfolding start_step
    start_of number = unit_by number (passed_at order n.at.committed n.at.certified number)

    finish_by : (number : ℕ) (u : ApplyUnit) (stage : Stage)
        → IsOfFold order (finish_stage n number u.keys stage).0
    finish_by number u Started = tt
    finish_by number u Finished = tt

    found_by : (number : ℕ) (o : Option ApplyUnit) → IsOfFold order (finish_unit n number o).0
    found_by number None = tt
    found_by number (Some u) = finish_by number u u.stage

    finish_of : (number : ℕ) → IsOfFold order (finish_step n number).0
    unfolding finish_step
    finish_of number = found_by number (get n.units number)

    advance_of : IsOfFold order (advance_step order n).0
    unfolding advance_step
    advance_of =
        let number = n.at.committed + 1 in
        either_by (n.at.committed == n.at.certified) (answer.Nothing, n) _ tt
        (either_by (is_ready order n (n.at.committed + 1))
        (answer.At number, committed_next n number) (answer.NotReady number, n) tt tt)

    report_of : IsOfFold order (report_step n).0
    unfolding report_step
    report_of =
        either_by (is_left n.at.phase) (answer.Disconnected, n) _ tt
        (either_by (is_joining n.at.phase || nat_lt n.at.committed n.at.view)
        (answer.NotSynced, n) (answer.Reported n.at.committed, put_report n) tt tt)

    status_of : IsOfFold order (status_step order n).0
    unfolding status_step
    status_of = tt

module _ (c : ModelCluster) where
  module _ (i : ℕ) (n : ModelNode) where
    left_of : (b : Bool) → IsOfFold c.order (cond b (answer.Disconnected, c) (leave_now c i n)).0
    left_of true = tt
    left_of false = tt

    first_of : (queue : List Message) → IsOfFold c.order (order_first c i n queue).0
    first_of [] = tt
    first_of (m ∷ ms) = tt

    join_of_fold : (fresh left ready : Bool)
        → IsOfFold c.order (cond {A = Answer × ModelCluster} (not left) (answer.StillJoined, c)
        (cond {A = Answer × ModelCluster} ready (join_now fresh c i n)
        (answer.NotDrained n.at.taken n.at.committed, c))).0
    join_of_fold fresh true true = tt
    join_of_fold fresh true false = tt
    join_of_fold fresh false ready = tt

    snapshot_by : (donor : ModelNode) (committed behind : Bool)
        → IsOfFold c.order (cond {A = Answer × ModelNode} (not committed)
        (answer.DonorBusy donor.at.certified donor.at.committed, n)
        (cond {A = Answer × ModelNode} behind
        (answer.DonorBehind n.at.view donor.at.committed, n)
        (answer.Sst donor.at.committed, received_snapshot donor.at.committed donor.id n))).0
    snapshot_by donor true true = tt
    snapshot_by donor true false = tt
    snapshot_by donor false behind = tt

    plan_by : (donor : ModelNode) (p : Plan) → IsOfFold c.order (by_plan n donor p).0
    plan_by donor (plan.Ist from) = tt
    plan_by donor plan.Sst =
        snapshot_by donor (donor.at.certified == donor.at.committed)
        (nat_lt donor.at.committed n.at.view)

    donor_by : (donor : ModelNode) (connected behind : Bool)
        → IsOfFold c.order (cond {A = Answer × ModelNode} (not connected) (answer.NoDonor, n)
        (cond {A = Answer × ModelNode} behind (answer.DonorBehind n.at.view donor.at.taken, n)
        (by_plan n donor (transfer_plan c.order n donor)))).0
    donor_by donor true true = tt
    donor_by donor true false = plan_by donor (transfer_plan c.order n donor)
    donor_by donor false behind = tt

    from_by : (donor : Option ModelNode) → IsOfFold c.order (transfer_from c.order n donor).0
    from_by None = tt
    from_by (Some donor) =
        donor_by donor (is_connected donor.at.phase) (nat_lt donor.at.taken n.at.view)

    transfer_of_fold : (joining : Bool) (donor : Option ModelNode)
        → IsOfFold c.order (cond {A = Answer × ModelCluster} joining
        (with_node c i (transfer_from c.order n donor)) (answer.NotJoining, c)).0
    transfer_of_fold true donor = from_by donor
    transfer_of_fold false donor = tt

    act_of_fold : (a : Act) → IsOfFold c.order (step_of c i n a).0
    act_of_fold act.Order = first_of n.outbox
    act_of_fold act.Take = take_of c.order n
    act_of_fold act.Certify = certify_of c.order n
    act_of_fold (act.Start number) = start_of c.order n number
    act_of_fold (act.Finish number) = finish_of c.order n number
    act_of_fold act.Advance = advance_of c.order n
    act_of_fold act.Report = report_of c.order n
    act_of_fold act.Status = status_of c.order n
    act_of_fold act.Leave = left_of (is_left n.at.phase)
    act_of_fold (act.Join fresh) =
        join_of_fold fresh (is_left n.at.phase) (n.at.taken == n.at.committed)
    act_of_fold (act.Transfer donor) =
        transfer_of_fold (is_joining n.at.phase) (slice_get c.nodes (donor - 1))
    act_of_fold _ = tt

  at_of_fold : (i : ℕ) (o : Option ModelNode) (a : Act) → IsOfFold c.order (step_at c i o a).0
  at_of_fold i None a = tt
  at_of_fold i (Some n) a = act_of_fold i n a

  step_of_fold : (step : Step) → IsOfFold c.order (cluster_step c step).0
  unfolding cluster_step
  step_of_fold step =
      at_of_fold (step.node - 1) (slice_get c.nodes (step.node - 1)) step.act

-- verdicts stay as the order grows
judged_longer : (s : FoldState) (order more : List Event) (k : ℕ) (j : Judged)
    → slice_get (judged_all s order) k ≡ Some j
    → slice_get (judged_all s (order ++ more)) k ≡ Some j
unfolding judged_all
judged_longer s [] more k j there = cc
judged_longer s (e ∷ order) more zero j there = there
judged_longer s (e ∷ order) more (suc k) j there = judged_longer (after s e) order more k j there

fold_longer : (order more : List Event) (a : Answer) → IsOfFold order a
    → IsOfFold (order ++ more) a
fold_longer order more (answer.Judged number became) h =
    (h.0, judged_longer no_events order more (number - 1) became h.1)
fold_longer order more _ h = tt

later_fold : (now order : List Event) → HasGrown now order → (a : Answer) → IsOfFold now a
    → IsOfFold order a
later_fold now order grown a h =
    subst (λ o. IsOfFold o a) (sym grown.1) (fold_longer now grown.0 a h)

pub run_of_fold : (steps : List Step) (c : ModelCluster)
    → AllByRecursion (IsOfFold (run steps c).1.order) (run steps c).0
unfolding run
run_of_fold [] c = tt
run_of_fold (step ∷ steps) c =
    let d = (cluster_step c step).1 in (
      later_fold c.order (run steps d).1.order
          (then_grown c.order d.order (run steps d).1.order (step_grown c step) (run_grown steps d))
          (cluster_step c step).0 (step_of_fold c step),
      run_of_fold steps d,
    )

-- ---- what sessions are told is what their calls are answered
abbrev Askers : Type 0
Askers = FiniteMap nat_cmp Asker

abbrev answers_of : List Told → List Reply
answers_of told = map (λ (t : Told). t.answer) told

act_told : (c : ModelCluster) (i : ℕ) (n : ModelNode) (askers : Askers) (a : Act)
    → answers_of (told_of c.order (Some n) askers true a) ≡ reply_to true a (step_of c i n a).0
act_told c i n askers (act.Client session asked) = refl
act_told c i n askers _ = refl

none_told : (a : Act) → [] ≡ reply_to true a answer.Nothing
none_told (act.Client session asked) = refl
none_told _ = refl

here_told : (c : ModelCluster) (i : ℕ) (o : Option ModelNode) (askers : Askers) (a : Act)
    → answers_of (told_of c.order o askers true a) ≡ reply_to true a (step_at c i o a).0
here_told c i None askers a = none_told a
here_told c i (Some n) askers a = act_told c i n askers a

beside_told : (order : List Event) (o : Option ModelNode) (askers : Askers) (a : Act)
    → answers_of (told_of order o askers false a) ≡ []
beside_told order None askers a = refl
beside_told order (Some n) askers a = refl

by_told : (c : ModelCluster) (i j : ℕ) (askers : Askers) (a : Act) (own : Bool) → j == i ≡ own
    → answers_of (told_of c.order (slice_get c.nodes i) askers own a)
    ≡ reply_to own a (step_at c j (slice_get c.nodes j) a).0
by_told c i j askers a false is = beside_told c.order (slice_get c.nodes i) askers a
by_told c i j askers a true is =
    subst (λ k. answers_of (told_of c.order (slice_get c.nodes i) askers true a)
    ≡ reply_to true a (step_at c k (slice_get c.nodes k) a).0) (sym (equal j i is))
    (here_told c i (slice_get c.nodes i) askers a)

step_told : (c : ModelCluster) (i : ℕ) (askers : Askers) (step : Step)
    → answers_of (told_of c.order (slice_get c.nodes i) askers (step.node - 1 == i) step.act)
    ≡ reply_to (step.node - 1 == i) step.act (cluster_step c step).0
unfolding cluster_step
step_told c i askers step =
    by_told c i (step.node - 1) askers step.act (step.node - 1 == i) refl

pub run_told_is : (steps : List Step) (c : ModelCluster) (i : ℕ) (askers : Askers)
    → answers_of (told_run c i askers steps) ≡ replies i steps (run steps c).0
unfolding run
run_told_is [] c i askers = refl
run_told_is (step ∷ steps) c i askers =
    let d = (cluster_step c step).1 in
    let one = told_of c.order (slice_get c.nodes i) askers (step.node - 1 == i) step.act in
    let later = asked_of (slice_get d.nodes i) askers in
    map-append (λ (t : Told). t.answer) one (told_run d i later steps)
    ∙ ap (λ z. z ++ answers_of (told_run d i later steps)) (step_told c i askers step)
    ∙ ap (λ z. reply_to (step.node - 1 == i) step.act (cluster_step c step).0 ++ z)
    (run_told_is steps d i later)
