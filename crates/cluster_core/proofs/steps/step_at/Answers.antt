-- What the step does to the one seat it does to the cluster.
use Rattle.std.proofs.Common.{◌≡◌, ◌≤◌, ◌<◌, ◌+◌, ℕ, zero, suc, List, [], ◌∷◌, length, Option, Some, refl, sym, subst, arith}
use Rattle.std.proofs.lemmas.Result.{IfOk-weaker, IfErr-weaker}
use Rattle.std.specs.Prelude.{slice_get}
use Rattle.order_event.specs.declared.step.Act.{Act}
use Rattle.node_meaning.specs.Node.{ModelNode}
use Rattle.node_meaning.specs.Cluster.{orders_at}
use Rattle.node_core.specs.Stands.{plain_of}
use Rattle.cluster_core.specs.declared.fault.StepFault.{StepFault}
use Rattle.cluster_core.specs.declared.fault.StepFault.TheVariants as fault
use Rattle.cluster_core.specs.Seated.{seen}
use Rattle.cluster_core.specs.Acts.{Acted, cluster_of, nodes_of}
use Rattle.cluster_core.specs.Steps.{FailedBy}
use Rattle.cluster_core.proofs.ActLaws.{item_there, at_nodes, step_done, step_failed, kept_set, err_by, goes_by}
use Rattle.cluster_core.proofs.TransferSteps.{alone_of, transfer_failed}
use Rattle.cluster_core.proofs.steps.step_at.Goals as goal

pub step_on-requires-clause-counts : goal.step_on-requires-clause-counts
step_on-requires-clause-counts g c =
    let seat = c.index_mut.result.now in
    let there = item_there c.args.seats.now.items c.args.at seat c.requires.at c.index_mut.ensures.value in
    c.requires.counts (plain_of seat.node.parts) (at_nodes c.args.seats.now.items c.args.at seat there)

pub returns-in_default-clause-ok : goal.returns-in_default-clause-ok
returns-in_default-clause-ok g c =
    IfOk-weaker c.step_on.result _ _
    (step_done c.args.act.now (g.G.Group.order c.args.group.now) (g.G.Group.order c.step_on.new.group) c.args.seats.now.items c.args.at
    c.index_mut.result.now c.step_on.new.seat (item_there c.args.seats.now.items c.args.at c.index_mut.result.now c.requires.at c.index_mut.ensures.value))
    c.step_on.ensures.ok

pub returns-in_default-clause-err : goal.returns-in_default-clause-err
returns-in_default-clause-err g c =
    IfErr-weaker c.step_on.result _ _
    (step_failed c.args.act.now (g.G.Group.order c.args.group.now) (g.G.Group.order c.step_on.new.group) c.args.seats.now.items c.args.at
    c.index_mut.result.now c.step_on.new.seat (item_there c.args.seats.now.items c.args.at c.index_mut.result.now c.requires.at c.index_mut.ensures.value))
    c.step_on.ensures.err

pub returns-in_default-clause-kept : goal.returns-in_default-clause-kept
returns-in_default-clause-kept g c =
    kept_set (g.G.Group.order c.args.group.now) (g.G.Group.order c.step_on.new.group) c.args.seats.now.items c.args.at c.step_on.new.seat
    (goes_by c.args.act.now (g.G.Group.order c.args.group.now) (g.G.Group.order c.step_on.new.group) (seen c.index_mut.result.now) (seen c.step_on.new.seat)
    (Acted c.args.act.now (g.G.Group.order c.args.group.now) (g.G.Group.order c.step_on.new.group) (seen c.index_mut.result.now) (seen c.step_on.new.seat))
    c.step_on.result (λ x acted. acted.goes) c.step_on.ensures.ok c.step_on.ensures.err)
    c.requires.kept

pub step_on-requires-clause-enters : goal.step_on-requires-clause-enters
step_on-requires-clause-enters g c =
    let seat = c.index_mut.result.now in
    let there = item_there c.args.seats.now.items c.args.at seat c.requires.at c.index_mut.ensures.value in
    c.requires.enters (plain_of seat.node.parts) (at_nodes c.args.seats.now.items c.args.at seat there)

pub step_on-requires-clause-alone : goal.step_on-requires-clause-alone
step_on-requires-clause-alone g c = alone_of c.args.act.now (λ donor is. c.in_default.not-Transfer donor is)

pub transfer-requires : goal.transfer-requires
transfer-requires g c = record {
  at = c.requires.at;
  able = (
    g.G.Group.order c.args.group.now,
    record {
      kept = c.requires.kept;
      short = (let few = c.requires.events in omega (arith, few));
      enters = c.requires.enters;
    },
  );
}

some_there : {A : Type 0} (xs : List A) (i : ℕ) → i < length xs
    → (x : A) × (slice_get xs i ≡ Some x)
some_there [] i below = absurd (omega (arith, below))
some_there (x ∷ xs) zero below = (x, refl)
some_there (x ∷ xs) (suc i) below = some_there xs i (omega (arith, below))

pub returns-in_err-transfer-in-Transfer-clause-err :
    goal.returns-in_err-transfer-in-Transfer-clause-err
returns-in_err-transfer-in-Transfer-clause-err g c =
    let order = g.G.Group.order c.args.group.now in
    let old = c.args.seats.now.items in
    let new = c.transfer.new.seats.items in
    let here = some_there old c.args.at c.requires.at in
    let failed = c.in_err-transfer-in-Transfer.ensures.err order (record {
      kept = c.requires.kept;
      short = (let few = c.requires.events in omega (arith, few));
      enters = c.requires.enters;
    }) in
    err_by _ _ c.from_residual.result c.from_residual.ensures.1 (λ e from.
    let none : e ≡ fault.NoMemory = cc in
    subst (λ (f : StepFault). FailedBy c.args.act.now (c.args.at + 1)
    (cluster_of order (nodes_of old)) (cluster_of order (nodes_of new)) f) (sym none)
    (subst (λ (a : Act). FailedBy a (c.args.at + 1) (cluster_of order (nodes_of old))
    (cluster_of order (nodes_of new)) fault.NoMemory) (sym c.in-Transfer.is)
    (transfer_failed order c.args.at c.in-Transfer.donor old new here.0 here.1 failed)))

pub step_on-requires-clause-events : goal.step_on-requires-clause-events
step_on-requires-clause-events g c =
    let order = g.G.Group.order c.args.group.now in
    let old = c.args.seats.now.items in
    let seat = c.index_mut.result.now in
    let there = item_there old c.args.at seat c.requires.at c.index_mut.ensures.value in
    subst (λ (o : Option ModelNode). length order + orders_at o c.args.act.now ≤ 500_000)
    (at_nodes old c.args.at seat there) c.requires.events
