-- One more node at its start is the next one.
use Rattle.std.proofs.Common.{◌≡◌, ap, ◌∙◌, ◌+◌, map, arith}
use Rattle.group_order.specs.Order.{up_to}
use Rattle.node_meaning.specs.Node.{start_node}
use Rattle.cluster_core.proofs.ActLaws.{next_seat, no_seat}
use Rattle.cluster_core.proofs.cluster.seats_of.Goals as goal

pub loop-before-init : goal.loop-before-init
loop-before-init g c = no_seat c.args.gcache c.args.id c.new-seats.result.items c.new-seats.ensures.items

pub loop-before-preserved : goal.loop-before-preserved
loop-before-preserved g c =
    next_seat c.args.gcache c.args.id c.loop-before.seats.items c.push.new.self.items c.in_ok-new.field-0 c.loop-before.before
    c.in_ok-push.ensures.items (c.in_ok-new.ensures.start ∙ ap (λ k. start_node c.args.gcache c.args.id (k + 1)) c.from.ensures) c.in_ok-new.ensures.seated c.loop-before.invariant

pub returns-clause-nodes : goal.returns-clause-nodes
returns-clause-nodes g c =
    let all : c.loop-before.before ≡ c.args.nodes =
    omega (arith, c.loop-before.auto.before-end, c.loop-before-test.false) in
    c.loop-before.invariant.0
    ∙ ap (λ k. map (start_node c.args.gcache c.args.id) (up_to k)) all

pub returns-clause-seated : goal.returns-clause-seated
returns-clause-seated g c = c.loop-before.invariant.1
