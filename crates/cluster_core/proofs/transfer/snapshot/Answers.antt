-- The snapshot that the donor gives is of the state that the model's donor has.
use Rattle.std.proofs.Common.{refl, sym, ap, subst, ◌∙◌, arith}
use Rattle.order_event.specs.declared.step.Answer.TheVariants as answer
use Rattle.node_meaning.specs.Joining.{by_snapshot, received_snapshot}
use Rattle.node_core.specs.Giving.{Gives}
use Rattle.node_core.specs.Stands.{plain_of}
use Rattle.std.specs.Prelude.{false}
use Rattle.cluster_core.proofs.TransferLaws.{handing, snapshot_there, brings_state}
use Rattle.cluster_core.proofs.transfer.snapshot.Goals as goal

pub returns-clause-ok : goal.returns-clause-ok
returns-clause-ok g c order n can view =
    let node = c.args.donor.now.parts in
    let first = c.certified-certified.ensures in
    let second = c.committed-committed.ensures in
    let more = c.if-committed-view.false in
    handing order n c.handed.result (by_snapshot n (plain_of c.args.donor.now.parts)) (answer.Sst node.at.committed)
    (received_snapshot node.at.committed node.id n) c.in_ok-gift.gift
    (snapshot_there order n (plain_of c.args.donor.now.parts) (sym first ∙ c.if-certified-committed.false ∙ second) (omega (arith, second, more, view))) refl
    (c.handed.ensures.0 ∙ ap answer.Sst second, c.handed.ensures.1)
    (brings_state order n c.args.donor.now.parts can c.in_ok-gift.gift
    (subst (Gives order (plain_of c.args.donor.now.parts) 0 false) c.in_ok-gift.ensures (c.give.ensures order can.stands)))
