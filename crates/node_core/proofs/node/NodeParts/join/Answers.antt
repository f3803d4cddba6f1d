-- The node waits for a state.
use Rattle.std.proofs.Common.{◌∙◌, ap, sym, Bool}
use Rattle.std.specs.Prelude.{if◌then◌else◌}
use Rattle.wsrep_base.specs.StateId.{nil_id}
use Rattle.node_core.proofs.JoinCalls.{join_does}
use Rattle.node_core.proofs.node.NodeParts.join.Goals as goal

pub returns-then-fresh : goal.returns-then-fresh
returns-then-fresh c =
    let own = c.args.self.now.id in
    join_does c.args.self.now c.args.fresh c.args.member c.args.view _ c.requires.rests
    (c.nil-self.ensures ∙ sym (ap (λ (b : Bool). if b then nil_id else own) c.if-fresh.true))

pub returns-else-fresh : goal.returns-else-fresh
returns-else-fresh c =
    let own = c.args.self.now.id in
    join_does c.args.self.now c.args.fresh c.args.member c.args.view _ c.requires.rests
    (sym (ap (λ (b : Bool). if b then nil_id else own) c.if-fresh.false))
