-- The key and the change are added together.
use Rattle.std.proofs.Common.{ap, ◌∙◌}
use Rattle.client_trx.specs.KeyedOps.{Keyed, with_change, is_over}
use Rattle.client_trx.proofs.FitLemmas.{more_fit}
use Rattle.client_trx.proofs.keyed_ops.KeyedOps.add.Goals as goal

pub invariant_of-self-in-Ok : goal.invariant_of-self-in-Ok
invariant_of-self-in-Ok c =
    let p = c.args.parts.now in
    let all : Keyed = record { keys = c.self.inside.keys; ops = c.self.inside.ops } in
    let room = ap (λ all. is_over (with_change all p c.args.kind c.args.op.now)) c.self.view_is ∙ c.requires.room in
    more_fit all _ _ p c.args.kind c.args.op.now c.requires.names c.requires.change room c.self.invariant
    c.in-Ok.ensures.ok c.in_ok-push_some.ensures.ok
