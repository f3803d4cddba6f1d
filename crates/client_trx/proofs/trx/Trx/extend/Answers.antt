-- What came since the last fragment grows with the whole, or neither does.
use Rattle.std.proofs.Common.{ap, ◌∙◌}
use Rattle.std.specs.Prelude.{option_map}
use Rattle.client_trx.specs.Live.{Live, added, is_too_large}
use Rattle.client_trx.specs.Newest.{with_gain}
use Rattle.client_trx.specs.declared.newest.Gain.{Gain}
use Rattle.client_trx.proofs.NewestLemmas.{grown_parts}
use Rattle.client_trx.proofs.trx.Trx.extend.Goals as goal

pub invariant_of-self-2 : goal.invariant_of-self-2
invariant_of-self-2 c =
    let p = c.args.parts.now in
    let gain : Gain = record { parts = p; kind = c.args.kind; op = c.args.op.now } in
    let room = ap (λ (t : Live). is_too_large (added t p c.args.kind c.args.op.now)) c.self.view_is ∙ c.requires.room in
    grown_parts c.self.inside.whole _ c.self.inside.newest _ c.self.inside.sent gain c.requires.names c.requires.change room
    c.self.invariant c.in_ok-add.ensures.ok
    (c.put_last.ensures ∙ ap (option_map (with_gain gain)) c.in_ok-settle.ensures.ok)
