use Rattle.std.proofs.Common.{sym, ap, ◌∙◌}
use Rattle.client_trx.specs.Live.{Live, added, newest_of, is_too_large, fragment_flags}
use Rattle.client_trx.proofs.FitLemmas.{fragment_valid}
use Rattle.client_trx.proofs.NewestLemmas.{room_newest}
use Rattle.client_trx.proofs.trx.Trx.fragment_with.Goals as goal

pub add-requires-clause-room : goal.add-requires-clause-room
add-requires-clause-room c =
    let p = c.args.parts.now in
    let room = ap (λ (t : Live). is_too_large (added t p c.args.kind c.args.op.now)) c.self.view_is ∙ c.requires.room in
    room_newest c.self.inside.whole _ c.self.inside.newest c.self.inside.sent p c.args.kind c.args.op.now c.self.invariant
    (c.in_ok-all.ensures ∙ sym (ap newest_of c.self.view_is)) room

pub returns-clause-valid : goal.returns-clause-valid
returns-clause-valid c =
    fragment_valid c.args.self.now c.add.new.self c.args.serial c.args.last_seen c.fragment_flags-flags.result c.write_set.result
    c.write_set.ensures.set (c.fragment_flags-flags.ensures ∙ ap (λ (t : Live). fragment_flags t.sent) c.self.view_is)
    c.write_set.ensures.fit
