use Rattle.std.proofs.Common.{◌∙◌, sym, ap}
use Rattle.finite_map.specs.FiniteMap.{insert}
use Rattle.client_trx.specs.Live.{is_sent}
use Rattle.client_trx.specs.declared.status.Outcome.{Outcome}
use Rattle.node_core.proofs.CertifyCalls.{tell_there, tell_put_back, tell_lives, tell_ends}
use Rattle.node_core.proofs.node.NodeParts.tell.Goals as goal

pub returns-in_default-take : goal.returns-in_default-take
returns-in_default-take c =
    absurd (tell_there c.args.self.now c.args.begin c.args.number c.args.verdict c.in-Some.session
    (sym c.session_of.ensures ∙ c.in-Some.is) (sym c.take.ensures.value ∙ c.in_default-take.is))

pub returns-then-not-is_sent : goal.returns-then-not-is_sent
returns-then-not-is_sent c =
    tell_put_back c.args.self.now c.args.begin c.args.number c.args.verdict c.in-Some.session
    (sym c.session_of.ensures ∙ c.in-Some.is) c.in-Some-take.trx (sym c.take.ensures.value ∙ c.in-Some-take.is)
    (sym (c.is_sent.ensures ∙ ap is_sent c.status.ensures) ∙ c.if-not-is_sent.true) c.put.new.self
    (c.put.ensures ∙ ap (λ m. insert m c.in-Some.session c.in-Some-take.trx) c.take.ensures.after)

pub returns-in-Lives : goal.returns-in-Lives
returns-in-Lives c =
    tell_lives c.args.self.now c.args.begin c.args.number c.args.verdict c.in-Some.session
    (sym c.session_of.ensures ∙ c.in-Some.is) c.in-Some-take.trx (sym c.take.ensures.value ∙ c.in-Some-take.is)
    (sym (c.is_sent.ensures ∙ ap is_sent c.status.ensures) ∙ c.if-not-is_sent.false) c.judged.new.self
    (ap (λ (o : Outcome). (o, c.judged.new.self)) (sym c.in-Lives.is) ∙ c.judged.ensures) c.put-in-Lives.new.self
    (c.put-in-Lives.ensures ∙ ap (λ m. insert m c.in-Some.session c.judged.new.self) c.take.ensures.after)

pub returns-in-Ends : goal.returns-in-Ends
returns-in-Ends c =
    tell_ends c.args.self.now c.args.begin c.args.number c.args.verdict c.in-Some.session
    (sym c.session_of.ensures ∙ c.in-Some.is) c.in-Some-take.trx (sym c.take.ensures.value ∙ c.in-Some-take.is)
    (sym (c.is_sent.ensures ∙ ap is_sent c.status.ensures) ∙ c.if-not-is_sent.false) c.in-Ends.reply c.judged.new.self
    (ap (λ (o : Outcome). (o, c.judged.new.self)) (sym c.in-Ends.is) ∙ c.judged.ensures)
    c.take.new.self c.put-in-Ends.new.self c.release.new.self c.roll_back.new.self
    c.take.ensures.after c.put-in-Ends.ensures c.release.ensures.locks
    c.roll_back.ensures.committed c.roll_back.ensures.changes c.roll_back.ensures.spare
