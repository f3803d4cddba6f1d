use Rattle.std.proofs.Common.{◌<◌, ◌^◌, rules}
use Rattle.node_core.proofs.CertifyStep.{certify_nothing, some_first, can_certify, certify_does}
use Rattle.node_core.proofs.node.NodeParts.certify.Goals as goal

pub returns-then-self-clause-ok : goal.returns-then-self-clause-ok
returns-then-self-clause-ok c order stands = certify_nothing order c.args.self.now stands c.if-self.true

pub returns-in_default-clause-ok : goal.returns-in_default-clause-ok
returns-in_default-clause-ok c order stands =
    absurd (some_first order c.args.self.now stands c.if-self.false c.in_default.ensures)

pub certify-requires : goal.certify-requires
certify-requires c =
    let small : c.args.self.now.at.taken < 2 ^ 64 = search rules in
    can_certify c.requires.stands.0 c.args.self.now c.requires.stands.1 c.if-self.false small

pub returns-clause-ok : goal.returns-clause-ok
returns-clause-ok c order stands =
    let at = c.args.self.now.at in
    certify_does order c.args.self.now stands c.if-self.false c.in-Some.event.now c.in-Some.ensures
    c.in_ok-told.told.judged c.drop_first.new.self c.certify.new.self c.tell_own.new.self
    c.drop_first.ensures (c.in_ok-told.ensures.ok order at.committed at.certified)
    (rw (c.is_write_of-is_own.ensures, c.in_ok-told.ensures.begin, c.verdict_of.ensures)
    at c.tell_own.ensures)
