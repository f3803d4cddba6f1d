use Rattle.std.proofs.Common.{sym, ◌∙◌, refl}
use Rattle.node_core.proofs.AdvanceCalls.{advance_nothing, advance_waits, ready_is, results_free, note_told, advance_does}
use Rattle.node_core.proofs.node.NodeParts.advance.Goals as goal

pub returns-then-self-clause-does : goal.returns-then-self-clause-does
returns-then-self-clause-does c order stands = advance_nothing order c.args.self.now stands c.if-self.true

pub returns-then-not-is_ready-clause-does : goal.returns-then-not-is_ready-clause-does
returns-then-not-is_ready-clause-does c order stands =
    advance_waits order c.args.self.now stands c.if-self.false
    (sym (c.is_ready.ensures ∙ ready_is order c.args.self.now stands c.if-self.false) ∙ c.if-not-is_ready.true)

pub take_unit-requires-clause-free : goal.take_unit-requires-clause-free
take_unit-requires-clause-free c finished = results_free c.requires.stands.0 c.args.self.now c.requires.stands.1 finished

pub returns-clause-does : goal.returns-clause-does
returns-clause-does c order stands =
    advance_does order c.args.self.now stands c.if-self.false
    (sym (c.is_ready.ensures ∙ ready_is order c.args.self.now stands c.if-self.false) ∙ c.if-not-is_ready.false)
    c.take_unit.new.self c.take_unit.ensures c.end_committer.new.self c.commit-judged.new.self
    (λ certifies. c.commit-judged.ensures.certifies order c.args.self.now.at.committed
    c.args.self.now.at.certified certifies refl) c.end_committer.ensures

pub returns-clause-note : goal.returns-clause-note
returns-clause-note c order stands = note_told order c.args.self.now stands c.if-self.false
    c.take_unit.new.self c.take_unit.ensures c.end_committer.new.self c.end_committer.ensures _ _
    (c.commit-judged.ensures.judged order c.args.self.now.at.committed c.args.self.now.at.certified) c.note_of.ensures
