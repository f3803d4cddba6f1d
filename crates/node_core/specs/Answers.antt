-- what the calls of a node answer, as the answers of steps
use Rattle.std.specs.Prelude.{◌≡◌, ℕ, List}
use Rattle.order_event.specs.declared.event.Event.{Event}
use Rattle.node_meaning.specs.Units.{unit_task}
use Rattle.order_event.specs.declared.step.Answer.{Answer}
use Rattle.order_event.specs.declared.step.Answer.TheVariants as answer
pub use Rattle.node_parts.specs.Units.{is_started, is_started_stage}
use Rattle.node_core.specs.declared.answers.Taken.{Taken}
use Rattle.node_core.specs.declared.answers.Taken.TheVariants as taken
use Rattle.node_core.specs.declared.answers.Certified.{Certified}
use Rattle.node_core.specs.declared.answers.Certified.TheVariants as certified
use Rattle.node_core.specs.declared.answers.Started.{Started}
use Rattle.node_core.specs.declared.answers.Started.TheVariants as started
use Rattle.node_core.specs.declared.answers.Advanced.{Advanced}
use Rattle.node_core.specs.declared.answers.Advanced.TheVariants as advanced
use Rattle.node_core.specs.declared.answers.Reported.{Reported}
use Rattle.node_core.specs.declared.answers.Status.{Status}
use Rattle.node_core.specs.declared.answers.Reported.TheVariants as reported

abbrev pub taken_answer : Taken → Answer
taken_answer (taken.Took number) = answer.Took number
taken_answer (taken.Split number) = answer.Split
taken_answer taken.Away = answer.Nothing

abbrev pub certified_answer : Certified → Answer
certified_answer (certified.Judged number judged) = answer.Judged number judged
certified_answer certified.Nothing = answer.Nothing

abbrev pub started_answer : ℕ → Started → Answer
started_answer number (started.Unit task victims) = answer.Started number victims
started_answer number (started.NotYet earlier) = answer.NotYet earlier
started_answer number started.Local = answer.Local number
started_answer number started.NoUnit = answer.NoUnit number

abbrev pub advanced_answer : Advanced → Answer
advanced_answer (advanced.At number) = answer.At number
advanced_answer advanced.Nothing = answer.Nothing
advanced_answer (advanced.NotReady number) = answer.NotReady number

abbrev pub reported_answer : Reported → Answer
reported_answer (reported.Sent number) = answer.Reported number
reported_answer reported.Disconnected = answer.Disconnected
reported_answer reported.NotSynced = answer.NotSynced

abbrev pub status_answer : Status → Answer
status_answer s = answer.Status s.taken s.certified s.committed s.floor s.index s.open_trx

-- the task that a start gives is the unit's, with the images of the rows before it
abbrev pub GivesTask : List Event → ℕ → Started → Type 0
GivesTask order number (started.Unit task victims) = task ≡ unit_task order number
GivesTask order number (started.NotYet earlier) = Unit {0}
GivesTask order number started.Local = Unit {0}
GivesTask order number started.NoUnit = Unit {0}
