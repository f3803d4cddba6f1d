-- What a report of a node answers, and what it leaves of the node.
use Rattle.std.proofs.Common.{rules, ◌≡◌, ◌<◌, ◌≤◌, List, refl, lt-ltb, le-ltb}
use Rattle.order_event.specs.declared.event.Event.{Event}
use Rattle.order_event.specs.declared.event.Message.TheVariants as message
use Rattle.order_event.specs.declared.step.Answer.TheVariants as answer
use Rattle.node_parts.specs.Queue.{queued}
use Rattle.node_meaning.specs.declared.progress.Phase.TheVariants as phase
use Rattle.node_meaning.specs.Steps.{report_step}
use Rattle.node_laws.proofs.StepFacts.{report_keeps}
use Rattle.node_core.specs.declared.node.NodeParts.{NodeParts}
use Rattle.node_core.proofs.Standing.{done_by}
use Rattle.node_core.specs.Stands.{Stands, DoneOver, plain_of}

-- the node once its report waits
abbrev pub after_report : NodeParts → NodeParts
after_report node = record node { queue = queued node.queue (message.Report node.at.committed) }

module _ (order : List Event) (old : NodeParts) (st : Stands order old) where
  pub report_left : old.at.phase ≡ phase.Left
      → DoneOver order (λ n. report_step n) old old answer.Disconnected
  unfolding report_step
  report_left at = record { same = rw at refl; stands = st }

  pub report_joining : old.at.phase ≡ phase.Joining
      → DoneOver order (λ n. report_step n) old old answer.NotSynced
  unfolding report_step
  report_joining at = record { same = rw at refl; stands = st }

  module _ (at : old.at.phase ≡ phase.Connected) where
    pub report_early : old.at.committed < old.at.view
        → DoneOver order (λ n. report_step n) old old answer.NotSynced
    unfolding report_step
    report_early lags =
        record { same = rw (at, lt-ltb old.at.committed old.at.view lags) refl; stands = st }

    pub report_sent : old.at.view ≤ old.at.committed → (new : NodeParts) → new ≡ after_report old
        → DoneOver order (λ n. report_step n) old new (answer.Reported old.at.committed)
    unfolding report_step
    report_sent synced new is = rw is
        (done_by order (λ n. report_step n) old (after_report old)
        (answer.Reported old.at.committed) st
        (rw (at, le-ltb old.at.committed old.at.view synced) refl)
        (report_keeps order (plain_of old)) old.at.serial old.at.begin refl
        (record { ring = refl; since = refl; id = refl }) refl refl
        (search rules))
