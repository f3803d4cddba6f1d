-- A report is at most one move, which pays; and what a node's status is changes nothing.
use Rattle.std.proofs.Common.{Bool, List}
use Rattle.std.specs.Prelude.{◌||◌, nat_lt}
use Rattle.std.proofs.lemmas.Bool.{or_parts}
use Rattle.order_event.specs.declared.event.Event.{Event}
use Rattle.order_event.specs.declared.step.Answer.TheVariants as answer
use Rattle.node_meaning.specs.Node.{ModelNode, is_left, is_joining}
use Rattle.node_meaning.specs.Steps.{put_report, report_step}
use Rattle.node_meaning.specs.Status.{status_step}
use Rattle.node_laws.proofs.Moves.{connected_from, Reports, Reaches, Here, paid, chosen}

module _ (order : List Event) (given : Type 0) (works : Bool) (n : ModelNode) where
  pub report_moves : Reaches order given works n 1 (report_step n).1
  unfolding report_step
  report_moves =
      chosen 1 n (is_left n.at.phase) (answer.Disconnected, n) _ (λ _. Here) (λ stays.
      chosen 1 n (is_joining n.at.phase || nat_lt n.at.committed n.at.view) (answer.NotSynced, n)
      (answer.Reported n.at.committed, put_report n) (λ _. Here)
      (λ late. paid n _ (Reports (connected_from n.at.phase stays
      (or_parts (is_joining n.at.phase) (nat_lt n.at.committed n.at.view) late).0))))

  pub status_moves : Reaches order given works n 1 (status_step order n).1
  unfolding status_step
  status_moves = Here
