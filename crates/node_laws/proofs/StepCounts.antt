-- How much each step of a node lets it grow.
use Rattle.std.proofs.Common.{◌≡◌, ℕ, List, [], ◌∷◌, refl, true}
use Rattle.order_event.specs.declared.event.Event.{Event}
use Rattle.order_event.specs.declared.event.Message.{Message}
use Rattle.order_event.specs.declared.step.Act.{Act}
use Rattle.node_meaning.specs.Node.{ModelNode}
use Rattle.node_meaning.specs.Steps.{first_sent, sent_out, take_step, certify_step, start_step, finish_step, advance_step, node_step}
use Rattle.node_laws.proofs.Moves.{Joint, Orders, Reaches, Here}
use Rattle.node_laws.proofs.TakeMoves.{take_moves}
use Rattle.node_laws.proofs.CertifyMoves.{certify_moves}
use Rattle.node_laws.proofs.UnitMoves.{CanTakeBack, start_moves, finish_moves}
use Rattle.node_laws.proofs.AdvanceMoves.{CanStep, advance_moves, step_moves}
use Rattle.node_laws.proofs.Counts.{Grows, move_grows, reach_grows}

module _ (order : List Event) (n : ModelNode) where
  free : (m : ModelNode) → Reaches order (Unit {0}) true n 0 m → Grows 0 n m
  free = reach_grows order (Unit {0}) true n 0

  first_grows : (queue : List Message) → n.outbox ≡ queue → Grows 0 n (first_sent n queue)
  first_grows [] is = free n Here
  first_grows (m ∷ ms) is = move_grows order (Unit {0}) n Joint _ (Orders (m ∷ []) ms is)

  pub sent_out_grows : Grows 0 n (sent_out n)
  sent_out_grows = first_grows n.outbox refl

  pub take_grows : Grows 0 n (take_step order n).1
  take_grows = free _ (take_moves order _ true n)

  pub certify_grows : Grows 0 n (certify_step order n).1
  certify_grows = free _ (certify_moves order _ true n)

  pub start_grows : (number : ℕ) → Grows 0 n (start_step order n number).1
  start_grows number =
      reach_grows order (CanTakeBack n) true n 0 _
      (start_moves order (CanTakeBack n) n number (λ g inside. g))

  pub finish_grows : (number : ℕ) → Grows 0 n (finish_step n number).1
  finish_grows number = free _ (finish_moves order _ n number)

  pub advance_grows : Grows 0 n (advance_step order n).1
  advance_grows = free _ (advance_moves order _ n)

  pub step_grows : (a : Act) → Grows 1 n (node_step order n a).1
  step_grows a = reach_grows order (CanStep n a) true n 1 _ (step_moves order n a)
