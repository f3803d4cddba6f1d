-- Taking an event is at most one move.
use Rattle.std.proofs.Common.{◌≡◌, ℕ, Bool, true, false, cond, List, ◌++◌, Option, None, Some, refl, ap, sym, ◌∙◌}
use Rattle.std.specs.Prelude.{◌==◌, not, slice_get}
use Rattle.std.specs.List.{filter_map, find}
use Rattle.order_event.specs.declared.event.Event.{Event}
use Rattle.order_event.specs.declared.event.Event.TheVariants as event
use Rattle.order_event.specs.declared.step.Answer.TheVariants as answer
use Rattle.node_meaning.specs.Node.{ModelNode, is_connected}
use Rattle.node_meaning.specs.Steps.{is_write, is_report, without_first, is_this_write, unqueued, took, take_event, take_step}
use Rattle.node_meaning.specs.Facts.{sent_body}
use Rattle.node_meaning.proofs.TakeFacts.{first_body, without_report, is_write_of, none_own, own_one}
use Rattle.node_laws.proofs.Moves.{Takes, Reaches, Here, one, chosen}

module _ (order : List Event) (given : Type 0) (works : Bool) (n : ModelNode)
    (connected : is_connected n.at.phase ≡ true) where
  abbrev write_left : Bool → Bool → Option ModelNode
  write_left own here =
      cond (not own) (Some n) (cond here (Some (record n { ordered = without_first is_write n.ordered })) None)

  -- what is left of the node, by whose write set it is and whether it is the first of the queue
  unqueued_write : (sender : ℕ) (body : List ℕ) (own here : Bool) → sender == n.at.member ≡ own
      → is_this_write body (find is_write n.ordered) ≡ here
      → unqueued n (event.Write sender body) ≡ write_left own here
  unqueued_write sender body own here own_is here_is = λ i. write_left (own_is i) (here_is i)

  write_moves : (sender : ℕ) (body : List ℕ) (own here : Bool) → slice_get order n.at.taken ≡ Some (event.Write sender body)
      → sender == n.at.member ≡ own → is_this_write body (find is_write n.ordered) ≡ here
      → Reaches order given works n 0 (took n (write_left own here)).1
  write_moves sender body false here there own_is here_is =
      one 0 n _ (Takes (event.Write sender body) n.ordered there (record {
        connected = connected;
        queue = unqueued_write sender body false here own_is here_is;
        bodies = ap (λ bodies. bodies ++ filter_map sent_body (n.ordered ++ n.outbox))
            (sym (none_own n.at.member sender body false own_is refl));
      }))
  write_moves sender body true true there own_is here_is =
      let left = without_first is_write n.ordered in
      one 0 n _ (Takes (event.Write sender body) left there (record {
        connected = connected;
        queue = unqueued_write sender body true true own_is here_is;
        bodies = first_body body n.ordered n.outbox (is_write_of body (find is_write n.ordered) here_is)
            ∙ ap (λ bodies. bodies ++ filter_map sent_body (left ++ n.outbox))
            (sym (own_one n.at.member sender body own_is));
      }))
  write_moves sender body true false there own_is here_is = Here

  abbrev report_left : Bool → Option ModelNode
  report_left own = cond own (Some (record n { ordered = without_first is_report n.ordered })) (Some n)

  report_moves : (sender number : ℕ) (own : Bool) → slice_get order n.at.taken ≡ Some (event.Report sender number)
      → sender == n.at.member ≡ own → Reaches order given works n 0 (took n (report_left own)).1
  report_moves sender number true there own_is =
      one 0 n _ (Takes (event.Report sender number) (without_first is_report n.ordered) there
      (record { connected = connected; queue = ap report_left own_is; bodies = without_report n.ordered n.outbox }))
  report_moves sender number false there own_is =
      one 0 n _ (Takes (event.Report sender number) n.ordered there
      (record { connected = connected; queue = ap report_left own_is; bodies = refl }))

  event_moves : (e : Event) → slice_get order n.at.taken ≡ Some e → Reaches order given works n 0 (took n (unqueued n e)).1
  event_moves (event.Write sender body) there =
      write_moves sender body (sender == n.at.member) (is_this_write body (find is_write n.ordered)) there refl refl
  event_moves (event.Report sender number) there = report_moves sender number (sender == n.at.member) there refl
  event_moves (event.View version members) there =
      one 0 n _ (Takes (event.View version members) n.ordered there (record { connected = connected; queue = refl; bodies = refl }))

  next_moves : (o : Option Event) → slice_get order n.at.taken ≡ o → Reaches order given works n 0 (take_event n o).1
  next_moves None there = Here
  next_moves (Some e) there = event_moves e there

pub take_moves : (order : List Event) (given : Type 0) (works : Bool) (n : ModelNode)
    → Reaches order given works n 0 (take_step order n).1
unfolding take_step
take_moves order given works n =
    chosen 0 n (is_connected n.at.phase) (take_event n (slice_get order n.at.taken))
    (answer.Nothing, n)
    (λ connected. next_moves order given works n connected (slice_get order n.at.taken) refl)
    (λ _. Here)
