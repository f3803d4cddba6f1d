-- Where a node's messages behind what it took are those that it had ordered, no take is split.
use Rattle.std.proofs.Common.{◌≡◌, ◌+◌, List, Option, Some, None, refl, ap, ◌∙◌, add-one, arith}
use Rattle.std.specs.Prelude.{◌==◌, not, slice_get}
use Rattle.std.specs.List.{cons_option}
use Rattle.std.proofs.lemmas.Bool.{cond_both}
use Rattle.std.proofs.lemmas.Slice.Eq.{bytes_eq-Decides}
use Rattle.order_event.specs.declared.event.Event.{Event}
use Rattle.order_event.specs.declared.event.Event.TheVariants as event
use Rattle.order_event.specs.declared.event.Message.{Message}
use Rattle.order_event.specs.declared.step.Answer.{Answer}
use Rattle.order_event.specs.declared.step.Answer.TheVariants as answer
use Rattle.node_meaning.specs.declared.progress.Phase.TheVariants as phase
use Rattle.node_meaning.specs.Node.{ModelNode}
use Rattle.node_meaning.specs.Steps.{is_write, is_report, without_first, unqueued, took, take_event, take_step}
use Rattle.node_meaning.proofs.CertifyFacts.{drop_one}
use Rattle.node_laws.proofs.Moves.{with_taken}
use Rattle.node_laws.specs.InStep.{message_of, messages_behind, IsInStep}
use Rattle.course_laws.specs.Laws.{NoSplit}

module _ (order : List Event) (n : ModelNode) (h : IsInStep order n) where
  abbrev behind : List Message
  behind = messages_behind n.at.member (n.at.taken + 1) order

  -- what the event was sent as leaves the queue
  abbrev Unqueued : Option ModelNode → Type 0
  Unqueued o = (ordered : List Message) × (o ≡ Some (record n { ordered = ordered }))

  first_is : (e : Event) → slice_get order n.at.taken ≡ Some e
      → n.ordered ≡ cons_option (message_of n.at.member e) behind
  first_is e there =
      h ∙ rw (add-one, drop_one order n.at.taken e there)

  unqueued_by : (e : Event) → slice_get order n.at.taken ≡ Some e → Unqueued (unqueued n e)
  unqueued_by (event.Write sender body) there =
      let first = first_is (event.Write sender body) there in
      let left = without_first is_write n.ordered in
      cond_both (not (sender == n.at.member)) (Some n) _ Unqueued (λ _. (n.ordered, refl)) (λ own. (
        left,
        grind (arith, first, own, (bytes_eq-Decides body body).1 refl),
      ))
  unqueued_by (event.Report sender number) there =
      let left = without_first is_report n.ordered in
      cond_both (sender == n.at.member) (Some (record n { ordered = left })) (Some n) Unqueued
      (λ _. (left, refl)) (λ _. (n.ordered, refl))
  unqueued_by (event.View version members) there = (n.ordered, refl)

  module _ (connected : n.at.phase ≡ phase.Connected) where
    -- the next event is taken
    pub record IsTaken : Type 0 where
      pub ordered : List Message
      pub is : take_step order n ≡ (answer.Took (n.at.taken + 1), with_taken n ordered)

    step_is : take_step order n ≡ take_event n (slice_get order n.at.taken)
    unfolding take_step
    step_is = rw connected

    pub taken : (e : Event) → slice_get order n.at.taken ≡ Some e → IsTaken
    taken e there =
        let u = unqueued_by e there in record {
          ordered = u.0;
          is = step_is ∙ ap (take_event n) there ∙ ap (took n) u.1;
        }

    split_by : (o : Option Event) → slice_get order n.at.taken ≡ o
        → (take_step order n).0 ≡ answer.Split → ⊥
    split_by None there is =
        let none = ap (λ (x : Answer × ModelNode). x.0) (step_is ∙ ap (take_event n) there) in cc
    split_by (Some e) there is =
        let took = ap (λ (x : Answer × ModelNode). x.0) (taken e there).is in cc

    pub no_split : NoSplit order n
    no_split = split_by (slice_get order n.at.taken) refl
