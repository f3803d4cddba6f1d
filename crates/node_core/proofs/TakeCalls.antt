-- Taking an event does what the model does.
use Rattle.std.proofs.Common.{rules, ◌≡◌, ℕ, ◌+◌, Bool, true, false, List, [], ◌∷◌, ◌++◌, Some, refl, ap, sym, subst, ◌∙◌, arith}
use Rattle.std.specs.Prelude.{◌==◌, slice_get}
use Rattle.std.specs.List.{find}
use Rattle.order_event.specs.declared.event.Event.{Event}
use Rattle.order_event.specs.declared.event.Event.TheVariants as event
use Rattle.order_event.specs.declared.step.Answer.TheVariants as answer
use Rattle.node_meaning.specs.Node.{ModelNode, is_connected}
use Rattle.node_meaning.specs.Steps.{take_step, took, unqueued, is_write, is_report, is_this_write}
use Rattle.node_parts.specs.Queue.{Queued, taken as without_oldest}
use Rattle.node_core.specs.declared.node.NodeParts.{NodeParts}
use Rattle.node_core.specs.declared.answers.Taken.{Taken}
use Rattle.node_core.specs.declared.answers.Taken.TheVariants as taken
use Rattle.node_core.specs.Answers.{taken_answer}
use Rattle.node_laws.proofs.StepFacts.{take_keeps}
use Rattle.node_core.specs.Stands.{Stands, DoneOver, plain_of}
use Rattle.node_core.specs.Taking.{with_event, took_with, taken_own}
use Rattle.std.proofs.lemmas.Bool.{eq-eqb, ne_eqb}
use Rattle.node_core.proofs.Standing.{taken_one, pushed_one, facts_by}

module _ (order : List Event) (old : NodeParts) (stands : Stands order old) where
  -- a node that is not connected takes nothing
  pub take_away : is_connected old.at.phase ≡ false
      → DoneOver order (take_step order) old old answer.Nothing
  unfolding take_step
  take_away none = record { same = rw none refl; stands = stands }

  module _ (e : Event) (connected : is_connected old.at.phase ≡ true)
      (there : slice_get order old.at.taken ≡ Some e) where
    step_is : take_step order (plain_of old) ≡ took (plain_of old) (unqueued (plain_of old) e)
    unfolding take_step
    step_is = rw (connected, there) refl

    -- an event of another member, or the oldest message of the queue
    pub take_with : (queue : Queued)
        → unqueued (plain_of old) e
        ≡ Some (record (plain_of old) { ordered = queue.ordered; outbox = queue.outbox })
        → DoneOver order (take_step order) old (with_event old e queue)
        (answer.Took (old.at.taken + 1))
    take_with queue is =
        let fits = stands.facts.in_order in
        let same = sym (step_is ∙ ap (took (plain_of old)) is) in
        record {
          same = same;
          stands = record {
            inbox = ap (λ events. events ++ e ∷ []) stands.inbox
                ∙ taken_one order old.at.certified old.at.taken e fits.certified_fits
                fits.taken_fits there;
            certification = stands.certification;
            tables = search rules;
            serves = record {
              ring = pushed_one order old e stands.serves fits.taken_fits there;
              since = omega (arith, stands.serves.since);
              id = stands.serves.id;
            };
            facts = facts_by order (take_step order) old (with_event old e queue)
                (answer.Took (old.at.taken + 1)) stands same (take_keeps order (plain_of old));
          };
        }

    -- it is taken so where the call made that of it
    took_so : (r : Taken) (new : NodeParts) (queue : Queued) → (r, new) ≡ took_with old e queue
        → unqueued (plain_of old) e
        ≡ Some (record (plain_of old) { ordered = queue.ordered; outbox = queue.outbox })
        → DoneOver order (take_step order) old new (taken_answer r)
    took_so r new queue made is =
        subst (λ (p : Taken × NodeParts). DoneOver order (take_step order) old p.1
        (taken_answer p.0)) (sym made) (take_with queue is)

    -- a write set of the node's own member
    own_taken : (sender : ℕ) (body : List ℕ) (r : Taken) (new : NodeParts) (here : Bool)
        → e ≡ event.Write sender body → sender == old.at.member ≡ true
        → is_this_write body (find is_write old.queue.ordered) ≡ here
        → (r, new) ≡ taken_own here old e
        → DoneOver order (take_step order) old new (taken_answer r)
    own_taken sender body r new true is own here made =
        took_so r new (without_oldest is_write old.queue) made (rw (is, own, here) refl)
    own_taken sender body r new false is own here made =
        subst (λ (p : Taken × NodeParts). DoneOver order (take_step order) old p.1
        (taken_answer p.0)) (sym made)
        (record { same = sym (rw (is, own, here) at step_is); stands = stands })

    pub own_does : (sender : ℕ) (body : List ℕ) (r : Taken) (new : NodeParts)
        → e ≡ event.Write sender body → sender ≡ old.at.member
        → (r, new) ≡ taken_own (is_this_write body (find is_write old.queue.ordered)) old e
        → DoneOver order (take_step order) old new (taken_answer r)
    own_does sender body r new is own made =
        own_taken sender body r new _ is (eq-eqb sender old.at.member own) refl made

    -- an event that the node did not send
    pub other_does : (r : Taken) (new : NodeParts) → unqueued (plain_of old) e ≡ Some (plain_of old)
        → (r, new) ≡ took_with old e old.queue
        → DoneOver order (take_step order) old new (taken_answer r)
    other_does r new is made = took_so r new old.queue made is

    -- a report of the node's own member
    pub own_report_does : (sender number : ℕ) (r : Taken) (new : NodeParts)
        → e ≡ event.Report sender number → sender ≡ old.at.member
        → (r, new) ≡ took_with old e (without_oldest is_report old.queue)
        → DoneOver order (take_step order) old new (taken_answer r)
    own_report_does sender number r new is own made =
        took_so r new (without_oldest is_report old.queue) made
        (rw (is, eq-eqb sender old.at.member own) refl)

-- events of others leave the queue as it is
pub others_write : (n : ModelNode) (e : Event) (sender : ℕ) (body : List ℕ)
    → e ≡ event.Write sender body → (sender ≡ n.at.member → ⊥) → unqueued n e ≡ Some n
others_write n e sender body is other = rw (is, ne_eqb sender n.at.member other) refl

pub others_report : (n : ModelNode) (e : Event) (sender number : ℕ)
    → e ≡ event.Report sender number → (sender ≡ n.at.member → ⊥) → unqueued n e ≡ Some n
others_report n e sender number is other = rw (is, ne_eqb sender n.at.member other) refl

pub view_stays : (n : ModelNode) (e : Event) (version : ℕ) (members : List ℕ)
    → e ≡ event.View version members → unqueued n e ≡ Some n
view_stays n e version members is = ap (unqueued n) is

-- a split tells the number of the event
pub split_number : (old : NodeParts) (e : Event) (here : Bool) (n : ℕ) → (taken_own here old e).0 ≡ taken.Split n → n ≡ old.at.taken + 1
split_number old e true n is = cc
split_number old e false n is = cc
