-- The donor hands over what the model's donor does.
use Rattle.std.proofs.Common.{◌≡◌, true, refl, sym, ap, subst, ◌∙◌, arith, Some}
use Rattle.std.proofs.lemmas.Result.{IfOk-weaker}
use Rattle.std.specs.Str.{bytes_eq}
use Rattle.std.proofs.Common.{rules}
use Rattle.std.proofs.lemmas.Slice.Eq.{bytes_eq-Decides}
use Rattle.order_event.specs.declared.step.Answer.TheVariants as answer
use Rattle.state_transfer.specs.declared.transfer.Plan.TheVariants as plan
use Rattle.node_meaning.specs.Joining.{received_events, transfer_from}
use Rattle.node_core.specs.Giving.{Gives}
use Rattle.node_core.specs.Stands.{plain_of}
use Rattle.cluster_core.specs.Transfers.{IsOffer}
use Rattle.cluster_core.proofs.TransferLaws.{handing, from_plan, plan_is, brings_next}
use Rattle.cluster_core.proofs.transfer.offer_of.Goals as goal

pub returns-in_ok-gift-in-Ist-clause-ok : goal.returns-in_ok-gift-in-Ist-clause-ok
returns-in_ok-gift-in-Ist-clause-ok g c order n can joiner =
    let tested : c.eq-same.result ≡ bytes_eq c.args.joiner.id c.place.result.id = search (rules, bytes_eq-Decides) in
    let took = c.taken-taken.ensures in
    let more = c.if-taken-joiner.false in
    let connected = sym c.is_connected.ensures ∙ c.if-not-is_connected.false in
    let is = sym c.in-Ist.is ∙ c.plan.ensures
    ∙ plan_is order n (plain_of c.args.donor.now.parts) c.eq-same.result c.args.committed c.range.result c.args.joiner.id c.place.result.id c.ring.result.now
    tested joiner.id c.place.ensures.id joiner.committed_is c.range.ensures (c.ring.ensures order can.stands) in
    handing order n c.handed.result (transfer_from order n (Some (plain_of c.args.donor.now.parts))) (answer.Ist c.in-Ist.from c.args.donor.now.parts.at.taken)
    (received_events c.args.donor.now.parts.at.taken n) c.in_ok-gift-in-Ist.gift
    (from_plan order n (plain_of c.args.donor.now.parts) connected (plan.Ist c.in-Ist.from) (omega (arith, took, more, joiner.view)) is) refl
    (c.handed.ensures.0 ∙ ap (answer.Ist c.in-Ist.from) took, c.handed.ensures.1)
    (brings_next order n c.args.donor.now.parts can c.in-Ist.from joiner.awaits connected is c.in_ok-gift-in-Ist.gift
    (subst (Gives order (plain_of c.args.donor.now.parts) c.in-Ist.from true) c.in_ok-gift-in-Ist.ensures (c.give.ensures order can.stands)))

pub returns-in-Sst-clause-ok : goal.returns-in-Sst-clause-ok
returns-in-Sst-clause-ok g c =
    IfOk-weaker c.snapshot.result _ _ (λ offer made order n can joiner.
    let tested : c.eq-same.result ≡ bytes_eq c.args.joiner.id c.place.result.id = search (rules, bytes_eq-Decides) in
    let took = c.taken-taken.ensures in
    let more = c.if-taken-joiner.false in
    let connected = sym c.is_connected.ensures ∙ c.if-not-is_connected.false in
    let is = sym c.in-Sst.is ∙ c.plan.ensures
    ∙ plan_is order n (plain_of c.args.donor.now.parts) c.eq-same.result c.args.committed c.range.result c.args.joiner.id c.place.result.id c.ring.result.now
    tested joiner.id c.place.ensures.id joiner.committed_is c.range.ensures (c.ring.ensures order can.stands) in
    subst (λ t. IsOffer order n t offer) (sym (from_plan order n (plain_of c.args.donor.now.parts) connected plan.Sst (omega (arith, took, more, joiner.view)) is))
    (made order n can joiner.view))
    c.snapshot.ensures.ok
