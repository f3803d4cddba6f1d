-- Either nothing is held any more, or the events for which the new one leaves room, and it.
use Rattle.std.proofs.Common.{◌≡◌, ◌+◌, ◌≤◌, List, [], ◌∷◌, ◌++◌, length, sym, ap, subst, ◌∙◌, arith}
use Rattle.std.specs.Prelude.{Some}
use Rattle.order_event.specs.declared.event.Event.{Event}
use Rattle.gcache_ring.specs.Held.{Ring, room_beside, with_event}
use Rattle.gcache_ring.proofs.HeldLemmas.{Pushed, held-large, room_is_none, pushed, pushed-held}
use Rattle.gcache_ring.proofs.ring.Ring.push.Goals as goal

pub returns-in_default-clause-ok : goal.returns-in_default-clause-ok
returns-in_default-clause-ok c =
    let size = c.self.inside.size in
    let e = c.args.event.now in
    let made : List Event → Ring = λ events. record { size = size; last = c.self.inside.last + 1; events = events } in
    let over = room_is_none size e (sym c.room_beside.ensures ∙ c.in_default.is) in
    ap made (c.clear.ensures.items ∙ sym (held-large size c.self.inside.events.items e over))
    ∙ ap (λ (ring : Ring). with_event ring e) c.self.view_is

pub overflow_add-self-2 : goal.overflow_add-self-2
overflow_add-self-2 c =
    let kept = c.drop_oldest-self-inside.new.events in
    let is : room_beside c.self.inside.size c.args.event.now ≡ Some c.in-Some.room = sym c.room_beside.ensures ∙ c.in-Some.is in
    let count : length kept.items ≤ c.self.inside.last = omega (arith, kept.ok.0, c.self.inside.events.ok.0, c.self.invariant.2) in
    let all = pushed c.self.inside.size c.in-Some.room c.drop_oldest-self-inside.result c.self.inside.last c.reserve.new.self.items kept.items
    c.args.event.now is c.drop_oldest-self-inside.ensures.used c.drop_oldest-self-inside.ensures.held
    c.drop_oldest-self-inside.ensures.few c.requires.members count in
    omega (arith, all.fits, c.self.ranges)

pub invariant_of-self-2 : goal.invariant_of-self-2
invariant_of-self-2 c =
    let kept = c.drop_oldest-self-inside.new.events in
    let is : room_beside c.self.inside.size c.args.event.now ≡ Some c.in-Some.room = sym c.room_beside.ensures ∙ c.in-Some.is in
    let count : length kept.items ≤ c.self.inside.last = omega (arith, kept.ok.0, c.self.inside.events.ok.0, c.self.invariant.2) in
    let same : kept.items ++ c.args.event.now ∷ [] ≡ c.push_back_reserved.new.self.items =
    ap (λ (e : Event). kept.items ++ e ∷ []) (sym c.in_ok-event.ensures) ∙ sym c.push_back_reserved.ensures.items in
    let all = subst (Pushed c.self.inside.size c.in-Some.room c.drop_oldest-self-inside.result c.self.inside.last) same
    (pushed c.self.inside.size c.in-Some.room c.drop_oldest-self-inside.result c.self.inside.last c.reserve.new.self.items kept.items
    c.args.event.now is c.drop_oldest-self-inside.ensures.used c.drop_oldest-self-inside.ensures.held
    c.drop_oldest-self-inside.ensures.few c.requires.members count) in
    (all.sum, all.fits, all.count, all.few)

pub returns-clause-ok : goal.returns-clause-ok
returns-clause-ok c =
    let size = c.self.inside.size in
    let e = c.args.event.now in
    let kept = c.drop_oldest-self-inside.new.events in
    let is : room_beside size e ≡ Some c.in-Some.room = sym c.room_beside.ensures ∙ c.in-Some.is in
    let made : List Event → Ring = λ events. record { size = size; last = c.self.inside.last + 1; events = events } in
    ap made (c.push_back_reserved.ensures.items ∙ ap (λ (e : Event). kept.items ++ e ∷ []) c.in_ok-event.ensures
    ∙ pushed-held size c.in-Some.room c.reserve.new.self.items kept.items e is c.drop_oldest-self-inside.ensures.held)
    ∙ ap (λ before. with_event (record { size = size; last = c.self.inside.last; events = before }) e) c.in_ok-reserve.ensures.items
    ∙ ap (λ (ring : Ring). with_event ring e) c.self.view_is
