-- Nothing is held any more, or the events for which the new one leaves room, and it.
use Rattle.std.proofs.Common.{◌≡◌, ◌+◌, ◌-◌, length, sym, subst, ◌∙◌, arith}
use Rattle.std.specs.Prelude.{Some}
use Rattle.gcache_ring.specs.Held.{room_beside, total}
use Rattle.gcache_ring.proofs.HeldLemmas.{held-large, room_is_none, pushed, pushed-held}
use Rattle.gcache_ring.proofs.ring.put.Goals as goal

pub returns-in_default-clause-held : goal.returns-in_default-clause-held
returns-in_default-clause-held c =
    let over = room_is_none c.args.size c.args.event (sym c.room_beside.ensures ∙ c.in_default.is) in
    c.clear.ensures.items ∙ sym (held-large c.args.size c.args.events.now.items c.args.event over)

pub overflow_add-result : goal.overflow_add-result
overflow_add-result c =
    let kept = c.drop_oldest-left.new.events.items in
    let is : room_beside c.args.size c.args.event ≡ Some c.in-Some.room = sym c.room_beside.ensures ∙ c.in-Some.is in
    let all = pushed c.args.size c.in-Some.room c.drop_oldest-left.result (length kept) c.args.events.now.items kept c.args.event
    is c.drop_oldest-left.ensures.used c.drop_oldest-left.ensures.held c.drop_oldest-left.ensures.few c.requires.members (omega arith) in
    omega (arith, all.fits, c.ranges)

pub returns-clause-held : goal.returns-clause-held
returns-clause-held c =
    let is : room_beside c.args.size c.args.event ≡ Some c.in-Some.room = sym c.room_beside.ensures ∙ c.in-Some.is in
    c.push_back_reserved.ensures.items
    ∙ pushed-held c.args.size c.in-Some.room c.args.events.now.items c.drop_oldest-left.new.events.items c.args.event is
    c.drop_oldest-left.ensures.held

pub returns-clause-used : goal.returns-clause-used
returns-clause-used c =
    let kept = c.drop_oldest-left.new.events.items in
    let is : room_beside c.args.size c.args.event ≡ Some c.in-Some.room = sym c.room_beside.ensures ∙ c.in-Some.is in
    let all = pushed c.args.size c.in-Some.room c.drop_oldest-left.result (length kept) c.args.events.now.items kept c.args.event
    is c.drop_oldest-left.ensures.used c.drop_oldest-left.ensures.held c.drop_oldest-left.ensures.few c.requires.members (omega arith) in
    subst (λ items. c.drop_oldest-left.result + (c.args.size - c.in-Some.room) ≡ total items) (sym c.push_back_reserved.ensures.items) all.sum

pub returns-clause-fits : goal.returns-clause-fits
returns-clause-fits c =
    let kept = c.drop_oldest-left.new.events.items in
    let is : room_beside c.args.size c.args.event ≡ Some c.in-Some.room = sym c.room_beside.ensures ∙ c.in-Some.is in
    let all = pushed c.args.size c.in-Some.room c.drop_oldest-left.result (length kept) c.args.events.now.items kept c.args.event
    is c.drop_oldest-left.ensures.used c.drop_oldest-left.ensures.held c.drop_oldest-left.ensures.few c.requires.members (omega arith) in
    all.fits
