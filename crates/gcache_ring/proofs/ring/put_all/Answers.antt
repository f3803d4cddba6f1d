-- The next of the events that are left is pushed.
use Rattle.std.proofs.Common.{◌≡◌, ◌+◌, ◌≤◌, List, [], ◌∷◌, ◌++◌, length, drop, refl, Option, sym, ap, subst, ◌∙◌, arith}
use Rattle.std.specs.Prelude.{option_to_list}
use Rattle.std.specs.List.{AllByRecursion}
use Rattle.order_event.specs.Spelling.{HasFewMembers}
use Rattle.order_event.specs.declared.event.Event.{Event}
use Rattle.gcache_ring.specs.Held.{held}
use Rattle.gcache_ring.proofs.HeldLemmas.{held-all, held-next, append_none}
use Rattle.gcache_ring.proofs.ring.put_all.Goals as goal

pub loop-event-preserved : goal.loop-event-preserved
loop-event-preserved c =
    let inv = c.loop-event.invariant in
    let event = c.in-Some.event in
    let left = c.pop_front.new.self.items in
    let is : c.loop-event.left.items ≡ event ∷ left =
    c.pop_front.ensures.items ∙ ap (λ (o : Option Event). option_to_list o ++ left) c.in-Some.is in
    let few = subst (λ (items : List Event). AllByRecursion HasFewMembers items) is inv.members in
    let count : length c.loop-event.left.items ≡ length left + 1 = ap (λ (items : List Event). length items) is ∙ omega arith in
    let less : length c.put-sum.new.events.items ≤ length c.loop-event.events.items + 1 =
    omega (arith, c.put-sum.ensures.fewer, c.put-sum.new.events.ok.0, c.loop-event.events.ok.0) in
    record {
      held = ap (λ (items : List Event). held c.args.size (items ++ left)) c.put-sum.ensures.held
          ∙ held-next c.args.size c.loop-event.events.items event left
          ∙ ap (λ (items : List Event). held c.args.size (c.loop-event.events.items ++ items)) (sym is)
          ∙ inv.held;
      used = c.put-sum.ensures.used;
      fits = c.put-sum.ensures.fits;
      few = c.put-sum.ensures.few;
      members = few.1;
      room = omega (arith, c.put-sum.ensures.fewer, c.put-sum.ensures.room, inv.room, c.pop_front.ensures.capacity, count, c.pop_front.new.self.ok.0, c.loop-event.left.ok.0);
      fewer = omega (arith, less, count, inv.fewer);
    }

-- a list that is left as it is when its first item goes has none
no_first : (xs : List Event) → xs ≡ drop 1 xs → xs ≡ []
no_first [] same = refl
no_first (x ∷ xs) same = let longer : length (x ∷ xs) ≡ length xs = ap (λ (l : List Event). length l) same in absurd (omega (arith, longer))

pub returns-clause-held : goal.returns-clause-held
returns-clause-held c =
    let inv = c.loop-event.invariant in
    let none : c.loop-event.left.items ≡ c.pop_front.new.self.items =
    c.pop_front.ensures.items ∙ ap (λ (o : Option Event). option_to_list o ++ c.pop_front.new.self.items) c.in_default.is in
    sym (held-all c.args.size c.loop-event.events.items (omega (arith, inv.used, inv.fits)))
    ∙ sym (ap (held c.args.size) (append_none c.loop-event.events.items))
    ∙ ap (λ (items : List Event). held c.args.size (c.loop-event.events.items ++ items))
    (sym (no_first c.loop-event.left.items (none ∙ c.pop_front.ensures.rest)))
    ∙ inv.held
