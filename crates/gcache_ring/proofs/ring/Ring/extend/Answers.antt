-- What is held of the events that it had and of these, one after another.
use Rattle.std.proofs.Common.{◌+◌, ℕ, List, ◌++◌, sym, ap, ◌∙◌, arith}
use Rattle.order_event.specs.declared.event.Event.{Event}
use Rattle.gcache_ring.specs.Held.{Ring, held, with_events}
use Rattle.gcache_ring.proofs.HeldLemmas.{held-all, with_events-is}
use Rattle.gcache_ring.proofs.ring.Ring.extend.Goals as goal

pub returns-clause-ok : goal.returns-clause-ok
returns-clause-ok c =
    let size = c.self.inside.size in
    let before = c.self.inside.events.items in
    let pushed = c.args.events.now in
    let ring : Ring = record { size = size; last = c.self.inside.last; events = before } in
    let fits = held-all size before (omega (arith, c.self.invariant)) in
    ap (λ (items : List Event). record { size = size; last = c.self.inside.last + c.len-2.result; events = items })
    (c.put_all-self-inside.ensures.held
    ∙ ap (λ (items : List Event). held size (items ++ c.copy_all.new.copies.items)) c.in_ok-reserve.ensures.items
    ∙ ap (λ (items : List Event). held size (before ++ items)) (c.in_ok-copy_all.ensures ∙ ap (λ (items : List Event). items ++ c.as_slice.result.now) c.new-more.ensures.items
    ∙ c.as_slice.ensures))
    ∙ ap (λ (count : ℕ). record { size = size; last = c.self.inside.last + count; events = held size (before ++ pushed) }) c.len-2.ensures
    ∙ sym (with_events-is pushed ring fits)
    ∙ ap (λ (r : Ring). with_events r pushed) c.self.view_is
