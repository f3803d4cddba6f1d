-- A Finished number goes to the end of the window as an Idle one.
use Rattle.std.proofs.Common.{◌≡◌, ◌+◌, ◌<◌, List, sym, subst, ◌∙◌, ap, arith}
use borrow.Author.Tests.{ltb-true}
use Rattle.ordered_monitor.specs.declared.entry.EntryState.{EntryState}
use Rattle.ordered_monitor.specs.Entries.{leading, moved, FinishedFit}
use Rattle.ordered_monitor.proofs.MovedLemmas.{moved-turned, leading-turned, fit-turned}
use Rattle.ordered_monitor.proofs.monitor.moved_over_finished.Goals as goal

pub loop-window-smaller : goal.loop-window-smaller
loop-window-smaller c =
    let states : List EntryState = c.loop-window.window.items in
    let some : 0 < leading states = ltb-true _ _ (sym c.begins_finished.ensures ∙ c.loop-window-test.true) in
    let less : leading c.rotate_left.new.self.items + 1 ≡ leading states =
    ap (λ xs. leading xs + 1) c.rotate_left.ensures.items ∙ leading-turned states some in
    omega (arith, less)

pub loop-window-preserved : goal.loop-window-preserved
loop-window-preserved c =
    let states : List EntryState = c.loop-window.window.items in
    let some : 0 < leading states = ltb-true _ _ (sym c.begins_finished.ensures ∙ c.loop-window-test.true) in
    record {
      same = ap (moved (c.loop-window.last_left + 1)) c.rotate_left.ensures.items
          ∙ moved-turned c.loop-window.last_left states some ∙ c.loop-window.invariant.same;
      fits = subst (FinishedFit (c.loop-window.last_left + 1)) (sym c.rotate_left.ensures.items)
          (fit-turned c.loop-window.last_left states some c.loop-window.invariant.fits);
    }
