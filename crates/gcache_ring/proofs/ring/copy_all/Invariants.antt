use Rattle.std.proofs.Common.{◌≡◌, ◌++◌, take}
use Rattle.gcache_ring.proofs.ring.copy_all.Given as goal

-- the copies so far
abbrev pub invariant-loop-event : goal.invariant-loop-event
invariant-loop-event l = l.copies.items ≡ l.initial.copies.items ++ take l.event-index l.events
