use Rattle.std.proofs.Common.{◌≡◌, ◌++◌, drop}
use Rattle.gcache_ring.proofs.ring.copied.Given as goal

-- the events so far, and those that are left
abbrev pub invariant-loop-index : goal.invariant-loop-index
invariant-loop-index l = l.list ++ drop l.index l.events.items ≡ drop l.from l.events.items
