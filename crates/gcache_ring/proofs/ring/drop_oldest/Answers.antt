-- What is left fits, and so is what is held of it.
use Rattle.std.proofs.Common.{sym, ◌∙◌, arith}
use Rattle.gcache_ring.proofs.HeldLemmas.{held-all}
use Rattle.gcache_ring.proofs.ring.drop_oldest.Goals as goal

pub returns-clause-held : goal.returns-clause-held
returns-clause-held c =
    sym (held-all c.args.limit c.loop-left.events.items (omega arith)) ∙ c.loop-left.invariant.held
