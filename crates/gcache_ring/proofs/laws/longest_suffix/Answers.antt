use Rattle.gcache_ring.proofs.HeldLemmas.{held-suffix, held-fits, held-longest, held-again}
use Rattle.gcache_ring.proofs.laws.longest_suffix.Goals as goal

pub returns : goal.returns
returns c = record { suffix = held-suffix; fits = held-fits; longest = held-longest; grows = held-again }
