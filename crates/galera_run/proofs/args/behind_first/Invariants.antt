use Rattle.std.proofs.Common.{◌≡◌, ◌++◌, drop}
use Rattle.std.specs.Vec.Iter.{into_iter_items, into_iter_len}
use Rattle.galera_run.proofs.args.behind_first.Given as goal

abbrev pub invariant-words : goal.invariant-words
invariant-words l = drop 1 (into_iter_items l.fn.given) ≡ l.words.items ++ into_iter_items l.given

abbrev pub decreases-words : goal.decreases-words
decreases-words l = into_iter_len l.given
