use Rattle.std.proofs.Common.{◌≡◌}
use Rattle.finite_map.specs.FiniteMap.{len}
use Rattle.sr_fragments.specs.OpenSet.{dropped}
use Rattle.sr_fragments.proofs.open_set.OpenSet.drop_member.Given as goal

-- what is to be dropped is dropped in the end
abbrev pub invariant-loop-trx : goal.invariant-loop-trx
invariant-loop-trx l = dropped l.self l.member ≡ dropped l.fn.self l.member

abbrev pub decreases-loop-trx : goal.decreases-loop-trx
decreases-loop-trx l = len l.self
