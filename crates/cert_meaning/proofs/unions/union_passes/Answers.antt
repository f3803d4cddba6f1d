-- Sets that are small together are not joined; else the keys that are new are counted.
use Rattle.std.proofs.Common.{sym, ap, arith}
use Rattle.std.specs.Prelude.{nat_lt}
use Rattle.std.proofs.lemmas.Bool.{le-ltb}
use Rattle.finite_map.specs.FiniteMap.{len}
use Rattle.key_sets.specs.Keys.{LIMIT, union}
use Rattle.key_sets.proofs.UnionLemmas.{len-union-sum}
use Rattle.cert_meaning.proofs.UnionLemmas.{len-union-new}
use Rattle.cert_meaning.proofs.unions.union_passes.Goals as goal

pub returns-then-len-le-LIMIT : goal.returns-then-len-le-LIMIT
returns-then-len-le-LIMIT c =
    let sum = len-union-sum c.args.one.now c.args.other.now in
    sym (le-ltb LIMIT (len (union c.args.one.now c.args.other.now)) (omega arith))

pub overflow_add-both : goal.overflow_add-both
overflow_add-both c =
    let one = c.args.one.now in
    let other = c.args.other.now in
    let sum = len-union-sum one other in
    let both = len-union-new one other _ _ c.len-3.ensures.count c.new_keys.ensures in
    omega (arith, sum, both)

pub returns : goal.returns
returns c =
    let one = c.args.one.now in
    let other = c.args.other.now in
    ap (nat_lt LIMIT) (len-union-new one other _ _ c.len-3.ensures.count c.new_keys.ensures)
