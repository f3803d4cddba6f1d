-- The new key is numbered after all that are at its parts, of which there are no more than entries.
use Rattle.std.proofs.Common.{ap, ◌∙◌, ◌+◌, Some, arith}
use Rattle.std.specs.Option.{unwrap_or}
use Rattle.key_sets.specs.Parts.{parts_eq}
use Rattle.row_locks.specs.HolderIndex.{place_at}
use Rattle.row_locks.specs.LockKeys.{holder_eq, key_of}
use Rattle.row_locks.proofs.HolderLemmas.{cond-ap}
use Rattle.row_locks.proofs.IndexLemmas.{count-le, holder_test, parts_test}
use Rattle.row_locks.proofs.NumberLemmas.{numbered_more}
use Rattle.row_locks.proofs.holder_index.HolderIndex.add.Goals as goal

pub prove-unreachable-requires : goal.prove-unreachable-requires
prove-unreachable-requires c =
    let fewer = count-le c.args.self.now c.args.key.parts c.requires.index in
    omega (arith, fewer, c.count-number.ensures, c.len.ensures.len, c.if-prove.true)

pub returns-clause-index : goal.returns-clause-index
returns-clause-index c =
    let p = c.args.key.parts in let h = c.args.key.holder in
    numbered_more _ _ _ _ _ _ c.requires.index p (parts_eq p) (parts_test p) h (holder_eq h)
    (holder_test h) c.count-number.result c.count-number.ensures c.requires.fresh
    (λ r. ap (λ o. unwrap_or o 0) (c.put-3.ensures.values r)
    ∙ cond-ap (λ o. unwrap_or o 0) (parts_eq p r) (Some (c.count-number.result + 1)) _)
    (λ r n. c.put-2.ensures.values (place_at r n)) (λ r g. c.put.ensures.values (key_of g r))
