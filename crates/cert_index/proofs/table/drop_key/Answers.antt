-- What is old goes at both pairs of a row's key, and at the one of a table's.
use Rattle.std.proofs.Common.{sym, ap, ◌∙◌, cond}
use Rattle.std.specs.Map.{lookup}
use Rattle.cert_index.specs.declared.pair.Pair.{Pair}
use Rattle.cert_index.specs.Index.{only_above}
use Rattle.cert_index.specs.Pairs.{pair_eq}
use Rattle.cert_index.proofs.PairLemmas.{drop-row, drop-table}
use Rattle.cert_index.proofs.table.drop_key.Goals as goal

pub returns-then-is_some : goal.returns-then-is_some
returns-then-is_some c = λ q.
    let first = lookup (pair_eq q) c.drop_latest.new.latest.entries in
    drop-row c.args.to c.args.key.now q (sym c.is_some.ensures ∙ c.if-is_some.true) _ first (c.drop_latest.ensures q) _
    (c.drop_latest-then-is_some.ensures q
    ∙ ap (λ (p : Pair). cond (pair_eq p q) (only_above c.args.to first) first) c.table_pair.ensures)

pub returns-else-is_some : goal.returns-else-is_some
returns-else-is_some c = λ q.
    drop-table c.args.to c.args.key.now q (sym c.is_some.ensures ∙ c.if-is_some.false) _ _ (c.drop_latest.ensures q)
