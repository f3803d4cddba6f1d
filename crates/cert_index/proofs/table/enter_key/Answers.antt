-- The number is put at both pairs of a row's key, and at the one of a table's.
use Rattle.std.proofs.Common.{sym, ap, ◌∙◌, cond, Some}
use Rattle.std.specs.Map.{lookup}
use Rattle.cert_index.specs.declared.pair.Pair.{Pair}
use Rattle.cert_index.specs.Pairs.{pair_eq}
use Rattle.cert_index.proofs.PairLemmas.{put-row, put-table}
use Rattle.cert_index.proofs.table.enter_key.Goals as goal

pub returns-then-is_some-clause-latest : goal.returns-then-is_some-clause-latest
returns-then-is_some-clause-latest c = λ q.
    let first = lookup (pair_eq q) c.put_latest.new.latest.entries in
    put-row c.args.key.now q (sym c.is_some.ensures ∙ c.if-is_some.true) (Some c.args.number) _ first (c.put_latest.ensures.latest q) _
    (c.put_latest-then-is_some.ensures.latest q
    ∙ ap (λ (p : Pair). cond (pair_eq p q) (Some c.args.number) first) c.table_pair.ensures)

pub returns-else-is_some-clause-latest : goal.returns-else-is_some-clause-latest
returns-else-is_some-clause-latest c = λ q.
    put-table c.args.key.now q (sym c.is_some.ensures ∙ c.if-is_some.false) (Some c.args.number) _ _ (c.put_latest.ensures.latest q)
