-- The tree gets the transaction.
use Rattle.std.proofs.Common.{List, ap, ◌∙◌}
use Rattle.finite_map.specs.FiniteMap.{FiniteMap, insert}
use Rattle.wsrep_base.specs.Trx.{trx_cmp}
use Rattle.cert_meaning.specs.State.{Fragment}
use Rattle.cert_meaning.proofs.TreeLemmas.{insert-tree}
use Rattle.cert_meaning.proofs.TrxLemmas.{trx_total, trx_exact}
use Rattle.cert_meaning.proofs.open_table.OpenTable.put.Goals as goal

pub returns : goal.returns
returns c =
    let trx = c.args.item.trx in
    let fragments = c.in_ok-gathered.gathered in
    insert-tree trx_total trx_exact c.self.inside.open.entries _ trx fragments c.in_ok-insert.ensures.updates.0
    ∙ ap (λ (table : FiniteMap trx_cmp (List Fragment)). insert table trx fragments) c.self.view_is
    ∙ ap (insert c.args.self.now trx) c.in_ok-gathered.ensures
