-- The transaction's entry is taken out.
use Rattle.std.proofs.Common.{List, ap, ◌∙◌}
use Rattle.finite_map.specs.FiniteMap.{FiniteMap, remove}
use Rattle.wsrep_base.specs.Trx.{trx_cmp}
use Rattle.cert_meaning.specs.State.{Fragment}
use Rattle.cert_meaning.proofs.TreeLemmas.{remove-tree}
use Rattle.cert_meaning.proofs.TrxLemmas.{trx_total, trx_exact}
use Rattle.cert_meaning.proofs.open_table.OpenTable.close.Goals as goal

pub returns : goal.returns
returns c =
    remove-tree trx_total trx_exact c.self.inside.open.entries _ c.args.trx c.remove.ensures.updates.0
    ∙ ap (λ (open_trx : FiniteMap trx_cmp (List Fragment)). remove open_trx c.args.trx) c.self.view_is
