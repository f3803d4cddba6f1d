-- The map answers as the tree does.
use Rattle.std.proofs.Common.{List, sym, ap, ◌∙◌}
use Rattle.std.specs.Prelude.{is_some}
use Rattle.finite_map.specs.FiniteMap.{FiniteMap, get}
use Rattle.wsrep_base.specs.Trx.{trx_cmp}
use Rattle.cert_meaning.specs.State.{Fragment}
use Rattle.cert_meaning.proofs.TreeLemmas.{get-tree}
use Rattle.cert_meaning.proofs.TrxLemmas.{trx_total}
use Rattle.cert_meaning.proofs.open_table.OpenTable.is_open.Goals as goal

pub returns : goal.returns
returns c =
    c.contains_key.ensures ∙ ap is_some (sym (get-tree trx_total c.self.inside.open.entries c.args.trx)
    ∙ ap (λ (open_trx : FiniteMap trx_cmp (List Fragment)). get open_trx c.args.trx) c.self.view_is)
