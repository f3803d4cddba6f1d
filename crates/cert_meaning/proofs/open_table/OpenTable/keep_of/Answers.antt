-- The closure leaves the entries of the listed members.
use Rattle.std.proofs.Common.{rules, tests, List, ap, ◌∙◌}
use Rattle.std.proofs.lemmas.Map.Made.{filter_same_pairs}
use Rattle.finite_map.specs.FiniteMap.{FiniteMap, retain_keys}
use Rattle.wsrep_base.specs.Trx.{trx_cmp}
use Rattle.cert_meaning.specs.State.{Fragment}
use Rattle.cert_meaning.specs.Fold.{is_of}
use Rattle.cert_meaning.proofs.TreeLemmas.{retain-tree}
use Rattle.cert_meaning.proofs.TrxLemmas.{trx_total, trx_exact}
use Rattle.cert_meaning.proofs.open_table.OpenTable.keep_of.Goals as goal

pub returns : goal.returns
returns c =
    retain-tree trx_total trx_exact (is_of c.args.members.now) c.self.inside.open.entries _
    (filter_same_pairs _ (λ e. is_of c.args.members.now e.0) _ (λ k v b w g called. search (rules, tests)) _ _ c.retain.ensures.filtered)
    ∙ ap (λ (table : FiniteMap trx_cmp (List Fragment)). retain_keys table (is_of c.args.members.now)) c.self.view_is
