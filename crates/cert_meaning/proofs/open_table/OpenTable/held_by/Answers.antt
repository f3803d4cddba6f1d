-- Each turn looks at the first transaction that is left.
use Rattle.std.proofs.Common.{◌≡◌, false, List, ◌∷◌, sym, ap, ◌∙◌}
use Rattle.std.specs.Map.Iter.{deref_pair}
use Rattle.std.specs.Ordering.{eq_by_cmp}
use Rattle.std.specs.Cmp.{eq_by_cmp_equiv}
use Rattle.std.proofs.lemmas.Map.Iter.{rest_more}
use Rattle.finite_map.specs.FiniteMap.{FiniteMap}
use Rattle.wsrep_base.specs.Trx.{trx_cmp}
use Rattle.cert_meaning.specs.State.{Fragment}
use Rattle.cert_meaning.specs.Extremes.{greater}
use Rattle.cert_meaning.specs.Verdict.{greatest_touching}
use Rattle.cert_meaning.proofs.TreeLemmas.{entries-tree}
use Rattle.cert_meaning.proofs.TrxLemmas.{trx_total, trx_ties}
use Rattle.cert_meaning.proofs.WholeLemmas.{not_true}
use Rattle.cert_meaning.proofs.OpenLemmas.{left_but, fragments_but-entries, but-step}
use Rattle.cert_meaning.proofs.open_table.OpenTable.held_by.Goals as goal

pub loop-other-init : goal.loop-other-init
loop-other-init c =
    let gives = c.into_iter-other-iterator.ensures.into_iter_gives in
    ap (λ entries. greatest_touching (left_but c.args.other_than entries) c.args.keys.now)
    (gives.0 ∙ sym (entries-tree trx_total c.self.inside.open.entries gives.5)
    ∙ ap (λ (table : FiniteMap trx_cmp (List Fragment)). table.entries) c.self.view_is)
    ∙ ap (λ fragments. greatest_touching fragments c.args.keys.now) (sym (fragments_but-entries c.args.self.now c.args.other_than))

pub loop-other-preserved-then-ne : goal.loop-other-preserved-then-ne
loop-other-preserved-then-ne c =
    let left : c.loop-other.other-iterator ≡ (c.in-Some.other.now, c.in-Some.gathered.now) ∷ c.next.new.self =
    rest_more deref_pair _ _ _ _ c.in-Some.is c.next.ensures.steps in
    let apart : eq_by_cmp trx_cmp c.args.other_than c.in-Some.other.now ≡ false =
    (eq_by_cmp_equiv trx_total).symm c.args.other_than c.in-Some.other.now ∙ sym (trx_ties c.in-Some.other.now c.args.other_than)
    ∙ not_true _ (sym c.ne.ensures ∙ c.if-ne.true) in
    ap (λ so_far. greater so_far (greatest_touching (left_but c.args.other_than c.next.new.self) c.args.keys.now))
    (c.greatest_touching-greatest.ensures ∙ ap (λ (fs : List Fragment). greater c.loop-other.greatest (greatest_touching fs c.args.keys.now)) c.fragments.ensures)
    ∙ but-step c.loop-other.greatest c.args.other_than (c.in-Some.other.now, c.in-Some.gathered.now) c.next.new.self c.args.keys.now false apart
    ∙ ap (λ entries. greater c.loop-other.greatest (greatest_touching (left_but c.args.other_than entries) c.args.keys.now)) (sym left)
    ∙ c.loop-other.invariant
