-- The transactions are gone over until one is the member's.
use Rattle.std.proofs.Common.{List, cond, Some, sym, ap, ◌∙◌}
use Rattle.std.specs.Prelude.{is_some}
use Rattle.std.specs.FinMap.Entries.{find}
use Rattle.finite_map.specs.FiniteMap.{FiniteMap, get, get-from_entries}
use Rattle.finite_map.proofs.Edits.{itself}
use Rattle.wsrep_base.specs.declared.ids.TrxId.{TrxId}
use Rattle.wsrep_base.specs.Trx.{trx_cmp}
use Rattle.cert_meaning.specs.State.{Fragment}
use Rattle.cert_meaning.proofs.OpenLemmas.{find-behind}
use Rattle.cert_meaning.proofs.TrxLemmas.{transactions, trx_total}
use Rattle.cert_meaning.proofs.open_table.OpenTable.one_of.Goals as goal

pub loop-trx-init : goal.loop-trx-init
loop-trx-init c = λ trx is.
    ap (find trx_cmp trx) c.into_iter-trx-iterator.ensures.into_iter_gives.0
    ∙ sym (get-from_entries trx_total c.self.inside.open.entries trx)
    ∙ ap (λ (open_trx : FiniteMap trx_cmp (List Fragment)). get open_trx trx) c.self.view_is

pub loop-trx-preserved : goal.loop-trx-preserved
loop-trx-preserved c = λ trx is.
    sym (ap (find trx_cmp trx) c.in-Some.ensures.steps
    ∙ find-behind trx c.in-Some.trx.now c.in-Some.field-0-1.now c.next.new.self
    (λ same. c.if-trx-member.false (ap (λ (t : TrxId). t.member) (sym same) ∙ is)))
    ∙ c.loop-trx.invariant trx is

pub returns-then-trx-member-clause-there : goal.returns-then-trx-member-clause-there
returns-then-trx-member-clause-there c =
    let trx = c.in-Some.trx.now in
    ap is_some (sym (c.loop-trx.invariant trx c.if-trx-member.true)
    ∙ ap (find trx_cmp trx) c.in-Some.ensures.steps
    ∙ ap (λ b. cond b (Some c.in-Some.field-0-1.now) (find trx_cmp trx c.next.new.self))
    (itself transactions trx))
