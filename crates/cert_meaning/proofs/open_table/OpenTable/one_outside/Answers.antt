-- The transactions are gone over until one is another member's.
use Rattle.std.proofs.Common.{◌≡◌, true, List, sym, ap, ◌∙◌}
use Rattle.std.specs.FinMap.Entries.{find}
use Rattle.finite_map.specs.FiniteMap.{FiniteMap, get, get-from_entries}
use Rattle.wsrep_base.specs.Trx.{trx_cmp}
use Rattle.cert_meaning.specs.State.{Fragment}
use Rattle.cert_meaning.specs.Fold.{is_of}
use Rattle.cert_meaning.proofs.OpenLemmas.{find-behind}
use Rattle.cert_meaning.proofs.TrxLemmas.{trx_total}
use Rattle.cert_meaning.proofs.open_table.OpenTable.one_outside.Goals as goal

pub loop-trx-init : goal.loop-trx-init
loop-trx-init c = λ trx is.
    ap (find trx_cmp trx) c.into_iter-trx-iterator.ensures.into_iter_gives.0
    ∙ sym (get-from_entries trx_total c.self.inside.open.entries trx)
    ∙ ap (λ (open_trx : FiniteMap trx_cmp (List Fragment)). get open_trx trx) c.self.view_is

pub loop-trx-preserved : goal.loop-trx-preserved
loop-trx-preserved c = λ trx is.
    sym (ap (find trx_cmp trx) c.in-Some.ensures.steps
    ∙ find-behind trx c.in-Some.trx.now c.in-Some.field-0-1.now c.next.new.self
    (λ same.
    let there : is_of c.args.members.now c.in-Some.trx.now ≡ true =
    sym c.contains.ensures.value ∙ c.if-not-contains.false in
    let moved : is_of c.args.members.now trx ≡ is_of c.args.members.now c.in-Some.trx.now =
    ap (is_of c.args.members.now) same in
    cc))
    ∙ c.loop-trx.invariant trx is
