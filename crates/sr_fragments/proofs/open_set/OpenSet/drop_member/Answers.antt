-- Each turn closes a transaction of the member, until it has none.
use Rattle.std.proofs.Common.{◌≡◌, ◌+◌, true, cond, arith, sym, ap, subst, ◌∙◌}
use Rattle.std.specs.Prelude.{is_some}
use Rattle.finite_map.specs.FiniteMap.{get, len, len_before_remove, remove}
use Rattle.cert_meaning.specs.OpenSearch.{HasNoneOf}
use Rattle.cert_meaning.proofs.TrxLemmas.{trx_total}
use Rattle.sr_fragments.specs.OpenSet.{Open, dropped}
use Rattle.sr_fragments.proofs.DropLemmas.{dropped-none, dropped-removed}
use Rattle.sr_fragments.proofs.open_set.OpenSet.drop_member.Goals as goal

pub loop-trx-smaller : goal.loop-trx-smaller
loop-trx-smaller c =
    let was = c.loop-trx.self in
    let there : is_some (get was c.in-Some.trx) ≡ true =
    ap (λ (open_trx : Open). is_some (get open_trx c.in-Some.trx)) (sym c.self.view_is)
    ∙ c.in-Some.ensures.there in
    let count : 1 + len (remove was c.in-Some.trx) ≡ len was =
    ap (λ b. cond b 1 0 + len (remove was c.in-Some.trx)) (sym there)
    ∙ len_before_remove trx_total was c.in-Some.trx in
    let left : len c.close.new.self ≡ len (remove was c.in-Some.trx) =
    ap (λ (open_trx : Open). len open_trx) c.close.ensures in
    omega (arith, count, left)

pub loop-trx-preserved : goal.loop-trx-preserved
loop-trx-preserved c =
    ap (λ (open_trx : Open). dropped open_trx c.args.member) c.close.ensures
    ∙ dropped-removed c.loop-trx.self c.in-Some.trx c.args.member c.in-Some.ensures.some
    ∙ c.loop-trx.invariant

pub returns : goal.returns
returns c =
    sym (dropped-none c.loop-trx.self c.args.member
    (subst (λ (open_trx : Open). HasNoneOf open_trx c.args.member) c.self.view_is
    c.in_default.ensures.none))
    ∙ c.loop-trx.invariant
