-- Each turn closes a transaction of another member, until there is none.
use Rattle.std.proofs.Common.{◌≡◌, ◌+◌, true, cond, arith, sym, ap, subst, ◌∙◌}
use Rattle.std.specs.Prelude.{is_some}
use Rattle.finite_map.specs.FiniteMap.{get, len, len_before_remove, remove, retain_keys}
use Rattle.cert_meaning.specs.Fold.{is_of}
use Rattle.cert_meaning.specs.OpenSearch.{HasNoneOutside}
use Rattle.cert_meaning.proofs.TrxLemmas.{trx_total}
use Rattle.sr_fragments.specs.OpenSet.{Open}
use Rattle.sr_fragments.proofs.DropLemmas.{kept-none, kept-removed}
use Rattle.sr_fragments.proofs.open_set.OpenSet.keep_of.Goals as goal

pub loop-trx-smaller : goal.loop-trx-smaller
loop-trx-smaller c =
    let was = c.loop-trx.self in
    let there : is_some (get was c.in-Some.trx) ≡ true =
    ap (λ (open_trx : Open). is_some (get open_trx c.in-Some.trx)) (sym c.self.view_is)
    ∙ c.in-Some.ensures.there in
    let count : 1 + len (remove was c.in-Some.trx) ≡ len was =
    ap (λ b. cond b 1 0 + len (remove was c.in-Some.trx)) (sym there)
    ∙ len_before_remove trx_total was c.in-Some.trx in
    let left : len c.close.new.self ≡ len (remove was c.in-Some.trx) =
    ap (λ (open_trx : Open). len open_trx) c.close.ensures in
    omega (arith, count, left)

pub loop-trx-preserved : goal.loop-trx-preserved
loop-trx-preserved c =
    ap (λ (open_trx : Open). retain_keys open_trx (is_of c.args.members.now)) c.close.ensures
    ∙ kept-removed c.loop-trx.self (is_of c.args.members.now) c.in-Some.trx c.in-Some.ensures.some
    ∙ c.loop-trx.invariant

pub returns : goal.returns
returns c =
    sym (kept-none c.loop-trx.self (is_of c.args.members.now)
    (subst (λ (open_trx : Open). HasNoneOutside open_trx c.args.members.now) c.self.view_is
    c.in_default.ensures.none))
    ∙ c.loop-trx.invariant
