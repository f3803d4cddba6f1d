-- Each turn adds the first of what is left; the size of the union was tested before.
use Rattle.std.proofs.Common.{◌≡◌, ◌<◌, ◌+◌, Err, IsErrOf, [], ◌∷◌, None, suc, get_or, drop, sym, ap, ◌∙◌, arith, add-one}
use Rattle.std.proofs.Math.Seq.{drop-cons}
use Rattle.std.proofs.lemmas.List.{drop_all}
use Rattle.finite_map.specs.FiniteMap.{len}
use Rattle.key_sets.specs.declared.fault.KeyFault.TheVariants.{Full}
use Rattle.key_sets.specs.declared.kind.Kind.{Kind}
use Rattle.key_sets.specs.declared.kind.Kind.TheVariants.{Shared}
use Rattle.key_sets.specs.declared.parts.Parts.{Parts}
use Rattle.key_sets.specs.Keys.{Keys, LIMIT, with_keys, union}
use Rattle.key_sets.proofs.UnionLemmas.{with_keys-none, with_keys-cons, with_keys-passes}
use Rattle.key_sets.proofs.key_set.KeySet.union.Goals as goal

abbrev blank : Parts × Kind
blank = (record { table = []; row = None }, Shared)

pub loop-parts-preserved : goal.loop-parts-preserved
loop-parts-preserved c =
    let items = c.as_slice-parts-items.result.now in
    let i = c.loop-parts.parts-index in
    let left : drop i items ≡ get_or items i blank ∷ drop (i + 1) items =
    drop-cons items i blank c.loop-parts-test.true ∙ ap (λ n. get_or items i blank ∷ drop n items) (sym (add-one i)) in
    ap (λ (keys : Keys). with_keys keys (drop (i + 1) items)) c.in-Ok-add.ensures.ok
    ∙ sym (with_keys-cons c.loop-parts.both (get_or items i blank) (drop (i + 1) items))
    ∙ ap (with_keys c.loop-parts.both) (sym left)
    ∙ c.loop-parts.invariant

pub returns-in-Err-add-clause-full : goal.returns-in-Err-add-clause-full
returns-in-Err-add-clause-full c =
    let items = c.as_slice-parts-items.result.now in
    let i = c.loop-parts.parts-index in
    let left : drop i items ≡ get_or items i blank ∷ drop (suc i) items = drop-cons items i blank c.loop-parts-test.true in
    let passes : IsErrOf c.add.result Full → LIMIT < len (union c.args.self.now c.args.other.now) = λ full.
    let was = c.add.ensures.full.0 full in
    let more = with_keys-passes c.loop-parts.both (get_or items i blank) (drop (suc i) items) was.0 in
    let size = ap len (ap (with_keys c.loop-parts.both) (sym left) ∙ c.loop-parts.invariant) in
    omega arith in
    (λ full. let same : c.in-Err-add.fault ≡ Full = cc in passes (c.in-Err-add.is ∙ ap (λ fault. Err fault) same), λ above. let yes = c.union_passes.ensures.1 above in cc)

pub returns-clause-ok : goal.returns-clause-ok
returns-clause-ok c =
    sym (with_keys-none c.loop-parts.both)
    ∙ ap (with_keys c.loop-parts.both) (sym (drop_all c.loop-parts.parts-index c.as_slice-parts-items.result.now c.loop-parts-test.false))
    ∙ c.loop-parts.invariant
