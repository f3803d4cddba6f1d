-- Each turn forgets one key more.
use Rattle.std.proofs.Common.{◌≡◌, ◌+◌, [], ◌∷◌, cond, None, drop, get_or, sym, ap, ◌∙◌, add-one}
use Rattle.std.proofs.Math.Seq.{drop-cons}
use Rattle.std.proofs.lemmas.List.{drop_all}
use Rattle.key_sets.specs.declared.kind.Kind.{Kind}
use Rattle.key_sets.specs.declared.kind.Kind.TheVariants.{Shared}
use Rattle.key_sets.specs.declared.parts.Parts.{Parts}
use Rattle.sr_fragments.specs.HeldIndex.{found, is_place}
use Rattle.sr_fragments.proofs.PlaceLemmas.{forgotten-next, forgotten-all}
use Rattle.sr_fragments.proofs.held_index.HeldIndex.forget.Goals as goal

abbrev blank : Parts × Kind
blank = (record { table = []; row = None }, Shared)

pub loop-parts-preserved : goal.loop-parts-preserved
loop-parts-preserved c =
    let items = c.as_slice-parts-items.result.now in
    let i = c.loop-parts.parts-index in
    let key = get_or items i blank in
    let left : drop i items ≡ key ∷ drop (i + 1) items =
    drop-cons items i blank c.loop-parts-test.true ∙ ap (λ n. key ∷ drop n items) (sym (add-one i)) in
    record {
      index = c.forget_key.ensures.index;
      found = λ p. forgotten-next c.args.trx _ _ key p (found c.loop-parts.self p) _ _ left
          (c.loop-parts.invariant.found p)
          (c.forget_key.ensures.found p);
    }

pub returns-clause-found : goal.returns-clause-found
returns-clause-found c = λ p.
    let items = c.as_slice-parts-items.result.now in
    forgotten-all c.args.trx _ items p _ _
    (drop_all c.loop-parts.parts-index items c.loop-parts-test.false) (c.loop-parts.invariant.found p)
    ∙ ap (λ ks. cond (is_place c.args.trx ks p) None (found c.args.self.now p)) c.as_slice-parts-items.ensures
