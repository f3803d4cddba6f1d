-- Each turn takes in the latest that touches one key more.
use Rattle.std.proofs.Common.{◌≡◌, ◌+◌, [], ◌∷◌, None, drop, get_or, sym, ap, ◌∙◌, add-one}
use Rattle.std.proofs.Math.Seq.{drop-cons}
use Rattle.std.proofs.lemmas.List.{drop_all}
use Rattle.key_sets.specs.declared.kind.Kind.{Kind}
use Rattle.key_sets.specs.declared.kind.Kind.TheVariants.{Shared}
use Rattle.key_sets.specs.declared.parts.Parts.{Parts}
use Rattle.cert_meaning.specs.State.{fragments_but}
use Rattle.sr_fragments.specs.OpenSet.{latest, meets}
use Rattle.sr_fragments.proofs.MeetLemmas.{latest-next, latest-all, latest-touching}
use Rattle.sr_fragments.proofs.open_set.OpenSet.held_by.Goals as goal

abbrev blank : Parts × Kind
blank = (record { table = []; row = None }, Shared)

pub loop-parts-preserved : goal.loop-parts-preserved
loop-parts-preserved c =
    let items = c.as_slice-parts-items.result.now in
    let i = c.loop-parts.parts-index in
    let key = get_or items i blank in
    let left : drop i items ≡ key ∷ drop (i + 1) items =
    drop-cons items i blank c.loop-parts-test.true ∙ ap (λ n. key ∷ drop n items) (sym (add-one i)) in
    latest-next _ _ key (fragments_but c.args.self.now c.args.other_than) left _ _ _ _
    c.loop-parts.invariant
    c.held_at.ensures c.greater-greatest.ensures

pub returns : goal.returns
returns c =
    let others = fragments_but c.args.self.now c.args.other_than in
    let items = c.as_slice-parts-items.result.now in
    latest-all _ others (drop_all c.loop-parts.parts-index items c.loop-parts-test.false) _ _ c.loop-parts.invariant
    ∙ ap (λ ks. latest (meets ks) others) c.as_slice-parts-items.ensures
    ∙ latest-touching c.args.keys.now others
