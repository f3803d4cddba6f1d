-- Each turn takes in the latest that meets one key more.
use Rattle.std.proofs.Common.{◌≡◌, ◌+◌, [], ◌∷◌, None, length, drop, get_or, sym, ap, ◌∙◌, arith, add-one}
use Rattle.std.proofs.Math.Seq.{drop-cons}
use Rattle.std.proofs.lemmas.List.{drop_all}
use Rattle.finite_map.specs.FiniteMap.{len, len-entries}
use Rattle.key_sets.specs.declared.kind.Kind.{Kind}
use Rattle.key_sets.specs.declared.kind.Kind.TheVariants.{Shared}
use Rattle.key_sets.specs.declared.parts.Parts.{Parts}
use Rattle.key_sets.specs.Probes.{kind_test}
use Rattle.cert_index.specs.Index.{latest, meets}
use Rattle.cert_index.proofs.MeetLemmas.{latest-next, latest-all}
use Rattle.cert_index.proofs.index.Index.met.Goals as goal

abbrev blank : Parts × Kind
blank = (record { table = []; row = None }, Shared)

pub loop-parts-preserved : goal.loop-parts-preserved
loop-parts-preserved g c =
    let items = c.as_slice-parts-items.result.now in
    let i = c.loop-parts.parts-index in
    let key = get_or items i blank in
    let left : drop i items ≡ key ∷ drop (i + 1) items =
    drop-cons items i blank c.loop-parts-test.true ∙ ap (λ n. key ∷ drop n items) (sym (add-one i)) in
    let size = ap length left in
    record {
      latest = latest-next (kind_test c.args.relation) _ _ key c.args.self.now left _ _ _ _
          c.loop-parts.invariant.latest c.met_by.ensures.latest c.greater-latest.ensures;
      most = omega (arith, size, c.met_by.ensures.most, c.loop-parts.invariant.most);
      conflict = λ is.
          let step = c.met_by.ensures.conflict is in
          let before = c.loop-parts.invariant.conflict is in
          omega (arith, size, step, before);
    }

pub returns-clause-latest : goal.returns-clause-latest
returns-clause-latest g c =
    let test = kind_test c.args.relation in
    let items = c.as_slice-parts-items.result.now in
    latest-all test _ c.args.self.now (drop_all c.loop-parts.parts-index items c.loop-parts-test.false) _ _ c.loop-parts.invariant.latest
    ∙ ap (λ ks. latest (meets test ks) c.args.self.now) c.as_slice-parts-items.ensures

pub returns-clause-most : goal.returns-clause-most
returns-clause-most g c =
    let size : length c.as_slice-parts-items.result.now ≡ len c.args.keys.now =
    ap length c.as_slice-parts-items.ensures ∙ sym (len-entries c.args.keys.now) in
    omega (arith, size, c.loop-parts.invariant.most)

pub returns-clause-conflict : goal.returns-clause-conflict
returns-clause-conflict g c = λ is.
    let size : length c.as_slice-parts-items.result.now ≡ len c.args.keys.now =
    ap length c.as_slice-parts-items.ensures ∙ sym (len-entries c.args.keys.now) in
    let before = c.loop-parts.invariant.conflict is in
    omega (arith, size, before)
