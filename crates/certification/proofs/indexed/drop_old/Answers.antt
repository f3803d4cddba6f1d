-- The oldest commits go until one is above the number; then all are.
use Rattle.std.proofs.Common.{◌≡◌, ◌<◌, ◌∷◌, length, drop, refl, sym, ap, subst, ◌∙◌, arith}
use Rattle.std.proofs.lemmas.Grind.{common_steps}
use Rattle.cert_meaning.specs.State.{Rise}
use Rattle.certification.specs.Certifies.{commits_above}
use Rattle.certification.proofs.CommitsAbove.{rise-behind, above-without, above-oldest, oldest-first}
use Rattle.certification.proofs.indexed.drop_old.Goals as goal

pub returns-then-oldest-to : goal.returns-then-oldest-to
returns-then-oldest-to c =
    let cs = c.loop-oldest.commits.items in
    let oldest = c.in-Some.oldest.now in
    let is = c.in-Some.ensures.lookup in
    let variant = c.in-Some.ensures.variant in
    let some : 0 < length cs = grind (arith, common_steps, variant) in
    let front : cs ≡ oldest ∷ drop 1 cs = oldest-first cs (drop 1 cs) oldest some is refl in
    front
    ∙ sym (above-oldest c.args.to oldest (drop 1 cs) c.if-oldest-to.true (subst Rise front c.loop-oldest.invariant.rise))
    ∙ ap (commits_above c.args.to) (sym front) ∙ c.loop-oldest.invariant.same

pub loop-oldest-preserved : goal.loop-oldest-preserved
loop-oldest-preserved c =
    let cs = c.loop-oldest.commits.items in
    let rest = c.pop_front.new.self.items in
    let oldest = c.in-Some.oldest.now in
    let is = c.in-Some.ensures.lookup in
    let variant = c.in-Some.ensures.variant in
    let some : 0 < length cs = grind (arith, common_steps, variant) in
    let front : cs ≡ oldest ∷ rest = oldest-first cs rest oldest some is c.pop_front.ensures.rest in
    record {
      same = sym (above-without c.args.to oldest rest c.if-oldest-to.false)
          ∙ ap (commits_above c.args.to) (sym front) ∙ c.loop-oldest.invariant.same;
      rise = rise-behind oldest rest (subst Rise front c.loop-oldest.invariant.rise);
    }
