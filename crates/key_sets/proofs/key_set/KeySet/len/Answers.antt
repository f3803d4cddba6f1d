-- The keys rise, so they are those of the set.
use Rattle.std.proofs.Common.{◌≤◌, sym, ap, subst, ◌∙◌, length}
use Rattle.finite_map.specs.FiniteMap.{len, len-entries}
use Rattle.key_sets.specs.Keys.{LIMIT}
use Rattle.key_sets.proofs.TableLemmas.{entries-seen}
use Rattle.key_sets.proofs.key_set.KeySet.len.Goals as goal

pub returns : goal.returns
returns c =
    let same = entries-seen c.self.inside.keys.items c.args.self.now c.self.invariant.0 c.self.view_is in
    let counted = c.len.ensures.value ∙ ap length (sym same) ∙ sym (len-entries c.args.self.now) in
    record {
      count = counted;
      within = subst (λ n. n ≤ LIMIT) (sym (counted ∙ sym (ap len c.self.view_is))) c.self.invariant.1;
    }
