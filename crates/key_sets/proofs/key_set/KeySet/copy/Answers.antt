-- The copy has the keys of the set.
use Rattle.std.proofs.Common.{◌≤◌, List, sym, ap, subst, ◌∙◌}
use Rattle.std.specs.Prelude.{T}
use Rattle.std.specs.FinMap.Entries.{is_sorted}
use Rattle.finite_map.specs.FiniteMap.{len}
use Rattle.key_sets.specs.declared.kind.Kind.{Kind}
use Rattle.key_sets.specs.declared.parts.Parts.{Parts}
use Rattle.key_sets.specs.Keys.{keys_from, LIMIT}
use Rattle.key_sets.specs.Parts.{parts_cmp}
use Rattle.key_sets.proofs.key_set.KeySet.copy.Goals as goal

pub invariant_of-result : goal.invariant_of-result
invariant_of-result c =
    subst (λ (l : List (Parts × Kind)). T (is_sorted parts_cmp l) × (len (keys_from l) ≤ LIMIT))
    (sym (c.in_ok-from_slice.ensures.ok ∙ c.as_slice.ensures)) c.self.invariant

pub returns : goal.returns
returns c = ap keys_from (c.in_ok-from_slice.ensures.ok ∙ c.as_slice.ensures) ∙ c.self.view_is
