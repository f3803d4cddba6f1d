-- The closure gives a key's parts, and the keys rise by them.
use Rattle.std.proofs.Common.{rules, sym, subst}
use Rattle.std.specs.Prelude.{T}
use Rattle.std.specs.FinMap.Entries.{is_sorted}
use Rattle.std.proofs.lemmas.List.Sorted.{answers_always}
use Rattle.key_sets.specs.Parts.{parts_cmp}
use Rattle.key_sets.proofs.PlaceLemmas.{searched}
use Rattle.key_sets.proofs.key_set.KeySet.place_of.Goals as goal

pub returns : goal.returns
returns c =
    let p = c.args.parts.now in
    let keys = c.as_slice-keys.result.now in
    let rising = subst (λ l. T (is_sorted parts_cmp l)) (sym c.as_slice-keys.ensures) c.args.self.now.sorted in
    let facts = c.binary_search_by_key.ensures in
    let by_parts = facts.position (λ key. key.0) (answers_always _ _ _ (λ f a r g called. search rules)) in
    rw (← c.as_slice-keys.ensures) (searched p keys rising c.binary_search_by_key.result facts.bound by_parts)
