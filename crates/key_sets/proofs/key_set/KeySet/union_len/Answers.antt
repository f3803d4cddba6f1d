-- The union has the keys of the set, and those of the other whose parts the set lacks.
use Rattle.std.proofs.Common.{rules, tests, ◌≡◌, ◌+◌, length, sym, ◌∙◌}
use Rattle.std.specs.Prelude.{is_none}
use Rattle.std.proofs.lemmas.Iterator.{YieldsList-from_slice}
use Rattle.std.proofs.lemmas.Iterator.Consumers.{YieldsList-at, YieldsList-from_filter, count_from_yields_List}
use Rattle.finite_map.specs.FiniteMap.{get}
use Rattle.key_sets.specs.declared.kind.Kind.{Kind}
use Rattle.key_sets.specs.declared.parts.Parts.{Parts}
use Rattle.key_sets.proofs.Apart.{Apart-entries}
use Rattle.key_sets.proofs.UnionLemmas.{new_parts, count-new_parts, len-with_keys}
use Rattle.key_sets.proofs.key_set.KeySet.union_len.Goals as goal

pub returns : goal.returns
returns c =
    let set = c.args.self.now in
    let keys = c.args.other.now.entries in
    let lacks = λ (e : Parts × Kind). is_none (get set e.0) in
    let counted : c.count.result ≡ length (new_parts set keys) =
    count_from_yields_List c.filter-added.result _ c.count.ensures.ran
    (YieldsList-from_filter _ lacks
    (YieldsList-at c.filter-added.ensures.source (YieldsList-from_slice keys (c.iter-keys.ensures.rest ∙ c.as_slice.ensures)))
    c.filter-added.ensures.closure (λ x b q k. search (rules, tests)))
    ∙ count-new_parts set keys in
    (λ i. c.len.ensures.count i + counted i) ∙ sym (len-with_keys set keys (Apart-entries c.args.other.now))
