-- A key that is there gets the stronger kind at its place; another goes in where there is room.
use Rattle.std.proofs.Common.{◌≡◌, ◌≤◌, ◌<◌, List, length, get_or, set, [], None, refl, sym, ap, subst, ◌∙◌, arith}
use Rattle.std.specs.List.{insert, refill}
use Rattle.std.proofs.lemmas.List.{length-set}
use Rattle.finite_map.specs.FiniteMap.{len, get-entries}
use Rattle.key_sets.specs.declared.kind.Kind.{Kind}
use Rattle.key_sets.specs.declared.kind.Kind.TheVariants.{Shared}
use Rattle.key_sets.specs.declared.parts.Parts.{Parts}
use Rattle.key_sets.specs.Kinds.{stronger}
use Rattle.key_sets.specs.Keys.{LIMIT}
use Rattle.key_sets.proofs.PlaceLemmas.{find_at, find_gap}
use Rattle.key_sets.proofs.TableLemmas.{entries-seen, refill_whole}
use Rattle.key_sets.proofs.WithKey.{With, with_set, with_insert, with-fits}
use Rattle.key_sets.proofs.key_set.KeySet.add.Goals as goal

abbrev blank : Parts × Kind
blank = (record { table = []; row = None }, Shared)

pub bounds-deref_mut-at : goal.bounds-deref_mut-at
bounds-deref_mut-at c =
    let same = entries-seen c.self.inside.keys.items c.args.self.now c.self.invariant.0 c.self.view_is in
    subst (λ (l : List (Parts × Kind)). c.in-Ok.at < length l) (same ∙ sym c.deref_mut.ensures.value) c.in-Ok.ensures.within

-- the key was there, and the stronger kind is written over its own
raises : (c : goal.After-self-1) → With c.args.self.now c.args.parts.now c.args.kind
    (refill (length c.self.inside.keys.items) c.self.inside.keys.items (set c.deref_mut.result.now c.in-Ok.at (c.args.parts.now, c.stronger.result)))
raises c =
    let items = c.self.inside.keys.items in
    let lent = c.deref_mut.ensures.value in
    let key : Parts × Kind = (c.args.parts.now, c.stronger.result) in
    let long : length (set c.deref_mut.result.now c.in-Ok.at key) ≡ length items =
    length-set c.deref_mut.result.now c.in-Ok.at key ∙ ap length lent in
    let same = entries-seen items c.args.self.now c.self.invariant.0 c.self.view_is in
    with_set c.args.self.now c.args.parts.now c.args.kind c.stronger.result c.in-Ok.at blank c.in-Ok.ensures.found
    (c.stronger.ensures ∙ ap (λ (l : List (Parts × Kind)). stronger (get_or l c.in-Ok.at blank).1 c.args.kind) c.as_slice.ensures)
    _
    (refill_whole items (set c.deref_mut.result.now c.in-Ok.at key) long
    ∙ ap (λ (l : List (Parts × Kind)). set l c.in-Ok.at key) (lent ∙ sym same))

pub invariant_of-self : goal.invariant_of-self
invariant_of-self c =
    let there = get-entries c.args.self.now c.args.parts.now ∙ find_at c.args.parts.now c.args.self.now.entries c.in-Ok.at blank c.in-Ok.ensures.found in
    with-fits c.args.self.now c.args.parts.now c.args.kind _ (raises c)
    (subst (λ keys. len keys ≤ LIMIT) c.self.view_is c.self.invariant.1) (λ none. absurd (cc))

pub returns-in-Ok-clause-ok : goal.returns-in-Ok-clause-ok
returns-in-Ok-clause-ok c = (raises c).seen

pub returns-in-Ok-clause-full : goal.returns-in-Ok-clause-full
returns-in-Ok-clause-full c =
    let there = get-entries c.args.self.now c.args.parts.now ∙ find_at c.args.parts.now c.args.self.now.entries c.in-Ok.at blank c.in-Ok.ensures.found in
    (λ h. absurd (cc), λ h. let none = h.0 in absurd (cc))

pub returns-then-len-ge-LIMIT-clause-full : goal.returns-then-len-ge-LIMIT-clause-full
returns-then-len-ge-LIMIT-clause-full c =
    let none = get-entries c.args.self.now c.args.parts.now ∙ find_gap c.args.parts.now c.args.self.now.entries c.in-Err.at c.in-Err.ensures.absent in
    (λ h. (none, omega (arith, c.len.ensures.count, c.len.ensures.within, c.if-len-ge-LIMIT.true)), λ h. refl)

pub insert-requires : goal.insert-requires
insert-requires c =
    let same = entries-seen c.self.inside.keys.items c.args.self.now c.self.invariant.0 c.self.view_is in
    (omega arith, subst (λ (l : List (Parts × Kind)). c.in-Err.at ≤ length l) same c.in-Err.ensures.within)

-- the key was not there, and went in at its place
goes_in : (c : goal.In-Ok-insert) → With c.args.self.now c.args.parts.now c.args.kind c.insert.new.self.items
goes_in c =
    let same = entries-seen c.self.inside.keys.items c.args.self.now c.self.invariant.0 c.self.view_is in
    with_insert c.args.self.now c.args.parts.now c.args.kind c.in-Err.at c.in-Err.ensures.absent _
    (c.in-Ok-insert.ensures.ok ∙ ap (λ (l : List (Parts × Kind)). insert l c.in-Err.at (c.args.parts.now, c.args.kind)) (sym same))

pub invariant_of-self-2 : goal.invariant_of-self-2
invariant_of-self-2 c =
    with-fits c.args.self.now c.args.parts.now c.args.kind _ (goes_in c)
    (subst (λ keys. len keys ≤ LIMIT) c.self.view_is c.self.invariant.1)
    (λ none. omega (arith, c.len.ensures.count, c.if-len-ge-LIMIT.false))

pub returns-clause-ok : goal.returns-clause-ok
returns-clause-ok c = (goes_in c).seen
