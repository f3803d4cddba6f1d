-- The key at the place that was found has the kind, and none has it where there is a gap.
use Rattle.std.proofs.Common.{List, get_or, Some, [], None, sym, ap, ◌∙◌}
use Rattle.finite_map.specs.FiniteMap.{get-entries}
use Rattle.key_sets.specs.declared.kind.Kind.{Kind}
use Rattle.key_sets.specs.declared.kind.Kind.TheVariants.{Shared}
use Rattle.key_sets.specs.declared.parts.Parts.{Parts}
use Rattle.key_sets.proofs.PlaceLemmas.{find_at, find_gap}
use Rattle.key_sets.proofs.key_set.KeySet.kind_at.Goals as goal

abbrev blank : Parts × Kind
blank = (record { table = []; row = None }, Shared)

pub returns-in-Ok : goal.returns-in-Ok
returns-in-Ok c =
    let set = c.args.self.now in
    ap (λ (keys : List (Parts × Kind)). Some (get_or keys c.in-Ok.at blank).1) c.as_slice.ensures
    ∙ sym (get-entries set c.args.parts.now ∙ find_at c.args.parts.now set.entries c.in-Ok.at blank c.in-Ok.ensures.found)

pub returns-in-Err : goal.returns-in-Err
returns-in-Err c =
    let set = c.args.self.now in
    sym (get-entries set c.args.parts.now ∙ find_gap c.args.parts.now set.entries c.in-Err.field-0 c.in-Err.ensures.absent)
