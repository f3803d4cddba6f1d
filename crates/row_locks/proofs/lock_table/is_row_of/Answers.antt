-- `==` of parts answers as their order does.
use Rattle.std.proofs.Common.{◌&&◌, ap, ◌∙◌}
use Rattle.key_sets.specs.declared.parts.Parts.{Parts}
use Rattle.key_sets.specs.Parts.{same_parts, table_of, parts_eq}
use Rattle.key_sets.proofs.PartsLemmas.{parts_eq-same}
use Rattle.row_locks.proofs.lock_table.is_row_of.Goals as goal

pub returns-then-is_some : goal.returns-then-is_some
returns-then-is_some c =
    c.eq.ensures
    ∙ ap (λ (q : Parts). parts_eq q c.args.table.now) c.table_parts.ensures
    ∙ parts_eq-same (table_of c.args.parts.now) c.args.table.now
    ∙ ap (λ b. b && same_parts (table_of c.args.parts.now) c.args.table.now) c.if-is_some.ensures
