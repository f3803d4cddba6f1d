-- Where there is no key of a table no row meets one.
use Rattle.std.proofs.Common.{false, sym, ◌∙◌}
use Rattle.key_sets.specs.Probes.{kind_test, tables_meet}
use Rattle.key_sets.proofs.ListLemmas.{same_answer}
use Rattle.key_sets.proofs.ProbeLemmas.{table_there}
use Rattle.key_sets.proofs.key_set.KeySet.is_met_by_rows.Goals as goal

pub returns-else-has_table : goal.returns-else-has_table
returns-else-has_table c =
    let test = kind_test c.args.relation in
    let none = sym c.has_table.ensures ∙ c.if-has_table.false in
    c.if-has_table.false
    ∙ same_answer false (tables_meet test c.args.other.now c.args.self.now) (λ h. cc)
    (λ h. let there = table_there test c.args.other.now c.args.self.now h in cc)
