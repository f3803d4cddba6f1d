-- Where a look-up finds a pair the sets meet, and where none does they do not.
use Rattle.std.proofs.Common.{◌≡◌, true, sym, ◌∙◌}
use Rattle.key_sets.specs.Keys.{meet}
use Rattle.key_sets.specs.Probes.{kind_test}
use Rattle.key_sets.proofs.ProbeLemmas.{keys_met, tables_met, last_probe, kind_test-symm, kind_test-shared}
use Rattle.key_sets.proofs.key_set.KeySet.meets.Goals as goal
use Rattle.key_sets.proofs.key_set.KeySet.meets.Goals.{then-keys_meet, else-keys_meet}

pub returns-then-tables_meet : goal.returns-then-tables_meet
returns-then-tables_meet c =
    let test = kind_test c.args.relation in
    let met : meet test c.args.self.now c.args.other.now ≡ true = elim c.if-keys_meet.branch [
      | then-keys_meet w ↦ keys_met test c.args.self.now c.args.other.now (sym c.keys_meet.ensures ∙ w.if-keys_meet.true)
      | else-keys_meet w ↦ tables_met test c.args.self.now c.args.other.now (sym w.tables_meet.ensures ∙ sym w.value-is ∙ c.if-tables_meet.true)
    ] in
    c.if-tables_meet.true ∙ sym met

pub returns-else-tables_meet : goal.returns-else-tables_meet
returns-else-tables_meet c = elim c.if-keys_meet.branch [
  | then-keys_meet w ↦ let no = sym w.if-keys_meet.true ∙ sym w.value-is ∙ c.if-tables_meet.false in cc
  | else-keys_meet w ↦
      c.is_met_by_rows.ensures
      ∙ last_probe (kind_test c.args.relation) (kind_test-symm c.args.relation) (kind_test-shared c.args.relation) c.args.self.now
      c.args.other.now (sym c.keys_meet.ensures ∙ w.if-keys_meet.false)
      (sym w.tables_meet.ensures ∙ sym w.value-is ∙ c.if-tables_meet.false)
]
