-- The names are read letter by letter.
use Rattle.std.proofs.Common.{refl}
use Rattle.row_model.specs.Names.{is_name}
use Rattle.part_tests.proofs.fragments.delete_row.Goals as goal

pub add-requires-clause-names : goal.add-requires-clause-names
unfolding is_name
add-requires-clause-names c = refl

pub add-requires-clause-change : goal.add-requires-clause-change
unfolding is_name
add-requires-clause-change c = record { form = refl; key = refl }
