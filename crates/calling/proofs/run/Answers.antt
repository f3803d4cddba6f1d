-- The names of the row have their form.
use Rattle.std.proofs.Common.{refl}
use Rattle.row_model.specs.Names.{is_name}
use Rattle.calling.proofs.run.Goals as goal

pub step-requires-4-clause-names : goal.step-requires-4-clause-names
unfolding is_name
step-requires-4-clause-names c = refl
