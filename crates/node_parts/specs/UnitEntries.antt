-- the entries of the table of units, as stages and keys, and as work
use Rattle.std.specs.Prelude.{ℕ, List, Option, Some, None}
use Rattle.std.specs.Ordering.{nat_cmp}
use Rattle.finite_map.specs.FiniteMap.{FiniteMap}
use Rattle.finite_map.specs.Hashed.{hashed}
use Rattle.apply_unit.specs.Task.{ModelTask}
use Rattle.node_meaning.specs.Node.{ApplyUnit}
use Rattle.node_meaning.specs.declared.progress.Stage.{Stage}
use Rattle.node_meaning.specs.declared.progress.Stage.TheVariants.{Started, Finished}
use Rattle.node_parts.specs.Units.{Work}
use Rattle.node_parts.specs.declared.units.UnitEntry.{UnitEntry}

-- a unit has finished once its task is done
abbrev pub stage_of : Option ModelTask → Stage
stage_of None = Started
stage_of (Some task) = Finished

abbrev pub unit_of : UnitEntry → ApplyUnit
unit_of e = record { stage = stage_of e.done; keys = e.keys }

abbrev pub work_of : UnitEntry → Work
work_of e = record { rows = e.rows; done = e.done }

abbrev pub units_in : List (ℕ × UnitEntry) → FiniteMap nat_cmp ApplyUnit
units_in entries = hashed unit_of entries

abbrev pub work_in : List (ℕ × UnitEntry) → FiniteMap nat_cmp Work
work_in entries = hashed work_of entries
