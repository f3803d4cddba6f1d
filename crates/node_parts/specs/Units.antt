-- the units of a node: their stages and keys, and the work of each
use Rattle.std.specs.Prelude.{ℕ, ◌+◌, ◌-◌, Bool, true, false, List, [], ◌∷◌, Option, Some, None}
use Rattle.std.specs.Ordering.{nat_cmp}
use Rattle.finite_map.specs.FiniteMap.{FiniteMap, empty, get, insert, remove}
use Rattle.apply_unit.specs.Task.{ModelTask}
use Rattle.key_sets.specs.Keys.{Keys}
use Rattle.node_meaning.specs.Node.{ApplyUnit}
pub use Rattle.node_meaning.specs.Steps.{is_started, is_started_stage}
use Rattle.node_meaning.specs.declared.progress.Stage.TheVariants.{Started, Finished}

-- how many rows the changes of a unit name, and its task once that is done
pub record Work : Type 0 where
  pub rows : ℕ
  pub done : Option ModelTask

pub record UnitTable : Type 0 where
  pub units : FiniteMap nat_cmp ApplyUnit
  pub work : FiniteMap nat_cmp Work
  -- how many rows all of them name
  pub room : ℕ

abbrev pub no_units : UnitTable
no_units = record { units = empty; work = empty; room = 0 }

-- one more unit starts
abbrev pub added : UnitTable → ℕ → Keys → ℕ → UnitTable
added t number keys rows = record {
  units = insert t.units number (record { stage = Started; keys = keys });
  work = insert t.work number (record { rows = rows; done = None });
  room = t.room + rows;
}

abbrev pub finished_unit : FiniteMap nat_cmp ApplyUnit → ℕ → Option ApplyUnit
    → FiniteMap nat_cmp ApplyUnit
finished_unit units number None = units
finished_unit units number (Some unit) =
    insert units number (record { stage = Finished; keys = unit.keys })

abbrev pub finished_work : FiniteMap nat_cmp Work → ModelTask → Option Work → FiniteMap nat_cmp Work
finished_work work task None = work
finished_work work task (Some old) =
    insert work task.number (record { rows = old.rows; done = Some task })

-- the unit of a task has finished, where there is one
abbrev pub finished : UnitTable → ModelTask → UnitTable
finished t task = record {
  units = finished_unit t.units task.number (get t.units task.number);
  work = finished_work t.work task (get t.work task.number);
  room = t.room;
}

abbrev pub rows_of : Option Work → ℕ
rows_of None = 0
rows_of (Some work) = work.rows

-- the task of a unit, once it is done
abbrev pub done_of : Option Work → Option ModelTask
done_of None = None
done_of (Some work) = work.done

-- all units but one
abbrev pub without : UnitTable → ℕ → UnitTable
without t number = record {
  units = remove t.units number;
  work = remove t.work number;
  room = t.room - rows_of (get t.work number);
}

abbrev pub sum_rows : List (ℕ × Work) → ℕ
sum_rows [] = 0
sum_rows (e ∷ es) = e.1.rows + sum_rows es

-- how many rows all units name
abbrev pub total_rows : FiniteMap nat_cmp Work → ℕ
total_rows work = sum_rows work.entries
