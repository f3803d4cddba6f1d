-- which steps of `load` are left
use Rattle.std.specs.Prelude.{ℕ, ◌+◌, ◌-◌, ◌%◌, ◌==◌, List, [], ◌++◌, drop, Option, Some, None, if◌then◌else◌}
use Rattle.order_event.specs.declared.step.Act.TheVariants as act
use Rattle.order_event.specs.declared.step.Step.{Step}
use Rattle.script_text.specs.declared.load.Part.{Part}
use Rattle.script_text.specs.declared.load.Part.TheVariants as part
use Rattle.script_text.specs.declared.load.LoadPlace.{LoadPlace}
use Rattle.script_text.specs.Load.{does, opening, closing, round_steps, rounds}

-- the steps of a part
abbrev pub part_steps : Part → List Step
part_steps part.Opening = opening
part_steps (part.Round r) = round_steps r
part_steps part.Closing = closing

-- the steps behind a part, where so many rounds of so many have begun, the last drawn up to x
abbrev pub behind : Part → ℕ → ℕ → ℕ → List Step
behind part.Closing begun count x = []
behind other begun count x = rounds (begun + 1) x (count - begun) ++ closing

abbrev pub steps_behind : LoadPlace → List Step
steps_behind place = behind place.part place.begun place.count place.draws.number

-- the steps that were not given yet
abbrev pub steps_left : LoadPlace → List Step
steps_left place = drop place.given (part_steps place.part) ++ steps_behind place

-- a part whose first step was given
abbrev pub entered : LoadPlace → Part → LoadPlace
entered place p =
    record {
      part = p;
      given = 1;
      draws = place.draws;
      begun = place.begun;
      count = place.count;
    }

-- the report of a node at a round, where there is one
abbrev pub report_at : ℕ → ℕ → Option Step
report_at i node = if i % 16 == 0 then Some (does act.Report node) else None
