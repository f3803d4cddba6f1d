use Rattle.std.proofs.Common.{◌∙◌, sym, ap, Some, None, arith}
use Rattle.node_meaning.specs.Steps.{is_finished}
use Rattle.node_parts.specs.Units.{done_of}
use Rattle.node_parts.proofs.UnitLaws.{table, unit_at, work_at, finished_by, table_without, room_without, rows_within, entry_within}
use Rattle.node_parts.proofs.units.Units.take.Goals as goal

pub overflow_sub-self : goal.overflow_sub-self
overflow_sub-self c =
    entry_within c.self.inside.entries.entries c.remove.new.self.entries c.self.inside.room c.args.self.now c.args.number
    c.self.view_is (Some c.in-Some.entry) c.in-Some.ensures.value c.self.invariant

pub invariant_of-self : goal.invariant_of-self
invariant_of-self c =
    room_without c.self.inside.entries.entries c.remove.new.self.entries c.self.inside.room c.args.self.now c.args.number
    c.self.view_is (Some c.in-Some.entry) c.in-Some.ensures.value c.in-Some.ensures.updates.0 c.self.invariant

pub returns-in-Some-clause-done : goal.returns-in-Some-clause-done
returns-in-Some-clause-done c =
    ap done_of (sym (work_at c.self.inside.entries.entries c.self.inside.room c.args.self.now c.args.number (Some c.in-Some.entry) c.self.view_is c.in-Some.ensures.value))

pub returns-in-Some-clause-finished : goal.returns-in-Some-clause-finished
returns-in-Some-clause-finished c =
    finished_by c.in-Some.entry.done
    ∙ ap is_finished (sym (unit_at c.self.inside.entries.entries c.self.inside.room c.args.self.now c.args.number (Some c.in-Some.entry) c.self.view_is c.in-Some.ensures.value))

pub returns-in-Some-clause-after : goal.returns-in-Some-clause-after
returns-in-Some-clause-after c =
    table_without c.self.inside.entries.entries c.remove.new.self.entries c.self.inside.room c.args.self.now c.args.number
    c.self.view_is (Some c.in-Some.entry) c.in-Some.ensures.value c.in-Some.ensures.updates.0

pub returns-in-Some-clause-rows : goal.returns-in-Some-clause-rows
returns-in-Some-clause-rows c =
    rows_within c.self.inside.entries.entries c.remove.new.self.entries c.self.inside.room c.args.self.now c.args.number
    c.self.view_is c.self.invariant

pub returns-in-None-clause-done : goal.returns-in-None-clause-done
returns-in-None-clause-done c =
    ap done_of (sym (work_at c.self.inside.entries.entries c.self.inside.room c.args.self.now c.args.number None c.self.view_is c.in-None.ensures.value))

pub returns-in-None-clause-finished : goal.returns-in-None-clause-finished
returns-in-None-clause-finished c =
    ap is_finished (sym (unit_at c.self.inside.entries.entries c.self.inside.room c.args.self.now c.args.number None c.self.view_is c.in-None.ensures.value))

pub returns-in-None-clause-after : goal.returns-in-None-clause-after
returns-in-None-clause-after c =
    ap (table c.remove.new.self.entries) (omega arith)
    ∙ table_without c.self.inside.entries.entries c.remove.new.self.entries c.self.inside.room c.args.self.now c.args.number
    c.self.view_is None c.in-None.ensures.value c.in-None.ensures.updates.0

pub returns-in-None-clause-rows : goal.returns-in-None-clause-rows
returns-in-None-clause-rows c =
    rows_within c.self.inside.entries.entries c.remove.new.self.entries c.self.inside.room c.args.self.now c.args.number
    c.self.view_is c.self.invariant
