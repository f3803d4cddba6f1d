use Rattle.std.proofs.Common.{◌∙◌, refl, sym, ap, subst}
use Rattle.std.specs.Option.{IsSome}
use Rattle.node_parts.specs.Units.{UnitTable, total_rows}
use Rattle.node_parts.specs.UnitEntries.{work_in}
use Rattle.node_parts.specs.declared.units.Units.TheInside.{Inside}
use Rattle.node_parts.proofs.UnitLaws.{table, table_finished, room_finished, nothing_finished}
use Rattle.node_parts.proofs.units.Units.finish.Goals as goal
use Rattle.node_parts.proofs.units.Units.finish.Goals.{in-Some+in-Some-1, in-Some+in-None-1, in_default}

abbrev seen : Inside → UnitTable
seen s = table s.entries.entries s.room

pub returns : goal.returns
returns c = elim c.match-get_mut.branch [
  | in-Some+in-Some-1 w ↦ ap seen w.self-inside-is
      ∙ table_finished c.self.inside.entries.entries _ c.self.inside.room c.args.self.now c.args.done c.number.result w.in-Some.entry.now
      c.self.view_is c.number.ensures w.in-Some.ensures.value
      ((c.get_mut.follows.holds _).3 (subst IsSome w.in-Some.ensures.value refl)).0
  | in-Some+in-None-1 w ↦ ap seen w.self-inside-is
      ∙ table_finished c.self.inside.entries.entries _ c.self.inside.room c.args.self.now c.args.done c.number.result w.in-Some.entry.now
      c.self.view_is c.number.ensures w.in-Some.ensures.value
      ((c.get_mut.follows.holds _).3 (subst IsSome w.in-Some.ensures.value refl)).0
  | in_default w ↦ ap seen w.self-inside-is
      ∙ ap (λ es. table es c.self.inside.room) (ap (λ m. m.entries) c.get_mut.follows.holds-at-none)
      ∙ nothing_finished c.self.inside.entries.entries c.self.inside.room c.args.self.now c.args.done c.number.result
      c.self.view_is c.number.ensures w.in_default.ensures.value
]

pub invariant_of-self : goal.invariant_of-self
invariant_of-self c = elim c.match-get_mut.branch [
  | in-Some+in-Some-1 w ↦ ap (λ (s : Inside). s.room) w.self-inside-is
      ∙ room_finished c.self.inside.entries.entries _ c.self.inside.room c.number.result c.args.done w.in-Some.entry.now
      c.self.invariant w.in-Some.ensures.value
      ((c.get_mut.follows.holds _).3 (subst IsSome w.in-Some.ensures.value refl)).0
      ∙ ap (λ (s : Inside). total_rows (work_in s.entries.entries)) (sym w.self-inside-is)
  | in-Some+in-None-1 w ↦ ap (λ (s : Inside). s.room) w.self-inside-is
      ∙ room_finished c.self.inside.entries.entries _ c.self.inside.room c.number.result c.args.done w.in-Some.entry.now
      c.self.invariant w.in-Some.ensures.value
      ((c.get_mut.follows.holds _).3 (subst IsSome w.in-Some.ensures.value refl)).0
      ∙ ap (λ (s : Inside). total_rows (work_in s.entries.entries)) (sym w.self-inside-is)
  | in_default w ↦ ap (λ (s : Inside). s.room) w.self-inside-is ∙ c.self.invariant
      ∙ sym (ap (λ (s : Inside). total_rows (work_in s.entries.entries)) w.self-inside-is
      ∙ ap (λ es. total_rows (work_in es)) (ap (λ m. m.entries) c.get_mut.follows.holds-at-none))
]
