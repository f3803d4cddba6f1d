use Rattle.std.proofs.Common.{◌∙◌, sym, ap, refl, is_some}
use Rattle.node_parts.proofs.UnitLaws.{unit_at, work_at, some_mapped}
use Rattle.node_parts.specs.UnitEntries.{unit_of, work_of}
use Rattle.node_parts.proofs.units.Units.contains.Goals as goal

pub returns-clause-units : goal.returns-clause-units
returns-clause-units c =
    c.contains_key.ensures ∙ sym (some_mapped unit_of _)
    ∙ ap is_some (sym (unit_at c.self.inside.entries.entries c.self.inside.room c.args.self.now c.args.number _ c.self.view_is refl))

pub returns-clause-work : goal.returns-clause-work
returns-clause-work c =
    c.contains_key.ensures ∙ sym (some_mapped work_of _)
    ∙ ap is_some (sym (work_at c.self.inside.entries.entries c.self.inside.room c.args.self.now c.args.number _ c.self.view_is refl))
