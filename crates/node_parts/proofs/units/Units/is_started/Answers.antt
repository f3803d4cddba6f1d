use Rattle.std.proofs.Common.{◌∙◌, sym, ap, Some, None}
use Rattle.node_parts.specs.Units.{is_started}
use Rattle.node_parts.proofs.UnitLaws.{unit_at, started_by}
use Rattle.node_parts.proofs.units.Units.is_started.Goals as goal

pub returns-in-Some : goal.returns-in-Some
returns-in-Some c =
    started_by c.in-Some.entry.now.done c.is_none.result c.is_none.ensures
    ∙ ap is_started (sym (unit_at c.self.inside.entries.entries c.self.inside.room c.args.self.now c.args.number
    (Some c.in-Some.entry.now) c.self.view_is c.in-Some.ensures.value))

pub returns-in-None : goal.returns-in-None
returns-in-None c =
    ap is_started (sym (unit_at c.self.inside.entries.entries c.self.inside.room c.args.self.now c.args.number None
    c.self.view_is c.in-None.ensures.value))
