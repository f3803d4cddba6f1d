use Rattle.std.proofs.Common.{◌∙◌, sym, ap, Some, None}
use Rattle.node_meaning.specs.Steps.{is_finished}
use Rattle.node_parts.proofs.UnitLaws.{unit_at, finished_by}
use Rattle.node_parts.proofs.units.Units.is_finished.Goals as goal

pub returns-in-Some : goal.returns-in-Some
returns-in-Some c =
    c.is_some.ensures ∙ finished_by c.in-Some.entry.now.done
    ∙ ap is_finished (sym (unit_at c.self.inside.entries.entries c.self.inside.room c.args.self.now c.args.number (Some c.in-Some.entry.now) c.self.view_is c.in-Some.ensures.value))

pub returns-in-None : goal.returns-in-None
returns-in-None c =
    ap is_finished (sym (unit_at c.self.inside.entries.entries c.self.inside.room c.args.self.now c.args.number None c.self.view_is c.in-None.ensures.value))
