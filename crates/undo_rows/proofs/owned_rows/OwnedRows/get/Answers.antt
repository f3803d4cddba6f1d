-- The table's look-up is the map's.
use Rattle.std.proofs.Common.{sym, ◌∙◌, ap}
use Rattle.std.specs.Option.{option_map}
use Rattle.finite_map.specs.FiniteMap.{get}
use Rattle.undo_rows.specs.OwnedRows.{Owned, change_of}
use Rattle.undo_rows.proofs.OwnedRowsLemmas.{get-changes_in}
use Rattle.undo_rows.proofs.owned_rows.OwnedRows.get.Goals as goal

pub returns-in-Some : goal.returns-in-Some
returns-in-Some c =
    ap (option_map change_of) c.in-Some.ensures.value
    ∙ sym (get-changes_in c.self.inside.table.entries c.args.id.now)
    ∙ ap (λ (v : Owned). get v.changes c.args.id.now) c.self.view_is

pub returns-in-None : goal.returns-in-None
returns-in-None c =
    ap (option_map change_of) c.in-None.ensures.value
    ∙ sym (get-changes_in c.self.inside.table.entries c.args.id.now)
    ∙ ap (λ (v : Owned). get v.changes c.args.id.now) c.self.view_is
