-- More room changes no look-up.
use Rattle.std.proofs.Common.{◌∙◌, ap}
use Rattle.undo_rows.specs.OwnedRows.{Owned}
use Rattle.undo_rows.proofs.OwnedRowsLemmas.{same_changes, same_links}
use Rattle.undo_rows.proofs.owned_rows.OwnedRows.reserve.Goals as goal

pub invariant_of-self : goal.invariant_of-self
invariant_of-self c = same_links _ _ _ c.reserve.ensures.entries.2 c.self.invariant

pub returns-clause-changes : goal.returns-clause-changes
returns-clause-changes c =
    same_changes _ _ c.reserve.ensures.entries.2 ∙ ap (λ (v : Owned). v.changes) c.self.view_is
