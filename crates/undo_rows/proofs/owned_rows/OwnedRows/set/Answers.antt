-- A row that its owner sets anew keeps its link, and a new one leads to what was the newest.
use Rattle.std.proofs.Common.{ℕ, List, Option, Some, None, get_or, set, sym, ◌∙◌, ap, subst}
use Rattle.std.specs.Map.{lookup}
use Rattle.finite_map.specs.FiniteMap.{get, insert}
use Rattle.row_model.specs.RowOrder.{row_eq}
use Rattle.row_model.specs.declared.row.RowId.{RowId}
use Rattle.undo_rows.specs.RowTable.{other_owner}
use Rattle.undo_rows.specs.OwnedRows.{Owned, AreLinked, before_in}
use Rattle.undo_rows.proofs.OwnedRowsLemmas.{changes_set, links_replaced, links_set}
use Rattle.undo_rows.proofs.owned_rows.OwnedRows.set.Goals as goal

pub invariant_of-self : goal.invariant_of-self
invariant_of-self c =
    let newest : List (Option RowId) = c.self.inside.newest.items in
    links_replaced _ _ newest c.self.invariant c.args.id.now _ c.in-Ok-Some.field-0-0
    (let e = c.in-Ok-Some.ensures.old in let f = c.in-Ok-Some.field-0-is in cc)
    (ap (λ (v : Owned). other_owner c.args.owner (get v.changes c.args.id.now)) c.self.view_is ∙ c.requires)
    (c.before_of-before.ensures
    ∙ ap (λ (ns : List (Option RowId)). before_in (lookup (row_eq c.args.id.now) c.self.inside.table.entries)
    (get_or ns c.args.owner None)) c.deref.ensures.value)
    c.in-Ok-Some.ensures.updates.0

pub invariant_of-self-in-Ok-None : goal.invariant_of-self-in-Ok-None
invariant_of-self-in-Ok-None c =
    let newest : List (Option RowId) = c.self.inside.newest.items in
    subst (λ (n : ℕ). AreLinked c.insert.new.self.entries (set newest n (Some c.args.id.now))) (sym c.from.ensures)
    (links_set _ _ newest c.self.invariant c.args.id.now _
    (let e = c.in-Ok-None.ensures.old in let f = c.in-Ok-None.field-0-is in cc)
    c.ranges.owner.fits
    (c.before_of-before.ensures
    ∙ ap (λ (ns : List (Option RowId)). before_in (lookup (row_eq c.args.id.now) c.self.inside.table.entries)
    (get_or ns c.args.owner None)) c.deref.ensures.value)
    c.in-Ok-None.ensures.updates.0)

pub returns-in-Ok-Some-clause-ok : goal.returns-in-Ok-Some-clause-ok
returns-in-Ok-Some-clause-ok c =
    changes_set _ _ _ _ c.in-Ok-Some.ensures.updates.0
    ∙ ap (λ (v : Owned). insert v.changes c.args.id.now (c.args.owner, c.args.row)) c.self.view_is

pub returns-in-Ok-None-clause-ok : goal.returns-in-Ok-None-clause-ok
returns-in-Ok-None-clause-ok c =
    changes_set _ _ _ _ c.in-Ok-None.ensures.updates.0
    ∙ ap (λ (v : Owned). insert v.changes c.args.id.now (c.args.owner, c.args.row)) c.self.view_is
