-- The newest row is its owner's, and without it the links stay whole.
use Rattle.std.proofs.Common.{◌≡◌, ℕ, List, Option, Some, None, get_or, set, sym, ◌∙◌, ap, subst}
use Rattle.std.specs.Option.{option_map}
use Rattle.finite_map.specs.FiniteMap.{get, remove}
use Rattle.row_model.specs.declared.row.RowId.{RowId}
use Rattle.undo_rows.specs.RowTable.{is_owned_by}
use Rattle.undo_rows.specs.OwnedRows.{Owned, AreLinked, change_of}
use Rattle.undo_rows.proofs.OwnedRowsLemmas.{get-changes_in, changes_taken, none_owned, newest_found, links_taken}
use Rattle.undo_rows.proofs.owned_rows.OwnedRows.take_newest.Goals as goal

pub returns-in_err-id-clause-none : goal.returns-in_err-id-clause-none
returns-in_err-id-clause-none c =
    let newest : List (Option RowId) = c.self.inside.newest.items in
    let first : get_or newest c.args.owner None ≡ None =
    ap (λ (ns : List (Option RowId)). get_or ns c.args.owner None) (sym c.deref.ensures.value) ∙ sym c.in_err-id.ensures in
    rw c.from_residual.ensures (λ (id : RowId).
    ap (λ (v : Owned). is_owned_by c.args.owner (get v.changes id)) (sym c.self.view_is)
    ∙ none_owned _ newest c.self.invariant c.args.owner c.ranges.owner.fits first id)

pub invariant_of-self : goal.invariant_of-self
invariant_of-self c =
    let newest : List (Option RowId) = c.self.inside.newest.items in
    let first : get_or newest c.args.owner None ≡ Some c.in_ok-id.id =
    ap (λ (ns : List (Option RowId)). get_or ns c.args.owner None) (sym c.deref.ensures.value) ∙ sym c.in_ok-id.ensures in
    let found = newest_found _ newest c.self.invariant c.args.owner c.ranges.owner.fits c.in_ok-id.id first in
    let own : c.in-Some.entry.owner ≡ c.args.owner =
    let e = found.1 in let f = found.2 in let g = c.in-Some.ensures.value in cc in
    subst (λ (n : ℕ). AreLinked c.remove.new.self.entries (set newest n c.in-Some.entry.before)) (own ∙ sym c.from.ensures)
    (links_taken _ _ newest c.self.invariant c.in_ok-id.id c.in-Some.entry (sym c.in-Some.ensures.value)
    (rw own c.ranges.owner.fits) (ap (λ n. get_or newest n None) own ∙ first) c.in-Some.ensures.updates.0)

pub returns-in-Some-clause-was : goal.returns-in-Some-clause-was
returns-in-Some-clause-was c =
    let newest : List (Option RowId) = c.self.inside.newest.items in
    let first : get_or newest c.args.owner None ≡ Some c.in_ok-id.id =
    ap (λ (ns : List (Option RowId)). get_or ns c.args.owner None) (sym c.deref.ensures.value) ∙ sym c.in_ok-id.ensures in
    let found = newest_found _ newest c.self.invariant c.args.owner c.ranges.owner.fits c.in_ok-id.id first in
    let own : c.in-Some.entry.owner ≡ c.args.owner =
    let e = found.1 in let f = found.2 in let g = c.in-Some.ensures.value in cc in
    ap (λ (v : Owned). get v.changes c.in_ok-id.id) (sym c.self.view_is)
    ∙ get-changes_in _ c.in_ok-id.id
    ∙ ap (option_map change_of) (sym c.in-Some.ensures.value)
    ∙ ap (λ n. Some (n, c.in-Some.entry.row)) own

pub returns-in-Some-clause-now : goal.returns-in-Some-clause-now
returns-in-Some-clause-now c =
    changes_taken _ _ _ c.in-Some.ensures.updates.0 ∙ ap (λ (v : Owned). remove v.changes c.in_ok-id.id) c.self.view_is

pub returns-in-None-clause-none : goal.returns-in-None-clause-none
returns-in-None-clause-none c =
    let newest : List (Option RowId) = c.self.inside.newest.items in
    let first : get_or newest c.args.owner None ≡ Some c.in_ok-id.id =
    ap (λ (ns : List (Option RowId)). get_or ns c.args.owner None) (sym c.deref.ensures.value) ∙ sym c.in_ok-id.ensures in
    let found = newest_found _ newest c.self.invariant c.args.owner c.ranges.owner.fits c.in_ok-id.id first in
    let e = found.1 in let f = c.in-None.ensures.value in cc
