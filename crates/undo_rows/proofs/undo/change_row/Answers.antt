-- The image is kept before the row is changed in place.
use Rattle.std.proofs.Common.{◌≡◌, Result, Ok, Err, OnErr, ◌∙◌, ap}
use Rattle.finite_map.specs.FiniteMap.{insert}
use Rattle.row_model.specs.Rows.{Rows}
use Rattle.undo_rows.specs.Overlay.{rows_in}
use Rattle.undo_rows.specs.RowTable.{Changes}
use Rattle.undo_rows.specs.UndoRows.{committed_under, changes_over}
use Rattle.undo_rows.proofs.OverlayLemmas.{rows-same}
use Rattle.undo_rows.proofs.UndoLemmas.{committed-changed, changes-changed}
use Rattle.undo_rows.proofs.undo.change_row.Goals as goal

on_err : {T E P : Type 0} (result : Result T E) → P → OnErr result P
on_err (Ok _) same = tt
on_err (Err _) same = same

pub returns-in_err-keep_image-clause-committed : goal.returns-in_err-keep_image-clause-committed
returns-in_err-keep_image-clause-committed c =
    let same : ◌≡◌ {A = Rows} _ _ = rows-same c.args.rows.now.entries c.reserve.new.self.entries c.reserve.ensures.entries.2 in
    λ i. committed_under (same i) (c.in_err-keep_image.ensures.err i)

pub returns-in_err-keep_image-clause-err : goal.returns-in_err-keep_image-clause-err
returns-in_err-keep_image-clause-err c =
    let same : ◌≡◌ {A = Rows} _ _ = rows-same c.args.rows.now.entries c.reserve.new.self.entries c.reserve.ensures.entries.2 in
    on_err c.from_residual-in_err-keep_image.result (λ i. changes_over (same i) (c.in_err-keep_image.ensures.err i))

pub returns-clause-committed : goal.returns-clause-committed
returns-clause-committed c =
    let same : ◌≡◌ {A = Rows} _ _ = rows-same c.args.rows.now.entries c.reserve.new.self.entries c.reserve.ensures.entries.2 in
    let images : Changes = c.args.images.now.changes in
    ap (committed_under (rows_in c.set_row.new.rows.entries)) c.in_ok-keep_image.ensures.ok
    ∙ committed-changed _ _ images c.args.id.now c.args.owner c.args.row c.set_row.ensures.rows
    ∙ ap (λ (p : Rows). committed_under p images) same

pub returns-clause-ok : goal.returns-clause-ok
returns-clause-ok c =
    let same : ◌≡◌ {A = Rows} _ _ = rows-same c.args.rows.now.entries c.reserve.new.self.entries c.reserve.ensures.entries.2 in
    let images : Changes = c.args.images.now.changes in
    ap (changes_over (rows_in c.set_row.new.rows.entries)) c.in_ok-keep_image.ensures.ok
    ∙ changes-changed _ _ images c.args.id.now c.args.owner c.args.row c.set_row.ensures.rows c.requires.free
    ∙ ap (λ (p : Rows). insert (changes_over p images) c.args.id.now (c.args.owner, c.args.row)) same
