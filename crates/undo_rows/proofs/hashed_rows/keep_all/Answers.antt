-- What is taken out becomes the committed row, which the owner sees from then on.
use Rattle.std.proofs.Common.{◌∙◌, ap, arith}
use Rattle.undo_rows.specs.Overlay.{rows_in}
use Rattle.undo_rows.specs.RowTable.{Changes, without}
use Rattle.undo_rows.proofs.RowTableLemmas.{without-remove, without-none, seen-kept}
use Rattle.undo_rows.proofs.hashed_rows.keep_all.Goals as goal

pub loop-id-preserved : goal.loop-id-preserved
loop-id-preserved c = record {
  sees = λ q.
      seen-kept c.loop-id.owned.changes _ (rows_in c.loop-id.rows.entries) _ c.args.owner c.in-Some.id c.in-Some.row
      c.in-Some.ensures.was c.in-Some.ensures.now c.set_row.ensures.rows q
      ∙ c.loop-id.invariant.sees q;
  others = ap (λ (m : Changes). without m c.args.owner) c.in-Some.ensures.now
      ∙ without-remove c.loop-id.owned.changes c.args.owner c.in-Some.id c.in-Some.row c.in-Some.ensures.was
      ∙ c.loop-id.invariant.others;
  grown = omega (arith, c.take_newest.ensures.spare);
  room = omega (arith, c.in-Some.ensures.count, c.set_row.ensures.spare);
  more = omega (arith, c.in-Some.ensures.count, c.set_row.ensures.spare);
}

pub returns-clause-owned : goal.returns-clause-owned
returns-clause-owned c =
    c.in_default.ensures.unchanged
    ∙ without-none c.loop-id.owned.changes c.args.owner c.in_default.ensures.none
    ∙ c.loop-id.invariant.others
