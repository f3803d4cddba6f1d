-- What is taken out is the owner's, and at the end it has nothing.
use Rattle.std.proofs.Common.{◌∙◌, ap, arith}
use Rattle.undo_rows.specs.RowTable.{Changes, without}
use Rattle.undo_rows.proofs.RowTableLemmas.{without-remove, without-none}
use Rattle.undo_rows.proofs.owned_rows.OwnedRows.drop_all.Goals as goal

pub loop-preserved : goal.loop-preserved
loop-preserved c = record {
  others = ap (λ (m : Changes). without m c.args.owner) c.in-Some.ensures.now
      ∙ without-remove c.loop.self.changes c.args.owner c.in-Some.field-0.0 c.in-Some.field-0.1 c.in-Some.ensures.was
      ∙ c.loop.invariant.others;
  fewer = omega (arith, c.take_newest.ensures.count);
  grown = omega (arith, c.take_newest.ensures.spare);
}

pub returns-clause-changes : goal.returns-clause-changes
returns-clause-changes c =
    c.in_default.ensures.unchanged
    ∙ without-none c.loop.self.changes c.args.owner c.in_default.ensures.none
    ∙ c.loop.invariant.others
