-- What is kept is what the owner saw.
use Rattle.std.proofs.Common.{sym, ◌∙◌, ap}
use Rattle.row_calls.specs.declared.calls.RowAnswer.{RowAnswer}
use Rattle.row_calls.specs.declared.calls.RowAnswer.TheVariants.{Done}
use Rattle.row_calls.specs.Calls.{Standing, standing, done_call}
use Rattle.row_calls.proofs.CallLemmas.{standing_of, kept-is}
use Rattle.row_calls.proofs.calls.do_call.Goals as goal

pub returns-in-Keep-clause-ok : goal.returns-in-Keep-clause-ok
returns-in-Keep-clause-ok g c =
    let before = g.R.Rows.table c.args.rows.now in
    let after = g.R.Rows.table c.keep.new.self in
    let is_done : Standing → Standing × RowAnswer = λ s. (s, Done) in
    ap is_done (standing_of after.committed _ after.changes _
    (kept-is after.committed before c.in-Keep.owner c.keep.ensures.committed) c.keep.ensures.changes)
    ∙ ap (done_call (standing before)) (sym c.in-Keep.is)
