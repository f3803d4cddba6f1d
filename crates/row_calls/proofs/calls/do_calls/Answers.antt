-- A call is done on what the calls before it leave.
use Rattle.std.proofs.Common.{◌≡◌, ℕ, ◌+◌, List, [], take, Result, Ok, Err, OnErr, sym, ◌∙◌, ap, subst, arith}
use Rattle.std.proofs.lemmas.List.Sums.{fold_more}
use Rattle.row_calls.specs.declared.calls.RowCall.{RowCall}
use Rattle.row_calls.specs.declared.calls.RowAnswer.{RowAnswer}
use Rattle.row_calls.specs.Calls.{Standing, standing, IsFree, done_next, done_calls}
use Rattle.row_calls.proofs.calls.do_calls.Goals as goal

pub do_call-requires : goal.do_call-requires
do_call-requires g c =
    let calls : List RowCall = c.args.calls.now in
    let first = standing (g.R.Rows.table c.args.rows.now) in
    let at : ℕ = c.loop-call.call-index in
    let now : standing (g.R.Rows.table c.loop-call.rows) ≡ (done_calls first (take at calls)).0 =
    ap (λ (r : Standing × List RowAnswer). r.0) c.loop-call.invariant in
    let here : Standing → Type 0 = λ s. IsFree s c.call-item.result in
    let of_call : RowCall → Type 0 = λ call. IsFree (done_calls first (take at calls)).0 call in
    subst here (sym now) (subst of_call (sym c.call-item.is) (c.requires at c.call-item.result c.loop-call-test.true))

on_err : {T E P : Type 0} (result : Result T E) → P → OnErr result P
on_err (Ok _) same = tt
on_err (Err _) same = same

pub returns-in_err-push-in-Ok-clause-err : goal.returns-in_err-push-in-Ok-clause-err
returns-in_err-push-in-Ok-clause-err g c =
    let calls : List RowCall = c.args.calls.now in
    let first = standing (g.R.Rows.table c.args.rows.now) in
    let at : ℕ = c.loop-call.call-index in
    let inside = c.loop-call-test.true in
    on_err c.from_residual.result (record {
      count = at + 1;
      within = omega (arith, inside);
      done = ap (λ (r : Standing × RowAnswer). r.0) c.in-Ok.ensures.ok
          ∙ (λ j. (done_next (c.loop-call.invariant j) (c.call-item.is j)).0)
          ∙ ap (λ (r : Standing × List RowAnswer). r.0)
          (sym (fold_more done_next (first, []) calls at c.call-item.result inside));
    })
