use Rattle.std.proofs.Common.{◌≡◌, take}
use Rattle.row_calls.specs.Calls.{standing, done_calls}
use Rattle.row_calls.proofs.calls.do_calls.Given as goal

-- the calls so far are done
abbrev pub invariant-loop-call : goal.invariant-loop-call
invariant-loop-call g l =
    (standing (g.R.Rows.table l.rows), l.answers) ≡ done_calls (standing (g.R.Rows.table l.initial.rows)) (take l.call-index l.calls)
