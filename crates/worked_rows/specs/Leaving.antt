-- Worked schedules of a node that leaves, and of reports: each step with what it is answered.
use Rattle.std.specs.Prelude.{List, [], ◌∷◌}
use Rattle.wsrep_base.specs.declared.verdict.Judged.TheVariants as became
use Rattle.row_model.specs.declared.calls.Call.TheVariants as call
use Rattle.row_model.specs.declared.calls.Reply.TheVariants as reply
use Rattle.order_event.specs.declared.step.Step.{Step}
use Rattle.order_event.specs.declared.step.Act.TheVariants as act
use Rattle.order_event.specs.declared.step.Answer.{Answer}
use Rattle.order_event.specs.declared.step.Answer.TheVariants as answer
use Rattle.worked_rows.specs.Words.{at, calls, id_at, first, n_a, n_acct, n_b}

-- the sessions of a node that leaves are told what became of their transactions
abbrev pub leave : List (Step × Answer)
leave =
    (at 1 act.Drain, answer.At 1)
    ∷ (at 2 act.Drain, answer.At 1)
    ∷ (calls 1 1 (call.Begin 0), answer.Client reply.Done)
    ∷ (calls 1 1 (call.Insert (id_at n_acct n_a) (100 ∷ [])), answer.Client reply.Done)
    ∷ (calls 1 1 call.Commit, answer.Client reply.Pending)
    ∷ (at 1 act.Drain, answer.At 2)
    ∷ (at 2 act.Drain, answer.At 2)
    ∷ (calls 1 1 call.Poll, answer.Client (reply.Committed 2))
    ∷ (calls 1 1 (call.Begin 0), answer.Client reply.Done)
    ∷ (calls 1 1 (call.Update (id_at n_acct n_a) (first 70)), answer.Client reply.Done)
    ∷ (calls 1 1 call.Commit, answer.Client reply.Pending)
    ∷ (calls 1 2 (call.Begin 0), answer.Client reply.Done)
    ∷ (calls 1 2 (call.Insert (id_at n_acct n_b) (5 ∷ [])), answer.Client reply.Done)
    ∷ (at 1 act.Leave, answer.Left 3)
    ∷ (calls 1 1 call.Poll, answer.Client reply.Unknown)
    ∷ (calls 1 2 call.Poll, answer.Client reply.Disconnected)
    ∷ (calls 1 2 (call.Begin 0), answer.Client reply.Disconnected)
    ∷ (at 1 act.Leave, answer.Disconnected)
    ∷ []

-- a node leaves, and its open streaming transaction goes with it
abbrev pub leave_and_orphans : List (Step × Answer)
leave_and_orphans =
    (at 1 act.Drain, answer.At 1)
    ∷ (at 2 act.Drain, answer.At 1)
    ∷ (calls 1 1 (call.Begin 0), answer.Client reply.Done)
    ∷ (calls 1 1 (call.Insert (id_at n_acct n_a) (100 ∷ [])), answer.Client reply.Done)
    ∷ (calls 1 1 call.Commit, answer.Client reply.Pending)
    ∷ (at 1 act.Drain, answer.At 2)
    ∷ (at 2 act.Drain, answer.At 2)
    ∷ (calls 1 1 call.Poll, answer.Client (reply.Committed 2))
    ∷ (calls 1 1 (call.Begin 1), answer.Client reply.Done)
    ∷ (calls 1 1 (call.Update (id_at n_acct n_a) (first 70)), answer.Client reply.Pending)
    ∷ (at 1 act.Drain, answer.At 3)
    ∷ (at 2 act.Drain, answer.At 3)
    ∷ (calls 2 1 (call.Begin 0), answer.Client reply.Done)
    ∷ (calls 2 1 (call.Update (id_at n_acct n_a) (first 50)), answer.Client (reply.HeldBy 3))
    ∷ (at 1 act.Leave, answer.Left 4)
    ∷ (at 2 act.Drain, answer.At 4)
    ∷ (calls 2 1 (call.Update (id_at n_acct n_a) (first 50)), answer.Client reply.Done)
    ∷ (calls 2 1 call.Commit, answer.Client reply.Pending)
    ∷ (at 2 act.Drain, answer.At 5)
    ∷ (calls 2 1 call.Poll, answer.Client (reply.Committed 5))
    ∷ (calls 1 1 call.Poll, answer.Client reply.Disconnected)
    ∷ []

-- reports let the floor rise, and the index forgets
abbrev pub purge_by_reports : List (Step × Answer)
purge_by_reports =
    (at 1 act.Drain, answer.At 1)
    ∷ (at 2 act.Drain, answer.At 1)
    ∷ (calls 1 1 (call.Begin 0), answer.Client reply.Done)
    ∷ (calls 1 1 (call.Insert (id_at n_acct n_a) (100 ∷ [])), answer.Client reply.Done)
    ∷ (calls 1 1 call.Commit, answer.Client reply.Pending)
    ∷ (at 1 act.Drain, answer.At 2)
    ∷ (at 2 act.Drain, answer.At 2)
    ∷ (calls 1 1 call.Poll, answer.Client (reply.Committed 2))
    ∷ (at 1 act.Status, answer.Status 2 2 2 1 2 0)
    ∷ (at 1 act.Report, answer.Reported 2)
    ∷ (at 2 act.Report, answer.Reported 2)
    ∷ (at 1 act.Order, answer.Ordered 3)
    ∷ (at 2 act.Order, answer.Ordered 4)
    ∷ (at 1 act.Drain, answer.At 4)
    ∷ (at 1 act.Status, answer.Status 4 4 4 2 0 0)
    ∷ []
