-- Worked schedules of streaming transactions: each step with what it is answered.
use Rattle.std.specs.Prelude.{List, [], ◌∷◌}
use Rattle.wsrep_base.specs.declared.verdict.Judged.TheVariants as became
use Rattle.wsrep_base.specs.declared.verdict.Verdict.TheVariants as verdict
use Rattle.row_model.specs.declared.calls.Call.TheVariants as call
use Rattle.row_model.specs.declared.calls.Reply.TheVariants as reply
use Rattle.order_event.specs.declared.step.Step.{Step}
use Rattle.order_event.specs.declared.step.Act.TheVariants as act
use Rattle.order_event.specs.declared.step.Answer.{Answer}
use Rattle.order_event.specs.declared.step.Answer.TheVariants as answer
use Rattle.worked_rows.specs.Words.{at, calls, id_at, first, n_a, n_acct, n_b, n_c, n_log, n_x}

-- a fragment for each change; nothing of it is seen elsewhere before the commit
abbrev pub streaming : List (Step × Answer)
streaming =
    (at 1 act.Drain, answer.At 1)
    ∷ (at 2 act.Drain, answer.At 1)
    ∷ (calls 1 1 (call.Begin 0), answer.Client reply.Done)
    ∷ (calls 1 1 (call.Insert (id_at n_acct n_a) (100 ∷ [])), answer.Client reply.Done)
    ∷ (calls 1 1 call.Commit, answer.Client reply.Pending)
    ∷ (at 1 act.Drain, answer.At 2)
    ∷ (at 2 act.Drain, answer.At 2)
    ∷ (calls 1 1 call.Poll, answer.Client (reply.Committed 2))
    ∷ (calls 1 1 (call.Begin 1), answer.Client reply.Done)
    ∷ (calls 1 1 (call.Insert (id_at n_acct n_b) (1 ∷ [])), answer.Client reply.Pending)
    ∷ (at 1 act.Drain, answer.At 3)
    ∷ (calls 1 1 (call.Insert (id_at n_acct n_c) (2 ∷ [])), answer.Client reply.Pending)
    ∷ (at 1 act.Drain, answer.At 4)
    ∷ (at 2 act.Drain, answer.At 4)
    ∷ (calls 1 1 (call.Read (id_at n_acct n_b)), answer.Client (reply.Row (1 ∷ [])))
    ∷ (calls 2 1 (call.Read (id_at n_acct n_b)), answer.Client reply.NoRow)
    ∷ (calls 1 1 call.Commit, answer.Client reply.Pending)
    ∷ (at 1 act.Drain, answer.At 5)
    ∷ (at 2 act.Drain, answer.At 5)
    ∷ (calls 2 1 (call.Read (id_at n_acct n_b)), answer.Client (reply.Row (1 ∷ [])))
    ∷ (calls 2 1 (call.Read (id_at n_acct n_c)), answer.Client (reply.Row (2 ∷ [])))
    ∷ (calls 1 1 call.Poll, answer.Client (reply.Committed 5))
    ∷ []

-- a fragment holds its rows: a statement is told so, and a commit fails by it
abbrev pub held_by_a_fragment : List (Step × Answer)
held_by_a_fragment =
    (at 1 act.Drain, answer.At 1)
    ∷ (at 2 act.Drain, answer.At 1)
    ∷ (calls 1 1 (call.Begin 0), answer.Client reply.Done)
    ∷ (calls 1 1 (call.Insert (id_at n_acct n_a) (100 ∷ [])), answer.Client reply.Done)
    ∷ (calls 1 1 call.Commit, answer.Client reply.Pending)
    ∷ (at 1 act.Drain, answer.At 2)
    ∷ (at 2 act.Drain, answer.At 2)
    ∷ (calls 1 1 call.Poll, answer.Client (reply.Committed 2))
    ∷ (calls 2 1 (call.Begin 0), answer.Client reply.Done)
    ∷ (calls 2 1 (call.Update (id_at n_acct n_a) (first 50)), answer.Client reply.Done)
    ∷ (calls 1 1 (call.Begin 1), answer.Client reply.Done)
    ∷ (calls 1 1 (call.Update (id_at n_acct n_a) (first 70)), answer.Client reply.Pending)
    ∷ (at 1 act.Order, answer.Ordered 3)
    ∷ (at 2 act.Take, answer.Took 3)
    ∷ (at 2 act.Certify, answer.Judged 3 became.Fragment)
    ∷ (calls 2 2 (call.Begin 0), answer.Client reply.Done)
    ∷ (calls 2 2 (call.Update (id_at n_acct n_a) (first 1)), answer.Client (reply.HeldBy 3))
    ∷ (calls 2 1 call.Commit, answer.Client reply.Pending)
    ∷ (at 2 act.Order, answer.Ordered 4)
    ∷ (at 2 act.Take, answer.Took 4)
    ∷ (at 2 act.Certify, answer.Judged 4 (became.Fail (verdict.Held 3)))
    ∷ (calls 2 1 call.Poll, answer.Client (reply.DeadlockCert 3))
    ∷ []

-- a streaming commit enters with the keys of all its fragments
abbrev pub commit_enters_all_fragments : List (Step × Answer)
commit_enters_all_fragments =
    (at 1 act.Drain, answer.At 1)
    ∷ (at 2 act.Drain, answer.At 1)
    ∷ (calls 1 1 (call.Begin 0), answer.Client reply.Done)
    ∷ (calls 1 1 (call.Insert (id_at n_acct n_a) (100 ∷ [])), answer.Client reply.Done)
    ∷ (calls 1 1 call.Commit, answer.Client reply.Pending)
    ∷ (at 1 act.Drain, answer.At 2)
    ∷ (at 2 act.Drain, answer.At 2)
    ∷ (calls 1 1 call.Poll, answer.Client (reply.Committed 2))
    ∷ (calls 1 1 (call.Begin 1), answer.Client reply.Done)
    ∷ (calls 1 1 (call.Update (id_at n_acct n_a) (first 70)), answer.Client reply.Pending)
    ∷ (at 1 act.Drain, answer.At 3)
    ∷ (calls 1 1 call.Commit, answer.Client reply.Pending)
    ∷ (at 1 act.Drain, answer.At 4)
    ∷ (at 2 act.Take, answer.Took 3)
    ∷ (at 2 act.Take, answer.Took 4)
    ∷ (at 2 act.Certify, answer.Judged 3 became.Fragment)
    ∷ (at 2 act.Advance, answer.At 3)
    ∷ (at 2 act.Certify, answer.Judged 4 became.Commit)
    ∷ (calls 2 1 (call.Begin 0), answer.Client reply.Done)
    ∷ (calls 2 1 (call.Update (id_at n_acct n_a) (first 50)), answer.Client reply.Done)
    ∷ (calls 2 1 call.Commit, answer.Client reply.Pending)
    ∷ (at 2 act.Order, answer.Ordered 5)
    ∷ (at 2 act.Take, answer.Took 5)
    ∷ (at 2 act.Certify, answer.Judged 5 (became.Fail (verdict.Conflict 4)))
    ∷ (calls 2 1 call.Poll, answer.Client (reply.DeadlockCert 4))
    ∷ []

-- a rollback takes the fragments back on every node
abbrev pub rollback_frees_rows : List (Step × Answer)
rollback_frees_rows =
    (at 1 act.Drain, answer.At 1)
    ∷ (at 2 act.Drain, answer.At 1)
    ∷ (calls 1 1 (call.Begin 0), answer.Client reply.Done)
    ∷ (calls 1 1 (call.Insert (id_at n_acct n_a) (100 ∷ [])), answer.Client reply.Done)
    ∷ (calls 1 1 call.Commit, answer.Client reply.Pending)
    ∷ (at 1 act.Drain, answer.At 2)
    ∷ (at 2 act.Drain, answer.At 2)
    ∷ (calls 1 1 call.Poll, answer.Client (reply.Committed 2))
    ∷ (calls 1 1 (call.Begin 1), answer.Client reply.Done)
    ∷ (calls 1 1 (call.Update (id_at n_acct n_a) (first 70)), answer.Client reply.Pending)
    ∷ (at 1 act.Drain, answer.At 3)
    ∷ (at 2 act.Drain, answer.At 3)
    ∷ (calls 2 1 (call.Begin 0), answer.Client reply.Done)
    ∷ (calls 2 1 (call.Update (id_at n_acct n_a) (first 50)), answer.Client (reply.HeldBy 3))
    ∷ (calls 1 1 call.Rollback, answer.Client reply.RolledBack)
    ∷ (at 1 act.Drain, answer.At 4)
    ∷ (calls 2 1 (call.Update (id_at n_acct n_a) (first 50)), answer.Client (reply.HeldBy 3))
    ∷ (at 2 act.Take, answer.Took 4)
    ∷ (at 2 act.Certify, answer.Judged 4 became.Rollback)
    ∷ (calls 2 1 (call.Update (id_at n_acct n_a) (first 50)), answer.Client reply.Done)
    ∷ (calls 2 1 call.Commit, answer.Client reply.Pending)
    ∷ (at 2 act.Advance, answer.At 4)
    ∷ (at 2 act.Drain, answer.At 5)
    ∷ (calls 2 1 call.Poll, answer.Client (reply.Committed 5))
    ∷ (at 1 act.Drain, answer.At 5)
    ∷ []

-- a unit aborts a transaction whose fragment waits, and its rollback follows it
abbrev pub fragment_of_a_victim : List (Step × Answer)
fragment_of_a_victim =
    (at 1 act.Drain, answer.At 1)
    ∷ (at 2 act.Drain, answer.At 1)
    ∷ (calls 1 1 (call.Begin 0), answer.Client reply.Done)
    ∷ (calls 1 1 (call.Insert (id_at n_acct n_a) (100 ∷ [])), answer.Client reply.Done)
    ∷ (calls 1 1 call.Commit, answer.Client reply.Pending)
    ∷ (at 1 act.Drain, answer.At 2)
    ∷ (at 2 act.Drain, answer.At 2)
    ∷ (calls 1 1 call.Poll, answer.Client (reply.Committed 2))
    ∷ (calls 1 1 (call.Begin 0), answer.Client reply.Done)
    ∷ (calls 1 1 (call.Update (id_at n_acct n_a) (first 70)), answer.Client reply.Done)
    ∷ (calls 1 1 call.Commit, answer.Client reply.Pending)
    ∷ (at 1 act.Order, answer.Ordered 3)
    ∷ (calls 2 1 (call.Begin 1), answer.Client reply.Done)
    ∷ (calls 2 1 (call.Share (id_at n_acct n_a)), answer.Client (reply.Row (100 ∷ [])))
    ∷ (calls 2 1 (call.Insert (id_at n_log n_x) (1 ∷ [])), answer.Client reply.Pending)
    ∷ (at 2 act.Take, answer.Took 3)
    ∷ (at 2 act.Certify, answer.Judged 3 became.Commit)
    ∷ (at 2 (act.Start 3), answer.Started 3 (1 ∷ []))
    ∷ (calls 2 1 call.Poll, answer.Client (reply.DeadlockBf 3))
    ∷ (at 2 act.Order, answer.Ordered 4)
    ∷ (at 2 act.Order, answer.Ordered 5)
    ∷ (at 2 (act.Finish 3), answer.Finished 3)
    ∷ (at 2 act.Drain, answer.At 5)
    ∷ (calls 2 2 (call.Begin 0), answer.Client reply.Done)
    ∷ (calls 2 2 (call.Insert (id_at n_log n_x) (2 ∷ [])), answer.Client reply.Done)
    ∷ (at 1 act.Drain, answer.At 5)
    ∷ []
