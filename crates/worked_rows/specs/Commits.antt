-- Worked schedules of commits: each step with what it is answered.
use Rattle.std.specs.Prelude.{List, [], ◌∷◌}
use Rattle.wsrep_base.specs.declared.verdict.Verdict.TheVariants as verdict
use Rattle.wsrep_base.specs.declared.verdict.Judged.TheVariants as became
use Rattle.row_model.specs.declared.calls.Call.TheVariants as call
use Rattle.row_model.specs.declared.calls.Reply.TheVariants as reply
use Rattle.order_event.specs.declared.step.Step.{Step}
use Rattle.order_event.specs.declared.step.Act.TheVariants as act
use Rattle.order_event.specs.declared.step.Answer.{Answer}
use Rattle.order_event.specs.declared.step.Answer.TheVariants as answer
use Rattle.worked_rows.specs.Words.{at, calls, id_at, first, n_a, n_acct, n_b}

-- a session calls before its node has committed the first view
abbrev pub call_before_the_first_view : List (Step × Answer)
call_before_the_first_view =
    (calls 1 1 (call.Begin 0), answer.Client reply.NotSynced)
    ∷ []

-- one session commits one row
abbrev pub first_commit : List (Step × Answer)
first_commit =
    (at 1 act.Take, answer.Took 1)
    ∷ (at 1 act.Certify, answer.Judged 1 became.View)
    ∷ (at 1 act.Advance, answer.At 1)
    ∷ (calls 1 1 (call.Begin 0), answer.Client reply.Done)
    ∷ (calls 1 1 (call.Insert (id_at n_acct n_a) (100 ∷ [])), answer.Client reply.Done)
    ∷ (calls 1 1 call.Commit, answer.Client reply.Pending)
    ∷ (at 1 act.Order, answer.Ordered 2)
    ∷ (at 1 act.Take, answer.Took 2)
    ∷ (at 1 act.Certify, answer.Judged 2 became.Commit)
    ∷ (at 1 act.Advance, answer.At 2)
    ∷ (calls 1 1 call.Poll, answer.Client (reply.Committed 2))
    ∷ []

-- two nodes insert one row
abbrev pub first_committer_wins_on_an_insert : List (Step × Answer)
first_committer_wins_on_an_insert =
    (at 1 act.Take, answer.Took 1)
    ∷ (at 1 act.Certify, answer.Judged 1 became.View)
    ∷ (at 1 act.Advance, answer.At 1)
    ∷ (at 2 act.Take, answer.Took 1)
    ∷ (at 2 act.Certify, answer.Judged 1 became.View)
    ∷ (at 2 act.Advance, answer.At 1)
    ∷ (calls 1 1 (call.Begin 0), answer.Client reply.Done)
    ∷ (calls 1 1 (call.Insert (id_at n_acct n_a) (1 ∷ [])), answer.Client reply.Done)
    ∷ (calls 2 1 (call.Begin 0), answer.Client reply.Done)
    ∷ (calls 2 1 (call.Insert (id_at n_acct n_a) (2 ∷ [])), answer.Client reply.Done)
    ∷ (calls 1 1 call.Commit, answer.Client reply.Pending)
    ∷ (calls 2 1 call.Commit, answer.Client reply.Pending)
    ∷ (at 1 act.Order, answer.Ordered 2)
    ∷ (at 2 act.Order, answer.Ordered 3)
    ∷ (at 2 act.Take, answer.Took 2)
    ∷ (at 2 act.Take, answer.Took 3)
    ∷ (at 2 act.Certify, answer.Judged 2 became.Commit)
    ∷ (at 2 act.Certify, answer.Judged 3 (became.Fail (verdict.Conflict 2)))
    ∷ (calls 2 1 call.Poll, answer.Client (reply.DeadlockCert 2))
    ∷ (at 2 act.Advance, answer.NotReady 2)
    ∷ []

-- a transaction without a change is committed at once and sends nothing
abbrev pub commit_of_nothing : List (Step × Answer)
commit_of_nothing =
    (at 1 act.Drain, answer.At 1)
    ∷ (at 2 act.Drain, answer.At 1)
    ∷ (calls 1 1 (call.Begin 0), answer.Client reply.Done)
    ∷ (calls 1 1 (call.Insert (id_at n_acct n_a) (100 ∷ [])), answer.Client reply.Done)
    ∷ (calls 1 1 call.Commit, answer.Client reply.Pending)
    ∷ (at 1 act.Drain, answer.At 2)
    ∷ (at 2 act.Drain, answer.At 2)
    ∷ (calls 1 1 call.Poll, answer.Client (reply.Committed 2))
    ∷ (calls 1 1 (call.Begin 0), answer.Client reply.Done)
    ∷ (calls 1 1 call.Commit, answer.Client (reply.Committed 0))
    ∷ (at 1 act.Order, answer.Nothing)
    ∷ []

-- two nodes update one row from one snapshot
abbrev pub first_committer_wins : List (Step × Answer)
first_committer_wins =
    (at 1 act.Drain, answer.At 1)
    ∷ (at 2 act.Drain, answer.At 1)
    ∷ (calls 1 1 (call.Begin 0), answer.Client reply.Done)
    ∷ (calls 1 1 (call.Insert (id_at n_acct n_a) (100 ∷ [])), answer.Client reply.Done)
    ∷ (calls 1 1 call.Commit, answer.Client reply.Pending)
    ∷ (at 1 act.Drain, answer.At 2)
    ∷ (at 2 act.Drain, answer.At 2)
    ∷ (calls 1 1 call.Poll, answer.Client (reply.Committed 2))
    ∷ (calls 1 1 (call.Begin 0), answer.Client reply.Done)
    ∷ (calls 1 1 (call.Update (id_at n_acct n_a) (first 70)), answer.Client reply.Done)
    ∷ (calls 2 1 (call.Begin 0), answer.Client reply.Done)
    ∷ (calls 2 1 (call.Update (id_at n_acct n_a) (first 50)), answer.Client reply.Done)
    ∷ (calls 1 1 call.Commit, answer.Client reply.Pending)
    ∷ (calls 2 1 call.Commit, answer.Client reply.Pending)
    ∷ (at 1 act.Order, answer.Ordered 3)
    ∷ (at 2 act.Order, answer.Ordered 4)
    ∷ (at 2 act.Take, answer.Took 3)
    ∷ (at 2 act.Take, answer.Took 4)
    ∷ (at 2 act.Certify, answer.Judged 3 became.Commit)
    ∷ (at 2 act.Certify, answer.Judged 4 (became.Fail (verdict.Conflict 3)))
    ∷ (calls 2 1 call.Poll, answer.Client (reply.DeadlockCert 3))
    ∷ (at 1 act.Drain, answer.At 4)
    ∷ (at 2 act.Drain, answer.At 4)
    ∷ (calls 1 1 call.Poll, answer.Client (reply.Committed 3))
    ∷ []

-- a commit that was seen does not conflict
abbrev pub edge_of_the_window : List (Step × Answer)
edge_of_the_window =
    (at 1 act.Drain, answer.At 1)
    ∷ (at 2 act.Drain, answer.At 1)
    ∷ (calls 1 1 (call.Begin 0), answer.Client reply.Done)
    ∷ (calls 1 1 (call.Insert (id_at n_acct n_a) (100 ∷ [])), answer.Client reply.Done)
    ∷ (calls 1 1 call.Commit, answer.Client reply.Pending)
    ∷ (at 1 act.Drain, answer.At 2)
    ∷ (at 2 act.Drain, answer.At 2)
    ∷ (calls 1 1 call.Poll, answer.Client (reply.Committed 2))
    ∷ (calls 1 1 (call.Begin 0), answer.Client reply.Done)
    ∷ (calls 1 1 (call.Update (id_at n_acct n_a) (first 70)), answer.Client reply.Done)
    ∷ (calls 1 1 call.Commit, answer.Client reply.Pending)
    ∷ (at 1 act.Drain, answer.At 3)
    ∷ (at 2 act.Drain, answer.At 3)
    ∷ (calls 2 1 (call.Begin 0), answer.Client reply.Done)
    ∷ (calls 2 1 (call.Update (id_at n_acct n_a) (first 50)), answer.Client reply.Done)
    ∷ (calls 2 1 call.Commit, answer.Client reply.Pending)
    ∷ (at 2 act.Order, answer.Ordered 4)
    ∷ (at 2 act.Take, answer.Took 4)
    ∷ (at 2 act.Certify, answer.Judged 4 became.Commit)
    ∷ (at 2 act.Advance, answer.At 4)
    ∷ (calls 2 1 call.Poll, answer.Client (reply.Committed 4))
    ∷ []

-- what was certified and not committed is not seen, and conflicts
abbrev pub certified_is_not_seen : List (Step × Answer)
certified_is_not_seen =
    (at 1 act.Drain, answer.At 1)
    ∷ (at 2 act.Drain, answer.At 1)
    ∷ (calls 1 1 (call.Begin 0), answer.Client reply.Done)
    ∷ (calls 1 1 (call.Insert (id_at n_acct n_a) (100 ∷ [])), answer.Client reply.Done)
    ∷ (calls 1 1 call.Commit, answer.Client reply.Pending)
    ∷ (at 1 act.Drain, answer.At 2)
    ∷ (at 2 act.Drain, answer.At 2)
    ∷ (calls 1 1 call.Poll, answer.Client (reply.Committed 2))
    ∷ (calls 1 1 (call.Begin 0), answer.Client reply.Done)
    ∷ (calls 1 1 (call.Update (id_at n_acct n_a) (first 70)), answer.Client reply.Done)
    ∷ (calls 1 1 call.Commit, answer.Client reply.Pending)
    ∷ (at 1 act.Order, answer.Ordered 3)
    ∷ (at 2 act.Take, answer.Took 3)
    ∷ (at 2 act.Certify, answer.Judged 3 became.Commit)
    ∷ (calls 2 1 (call.Begin 0), answer.Client reply.Done)
    ∷ (calls 2 1 (call.Update (id_at n_acct n_a) (first 50)), answer.Client reply.Done)
    ∷ (calls 2 1 call.Commit, answer.Client reply.Pending)
    ∷ (at 2 act.Order, answer.Ordered 4)
    ∷ (at 2 act.Take, answer.Took 4)
    ∷ (at 2 act.Certify, answer.Judged 4 (became.Fail (verdict.Conflict 3)))
    ∷ (calls 2 1 call.Poll, answer.Client (reply.DeadlockCert 3))
    ∷ []

-- two sessions of one node commit side by side, and each is told its own number
abbrev pub sessions_side_by_side : List (Step × Answer)
sessions_side_by_side =
    (at 1 act.Drain, answer.At 1)
    ∷ (calls 1 1 (call.Begin 0), answer.Client reply.Done)
    ∷ (calls 1 2 (call.Begin 0), answer.Client reply.Done)
    ∷ (calls 1 1 (call.Insert (id_at n_acct n_a) (1 ∷ [])), answer.Client reply.Done)
    ∷ (calls 1 2 (call.Insert (id_at n_acct n_b) (2 ∷ [])), answer.Client reply.Done)
    ∷ (calls 1 1 call.Commit, answer.Client reply.Pending)
    ∷ (calls 1 2 call.Commit, answer.Client reply.Pending)
    ∷ (at 1 act.Order, answer.Ordered 2)
    ∷ (at 1 act.Order, answer.Ordered 3)
    ∷ (at 1 act.Take, answer.Took 2)
    ∷ (at 1 act.Take, answer.Took 3)
    ∷ (at 1 act.Certify, answer.Judged 2 became.Commit)
    ∷ (at 1 act.Certify, answer.Judged 3 became.Commit)
    ∷ (at 1 act.Advance, answer.At 2)
    ∷ (at 1 act.Advance, answer.At 3)
    ∷ (calls 1 1 call.Poll, answer.Client (reply.Committed 2))
    ∷ (calls 1 2 call.Poll, answer.Client (reply.Committed 3))
    ∷ []
