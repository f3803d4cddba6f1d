-- Worked schedules of a node that joins again: each step with what it is answered.
use Rattle.std.specs.Prelude.{List, [], ◌∷◌, ◌++◌, take, true, false}
use Rattle.wsrep_base.specs.declared.verdict.Judged.TheVariants as became
use Rattle.row_model.specs.declared.calls.Call.TheVariants as call
use Rattle.row_model.specs.declared.calls.Reply.TheVariants as reply
use Rattle.order_event.specs.declared.step.Step.{Step}
use Rattle.order_event.specs.declared.step.Act.TheVariants as act
use Rattle.order_event.specs.declared.step.Answer.{Answer}
use Rattle.order_event.specs.declared.step.Answer.TheVariants as answer
use Rattle.worked_rows.specs.Words.{at, calls, id_at, n_a, n_acct}
use Rattle.worked_rows.specs.Commits.{first_committer_wins}

-- two nodes have committed a row
abbrev pub a_row : List (Step × Answer)
a_row =
    (at 1 act.Drain, answer.At 1)
    ∷ (at 2 act.Drain, answer.At 1)
    ∷ (calls 1 1 (call.Begin 0), answer.Client reply.Done)
    ∷ (calls 1 1 (call.Insert (id_at n_acct n_a) (100 ∷ [])), answer.Client reply.Done)
    ∷ (calls 1 1 call.Commit, answer.Client reply.Pending)
    ∷ (at 1 act.Drain, answer.At 2)
    ∷ (at 2 act.Drain, answer.At 2)
    ∷ (calls 1 1 call.Poll, answer.Client (reply.Committed 2))
    ∷ []

-- the first leaves and joins, and the other takes both views
abbrev pub joins_again : List (Step × Answer)
joins_again =
    (at 1 act.Leave, answer.Left 3)
    ∷ (at 1 (act.Join false), answer.Joining 4 3)
    ∷ (at 1 (act.Transfer 2), answer.DonorBehind 4 2)
    ∷ (at 2 act.Take, answer.Took 3)
    ∷ (at 2 act.Take, answer.Took 4)
    ∷ []

abbrev pub joins_fresh : List (Step × Answer)
joins_fresh =
    (at 1 act.Leave, answer.Left 3)
    ∷ (at 1 (act.Join true), answer.Joining 4 3)
    ∷ (at 1 (act.Transfer 2), answer.DonorBehind 4 2)
    ∷ (at 2 act.Take, answer.Took 3)
    ∷ (at 2 act.Take, answer.Took 4)
    ∷ []

-- the ring has what it misses
abbrev pub by_events : List (Step × Answer)
by_events =
    a_row ++ joins_again
    ++ (at 1 (act.Transfer 2), answer.Ist 3 4)
    ∷ (at 1 act.Drain, answer.At 4)
    ∷ []

-- it does not, or the node keeps nothing of its state
abbrev pub by_snapshot : List (Step × Answer)
by_snapshot =
    (at 1 (act.Transfer 2), answer.DonorBehind 4 2)
    ∷ (at 2 act.Drain, answer.At 4)
    ∷ (at 1 (act.Transfer 2), answer.Sst 4)
    ∷ []

-- who may give, and who takes
abbrev pub donors : List (Step × Answer)
donors =
    a_row ++ joins_again
    ++ (at 2 act.Certify, answer.Judged 3 became.View)
    ∷ (at 1 (act.Transfer 2), answer.DonorBusy 3 2)
    ∷ (at 1 (act.Transfer 1), answer.NoDonor)
    ∷ (at 2 (act.Transfer 1), answer.NotJoining)
    ∷ []

-- a node joins once it has committed all that it took
abbrev pub drained_first : List (Step × Answer)
drained_first =
    take 22 first_committer_wins
    ++ (calls 1 1 call.Poll, answer.Client (reply.Committed 3))
    ∷ (at 2 act.Leave, answer.Left 5)
    ∷ (at 2 (act.Join false), answer.NotDrained 4 2)
    ∷ (at 2 act.Drain, answer.At 4)
    ∷ (at 2 (act.Join false), answer.Joining 6 3)
    ∷ (at 2 (act.Join false), answer.StillJoined)
    ∷ []
