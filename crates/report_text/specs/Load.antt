-- the summary of `load`: what its steps were answered, and the rows of each node at the end
use Rattle.std.specs.Prelude.{ℕ, ◌+◌, ◌≤◌, Bool, true, false, nat_lt, List, [], ◌∷◌, ◌++◌, length, get_or, codes}
use Rattle.std.specs.List.{sum_by, count_by}
use Rattle.row_model.specs.declared.calls.Reply.TheVariants as reply
use Rattle.row_model.specs.declared.row.RowItem.{RowItem}
use Rattle.order_event.specs.declared.step.Answer.{Answer}
use Rattle.order_event.specs.declared.step.Answer.TheVariants as answer
use Rattle.report_text.specs.declared.load.LoadCounts.{LoadCounts}
use Rattle.report_text.specs.Texts.{spaced}

-- a transaction committed with a number
abbrev pub is_committed : Answer → Bool
is_committed (answer.Client (reply.Committed n)) = nat_lt 0 n
is_committed other = false

-- a transaction ended when it was certified, and by the start of a unit
abbrev pub is_deadlock_cert : Answer → Bool
is_deadlock_cert (answer.Client (reply.DeadlockCert v)) = true
is_deadlock_cert other = false

abbrev pub is_deadlock_bf : Answer → Bool
is_deadlock_bf (answer.Client (reply.DeadlockBf n)) = true
is_deadlock_bf other = false

-- a statement met a lock, a unit at work, or a fragment
abbrev pub is_busy : Answer → Bool
is_busy (answer.Client (reply.Busy s)) = true
is_busy (answer.Client (reply.BusyApply n)) = true
is_busy (answer.Client (reply.HeldBy f)) = true
is_busy other = false

-- how many answers are of each kind
abbrev pub counts_of : List Answer → LoadCounts
counts_of answers =
    record {
      committed = count_by is_committed answers;
      deadlock_cert = count_by is_deadlock_cert answers;
      deadlock_bf = count_by is_deadlock_bf answers;
      busy = count_by is_busy answers;
    }

-- the counts of one list of answers and of another
abbrev pub together : LoadCounts → LoadCounts → LoadCounts
together a b =
    record {
      committed = a.committed + b.committed;
      deadlock_cert = a.deadlock_cert + b.deadlock_cert;
      deadlock_bf = a.deadlock_bf + b.deadlock_bf;
      busy = a.busy + b.busy;
    }

-- no count is above that of the answers
pub record IsCountOf (answers : ℕ) (c : LoadCounts) : Type 0 where
  pub committed : c.committed ≤ answers
  pub deadlock_cert : c.deadlock_cert ≤ answers
  pub deadlock_bf : c.deadlock_bf ≤ answers
  pub busy : c.busy ≤ answers

-- a line of words and a number
abbrev pub count_line : List ℕ → ℕ → List ℕ
count_line words n = words ++ spaced (n ∷ []) ++ codes "\n"

-- the lines of the counts
unfoldable pub answers_text : LoadCounts → List ℕ
answers_text counts =
    count_line (codes "committed") counts.committed
    ++ count_line (codes "deadlock cert") counts.deadlock_cert
    ++ count_line (codes "deadlock bf") counts.deadlock_bf
    ++ count_line (codes "busy") counts.busy

-- the lines of a generated schedule: what it was, its answers, and how many events were ordered
unfoldable pub counts_text : ℕ → ℕ → LoadCounts → ℕ → List ℕ
counts_text seed count counts events =
    codes "load seed" ++ spaced (seed ∷ []) ++ count_line (codes " count") count
    ++ answers_text counts
    ++ count_line (codes "events") events

-- the sum of the first values of rows
abbrev pub first_sum : List RowItem → ℕ
first_sum rows = sum_by (λ item. get_or item.row 0 0) rows

-- the line of a node: how far it has committed, how many rows it has, and their sum
unfoldable pub sum_text : ℕ → ℕ → List RowItem → List ℕ
sum_text node at rows =
    codes "node" ++ spaced (node ∷ []) ++ codes " at" ++ spaced (at ∷ [])
    ++ codes " rows" ++ spaced (length rows ∷ []) ++ count_line (codes " sum") (first_sum rows)
