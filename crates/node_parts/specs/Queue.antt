-- what a node sent: the messages that are ordered and not taken, and those that are not ordered
use Rattle.std.specs.Prelude.{◌≡◌, ℕ, ◌-◌, ◌==◌, Bool, false, List, [], ◌∷◌, ◌++◌, length, take, Option, Some, None}
use Rattle.std.specs.List.{AllByRecursion}
use Rattle.std.specs.Option.{option_map_or}
use Rattle.order_event.specs.declared.event.Message.{Message}
use Rattle.order_event.specs.declared.event.Message.TheVariants as message
use Rattle.write_set.specs.declared.write_set.WriteSet.{WriteSet}
use Rattle.write_set.specs.Reading.{decoded, commit_begin}
use Rattle.node_meaning.specs.Steps.{without_first}

pub record Queued : Type 0 where
  -- oldest first
  pub ordered : List Message
  pub outbox : List Message

abbrev pub nothing_sent : Queued
nothing_sent = record { ordered = []; outbox = [] }

-- the oldest of some messages
abbrev pub oldest : List Message → Option Message
oldest [] = None
oldest (m ∷ ms) = Some m

-- one more message waits to be ordered
abbrev pub queued : Queued → Message → Queued
queued q m = record q { outbox = q.outbox ++ m ∷ [] }

-- all these messages wait to be ordered
abbrev pub all_queued : Queued → List Message → Queued
all_queued q more = record q { outbox = q.outbox ++ more }

-- of the messages that wait only so many stay, the oldest
abbrev pub first_kept : Queued → ℕ → Queued
first_kept q count = record q { outbox = take count q.outbox }

-- the newest message that waits is taken back
abbrev pub without_newest : Queued → Queued
without_newest q = record q { outbox = take (length q.outbox - 1) q.outbox }

-- the oldest message that waits counts as ordered
abbrev pub moved : Queued → List Message → Queued
moved q [] = q
moved q (m ∷ ms) = record { ordered = q.ordered ++ m ∷ []; outbox = ms }

-- the first ordered message that passes the test is taken
abbrev pub taken : (Message → Bool) → Queued → Queued
taken test q = record q { ordered = without_first test q.ordered }

-- all messages, oldest first
abbrev pub messages_of : Queued → List Message
messages_of q = q.ordered ++ q.outbox

-- the bytes of a message are those of a write set, where it has any
abbrev pub IsOfSet : Message → Type 0
IsOfSet (message.Write body) = (w : WriteSet) × (decoded body ≡ Some w)
IsOfSet (message.Report number) = Unit {0}

abbrev pub AreOfSets : Queued → Type 0
AreOfSets q = AllByRecursion IsOfSet (messages_of q)

-- whether the bytes of a message name the transaction with this begin number as the one that they
-- commit
abbrev pub names_commit : ℕ → Message → Bool
names_commit begin (message.Write body) =
    option_map_or (λ named. named == begin) (commit_begin body) false
names_commit begin (message.Report number) = false
