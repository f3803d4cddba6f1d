-- how many write sets of a kind a node has sent: those of its member in the order, and those that
-- wait in its outbox
use Rattle.std.specs.Prelude.{ℕ, ◌+◌, ◌==◌, ◌&&◌, Bool, List, [], ◌∷◌, Option, Some, None, if◌then◌else◌}
use Rattle.order_event.specs.declared.event.Event.{Event}
use Rattle.order_event.specs.declared.event.Event.TheVariants as event
use Rattle.order_event.specs.declared.event.Message.{Message}
use Rattle.order_event.specs.declared.event.Message.TheVariants as message
use Rattle.write_set.specs.declared.write_set.WriteSet.{WriteSet}
use Rattle.write_set.specs.Reading.{decoded}
use Rattle.cert_meaning.specs.Verdict.{is_end}

-- a write set of the transaction with this begin number
abbrev pub is_of : ℕ → WriteSet → Bool
is_of begin w = w.begin == begin

-- its commit
abbrev pub is_end_of : ℕ → WriteSet → Bool
is_end_of begin w = w.begin == begin && is_end w

abbrev pub one_if : (WriteSet → Bool) → Option WriteSet → ℕ
one_if test None = 0
one_if test (Some w) = if test w then 1 else 0

abbrev pub event_count : (WriteSet → Bool) → ℕ → Event → ℕ
event_count test member (event.Write sender body) =
    if sender == member then one_if test (decoded body) else 0
event_count test member (event.View version members) = 0
event_count test member (event.Report sender number) = 0

abbrev pub count_ordered : (WriteSet → Bool) → ℕ → List Event → ℕ
count_ordered test member [] = 0
count_ordered test member (e ∷ order) =
    event_count test member e + count_ordered test member order

abbrev pub message_count : (WriteSet → Bool) → Message → ℕ
message_count test (message.Write body) = one_if test (decoded body)
message_count test (message.Report number) = 0

abbrev pub count_waiting : (WriteSet → Bool) → List Message → ℕ
count_waiting test [] = 0
count_waiting test (m ∷ outbox) = message_count test m + count_waiting test outbox

abbrev pub count_sent : (WriteSet → Bool) → ℕ → List Event → List Message → ℕ
count_sent test member order outbox =
    count_ordered test member order + count_waiting test outbox
