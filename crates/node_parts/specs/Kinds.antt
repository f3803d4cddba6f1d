-- the kinds of messages, and where the first of a kind stands
use Rattle.std.specs.Prelude.{ℕ, suc, Bool, List, [], ◌∷◌, Option, Some, None, option_map, if◌then◌else◌}
use Rattle.order_event.specs.declared.event.Message.{Message}
use Rattle.node_meaning.specs.Steps.{is_write, is_report}
use Rattle.node_parts.specs.declared.queue.MessageKind.{MessageKind}
use Rattle.node_parts.specs.declared.queue.MessageKind.TheVariants.{Write, Report}

-- whether a message is of the kind
abbrev pub is_kind : MessageKind → Message → Bool
is_kind Write = is_write
is_kind Report = is_report

-- where the first message that passes the test stands
abbrev pub place : (Message → Bool) → List Message → Option ℕ
place test [] = None
place test (m ∷ ms) = if test m then Some 0 else option_map suc (place test ms)
