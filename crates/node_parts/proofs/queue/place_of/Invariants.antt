use Rattle.std.proofs.Common.{◌≡◌, take}
use Rattle.node_parts.specs.Kinds.{is_kind, place}
use Rattle.node_parts.proofs.QueueLaws.{placed_after}
use Rattle.node_parts.proofs.queue.place_of.Given as goal

abbrev pub invariant-loop-at : goal.invariant-loop-at
invariant-loop-at l =
    place (is_kind l.kind) (take l.ordered l.messages.items) ≡ placed_after (is_kind l.kind) l.at (take l.ordered l.messages.items)
