use Rattle.std.proofs.Common.{◌≡◌, drop}
use Rattle.std.specs.List.{list_any}
use Rattle.node_parts.specs.Queue.{names_commit}
use Rattle.node_parts.proofs.queue.commit_is_in.Given as goal

abbrev pub invariant-loop-at : goal.invariant-loop-at
invariant-loop-at l =
    list_any (names_commit l.begin) l.messages.items ≡ list_any (names_commit l.begin) (drop l.at l.messages.items)
