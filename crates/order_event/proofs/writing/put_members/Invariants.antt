use Rattle.std.proofs.Common.{◌≡◌, ◌++◌, take, flat_map}
use Rattle.std.specs.Int.{w32, to_be_bytes}
use Rattle.order_event.proofs.writing.put_members.Given as goal

abbrev pub invariant-loop-member : goal.invariant-loop-member
invariant-loop-member l =
    l.out ≡ l.initial.out ++ flat_map (to_be_bytes w32) (take l.member-index l.members)
