use Rattle.std.proofs.Common.{◌≡◌, ◌++◌, length, take}
use Rattle.std.specs.List.{flat_map}
use Rattle.std.specs.Int.{w32, to_be_bytes}
use Rattle.state_snapshot.specs.Spelling.{fragment_text}
use Rattle.state_snapshot.proofs.writing.put_fragments.Given as goal

abbrev pub invariant-loop-fragment : goal.invariant-loop-fragment
invariant-loop-fragment l = l.out ≡ l.fn.out ++ (to_be_bytes w32 (length l.fragments) ++ flat_map fragment_text (take l.fragment-index l.fragments))
