use Rattle.std.proofs.Common.{◌≡◌, ◌++◌, length, take}
use Rattle.std.specs.List.{flat_map}
use Rattle.std.specs.Int.{w32, to_be_bytes}
use Rattle.state_snapshot.specs.Spelling.{open_text}
use Rattle.state_snapshot.proofs.writing.put_open_trx.Given as goal

abbrev pub invariant-loop-item : goal.invariant-loop-item
invariant-loop-item l = l.out ≡ l.fn.out ++ (to_be_bytes w32 (length l.items) ++ flat_map open_text (take l.item-index l.items))
