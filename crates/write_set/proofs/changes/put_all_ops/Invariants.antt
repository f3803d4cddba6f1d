use Rattle.std.proofs.Common.{◌≡◌, ◌++◌, length, take}
use Rattle.std.specs.List.{flat_map}
use Rattle.std.specs.Int.{w32, to_be_bytes}
use Rattle.write_set.specs.Spelling.{op_text}
use Rattle.write_set.proofs.changes.put_all_ops.Given as goal

abbrev pub invariant-loop-op : goal.invariant-loop-op
invariant-loop-op l = l.out ≡ l.fn.out ++ (to_be_bytes w32 (length l.ops) ++ flat_map op_text (take l.op-index l.ops))
