use Rattle.std.proofs.Common.{◌≡◌, ◌++◌, take}
use Rattle.std.specs.List.{flat_map}
use Rattle.std.specs.Int.{w32, to_be_bytes}
use Rattle.finite_map.specs.FiniteMap.{len}
use Rattle.write_set.specs.Spelling.{key_text}
use Rattle.write_set.proofs.keys.put_all_keys.Given as goal

abbrev pub invariant-loop-key : goal.invariant-loop-key
invariant-loop-key l = l.out ≡ l.fn.out ++ (to_be_bytes w32 (len l.fn.keys) ++ flat_map key_text (take l.key-index l.key-items))
