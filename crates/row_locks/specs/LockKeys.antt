-- A key of a holder, and what the derived `==` of holders and of their keys computes.
use Rattle.std.specs.Prelude.{Bool, ◌&&◌}
use Rattle.key_sets.specs.declared.parts.Parts.{Parts}
use Rattle.key_sets.specs.Parts.{parts_eq}
use Rattle.row_locks.specs.contracts.holder.HolderPartialEq.TheImpl as derived
use Rattle.row_locks.specs.declared.holder.Holder.{Holder}
use Rattle.row_locks.specs.declared.lock_table.LockKey.{LockKey}

-- what the derived `==` of two holders computes
abbrev pub holder_eq : Holder → Holder → Bool
holder_eq = derived.eq-value.it

-- what the derived `==` of two holders' keys computes
abbrev pub lock_eq : LockKey → LockKey → Bool
lock_eq a b = holder_eq a.holder b.holder && parts_eq a.parts b.parts

abbrev pub key_of : Holder → Parts → LockKey
key_of holder parts = record { holder = holder; parts = parts }
