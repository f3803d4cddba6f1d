-- when a call of the group may fail
use Rattle.std.specs.Prelude.{◌≡◌, ◌<◌, ℕ, Result, Ok, Err}
use Rattle.group_order.specs.declared.fault.GroupFault.{GroupFault}
use Rattle.group_order.specs.declared.fault.GroupFault.TheVariants.{Failed, NoMemory}

-- a call that failed has raised the count of faults, and no other call changes it
abbrev pub HasCause : {T : Type 0} → ℕ → ℕ → Result T GroupFault → Type 0
HasCause before now (Ok x) = now ≡ before
HasCause before now (Err Failed) = before < now
HasCause before now (Err NoMemory) = now ≡ before

-- what holds where memory is wanted
abbrev pub AtNoMemory : Type 0 → GroupFault → Type 0
AtNoMemory need Failed = Unit {0}
AtNoMemory need NoMemory = need
