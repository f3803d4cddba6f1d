-- A group in memory never fails, so its count may be any.
use Rattle.std.proofs.Common.{ℕ, refl, arith, Result, Ok, Err}
use Rattle.group_order.specs.Causes.{HasCause}
use Rattle.group_order.specs.declared.fault.GroupFault.{GroupFault}
use Rattle.group_order.specs.declared.fault.GroupFault.TheVariants as group

pub cause_stays : {T : Type 0} (faults : ℕ) (r : Result T GroupFault)
    → HasCause 0 0 r → HasCause faults faults r
cause_stays faults (Ok x) cause = refl
cause_stays faults (Err group.Failed) cause = absurd (omega (arith, cause))
cause_stays faults (Err group.NoMemory) cause = refl
