-- what a call returned is what it is to give, unless memory ran out
use Rattle.std.specs.Prelude.{◌≡◌, List, Result, Ok, Err}
use Rattle.order_event.specs.declared.event.Event.{Event}
use Rattle.gcache_ring.specs.declared.fault.CopyFault.{CopyFault}
use Rattle.gcache_ring.specs.declared.fault.CopyFault.TheVariants.{NotHeld, NoMemory}

abbrev pub Fails : CopyFault → Result (List Event) CopyFault → Type 0
Fails NoMemory given = Unit {0}
Fails (NotHeld oldest) given = given ≡ Err (NotHeld oldest)

abbrev pub Copies : Result (List Event) CopyFault → Result (List Event) CopyFault → Type 0
Copies (Ok events) given = given ≡ Ok events
Copies (Err fault) given = Fails fault given
