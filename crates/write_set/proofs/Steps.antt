-- One step of reading, and how a fault passes on.
use Rattle.std.proofs.Common.{◌≡◌, Result, Err}
use Rattle.write_set.specs.declared.fault.WsFault.{WsFault}
use Rattle.write_set.specs.declared.fault.WsFault.TheVariants.{Short, BadVersion, BadFlags, TooMany, BadKey, BadKind, NotCanonical, BadChange, Trailing, Uncovered, NoMemory}
use Rattle.write_set.specs.Reading.{Fails}

-- a fault that is met is a fault that is given
pub is_fault : {X : Type 0} (fault : WsFault) (one : Result X WsFault) → one ≡ Err fault → Fails fault one
is_fault (Short at) one is = is
is_fault (BadVersion byte) one is = is
is_fault BadFlags one is = is
is_fault (TooMany at) one is = is
is_fault (BadKey at) one is = is
is_fault (BadKind at) one is = is
is_fault (NotCanonical at) one is = is
is_fault (BadChange at) one is = is
is_fault (Trailing at) one is = is
is_fault (Uncovered at) one is = is
is_fault NoMemory one is = tt

-- the fault of one reading is that of another, where the other fails as it does
pub fails_along : {X Y : Type 0} (fault : WsFault) (one : Result X WsFault) (other : Result Y WsFault)
    → (one ≡ Err fault → other ≡ Err fault) → Fails fault one → Fails fault other
fails_along (Short at) one other along h = along h
fails_along (BadVersion byte) one other along h = along h
fails_along BadFlags one other along h = along h
fails_along (TooMany at) one other along h = along h
fails_along (BadKey at) one other along h = along h
fails_along (BadKind at) one other along h = along h
fails_along (NotCanonical at) one other along h = along h
fails_along (BadChange at) one other along h = along h
fails_along (Trailing at) one other along h = along h
fails_along (Uncovered at) one other along h = along h
fails_along NoMemory one other along h = tt
