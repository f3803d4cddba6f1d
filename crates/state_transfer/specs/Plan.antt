-- how a node that joins gets what it misses
use Rattle.std.specs.Prelude.{ℕ, ◌+◌, Bool, ◌&&◌, nat_le, Option, Some, None, if◌then◌else◌}
use Rattle.state_transfer.specs.declared.transfer.Plan.{Plan}
use Rattle.state_transfer.specs.declared.transfer.Plan.TheVariants.{Ist, Sst}

-- the events from the next one on, where the state ids agree and the range has it; else a snapshot
abbrev pub plan_of : Bool → ℕ → Option (ℕ × ℕ) → Plan
plan_of same position None = Sst
plan_of same position (Some range) =
    if same && nat_le range.0 (position + 1) && nat_le (position + 1) range.1
    then Ist (position + 1) else Sst
