-- what a line of events keeps
use Rattle.std.specs.Prelude.{◌≡◌, ℕ, List, ◌++◌, length}
use Rattle.order_event.specs.declared.event.Event.{Event}
use Rattle.certification.specs.Certifies.{ModelCertification, Certifies}

-- so many events are certified and committed, whatever follows them
pub record Runs (number : ℕ) (c : ModelCertification) : Type 0 where
  pub events : List Event
  pub all : length events ≡ number
  pub certifies : (more : List Event) → Certifies (events ++ more) number number c
