-- the floor along an order
use Rattle.std.specs.Prelude.{ℕ, ◌≤◌, List}
use Rattle.order_event.specs.declared.event.Event.{Event}
use Rattle.cert_meaning.specs.Fold.{state_at}

-- it never falls, also where members come and go
abbrev pub FloorNeverFalls : Type 0
FloorNeverFalls =
    (order : List Event) (m n : ℕ) → m ≤ n → (state_at order m).floor ≤ (state_at order n).floor
