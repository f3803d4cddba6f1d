-- The views of seats, and what a split, a join and a turn make of them.
use Rattle.std.specs.Prelude.{ℕ, ◌+◌, Bool, true, false, List, [], ◌∷◌, ◌++◌, map, max, Option, None}
use Rattle.node_gate.specs.declared.view.Lock.{Lock}
use Rattle.node_gate.specs.declared.view.Lock.TheVariants.{Idle, Waiting, Serving, Gone}
use Rattle.node_gate.specs.declared.view.Turn.{Turn}
use Rattle.node_gate.specs.declared.view.Met.{Met}
use Rattle.node_gate.specs.declared.view.View.{View}
use Rattle.node_gate.specs.History.{with_turn}
use Rattle.node_gate.specs.Seats.{Rank}

-- whether a seat is still in use
abbrev pub is_alive : Lock → Bool
is_alive Idle = true
is_alive (Waiting k) = true
is_alive (Serving k) = true
is_alive Gone = false

-- the numbers of the seats that were taken in
abbrev pub numbers : {E : Type 0} → List (Met E) → List ℕ
numbers met = map (λ m. m.number) met

module _ {E M : Type 0} where
  -- a seat with no turn, which has seen this
  abbrev pub newcomer : ℕ → List (Turn E) → ℕ → Option M → View E M
  newcomer n seen published mark = record {
    lock = Idle;
    holds = false;
    number = n;
    splits = 0;
    met = [];
    seen = seen;
    told = [];
    own = [];
    published = published;
    loads = [];
    mark = mark;
  }

  -- a seat once one more was split off it
  abbrev pub cut : View E M → View E M
  cut v = record v { splits = v.splits + 1 }

  -- the seat that was split off
  abbrev pub another : View E M → View E M
  another v = newcomer (v.splits + 1) v.seen v.published v.mark

  -- what is kept of a seat that was taken in
  abbrev pub met_as : View E M → Met E
  met_as v = record { number = v.number; turns = v.own }

  -- a seat once it took another in
  abbrev pub joined : View E M → View E M → View E M
  joined v other = record v {
    met = v.met ++ met_as other ∷ [];
    told = other.seen;
    published = max v.published other.published;
  }

  -- a seat that was taken in
  abbrev pub gone : View E M
  gone = record (newcomer 0 [] 0 None) { lock = Gone }

  -- a seat that takes the value, and has now seen this history and this number published
  abbrev pub taking : View E M → List (Turn E) → ℕ → View E M
  taking v log n = record v { holds = true; seen = log; published = n }

  -- a seat that gave the value back, after a turn that added these entries
  abbrev pub done : View E M → List E → View E M
  done v added = record v {
    holds = false;
    seen = with_turn v.seen v.number added;
    own = with_turn v.own v.number added;
  }

  -- a seat that found this number published
  abbrev pub loaded : View E M → ℕ → View E M
  loaded v n = record v { published = n; loads = v.loads ++ n ∷ [] }

  abbrev pub lock_of : View E M → Lock
  lock_of v = v.lock

  abbrev pub rank_of : View E M → Rank
  rank_of v = record {
    alive = is_alive v.lock;
    number = v.number;
    splits = v.splits;
    met = numbers v.met;
  }
