-- What the calls of a gate promise.
use Rattle.std.specs.Prelude.{◌≡◌, ℕ, ◌≤◌, ◌⊎◌, max, All, Contains, List, [], ◌∷◌, ◌++◌, Option, Some}
use Rattle.atomic_table.specs.Seated.{TableId}
use Rattle.node_gate.specs.declared.view.Turn.{Turn}
use Rattle.node_gate.specs.declared.view.Met.{Met}
use Rattle.node_gate.specs.declared.view.View.{View}
use Rattle.node_gate.specs.History.{entries_of, turns_of, with_turn, StartsWith, Allowed}
use Rattle.node_gate.specs.Views.{numbers}

-- What a seat knows between calls: its gate, its number, how many seats were split off it, the
-- seats that it took in, the turns that it has seen, its own turns, the greatest number that it has
-- seen published, the numbers that it has loaded, and the mark of the gate's value.
pub record Known (E M : Type 0) : Type 0 where
  pub gate : TableId
  pub number : ℕ
  pub splits : ℕ
  pub met : List (Met E)
  pub seen : List (Turn E)
  pub own : List (Turn E)
  pub published : ℕ
  pub loads : List ℕ
  pub mark : Option M

module _ {E M : Type 0} where
  -- what the view of a seat of this gate has
  abbrev pub known : TableId → View E M → Known E M
  known gate v = record {
    gate = gate;
    number = v.number;
    splits = v.splits;
    met = v.met;
    seen = v.seen;
    own = v.own;
    published = v.published;
    loads = v.loads;
    mark = v.mark;
  }

  -- a seat with this number that has seen these turns and this number published, and has no turn
  abbrev pub fresh : TableId → ℕ → List (Turn E) → ℕ → Option M → Known E M
  fresh gate n seen published mark = record {
    gate = gate;
    number = n;
    splits = 0;
    met = [];
    seen = seen;
    own = [];
    published = published;
    loads = [];
    mark = mark;
  }

  -- a seat once a turn of its own is in the history, and this number published
  abbrev pub after_turn : Known E M → List (Turn E) → List E → ℕ → Known E M
  after_turn v log added n = record v {
    seen = with_turn log v.number added;
    own = with_turn v.own v.number added;
    published = n;
  }

  -- The first seat took the other in: it has seen a history that begins with what both had seen,
  -- and keeps the number and the turns of the other.
  pub record TookIn (v other w : Known E M) : Type 0 where
    pub log : List (Turn E)
    pub begins : StartsWith log v.seen
    pub begins_other : StartsWith log other.seen
    pub now : w ≡ record v {
      seen = log;
      published = max v.published other.published;
      met = v.met ++ record { number = other.number; turns = other.own } ∷ [];
    }

-- The value that is lent has the history's entries. The history begins with all that the seat had
-- seen, and in it the seat's turns are its own; each entry is one that its seat may add. The
-- value's number is not below what the seat has seen published, and its mark is the one that the
-- gate began with.
pub record IsLent {C E M : Type 0} (entries : C → List E) (count : List E → ℕ) (mark : C → M)
    (may : ℕ → E → Type 0) (v : Known E M) (c : C) : Type 0 where
  pub log : List (Turn E)
  pub has : entries c ≡ entries_of log
  pub begins : StartsWith log v.seen
  pub own : turns_of v.number log ≡ v.own
  pub allowed : Allowed may log
  pub rises : v.published ≤ count (entries c)
  pub marked : v.mark ≡ Some (mark c)

-- The second value has the entries of the first, then some that may be added, and the same mark.
pub record AddsOnly {C E M : Type 0} (entries : C → List E) (mark : C → M) (may : E → Type 0)
    (c c' : C) : Type 0 where
  pub added : List E
  pub adds : entries c' ≡ entries c ++ added
  pub allowed : All may added
  pub kept : mark c' ≡ mark c

-- One call was made, on the value that was lent. The history has one more turn, with the seat's
-- number and the entries added. The seat has seen it, and the number of the value put back.
pub record TookTurn {C E M R : Type 0} (entries : C → List E) (count : List E → ℕ) (mark : C → M)
    (may : ℕ → E → Type 0) (call : C → R → C → Type 0) (v : Known E M) (r : R)
    (w : Known E M) : Type 0 where
  pub before : C
  pub after : C
  pub lent : IsLent entries count mark may v before
  pub called : call before r after
  pub changed : AddsOnly entries mark (may v.number) before after
  pub now : w ≡ after_turn v lent.log changed.added (count (entries after))

-- The value has the entries of the history, which begins with all that the first seat had seen,
-- and its mark. The first seat and each that it took in made in it exactly their own turns, and no
-- other seat made one; each entry is one that its seat may add.
pub record Ended {C E M : Type 0} (entries : C → List E) (mark : C → M) (may : ℕ → E → Type 0)
    (v : Known E M) (c : C) : Type 0 where
  pub log : List (Turn E)
  pub has : entries c ≡ entries_of log
  pub begins : StartsWith log v.seen
  pub own : turns_of 0 log ≡ v.own
  pub met : All (λ m. turns_of m.number log ≡ m.turns) v.met
  pub no_other : All (λ t. (t.seat ≡ 0) ⊎ Contains (numbers v.met) t.seat) log
  pub allowed : Allowed may log
  pub marked : v.mark ≡ Some (mark c)
