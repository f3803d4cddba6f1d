-- What each step tells its seat.
use Rattle.std.specs.Prelude.{◌≡◌, ◌≢◌, ℕ, ◌%◌, ◌^◌, ◌≤◌, false, All, List, [], ◌∷◌, ◌++◌, Option, Some}
use Rattle.atomic_table.specs.Table.{Me, Step, rest}
use Rattle.atomic_table.specs.Seated.{TableId}
use Rattle.atomic_table.specs.declared.shared.Seat.{Seat}
use Rattle.node_gate.specs.declared.view.Lock.{Lock}
use Rattle.node_gate.specs.declared.view.Lock.TheVariants.{Idle, Waiting, Serving, Gone}
use Rattle.node_gate.specs.declared.view.Turn.{Turn}
use Rattle.node_gate.specs.declared.view.View.{View}
use Rattle.node_gate.specs.History.{entries_of, turns_of, StartsWith, Allowed}
use Rattle.node_gate.specs.Views.{joined, taking, done, loaded}

-- a seat of that table, which is a gate's
abbrev pub Serves : TableId → TableId → Type 0
Serves seat table = (seat ≡ table) × (table.words ≡ 3)

-- it is the same seat afterwards
abbrev pub Stays : {S V : Type 0} → Seat S V → Seat S V → Type 0
Stays old new = (new.table_id ≡ old.table_id) × (new.id ≡ old.id)

-- the ticket that a seat has, or 0
abbrev pub ticket_of : Lock → ℕ
ticket_of Idle = 0
ticket_of (Waiting k) = k
ticket_of (Serving k) = k
ticket_of Gone = 0

module _ {S E M : Type 0} where
  abbrev pub with_lock : Lock → Me S (View E M) → Me S (View E M)
  with_lock l m = (record m.0 { lock = l }, m.1)

  -- between calls a seat has no ticket and holds nothing
  abbrev pub AtRest : Me S (View E M) → Type 0
  AtRest m = (m.1 ≡ []) × (m.0.lock ≡ Idle) × (m.0.holds ≡ false)

  -- the seat has the ticket whose word was found
  abbrev pub drew : Step S → Me S (View E M) → ℕ → Me S (View E M) → Type 0
  drew st m n m' = (k : ℕ) × (n ≡ k % 2 ^ 64) × (m' ≡ with_lock (Waiting k) m)

  -- it is the seat's turn exactly where the word of its ticket was found
  abbrev pub looked : Step S → Me S (View E M) → ℕ → Me S (View E M) → Type 0
  looked st m n m' =
      (n ≡ ticket_of m.0.lock % 2 ^ 64 → m' ≡ with_lock (Serving (ticket_of m.0.lock)) m)
      × (n ≢ ticket_of m.0.lock % 2 ^ 64 → m' ≡ m)

  -- the turn is over
  abbrev pub released : Step S → Me S (View E M) → ℕ → Me S (View E M) → Type 0
  released st m n m' = m' ≡ with_lock Idle m

  -- the seat has seen the whole history
  abbrev pub learned : Step S → Me S (View E M) → ℕ → Me S (View E M) → Type 0
  learned st m n m' = (log : List (Turn E)) × (m' ≡ (record m.0 { seen = log }, m.1))
      × StartsWith log m.0.seen × StartsWith log m.0.told

  -- a seat that holds the value publishes a number
  abbrev pub published : Step S → Me S (View E M) → ℕ → Me S (View E M) → Type 0
  published st m n m' = m' ≡ (record m.0 { published = n }, m.1)

  -- the seat's list of loads grows by the number found, which is not below what it had seen
  -- published
  abbrev pub read : Step S → Me S (View E M) → ℕ → Me S (View E M) → Type 0
  read st m n m' = (m' ≡ (loaded m.0 n, m.1)) × (m.0.published ≤ n)

  -- The seat took the other in, and has seen a history that begins with what both had seen.
  abbrev pub TakesIn : View E M → View E M → Me S (View E M) → Type 0
  TakesIn v other m' = (log : List (Turn E)) × (m' ≡ (record (joined v other) { seen = log }, []))
      × StartsWith log v.seen × StartsWith log other.seen

-- The value that is lent has the history's entries. The history begins with all that the seat had
-- seen, and in it the seat's turns are its own; each entry is one that its seat may add. The
-- value's number is not below what the seat has seen published, and its mark is the one that the
-- seat knows.
pub record Lent {C E M : Type 0} (entries : C → List E) (count : List E → ℕ) (mark : C → M)
    (may : ℕ → E → Type 0) (v : View E M) (c : C) : Type 0 where
  pub log : List (Turn E)
  pub has : entries c ≡ entries_of log
  pub begins : StartsWith log v.seen
  pub own : turns_of v.number log ≡ v.own
  pub allowed : Allowed may log
  pub rises : v.published ≤ count (entries c)
  pub marked : v.mark ≡ Some (mark c)

-- the value has the entries that the seat had seen, and then those added, which the seat may add
abbrev pub Adds : {C E M : Type 0} → (C → List E) → (ℕ → E → Type 0) → View E M → C → List E
    → Type 0
Adds entries may v c added =
    (entries c ≡ entries_of v.seen ++ added) × All (may v.number) added

-- the value may be given back: it has the seat's mark, and such entries
abbrev pub MayReturn : {C E M : Type 0} → (C → List E) → (C → M) → (ℕ → E → Type 0) → View E M → C
    → Type 0
MayReturn {E = E} entries mark may v c =
    (v.mark ≡ Some (mark c)) × (added : List E) × Adds entries may v c added

module _ {C E M : Type 0} (entries : C → List E) (count : List E → ℕ) (mark : C → M)
    (may : ℕ → E → Type 0) where
  -- the seat takes the value, whose number is published
  abbrev pub took : Step (Option C) → Me (Option C) (View E M) → ℕ → Me (Option C) (View E M)
      → Type 0
  took st m n m' = (c : C) × (l : Lent entries count mark may m.0 c)
      × (m' ≡ (taking m.0 l.log (count (entries c)), (0, Some c) ∷ m.1))

  -- the seat gives the value back, and its turn is in the history
  abbrev pub gave : Step (Option C) → Me (Option C) (View E M) → ℕ → Me (Option C) (View E M)
      → Type 0
  gave st m n m' = (added : List E) × (m' ≡ (done m.0 added, rest m.1))
      × ((c : C) × (m.1 ≡ (0, Some c) ∷ []) × Adds entries may m.0 c added)
