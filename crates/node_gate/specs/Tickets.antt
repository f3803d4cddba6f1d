-- A ticket lock, by what each seat has of it.
-- Tickets are counted without end here; the words hold them modulo 2^64.
use Rattle.std.specs.Prelude.{◌≡◌, ℕ, ◌+◌, ◌^◌, ◌<◌, ◌≤◌, Bool, true, false, List, length, count_by}
use mathlib.Core.Option.{some}
use lib.ListN.{get_elem?}
use Rattle.node_gate.specs.declared.view.Lock.{Lock}
use Rattle.node_gate.specs.declared.view.Lock.TheVariants.{Idle, Waiting, Serving, Gone}

-- the seat has the ticket t
abbrev pub Has : Lock → ℕ → Type 0
Has Idle t = ⊥
Has (Waiting k) t = k ≡ t
Has (Serving k) t = k ≡ t
Has Gone t = ⊥

-- whether it has one
abbrev pub has_ticket : Lock → Bool
has_ticket Idle = false
has_ticket (Waiting k) = true
has_ticket (Serving k) = true
has_ticket Gone = false

-- The number served and the tickets that are out make the number of tickets drawn.
-- The tickets that are out differ and are those from the one served on. Who has read its turn is
-- the one that is served.
pub record Tickets (locks : List Lock) (ticket serving : ℕ) : Type 0 where
  pub counted : serving + count_by has_ticket locks ≡ ticket
  pub few : length locks < 2 ^ 64
  pub within : (i : ℕ) (l : Lock) (t : ℕ) → get_elem? locks i ≡ some l → Has l t
      → (serving ≤ t) × (t < ticket)
  pub differ : (i j : ℕ) (l m : Lock) (t : ℕ) → get_elem? locks i ≡ some l
      → get_elem? locks j ≡ some m → Has l t → Has m t → i ≡ j
  pub all : (t : ℕ) → serving ≤ t → t < ticket
      → (i : ℕ) × (l : Lock) × (get_elem? locks i ≡ some l) × Has l t
  pub turn : (i t : ℕ) → get_elem? locks i ≡ some (Serving t) → t ≡ serving
