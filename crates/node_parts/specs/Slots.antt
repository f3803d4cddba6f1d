-- items in places, one place a session, as a map from sessions
use Rattle.std.specs.Prelude.{◌≡◌, ℕ, ◌≤◌, zero, suc, List, length, Option, Some, None}
use Rattle.std.specs.List.{slice_index_or}
use Rattle.std.specs.Ordering.{nat_cmp}
use Rattle.finite_map.specs.FiniteMap.{FiniteMap, empty, get, insert}

-- the map with what is at a place
abbrev pub with_place : {X : Type 0} → ℕ → Option X → FiniteMap nat_cmp X → FiniteMap nat_cmp X
with_place session None m = m
with_place session (Some item) m = insert m session item

-- the items of the places before a number
abbrev pub slots_before : {X : Type 0} → ℕ → List (Option X) → FiniteMap nat_cmp X
slots_before zero places = empty
slots_before (suc n) places = with_place n (slice_index_or places n None) (slots_before n places)

-- the items of 33 places
unfoldable pub slots : {X : Type 0} → List (Option X) → FiniteMap nat_cmp X
slots places = slots_before 33 places

-- 33 places, of which place 0 is never taken, and all from the end on are free
pub record AreSlots {X : Type 0} (end : ℕ) (places : List (Option X)) : Type 0 where
  pub count : length places ≡ 33
  pub unused : slice_index_or places 0 None ≡ None
  pub few : end ≤ 33
  pub free : (k : ℕ) → end ≤ k → slice_index_or places k None ≡ None

-- sessions are numbered from 1 to 32
abbrev pub HasSessions : {X : Type 0} → FiniteMap nat_cmp X → Type 0
HasSessions {X} m =
    (session : ℕ) (item : X) → get m session ≡ Some item → (1 ≤ session) × (session ≤ 32)
