-- commits that passed and are not committed, and room for more
use Rattle.std.specs.Prelude.{◌≡◌, ℕ, ◌<◌, List, length, Option, None, Some}
use Rattle.std.specs.List.{slice_index_or}
use Rattle.std.specs.Ordering.{nat_cmp}
use Rattle.finite_map.specs.FiniteMap.{FiniteMap, get}
pub use Rattle.node_parts.specs.declared.passed.PassedCommit.{PassedCommit}

pub record PassedCommits : Type 0 where
  -- by the number of the commit
  pub commits : FiniteMap nat_cmp PassedCommit
  -- so many commits can be put there with no more memory
  pub spare : ℕ

-- the numbers rise
abbrev pub IsRising : {X : Type 0} → List (ℕ × X) → Type 0
IsRising {X} entries =
    (i j : ℕ) (d : ℕ × X) → i < j → j < length entries
    → (slice_index_or entries i d).0 < (slice_index_or entries j d).0

-- every number in the map is below this one
abbrev pub AllBefore : {X : Type 0} → FiniteMap nat_cmp X → ℕ → Type 0
AllBefore {X} m number = (earlier : ℕ) (item : X) → get m earlier ≡ Some item → earlier < number

-- where the number stands; None where it stands nowhere
abbrev pub IsPlace : {X : Type 0} → List (ℕ × X) → ℕ → Option ℕ → Type 0
IsPlace {X} entries number None =
    (k : ℕ) (d : ℕ × X) → k < length entries → (slice_index_or entries k d).0 ≡ number → ⊥
IsPlace {X} entries number (Some at) =
    (at < length entries) × ((d : ℕ × X) → (slice_index_or entries at d).0 ≡ number)
