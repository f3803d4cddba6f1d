-- Which live transaction commits or is replayed at a number.
use Rattle.std.specs.Prelude.{ℕ, ◌==◌, ◌&&◌, ◌||◌, Bool, false, Option, Some, None, if◌then◌else◌}
use Rattle.std.specs.List.{find, list_any}
use Rattle.std.specs.Ordering.{nat_cmp}
use Rattle.finite_map.specs.FiniteMap.{FiniteMap}
use Rattle.client_trx.specs.declared.status.Status.{Status}
use Rattle.client_trx.specs.Live.{Live, has_locks, commit_number}

-- the number at which it is replayed: that of its own commit, where that passed and a unit
-- aborted it
abbrev pub replay_number : Status → Option ℕ
replay_number status = if has_locks status then None else commit_number status

abbrev pub is_at : ℕ → Option ℕ → Bool
is_at number None = false
is_at number (Some own) = number == own

-- its commit passed at this number, and it commits there with its own changes
abbrev pub is_certified_at : ℕ → Status → Bool
is_certified_at number status = has_locks status && is_at number (commit_number status)

-- it is replayed at this number
abbrev pub is_replaying_at : ℕ → Status → Bool
is_replaying_at number status = is_at number (replay_number status)

abbrev pub commits_at : ℕ → Status → Bool
commits_at number status = is_certified_at number status || is_replaying_at number status

-- whether a live transaction is Certified at this number
abbrev pub is_local : FiniteMap nat_cmp Live → ℕ → Bool
is_local live number = list_any (λ e. is_certified_at number e.1.status) live.entries

-- the session of the transaction that commits at this number, and the transaction
abbrev pub committer_of : FiniteMap nat_cmp Live → ℕ → Option (ℕ × Live)
committer_of live number = find (λ e. commits_at number e.1.status) live.entries
