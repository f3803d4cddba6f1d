-- An index: the keys of commits that it keeps, oldest first, and the latest commit among them.
use Rattle.std.specs.Prelude.{ℕ, ◌≤◌, nat_lt, Bool, List, map, filter, flat_map, Option, None, Some, if◌then◌else◌}
use Rattle.std.specs.List.{list_any, AllByRecursion}
use Rattle.wsrep_base.specs.Trx.{greatest}
use Rattle.key_sets.specs.declared.kind.Kind.{Kind}
use Rattle.key_sets.specs.declared.parts.Parts.{Parts}
use Rattle.key_sets.specs.Keys.{pairs_meet, pairs_of_key}
use Rattle.key_sets.specs.Kinds.{kinds_conflict, kinds_touch}
use Rattle.cert_meaning.specs.declared.items.CommitItem.{CommitItem}
pub use Rattle.cert_index.specs.declared.entry.Entry.{Entry}

-- the keys of a commit, each with its number
abbrev pub entries_of : ℕ → List (Parts × Kind) → List Entry
entries_of number keys = map (λ key. record { number = number; key = key }) keys

-- the keys of commits, each with its commit's number
abbrev pub entered : List CommitItem → List Entry
entered commits =
    flat_map (λ (commit : CommitItem). entries_of commit.number commit.keys.entries) commits

-- the greatest number of an entry that passes the test
abbrev pub latest : (Entry → Bool) → List Entry → Option ℕ
latest test entries = greatest (map (λ (e : Entry). e.number) (filter test entries))

-- the entries above a number
abbrev pub above : ℕ → List Entry → List Entry
above to entries = filter (λ (e : Entry). nat_lt to e.number) entries

-- no entry is above the number
abbrev pub AreUpTo : ℕ → List Entry → Type 0
AreUpTo number entries = AllByRecursion (λ (e : Entry). e.number ≤ number) entries

-- at some parts a kind of the entry and one of these keys pass the test
abbrev pub meets : (Kind → Kind → Bool) → List (Parts × Kind) → Entry → Bool
meets test keys e =
    list_any (λ p. list_any (pairs_meet test p) (flat_map pairs_of_key keys)) (pairs_of_key e.key)

-- the greatest commit above what was last seen that conflicts with these keys
abbrev pub latest_conflict : List Entry → ℕ → List (Parts × Kind) → Option ℕ
latest_conflict entries last_seen keys =
    latest (meets kinds_conflict keys) (above last_seen entries)

-- the greatest commit that touches these keys
abbrev pub latest_touch : List Entry → List (Parts × Kind) → Option ℕ
latest_touch entries keys = latest (meets kinds_touch keys) entries

-- the number, where it is above
abbrev pub only_above : ℕ → Option ℕ → Option ℕ
only_above to None = None
only_above to (Some number) = if nat_lt to number then Some number else None
