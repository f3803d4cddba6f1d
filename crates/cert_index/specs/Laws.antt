-- Which commits an index holds, and that it finds among them what a search over all commits finds.
use Rattle.std.specs.Prelude.{◌≡◌, ℕ, ◌<◌, ◌≤◌, List, [], ◌∷◌, ◌++◌}
use Rattle.key_sets.specs.Keys.{Keys, conflicts, touches}
use Rattle.cert_meaning.specs.declared.items.CommitItem.{CommitItem}
use Rattle.cert_meaning.specs.Search.{greatest_related}
use Rattle.cert_index.specs.Index.{Entry, above, entered, entries_of, latest_conflict, latest_touch}

-- the index keeps the keys of the commits above a number
abbrev pub Holds : List Entry → ℕ → List CommitItem → Type 0
Holds kept to commits = kept ≡ above to (entered commits)

-- an index of no commits holds those of no order
abbrev pub HoldsNone : Type 0
HoldsNone = Holds [] 0 []

-- it holds a commit that is entered
abbrev pub HoldsEntered : Type 0
HoldsEntered = (kept : List Entry) (to : ℕ) (commits : List CommitItem) (commit : CommitItem)
    → Holds kept to commits → to < commit.number
    → Holds (kept ++ entries_of commit.number commit.keys.entries) to (commits ++ commit ∷ [])

-- once it is purged it holds the commits above that number
abbrev pub HoldsPurged : Type 0
HoldsPurged = (kept : List Entry) (to higher : ℕ) (commits : List CommitItem)
    → Holds kept to commits → to ≤ higher → Holds (above higher kept) higher commits

-- what conflicts is found, from the number on to which it was purged
abbrev pub FindsConflict : Type 0
FindsConflict = (kept : List Entry) (to last_seen : ℕ) (commits : List CommitItem) (keys : Keys)
    → Holds kept to commits → to ≤ last_seen
    → latest_conflict kept last_seen keys.entries
    ≡ greatest_related conflicts commits last_seen keys

-- what touches is found among the commits that it holds
abbrev pub FindsTouch : Type 0
FindsTouch = (kept : List Entry) (to : ℕ) (commits : List CommitItem) (keys : Keys)
    → Holds kept to commits
    → latest_touch kept keys.entries ≡ greatest_related touches commits to keys
