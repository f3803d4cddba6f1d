-- what holds between the spelling of a write set and the reading of bytes
use Rattle.std.specs.Prelude.{◌≡◌, ℕ, ◌<◌, ◌≤◌, List, ◌++◌, length, drop, slice_index, nat_le, Ok, IsTrue}
use Rattle.finite_map.specs.FiniteMap.{len}
use Rattle.key_sets.specs.Keys.{Keys, LIMIT}
use Rattle.row_model.specs.declared.ops.Op.{Op}
use Rattle.write_set.specs.declared.write_set.WriteSet.{WriteSet}
use Rattle.write_set.specs.Rules.{keys_fit, ops_fit, obeys, InRange}
use Rattle.write_set.specs.Spelling.{spelling}
use Rattle.write_set.specs.Reading.{read}

-- the write set is valid, and the bytes are its spelling
abbrev pub IsSpelled : List ℕ → WriteSet → Type 0
IsSpelled bytes w = IsTrue (obeys w) × (bytes ≡ spelling w)

-- the spelling of a valid write set is read, and gives it back
abbrev pub SpellingIsRead : Type 0
SpellingIsRead = (w : WriteSet) → InRange w → IsTrue (obeys w) → read (spelling w) ≡ Ok w

-- no other bytes are read as a write set
abbrev pub OnlySpellingsAreRead : Type 0
OnlySpellingsAreRead = (bytes : List ℕ) (w : WriteSet) → ((i : ℕ) → slice_index bytes i < 256)
    → read bytes ≡ Ok w → IsSpelled bytes w

-- the text stands between two places of the bytes
abbrev pub StandsBetween : List ℕ → ℕ → ℕ → List ℕ → Type 0
StandsBetween bytes at end text = (end ≤ length bytes) × (drop at bytes ≡ text ++ drop end bytes)

-- a value with the bytes behind its place
abbrev pub with_rest : {A : Type 0} → List ℕ → A × ℕ → A × List ℕ
with_rest bytes x = (x.0, drop x.1 bytes)

-- keys within the limit of a set, whose names have their form
abbrev pub AreKeys : Keys → Type 0
AreKeys keys = IsTrue (nat_le (len keys) LIMIT) × IsTrue (keys_fit keys)

-- changes in their form, within their limit
abbrev pub AreOps : List Op → Type 0
AreOps ops = IsTrue (ops_fit ops)
