-- Who has a key at given parts: the holders there are numbered, and found by their numbers.
use Rattle.std.specs.Prelude.{◌≡◌, ℕ, ◌<◌, Bool, ◌&&◌, nat_eq, is_some, true, min, List, Option, Some}
use Rattle.std.specs.HashMap.{spare}
use Rattle.std.specs.Map.{lookup, count_at}
use Rattle.key_sets.specs.declared.parts.Parts.{Parts}
use Rattle.key_sets.specs.Parts.{parts_eq}
use Rattle.row_locks.specs.declared.holder.Holder.{Holder}
use Rattle.row_locks.specs.declared.holder_index.HolderIndex.{HolderIndex}
use Rattle.row_locks.specs.declared.holder_index.Place.{Place}
use Rattle.row_locks.specs.declared.lock_table.LockKey.{LockKey}
use Rattle.row_locks.specs.LockKeys.{lock_eq, key_of}

-- what the derived `==` of two places computes
abbrev pub place_eq : Place → Place → Bool
place_eq a b = parts_eq a.parts b.parts && nat_eq a.number b.number

abbrev pub place_at : Parts → ℕ → Place
place_at parts number = record { parts = parts; number = number }

-- the number at the parts, or 0
abbrev pub count_in : List (Parts × ℕ) → Parts → ℕ
count_in counts = count_at (λ parts. lookup (parts_eq parts) counts)

-- so many holders have a key at the parts
abbrev pub count : HolderIndex → Parts → ℕ
count index = count_in index.counts.entries

-- the holder with this number there
abbrev pub holder_in : HolderIndex → Parts → ℕ → Option Holder
holder_in index parts number = lookup (place_eq (place_at parts number)) index.holders.entries

-- the number of a key at its parts
abbrev pub number_of : HolderIndex → LockKey → Option ℕ
number_of index key = lookup (lock_eq key) index.numbers.entries

-- whether the index has the key
abbrev pub has_number : HolderIndex → LockKey → Bool
has_number index key = is_some (number_of index key)

-- the things are numbered from 0 on, and each is found by its number
pub record AreNumbered {X : Type 0} (count : ℕ) (thing : ℕ → Option X) (number : X → Option ℕ)
    : Type 0 where
  pub full : (n : ℕ) → n < count → is_some (thing n) ≡ true
  pub below : (n : ℕ) (x : X) → thing n ≡ Some x → n < count
  pub there : (n : ℕ) (x : X) → thing n ≡ Some x → number x ≡ Some n
  pub back : (n : ℕ) (x : X) → number x ≡ Some n → thing n ≡ Some x

-- the holders at each parts are numbered
abbrev pub IsIndex : HolderIndex → Type 0
IsIndex index =
    (parts : Parts)
    → AreNumbered (count index parts) (holder_in index parts)
    (λ h. number_of index (key_of h parts))

-- so many keys can be added with no more memory
abbrev pub index_room : HolderIndex → ℕ
index_room index = min (spare index.counts) (min (spare index.holders) (spare index.numbers))
