-- The hashed table of locks, seen as the keys of each holder; each key leads to the one that its
-- holder got before it, and an index leads from parts to their holders.
use Rattle.std.specs.Prelude.{◌≡◌, ℕ, ◌≤◌, if◌then◌else◌, max, min, Bool, true, cond, ◌&&◌, not, List, [], ◌∷◌, Option, None, Some, is_some}
use Rattle.std.specs.Option.{option_map}
use Rattle.std.specs.List.{list_any}
use Rattle.std.specs.Map.{lookup}
use Rattle.std.specs.Ordering.{is_lt}
use Rattle.finite_map.specs.FiniteMap.{empty, get, insert, keys}
use Rattle.finite_map.specs.Links.{Linked}
use Rattle.key_sets.specs.declared.kind.Kind.{Kind}
use Rattle.key_sets.specs.declared.parts.Parts.{Parts}
use Rattle.key_sets.specs.Kinds.{kinds_touch, stronger}
use Rattle.key_sets.specs.Parts.{same_parts, table_of}
use Rattle.key_sets.specs.Probes.{passes}
use Rattle.key_sets.specs.Keys.{Keys, touches, one_key}
use Rattle.row_locks.specs.declared.holder.Holder.{Holder}
use Rattle.row_locks.specs.declared.holder.Holder.TheVariants.{Session, Unit}
use Rattle.row_locks.specs.declared.holder_index.HolderIndex.{HolderIndex}
use Rattle.row_locks.specs.declared.lock_table.LockKey.{LockKey}
use Rattle.row_locks.specs.declared.lock_table.Lock.{Lock}
use Rattle.row_locks.specs.HolderIndex.{IsIndex, has_number}
use Rattle.row_locks.specs.Holders.{holder_cmp, same_holder}
use Rattle.row_locks.specs.LockKeys.{holder_eq, lock_eq, key_of}
use Rattle.row_locks.specs.Locks.{Locks, LockState, first_where, keys_at}

abbrev pub Entries : Type 0
Entries = List (LockKey × Lock)

-- the locks with this kind at a holder's key
abbrev pub with_entry : Locks → Holder → Parts → Kind → Locks
with_entry locks holder parts kind = insert locks holder (insert (keys_at locks holder) parts kind)

-- the keys of each holder
abbrev pub locks_in : Entries → Locks
locks_in [] = empty
locks_in (e ∷ es) = with_entry (locks_in es) e.0.holder e.0.parts e.1.kind

-- where a key of a holder leads
abbrev pub links : Entries → Holder → Parts → Option (Option Parts)
links entries holder parts =
    option_map (λ lock. lock.before) (lookup (lock_eq (key_of holder parts)) entries)

-- the index has the keys that have a lock
pub record IsIndexOf (index : HolderIndex) (entries : Entries) : Type 0 where
  pub numbered : IsIndex index
  pub same : (key : LockKey) → has_number index key ≡ is_some (lookup (lock_eq key) entries)

-- each holder's newest key leads through all its keys, the index has them, and no session with keys
-- is above the last one
pub record IsLockTable (entries : Entries) (newest : List (Holder × Parts)) (index : HolderIndex)
    (last : ℕ) : Type 0 where
  pub linked : (holder : Holder) → Linked (links entries holder) (lookup (holder_eq holder) newest)
  pub indexed : IsIndexOf index entries
  pub sessions : (n : ℕ) (parts : Parts)
      → is_some (lookup (lock_eq (key_of (Session n) parts)) entries) ≡ true → n ≤ last

-- the greatest session that has had a key, once this holder has one
abbrev pub last_with : ℕ → Holder → ℕ
last_with last (Session n) = max last n
last_with last (Unit n) = last

-- no lock of the holder is left, and the others' stand as they did
abbrev pub DropsAll : Holder → Entries → Entries → Type 0
DropsAll holder before after =
    (key : LockKey)
    → lookup (lock_eq key) after
    ≡ cond (same_holder holder key.holder) None (lookup (lock_eq key) before)

-- the state that the table is seen as; the room is that of the table that has least
abbrev pub lock_state : Entries → ℕ → ℕ → ℕ → LockState
lock_state entries locks newest index =
    record { locks = locks_in entries; spare = min locks (min newest index) }

-- a key once it is granted, by the lock that is there and the holder's newest key
abbrev pub lock_after : Option Lock → Option Parts → Kind → Lock
lock_after None newest kind = record { kind = kind; before = newest }
lock_after (Some old) newest kind = record { kind = stronger old.kind kind; before = old.before }

-- whether there is a key of a row of the table
abbrev pub has_row_of : Keys → Parts → Bool
has_row_of keys table =
    list_any (λ e. is_some e.0.row && same_parts (table_of e.0) table) keys.entries

-- the lesser of two holders, where there is one
abbrev pub lesser : Option Holder → Option Holder → Option Holder
lesser None b = b
lesser (Some a) None = Some a
lesser (Some a) (Some b) = if is_lt (holder_cmp b a) then Some b else Some a

-- whether another holder has a key with just these parts that the kind touches
abbrev pub is_in_way_at : Locks → Holder → Parts → Kind → Holder → Bool
is_in_way_at locks holder parts kind other =
    not (same_holder holder other) && passes (kinds_touch kind) (get (keys_at locks other) parts)

-- the least of the other holders that have one
abbrev pub blocker_at : Locks → Holder → Parts → Kind → Option Holder
blocker_at locks holder parts kind = first_where (is_in_way_at locks holder parts kind) (keys locks)

-- whether the key is another holder's, and that of a row of the table
abbrev pub row_in_way : Holder → Parts → LockKey → Bool
row_in_way holder table key =
    not (holder_eq key.holder holder)
    && (is_some key.parts.row && same_parts (table_of key.parts) table)

-- whether another holder has a key of a row of the table
abbrev pub has_row_in_way : Locks → Holder → Parts → Holder → Bool
has_row_in_way locks holder table other =
    not (same_holder holder other) && has_row_of (keys_at locks other) table

-- the least of the other holders that have one
abbrev pub row_blocker : Locks → Holder → Parts → Option Holder
row_blocker locks holder table = first_where (has_row_in_way locks holder table) (keys locks)

-- whether one of these keys touches one of the holder's
abbrev pub touches_some : Locks → List (Parts × Kind) → Holder → Bool
touches_some locks keys holder =
    list_any (λ key. touches (one_key key.0 key.1) (keys_at locks holder)) keys

-- the session that the holder is, where one of these keys touches one of its own
abbrev pub touched_session : Locks → List (Parts × Kind) → Holder → Option ℕ
touched_session locks keys (Session n) =
    if touches_some locks keys (Session n) then Some n else None
touched_session locks keys (Unit n) = None

-- what is there, where it passes
abbrev pub where_passes : (Holder → Bool) → Option Holder → Option Holder
where_passes test None = None
where_passes test (Some h) = if test h then Some h else None
