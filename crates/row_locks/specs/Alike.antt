-- Two tables in which each holder has the same keys: what is looked up in them is the same,
-- whatever else they list.
use Rattle.std.specs.Prelude.{◌≡◌, List}
use Rattle.finite_map.specs.FiniteMap.{insert}
use Rattle.key_sets.specs.declared.kind.Kind.{Kind}
use Rattle.key_sets.specs.declared.parts.Parts.{Parts}
use Rattle.key_sets.specs.Keys.{Keys, with_keys}
use Rattle.row_locks.specs.declared.holder.Holder.{Holder}
use Rattle.row_locks.specs.Locks.{Locks, keys_at, blocker, touching_sessions}

-- each holder has the same keys in both tables
abbrev pub HoldAlike : Locks → Locks → Type 0
HoldAlike a b = (h : Holder) → keys_at a h ≡ keys_at b h

-- the locks once the holder has all these keys
abbrev pub with_held : Locks → Holder → List (Parts × Kind) → Locks
with_held locks holder list = insert locks holder (with_keys (keys_at locks holder) list)

-- in such tables the same holder stands in the way
abbrev pub BlockAlike : Type 0
BlockAlike =
    (a b : Locks) → HoldAlike a b → (holder : Holder) (parts : Parts) (kind : Kind)
    → blocker a holder parts kind ≡ blocker b holder parts kind

-- and the same sessions are touched
abbrev pub TouchAlike : Type 0
TouchAlike =
    (a b : Locks) → HoldAlike a b → (all : Keys) → touching_sessions a all ≡ touching_sessions b all
