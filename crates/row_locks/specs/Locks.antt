-- Row locks: the keys that each holder has, who stands in the way of one more, and which sessions'
-- keys touch a key set.
use Rattle.std.specs.Prelude.{ℕ, Bool, ◌&&◌, not, List, [], ◌∷◌, Option, None, Some, if◌then◌else◌, refl}
use Rattle.std.specs.Option.{unwrap_or}
use Rattle.std.specs.List.{filter_map}
use Rattle.std.specs.Coded.{Coded, code_by, coded×, coded_ℕ}
use Rattle.finite_map.specs.FiniteMap.{FiniteMap, empty, get, insert, keys, code}
use Rattle.key_sets.specs.declared.kind.Kind.{Kind}
use Rattle.key_sets.specs.declared.parts.Parts.{Parts}
use Rattle.key_sets.specs.Kinds.{coded_kind}
use Rattle.key_sets.specs.Parts.{coded_parts}
use Rattle.key_sets.specs.Keys.{Keys, touches, with_key, one_key}
use Rattle.row_locks.specs.declared.holder.Holder.{Holder}
use Rattle.row_locks.specs.declared.holder.Holder.TheVariants.{Session, Unit}
use Rattle.row_locks.specs.declared.holder.Grant.{Grant}
use Rattle.row_locks.specs.declared.holder.Grant.TheVariants.{Held, Busy}
use Rattle.row_locks.specs.Holders.{holder_cmp, same_holder, coded_holder}

-- the keys of each holder; who has none does not stand there
abbrev pub Locks : Type 0
Locks = FiniteMap holder_cmp Keys

pub record LockState : Type 0 where
  pub locks : Locks
  -- so many keys can be granted with no more memory
  pub spare : ℕ

abbrev pub coded_lock_state : Coded LockState
coded_lock_state =
    code_by (Locks × ℕ) (coded× (code coded_holder (code coded_parts coded_kind)) coded_ℕ)
    (λ s. (s.locks, s.spare)) (λ p. record { locks = p.0; spare = p.1 }) (λ _. refl)

-- the keys of a holder
abbrev pub keys_at : Locks → Holder → Keys
keys_at locks holder = unwrap_or (get locks holder) empty

-- the first item that passes
abbrev pub first_where : {A : Type 0} → (A → Bool) → List A → Option A
first_where test [] = None
first_where test (x ∷ xs) = if test x then Some x else first_where test xs

-- whether another holder has a key that touches this one
abbrev pub is_blocked_by : Locks → Holder → Parts → Kind → Holder → Bool
is_blocked_by locks holder parts kind other =
    not (same_holder holder other) && touches (one_key parts kind) (keys_at locks other)

-- the least of the other holders that have a key that touches this one
abbrev pub blocker : Locks → Holder → Parts → Kind → Option Holder
blocker locks holder parts kind = first_where (is_blocked_by locks holder parts kind) (keys locks)

-- the locks once the holder has the key; a stronger kind replaces a weaker
abbrev pub with_lock : Locks → Holder → Parts → Kind → Locks
with_lock locks holder parts kind = insert locks holder (with_key (keys_at locks holder) parts kind)

-- what becomes of a request, where another holder may stand in the way
abbrev pub granted_unless : Option Holder → Locks → Holder → Parts → Kind → Grant × Locks
granted_unless (Some other) locks holder parts kind = (Busy other, locks)
granted_unless None locks holder parts kind = (Held, with_lock locks holder parts kind)

-- the key is the holder's, unless another one has a key that touches it
abbrev pub granted : Locks → Holder → Parts → Kind → Grant × Locks
granted locks holder parts kind =
    granted_unless (blocker locks holder parts kind) locks holder parts kind

-- the session that the holder is, where its keys touch the set
abbrev pub touching_session : Locks → Keys → Holder → Option ℕ
touching_session locks all (Session n) =
    if touches all (keys_at locks (Session n)) then Some n else None
touching_session locks all (Unit n) = None

-- the sessions whose keys touch the set, ascending
abbrev pub touching_sessions : Locks → Keys → List ℕ
touching_sessions locks all = filter_map (touching_session locks all) (keys locks)
