-- Keys and changes of a transaction: their limits, and when each change is covered by a key.
use Rattle.std.specs.Prelude.{◌≡◌, ◌≤◌, Bool, ◌||◌, nat_lt, nat_le, List, [], ◌∷◌, ◌++◌, length, Option, Some, None, is_none, IsTrue}
use Rattle.finite_map.specs.FiniteMap.{get, len}
use Rattle.key_sets.specs.declared.kind.Kind.{Kind}
use Rattle.key_sets.specs.declared.kind.Kind.TheVariants as kind
use Rattle.key_sets.specs.declared.parts.Parts.{Parts}
use Rattle.key_sets.specs.Keys.{Keys, LIMIT, with_key}
use Rattle.row_model.specs.declared.ops.Op.{Op}
use Rattle.row_model.specs.declared.ops.Op.TheVariants.{Insert, Update, Delete}
use Rattle.write_set.specs.Rules.{keys_fit, op_fits, ops_fit, row_parts, uncovered_from}

-- the keys and changes of one transaction, or of a part of it
pub record Keyed : Type 0 where
  pub keys : Keys
  pub ops : List Op

-- the changes, and one more where there is one
abbrev pub with_op : List Op → Option Op → List Op
with_op ops None = ops
with_op ops (Some op) = ops ++ op ∷ []

-- one more key, and the change where there is one
abbrev pub with_change : Keyed → Parts → Kind → Option Op → Keyed
with_change all parts kind op =
    record { keys = with_key all.keys parts kind; ops = with_op all.ops op }

-- a transaction has at most 4,096 keys and 8,192 changes
abbrev pub is_over : Keyed → Bool
is_over all = nat_lt LIMIT (len all.keys) || nat_lt 8192 (length all.ops)

-- the key of a change: exclusive where a row is made or removed, update where it is changed in
-- place
abbrev pub key_of : Op → Parts × Kind
key_of (Insert id row) = (row_parts id, kind.Exclusive)
key_of (Update id change) = (row_parts id, kind.Update)
key_of (Delete id) = (row_parts id, kind.Exclusive)

-- a change in its form, with its own key
pub record IsKeyOf (parts : Parts) (kind : Kind) (op : Op) : Type 0 where
  pub form : IsTrue (op_fits op)
  pub key : (parts, kind) ≡ key_of op

-- a write set of these keys and changes obeys the rules
pub record IsFit (keys : Keys) (ops : List Op) : Type 0 where
  pub few_keys : IsTrue (nat_le (len keys) LIMIT)
  pub key_names : IsTrue (keys_fit keys)
  pub op_names : IsTrue (ops_fit ops)
  pub covered : IsTrue (is_none (uncovered_from 0 keys ops))

-- a part of a transaction: its keys are among those of the whole, and its changes are no more
pub record IsPart (whole part : Keyed) : Type 0 where
  pub keys : (p : Parts) → get whole.keys p ≡ None → get part.keys p ≡ None
  pub ops : length part.ops ≤ length whole.ops
