-- reading a write set from left to right: its value, or the first fault that is met
use Rattle.std.specs.Prelude.{◌≡◌, ℕ, zero, suc, ◌+◌, ◌-◌, ◌==◌, Bool, true, not, ◌&&◌, ◌||◌, nat_le, nat_lt, List, [], ◌∷◌, ◌++◌, length, replicate, Option, Some, None, Result, Ok, Err, if◌then◌else◌}
use Rattle.std.specs.List.{position}
use Rattle.std.specs.Result.{result_ok}
use Rattle.std.specs.Int.{Width, w8, w32, w64}
use Rattle.std.specs.Ordering.{is_lt}
use Rattle.finite_map.specs.FiniteMap.{empty, len}
use Rattle.key_sets.specs.declared.kind.Kind.{Kind}
use Rattle.key_sets.specs.declared.kind.Kind.TheVariants as kind
use Rattle.key_sets.specs.declared.parts.Parts.{Parts}
use Rattle.key_sets.specs.Parts.{parts_cmp}
use Rattle.key_sets.specs.Keys.{Keys, LIMIT, with_keys}
use Rattle.row_model.specs.declared.row.RowId.{RowId}
use Rattle.row_model.specs.declared.ops.Op.{Op}
use Rattle.row_model.specs.declared.ops.Op.TheVariants.{Insert, Update, Delete}
use Rattle.write_set.specs.declared.fault.WsFault.{WsFault}
use Rattle.write_set.specs.declared.fault.WsFault.TheVariants.{Short, BadVersion, BadFlags, TooMany, BadKey, BadKind, NotCanonical, BadChange, Trailing, Uncovered, NoMemory}
use Rattle.write_set.specs.declared.write_set.Header.{Header}
use Rattle.write_set.specs.declared.write_set.WriteSet.{WriteSet}
use Rattle.write_set.specs.declared.rules.TheConstants.{MOST_OPS}
use Rattle.write_set.specs.declared.names.NameRole.{NameRole}
use Rattle.write_set.specs.declared.names.NameRole.TheVariants as role
use Rattle.write_set.specs.Names.{admits, padded}
use Rattle.write_set.specs.Rules.{flags_fit, uncovered_from}
use Rattle.wsrep_base.specs.Reading as fields
pub use Rattle.wsrep_base.specs.Reading.{◌>>=◌, refuse}
unfoldable pub use Rattle.wsrep_base.specs.Reading.{many_at}
use Rattle.write_set.specs.Place.{Place, place_in}

-- a value and the place behind it, or the first fault
abbrev pub Read : Type 0 → Type 0
Read A = Result (A × Place) WsFault

-- the next n bytes
abbrev pub bytes_at : ℕ → Place → Read (List ℕ)
bytes_at = fields.bytes_at Short

abbrev pub number_at : Width → Place → Read ℕ
number_at = fields.number_at Short

-- what is read, with the place behind it as a number
abbrev pub behind : {A : Type 0} → Read A → Result (A × ℕ) WsFault
behind reading = reading >>= λ one. Ok (one.0, one.1.at)

-- the fault of a name at a place
abbrev pub fault_of : NameRole → ℕ → WsFault
fault_of role.KeyTable at = BadKey at
fault_of role.KeyRow at = BadKey at
fault_of role.ChangeTable at = BadChange at
fault_of role.ChangeRow at = BadChange at

-- the fault of the first letter that is none
abbrev pub bad_letter : (ℕ → WsFault) → ℕ → Option ℕ → Result (Unit {0}) WsFault
bad_letter fault at None = Ok tt
bad_letter fault at (Some i) = Err (fault (at + i))

-- a length from 1 to 16, and so many letters: padded to 16 bytes
unfoldable pub name_at : NameRole → Place → Read (List ℕ)
name_at role p = do
  count ← number_at w8 p
  fits ← refuse (count.0 == 0 || nat_lt 16 count.0) (fault_of role p.at)
  name ← bytes_at count.0 count.1
  good ← bad_letter (fault_of role) count.1.at (position (λ b. not (admits role b)) name.0)
  Ok (padded name.0, name.1)

abbrev pub kind_of_byte : ℕ → Kind
kind_of_byte zero = kind.Exclusive
kind_of_byte (suc zero) = kind.Shared
kind_of_byte (suc (suc zero)) = kind.Update
kind_of_byte (suc (suc (suc b))) = kind.Exclusive

-- the row of a key with so many parts
unfoldable pub key_row_at : ℕ → Place → Read (Option (List ℕ))
key_row_at parts p =
    if parts == 1 then Ok (None, p) else (name_at role.KeyRow p >>= λ row. Ok (Some row.0, row.1))

unfoldable pub key_at : Place → Read (Parts × Kind)
key_at p = do
  parts ← number_at w8 p
  fits ← refuse (not (parts.0 == 1 || parts.0 == 2)) (BadKey p.at)
  kind ← number_at w8 parts.1
  known ← refuse (kind.0 == 0 || nat_lt 3 kind.0) (BadKind parts.1.at)
  table ← name_at role.KeyTable kind.1
  row ← key_row_at parts.0 table.1
  Ok ((record { table = table.0; row = row.0 }, kind_of_byte kind.0), row.1)

-- whether a key is above the one before it
abbrev pub is_above : Option Parts → Parts → Bool
is_above None parts = true
is_above (Some before) parts = is_lt (parts_cmp before parts)

-- so many keys, each above the one before it
unfoldable pub some_keys_at : ℕ → Option Parts → Place → Read (List (Parts × Kind))
some_keys_at zero before p = Ok ([], p)
some_keys_at (suc n) before p = do
  key ← key_at p
  rising ← refuse (not (is_above before key.0.0)) (NotCanonical p.at)
  others ← some_keys_at n (Some key.0.0) key.1
  Ok (key.0 ∷ others.0, others.1)

-- the keys that are read, added to a set
abbrev pub with_read : Keys → Read (List (Parts × Kind)) → Read Keys
with_read keys (Ok more) = Ok (with_keys keys more.0, more.1)
with_read keys (Err fault) = Err fault

-- the number of keys, at most so many as a set may have, and the keys
unfoldable pub keys_at : Place → Read Keys
keys_at p = do
  count ← number_at w32 p
  few ← refuse (nat_lt LIMIT count.0) (TooMany p.at)
  with_read empty (some_keys_at count.0 None count.1)

unfoldable pub place_at : Place → Read RowId
place_at p = do
  table ← name_at role.ChangeTable p
  row ← name_at role.ChangeRow table.1
  Ok (record { table = table.0; row = row.0 }, row.1)

-- a number of values or columns, 1 to 8
unfoldable pub count_at : Place → Read ℕ
count_at p = do
  count ← number_at w8 p
  fits ← refuse (count.0 == 0 || nat_lt 8 count.0) (BadChange p.at)
  Ok count

unfoldable pub values_at : Place → Read (List ℕ)
values_at p = do
  count ← count_at p
  many_at (number_at w64) count.0 count.1

-- the columns above `last`, of which so many are named, in rising order
unfoldable pub some_columns_at : ℕ → ℕ → Place → Read (List (Option ℕ))
some_columns_at zero last p = Ok (replicate (8 - last) None, p)
some_columns_at (suc n) last p = do
  column ← number_at w8 p
  fits ← refuse (column.0 == 0 || nat_lt 8 column.0) (BadChange p.at)
  rising ← refuse (nat_le column.0 last) (NotCanonical p.at)
  value ← number_at w64 column.1
  others ← some_columns_at n column.0 value.1
  Ok (replicate (column.0 - (last + 1)) None ++ Some value.0 ∷ others.0, others.1)

unfoldable pub columns_at : Place → Read (List (Option ℕ))
columns_at p = do
  count ← count_at p
  some_columns_at count.0 0 count.1

-- what stands behind the place of a row
abbrev pub op_body_at : ℕ → RowId → Place → Read Op
op_body_at tag id p =
    if tag == 1 then (values_at p >>= λ values. Ok (Insert id values.0, values.1))
    else if tag == 2 then (columns_at p >>= λ change. Ok (Update id change.0, change.1))
    else Ok (Delete id, p)

unfoldable pub op_at : Place → Read Op
op_at p = do
  tag ← number_at w8 p
  known ← refuse (tag.0 == 0 || nat_lt 3 tag.0) (BadChange p.at)
  id ← place_at tag.1
  op_body_at tag.0 id.0 id.1

-- the number of changes within its limit, and the changes. A rollback with a key or a change is
-- refused before that limit
unfoldable pub ops_at : Bool → Bool → Place → Read (List Op)
ops_at rollback keyed p = do
  count ← number_at w32 p
  bare ← refuse (rollback && (keyed || not (count.0 == 0))) BadFlags
  few ← refuse (nat_lt MOST_OPS count.0) (TooMany p.at)
  many_at op_at count.0 count.1

-- what stands before the keys. A break of the flags is met once they are read
unfoldable pub header_at : Place → Read Header
header_at p = do
  version ← number_at w8 p
  known ← refuse (not (version.0 == 1)) (BadVersion version.0)
  member ← number_at w32 version.1
  serial ← number_at w64 member.1
  begin ← number_at w64 serial.1
  fragment ← number_at w32 begin.1
  flags ← number_at w8 fragment.1
  fit ← refuse (not (flags_fit flags.0 fragment.0)) BadFlags
  seen ← number_at w64 flags.1
  Ok (
    record {
      member = member.0;
      serial = serial.0;
      begin = begin.0;
      fragment = fragment.0;
      flags = flags.0;
      last_seen = seen.0;
    },
    seen.1,
  )

abbrev pub covered : Option ℕ → Result (Unit {0}) WsFault
covered None = Ok tt
covered (Some at) = Err (Uncovered at)

abbrev pub write_set_of : Header → Keys → List Op → WriteSet
write_set_of h keys ops = record {
  member = h.member;
  serial = h.serial;
  begin = h.begin;
  fragment = h.fragment;
  flags = h.flags;
  last_seen = h.last_seen;
  keys = keys;
  ops = ops;
}

-- the write set, where each change is covered
unfoldable pub finished : Header → Keys → List Op → Result WriteSet WsFault
finished h keys ops = do
  all ← covered (uncovered_from 0 keys ops)
  Ok (write_set_of h keys ops)

-- the write set that all the bytes spell, or the first fault
unfoldable pub read : List ℕ → Result WriteSet WsFault
read bytes = do
  head ← header_at (place_in bytes 0)
  keys ← keys_at head.1
  ops ← ops_at (head.0.flags == 4) (not (len keys.0 == 0)) keys.1
  ended ← refuse (not (length ops.1.left == 0)) (Trailing ops.1.at)
  finished head.0 keys.0 ops.0

-- the write set with this spelling, if there is one
abbrev pub decoded : List ℕ → Option WriteSet
decoded bytes = result_ok (read bytes)

-- the begin number that stands beside the flags of a commit
abbrev pub begin_of_end : ℕ → ℕ → Option ℕ
begin_of_end flags begin = if flags == 2 || flags == 3 then Some begin else None

abbrev pub begin_in : Read Header → Option ℕ
begin_in (Ok head) = begin_of_end head.0.flags head.0.begin
begin_in (Err fault) = None

-- the begin number of the transaction whose commit the fields before the keys say it is
unfoldable pub commit_begin : List ℕ → Option ℕ
commit_begin bytes = begin_in (header_at (place_in bytes 0))

-- what a function returned, seen by a view, is what is read, unless memory ran out
abbrev pub Fails : {Y : Type 0} → WsFault → Result Y WsFault → Type 0
Fails NoMemory reading = Unit {0}
Fails fault reading = reading ≡ Err fault

abbrev pub Gives : {X Y : Type 0} → (X → Y) → Result X WsFault → Result Y WsFault → Type 0
Gives view (Ok x) reading = reading ≡ Ok (view x)
Gives view (Err fault) reading = Fails fault reading
