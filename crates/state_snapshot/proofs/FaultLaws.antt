-- The faults that are met in a snapshot: none of them is of a whole write set.
use Rattle.std.proofs.Common.{◌≡◌, ℕ, zero, suc, ◌+◌, Bool, true, false, cond, ltb, List, length, Option, None, Some, Result, Ok, Err, refl, subst}
use Rattle.std.specs.Prelude.{◌==◌, ◌||◌, ◌&&◌, not, nat_lt, nat_le, IfErr}
use Rattle.std.specs.Int.{Width, w8, w32, w64}
use Rattle.std.specs.List.{position}
use Rattle.std.specs.Str.{bytes_eq}
use Rattle.wsrep_base.specs.declared.limits.TheConstants.{MOST_EVENTS}
use Rattle.write_set.specs.declared.rules.TheConstants.{MOST_OPS}
use Rattle.write_set.specs.Names.{admits}
use Rattle.finite_map.specs.FiniteMap.{empty, len}
use Rattle.wsrep_base.specs.declared.ids.TrxId.{TrxId}
use Rattle.wsrep_base.specs.StateId.{nil_id}
use Rattle.wsrep_base.specs.Reading as fields
use Rattle.key_sets.specs.declared.kind.Kind.{Kind}
use Rattle.key_sets.specs.declared.parts.Parts.{Parts}
use Rattle.key_sets.specs.Keys.{Keys, LIMIT, with_key}
use Rattle.row_model.specs.declared.row.RowId.{RowId}
use Rattle.row_model.specs.declared.ops.Op.{Op}
use Rattle.row_model.specs.declared.ops.Op.TheVariants.{Insert, Update, Delete}
use Rattle.write_set.specs.declared.fault.WsFault.{WsFault}
use Rattle.write_set.specs.declared.fault.WsFault.TheVariants as part
use Rattle.write_set.specs.declared.names.NameRole.{NameRole}
use Rattle.write_set.specs.declared.names.NameRole.TheVariants as role
use Rattle.write_set.specs.Place.{Place, place_in}
use Rattle.write_set.specs.Reading.{◌>>=◌, refuse, Read, Fails, bytes_at, number_at, many_at, bad_letter, fault_of, name_at, key_row_at, key_at, is_above, some_keys_at, with_read, keys_at, count_at, values_at, some_columns_at, columns_at}
use Rattle.cert_meaning.specs.declared.parts.MemberItem.{MemberItem}
use Rattle.state_snapshot.specs.declared.head.Head.{Head}
use Rattle.state_snapshot.specs.declared.members.MembersSoFar.{MembersSoFar}
use Rattle.state_snapshot.specs.Reading.{FragmentsSoFar, no_members, no_fragments, each_at, head_at, report_fits, member_at, members_at, is_table_below, is_row_above, row_at, rows_at, commit_at, commits_at, whole_key_at, with_both, whole_keys_at, covers, covered_op_at, covered_ops_at, fragment_at, fragments_at, is_listed, is_member_from, is_trx_above, open_at, open_trx_at, read, is_met}

abbrev Met : {A : Type 0} → Result A WsFault → Type 0
Met reading = IfErr reading (λ fault. is_met fault ≡ true)

along : {A B : Type 0} (one : Result A WsFault) (rest : A → Result B WsFault) → Met one → ((x : A) → Met (rest x)) → Met (one >>= rest)
along (Ok x) rest met later = later x
along (Err fault) rest met later = met

refused : (test : Bool) (fault : WsFault) → is_met fault ≡ true → Met (refuse test fault)
refused true fault met = met
refused false fault met = tt

-- ---- fields

cut_met : {A : Type 0} (cut : Bool) (at : ℕ) (x : A) → Met (cond cut (Err (part.Short at)) (Ok x))
cut_met true at x = refl
cut_met false at x = tt

bytes_met : (n : ℕ) (p : Place) → Met (bytes_at n p)
unfolding fields.bytes_at
bytes_met n p = cut_met (ltb (length p.left) n) p.at _

number_met : (w : Width) (p : Place) → Met (number_at w p)
unfolding fields.number_at
number_met w p = along _ _ (bytes_met _ p) (λ bytes. tt)

name_fault_met : (r : NameRole) (at : ℕ) → is_met (fault_of r at) ≡ true
name_fault_met role.KeyTable at = refl
name_fault_met role.KeyRow at = refl
name_fault_met role.ChangeTable at = refl
name_fault_met role.ChangeRow at = refl

letter_met : (r : NameRole) (at : ℕ) (bad : Option ℕ) → Met (bad_letter (fault_of r) at bad)
letter_met r at None = tt
letter_met r at (Some i) = name_fault_met r (at + i)

name_met : (r : NameRole) (p : Place) → Met (name_at r p)
unfolding name_at
name_met r p =
    along (number_at w8 p) _ (number_met w8 p) (λ count.
    along (refuse (count.0 == 0 || nat_lt 16 count.0) (fault_of r p.at)) _ (refused _ _ (name_fault_met r p.at)) (λ fits.
    along (bytes_at count.0 count.1) _ (bytes_met count.0 count.1) (λ name.
    along (bad_letter (fault_of r) count.1.at (position (λ b. not (admits r b)) name.0)) _ (letter_met r count.1.at _) (λ good. tt))))

many_met : {A : Type 0} (one_at : Place → Read A) → ((p : Place) → Met (one_at p)) → (n : ℕ) (p : Place) → Met (many_at one_at n p)
unfolding many_at
many_met one_at met zero p = tt
many_met one_at met (suc n) p = along (one_at p) _ (met p) (λ one. along (many_at one_at n one.1) _ (many_met one_at met n one.1) (λ others. tt))

each_met : {A S : Type 0} (one_at : S → Place → Read (A × S)) → ((s : S) (p : Place) → Met (one_at s p)) → (n : ℕ) (s : S) (p : Place)
    → Met (each_at one_at n s p)
unfolding each_at
each_met one_at met zero s p = tt
each_met one_at met (suc n) s p =
    along (one_at s p) _ (met s p) (λ one. along (each_at one_at n one.0.1 one.1) _ (each_met one_at met n one.0.1 one.1) (λ others. tt))

-- ---- keys

key_row_by : (one : Bool) (p : Place) → Met {A = Option (List ℕ) × Place} (cond one (Ok (None, p)) (name_at role.KeyRow p >>= λ row. Ok (Some row.0, row.1)))
key_row_by true p = tt
key_row_by false p = along (name_at role.KeyRow p) _ (name_met role.KeyRow p) (λ row. tt)

key_row_met : (parts : ℕ) (p : Place) → Met (key_row_at parts p)
unfolding key_row_at
key_row_met parts p = key_row_by (parts == 1) p

key_met : (p : Place) → Met (key_at p)
unfolding key_at
key_met p =
    along (number_at w8 p) _ (number_met w8 p) (λ parts.
    along (refuse (not (parts.0 == 1 || parts.0 == 2)) (part.BadKey p.at)) _ (refused _ _ refl) (λ fits.
    along (number_at w8 parts.1) _ (number_met w8 parts.1) (λ kind.
    along (refuse (kind.0 == 0 || nat_lt 3 kind.0) (part.BadKind parts.1.at)) _ (refused _ _ refl) (λ known.
    along (name_at role.KeyTable kind.1) _ (name_met role.KeyTable kind.1) (λ table.
    along (key_row_at parts.0 table.1) _ (key_row_met parts.0 table.1) (λ row. tt))))))

some_keys_met : (n : ℕ) (before : Option Parts) (p : Place) → Met (some_keys_at n before p)
unfolding some_keys_at
some_keys_met zero before p = tt
some_keys_met (suc n) before p =
    along (key_at p) _ (key_met p) (λ key.
    along (refuse (not (is_above before key.0.0)) (part.NotCanonical p.at)) _ (refused _ _ refl) (λ rising.
    along (some_keys_at n (Some key.0.0) key.1) _ (some_keys_met n (Some key.0.0) key.1) (λ others. tt)))

read_met : (keys : Keys) (some : Read (List (Parts × Kind))) → Met some → Met (with_read keys some)
read_met keys (Ok more) met = tt
read_met keys (Err fault) met = met

keys_met : (p : Place) → Met (keys_at p)
unfolding keys_at
keys_met p =
    along (number_at w32 p) _ (number_met w32 p) (λ count.
    along (refuse (nat_lt LIMIT count.0) (part.TooMany p.at)) _ (refused _ _ refl) (λ few.
    read_met empty (some_keys_at count.0 None count.1) (some_keys_met count.0 None count.1)))

whole_key_met : (s : Option Parts × Keys) (p : Place) → Met (whole_key_at s p)
unfolding whole_key_at
whole_key_met s p =
    along (key_at p) _ (key_met p) (λ key.
    along (refuse (not (is_above s.0 key.0.0)) (part.NotCanonical p.at)) _ (refused _ _ refl) (λ rising.
    along (refuse (nat_lt LIMIT (len (with_key s.1 key.0.0 key.0.1))) (part.NotCanonical p.at)) _ (refused _ _ refl) (λ few. tt)))

both_met : (keys whole : Keys) (some : Read (List (Parts × Kind))) → Met some → Met (with_both keys whole some)
both_met keys whole (Ok more) met = tt
both_met keys whole (Err fault) met = met

whole_keys_met : (whole : Keys) (p : Place) → Met (whole_keys_at whole p)
unfolding whole_keys_at
whole_keys_met whole p =
    along (number_at w32 p) _ (number_met w32 p) (λ count.
    along (refuse (nat_lt LIMIT count.0) (part.TooMany p.at)) _ (refused _ _ refl) (λ few.
    both_met empty whole (each_at whole_key_at count.0 (None, whole) count.1) (each_met whole_key_at whole_key_met count.0 (None, whole) count.1)))

-- ---- changes

count_met : (p : Place) → Met (count_at p)
unfolding count_at
count_met p =
    along (number_at w8 p) _ (number_met w8 p) (λ count.
    along (refuse (count.0 == 0 || nat_lt 8 count.0) (part.BadChange p.at)) _ (refused _ _ refl) (λ fits. tt))

values_met : (p : Place) → Met (values_at p)
unfolding values_at
values_met p = along (count_at p) _ (count_met p) (λ count. many_met (number_at w64) (number_met w64) count.0 count.1)

some_columns_met : (n last : ℕ) (p : Place) → Met (some_columns_at n last p)
unfolding some_columns_at
some_columns_met zero last p = tt
some_columns_met (suc n) last p =
    along (number_at w8 p) _ (number_met w8 p) (λ column.
    along (refuse (column.0 == 0 || nat_lt 8 column.0) (part.BadChange p.at)) _ (refused _ _ refl) (λ fits.
    along (refuse (nat_le column.0 last) (part.NotCanonical p.at)) _ (refused _ _ refl) (λ rising.
    along (number_at w64 column.1) _ (number_met w64 column.1) (λ value.
    along (some_columns_at n column.0 value.1) _ (some_columns_met n column.0 value.1) (λ others. tt)))))

columns_met : (p : Place) → Met (columns_at p)
unfolding columns_at
columns_met p = along (count_at p) _ (count_met p) (λ count. some_columns_met count.0 0 count.1)

body_by : (one two : Bool) (id : RowId) (p : Place)
    → Met {A = Op × Place} (cond one (values_at p >>= λ values. Ok (Insert id values.0, values.1)) (cond two (columns_at p >>= λ change. Ok (Update id change.0, change.1)) (Ok (Delete id, p))))
body_by true two id p = along (values_at p) (λ values. Ok (Insert id values.0, values.1)) (values_met p) (λ values. tt)
body_by false true id p = along (columns_at p) (λ change. Ok (Update id change.0, change.1)) (columns_met p) (λ change. tt)
body_by false false id p = tt

covered_op_met : (keys : Keys) (p : Place) → Met (covered_op_at keys p)
unfolding covered_op_at
covered_op_met keys p =
    along (number_at w8 p) _ (number_met w8 p) (λ tag.
    along (refuse (tag.0 == 0 || nat_lt 3 tag.0) (part.BadChange p.at)) _ (refused _ _ refl) (λ known.
    along (name_at role.ChangeTable tag.1) _ (name_met role.ChangeTable tag.1) (λ table.
    along (name_at role.ChangeRow table.1) _ (name_met role.ChangeRow table.1) (λ row.
    let id : RowId = record { table = table.0; row = row.0 } in
    along (refuse (not (covers keys (tag.0 == 2) id)) (part.NotCanonical table.1.at)) _ (refused _ _ refl) (λ covered.
    body_by (tag.0 == 1) (tag.0 == 2) id row.1)))))

covered_ops_met : (keys : Keys) (p : Place) → Met (covered_ops_at keys p)
unfolding covered_ops_at
covered_ops_met keys p =
    along (number_at w32 p) _ (number_met w32 p) (λ count.
    along (refuse (nat_lt MOST_OPS count.0) (part.TooMany p.at)) _ (refused _ _ refl) (λ few.
    many_met (covered_op_at keys) (covered_op_met keys) count.0 count.1))

-- ---- the parts of a snapshot

head_met : (p : Place) → Met (head_at p)
unfolding head_at
head_met p =
    along (number_at w8 p) _ (number_met w8 p) (λ mark.
    along (refuse (not (mark.0 == 83)) (part.NotCanonical p.at)) _ (refused _ _ refl) (λ is_snapshot.
    along (number_at w8 mark.1) _ (number_met w8 mark.1) (λ form.
    along (refuse (not (form.0 == 1)) (part.NotCanonical mark.1.at)) _ (refused _ _ refl) (λ known.
    along (bytes_at 16 form.1) _ (bytes_met 16 form.1) (λ id.
    along (refuse (bytes_eq id.0 nil_id) (part.NotCanonical form.1.at)) _ (refused _ _ refl) (λ given.
    along (number_at w64 id.1) _ (number_met w64 id.1) (λ number.
    along (refuse (nat_lt MOST_EVENTS number.0) (part.NotCanonical id.1.at)) _ (refused _ _ refl) (λ few.
    along (number_at w64 number.1) _ (number_met w64 number.1) (λ floor.
    along (refuse (nat_lt number.0 floor.0) (part.NotCanonical number.1.at)) _ (refused _ _ refl) (λ within.
    along (number_at w32 floor.1) _ (number_met w32 floor.1) (λ version. tt)))))))))))

member_met : (head : Head) (s : MembersSoFar) (p : Place) → Met (member_at head s p)
unfolding member_at
member_met head s p =
    along (number_at w32 p) _ (number_met w32 p) (λ member.
    along (refuse (nat_lt member.0 s.least) (part.NotCanonical p.at)) _ (refused _ _ refl) (λ rising.
    along (number_at w64 member.1) _ (number_met w64 member.1) (λ report.
    along (refuse (not (report_fits head s report.0)) (part.NotCanonical member.1.at)) _ (refused _ _ refl) (λ fits.
    along (number_at w64 report.1) _ (number_met w64 report.1) (λ serial. tt)))))

row_met : (last : Option RowId) (p : Place) → Met (row_at last p)
unfolding row_at
row_met last p =
    along (name_at role.ChangeTable p) _ (name_met role.ChangeTable p) (λ table.
    along (refuse (is_table_below last table.0) (part.NotCanonical p.at)) _ (refused _ _ refl) (λ not_below.
    along (name_at role.ChangeRow table.1) _ (name_met role.ChangeRow table.1) (λ row.
    along (refuse (not (is_row_above last (record { table = table.0; row = row.0 }))) (part.NotCanonical table.1.at)) _ (refused _ _ refl) (λ rising.
    along (values_at row.1) _ (values_met row.1) (λ values. tt)))))

commit_met : (most last : ℕ) (p : Place) → Met (commit_at most last p)
unfolding commit_at
commit_met most last p =
    along (number_at w64 p) _ (number_met w64 p) (λ number.
    along (refuse (nat_le number.0 last || nat_lt most number.0) (part.NotCanonical p.at)) _ (refused _ _ refl) (λ rising.
    along (number_at w32 number.1) _ (number_met w32 number.1) (λ member.
    along (number_at w64 member.1) _ (number_met w64 member.1) (λ begin. along (keys_at begin.1) _ (keys_met begin.1) (λ keys. tt)))))

fragment_met : (most : ℕ) (s : FragmentsSoFar) (p : Place) → Met (fragment_at most s p)
unfolding fragment_at
fragment_met most s p =
    along (number_at w64 p) _ (number_met w64 p) (λ number.
    along (refuse (nat_lt number.0 s.least || nat_lt most number.0) (part.NotCanonical p.at)) _ (refused _ _ refl) (λ rising.
    along (number_at w64 number.1) _ (number_met w64 number.1) (λ seen.
    along (refuse (nat_le number.0 seen.0 || nat_lt seen.0 s.last_seen) (part.NotCanonical number.1.at)) _ (refused _ _ refl) (λ fits.
    along (whole_keys_at s.whole seen.1) _ (whole_keys_met s.whole seen.1) (λ keys.
    along (covered_ops_at keys.0.0 keys.1) _ (covered_ops_met keys.0.0 keys.1) (λ ops. tt))))))

fragments_met : (most : ℕ) (p : Place) → Met (fragments_at most p)
unfolding fragments_at
fragments_met most p =
    along (number_at w32 p) _ (number_met w32 p) (λ count.
    along (refuse (count.0 == 0) (part.NotCanonical p.at)) _ (refused _ _ refl) (λ some.
    each_met (fragment_at most) (fragment_met most) count.0 no_fragments count.1))

open_met : (most : ℕ) (members : List MemberItem) (last : Option TrxId) (p : Place) → Met (open_at most members last p)
unfolding open_at
open_met most members last p =
    along (number_at w32 p) _ (number_met w32 p) (λ member.
    along (refuse (not (is_listed members member.0 && is_member_from last member.0)) (part.NotCanonical p.at)) _ (refused _ _ refl) (λ known.
    along (number_at w64 member.1) _ (number_met w64 member.1) (λ begin.
    along (refuse (not (is_trx_above last (record { member = member.0; begin = begin.0 }))) (part.NotCanonical member.1.at)) _ (refused _ _ refl) (λ rising.
    along (fragments_at most begin.1) _ (fragments_met most begin.1) (λ fragments. tt)))))

whole_met : (bytes : List ℕ) → Met (read bytes)
unfolding read members_at rows_at commits_at open_trx_at
whole_met bytes =
    along (head_at (place_in bytes 0)) _ (head_met (place_in bytes 0)) (λ head.
    along (members_at head.0 head.1) _
    (along (number_at w32 head.1) _ (number_met w32 head.1) (λ count. each_met (member_at head.0) (member_met head.0) count.0 (no_members count.0) count.1)) (λ members.
    along (rows_at members.1) _
    (along (number_at w32 members.1) _ (number_met w32 members.1) (λ count. each_met row_at row_met count.0 None count.1)) (λ rows.
    along (commits_at head.0 rows.1) _
    (along (number_at w32 rows.1) _ (number_met w32 rows.1) (λ count. each_met (commit_at head.0.number) (commit_met head.0.number) count.0 head.0.floor count.1)) (λ commits.
    along (open_trx_at head.0.number members.0 commits.1) _
    (along (number_at w32 commits.1) _ (number_met w32 commits.1)
    (λ count. each_met (open_at head.0.number members.0) (open_met head.0.number members.0) count.0 None count.1)) (λ opened.
    along (refuse (not (length opened.1.left == 0)) (part.Trailing opened.1.at)) _ (refused _ _ refl) (λ ended. tt))))))

met_from : (fault : WsFault) {A : Type 0} (reading : Result A WsFault) → Met reading → reading ≡ Err fault → is_met fault ≡ true
met_from fault reading met is = subst Met is met

-- a fault that is given is met
pub is_met_in : (bytes : List ℕ) (fault : WsFault) → Fails fault (read bytes) → is_met fault ≡ true
is_met_in bytes (part.Short at) fails = refl
is_met_in bytes (part.BadVersion byte) fails = met_from (part.BadVersion byte) (read bytes) (whole_met bytes) fails
is_met_in bytes part.BadFlags fails = met_from part.BadFlags (read bytes) (whole_met bytes) fails
is_met_in bytes (part.TooMany at) fails = refl
is_met_in bytes (part.BadKey at) fails = refl
is_met_in bytes (part.BadKind at) fails = refl
is_met_in bytes (part.NotCanonical at) fails = refl
is_met_in bytes (part.BadChange at) fails = refl
is_met_in bytes (part.Trailing at) fails = refl
is_met_in bytes (part.Uncovered index) fails = met_from (part.Uncovered index) (read bytes) (whole_met bytes) fails
is_met_in bytes part.NoMemory fails = refl
