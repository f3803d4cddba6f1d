-- The values of each state of an order have the ranges of their types.
use Rattle.std.proofs.Common.{◌≡◌, ℕ, zero, suc, ◌+◌, ◌^◌, ◌<◌, ◌≤◌, Bool, true, false, cond, List, [], ◌∷◌, ◌++◌, length, map, Option, Some, None, refl, ap, arith}
use Rattle.std.specs.Prelude.{◌&&◌, is_some, nat_lt, nat_le, slice_get, slice_index, unwrap_or, fold, flat_map, option_map}
use Rattle.std.specs.List.{filter, AllByRecursion}
use Rattle.std.specs.Option.{option_map_or}
use Rattle.finite_map.specs.FiniteMap.{empty, get, insert, remove}
use Rattle.finite_map.proofs.Edits.{IsKeyOrder, numbers}
use Rattle.wsrep_base.specs.declared.ids.TrxId.{TrxId}
use Rattle.wsrep_base.specs.declared.limits.TheConstants.{MOST_EVENTS}
use Rattle.key_sets.specs.declared.kind.Kind.{Kind}
use Rattle.key_sets.specs.declared.parts.Parts.{Parts}
use Rattle.key_sets.specs.Kinds.{raised}
use Rattle.key_sets.specs.Parts.{parts_cmp}
use Rattle.key_sets.specs.Keys.{Keys, with_key, with_keys, union}
use Rattle.key_sets.proofs.PartsLemmas.{parts_total, parts_exact}
use Rattle.row_model.specs.declared.ops.Op.{Op}
use Rattle.row_model.specs.declared.ops.Op.TheVariants.{Insert, Update, Delete}
use Rattle.row_model.specs.declared.row.RowId.{RowId}
use Rattle.row_model.specs.Rows.{Rows, row_cmp, changed, row_after, id_of, with_row, op_on, ops_on}
use Rattle.row_model.specs.RowOrder.{row_total, row_exact}
use Rattle.order_event.specs.declared.event.Event.{Event}
use Rattle.order_event.specs.declared.event.Event.TheVariants.{Write, View, Report}
use Rattle.write_set.specs.declared.write_set.WriteSet.{WriteSet}
use Rattle.write_set.specs.Rules.{parts_in_range, place_in_range, IsCell, OpInRange, KeysInRange, OpsInRange}
use Rattle.write_set.specs.Reading.{decoded}
use Rattle.cert_meaning.specs.declared.items.CommitItem.{CommitItem}
use Rattle.cert_meaning.specs.declared.items.Fragment.{Fragment}
use Rattle.cert_meaning.specs.declared.members.Standing.{Standing}
use Rattle.cert_meaning.specs.declared.parts.MemberItem.{MemberItem}
use Rattle.cert_meaning.specs.State.{FoldState, RiseWithin, no_events, fragments_of, fragment_keys, whole_keys, whole_ops}
use Rattle.cert_meaning.specs.Parts.{member_item, open_item}
use Rattle.cert_meaning.specs.Verdict.{verdict, trx_of}
use Rattle.cert_meaning.specs.Fold.{Effect, Same, Closes, Adds, Commits, effect_of, judged_write, affected, written, is_of, standing_in, members_in, fragment_by, commit_by, reported, changed_by, after, after_next, state_at}
use Rattle.cert_meaning.proofs.VerdictLaws.{IsTaken}
use Rattle.cert_meaning.proofs.TrxLemmas.{transactions}
use Rattle.state_snapshot.specs.Rules.{FragmentsRise, OpenObeys}
use Rattle.state_snapshot.specs.Laws.{TrxInRange, RowInRange, MemberInRange, CommitInRange, FragmentInRange, OpenInRange}
use Rattle.state_snapshot.specs.Orders.{OrderFits, TrimmedIsInRange}
use Rattle.state_snapshot.proofs.Entries.{all_insert, found, all_kept}
use Rattle.state_snapshot.proofs.StateLaws.{row_item}
use Rattle.state_snapshot.proofs.TrxLaws.{joins, taken_passes}
use Rattle.state_snapshot.proofs.SetRange.{SetInRange, set_in_range}
use Rattle.state_snapshot.proofs.TakeLaws.{can_be_taken}

-- ---- rows

rows_order : IsKeyOrder row_cmp
rows_order = record { total = row_total; exact = row_exact }

-- the values of a row
abbrev AreValues : List ℕ → Type 0
AreValues row = (1 ≤ length row) × (length row ≤ 8) × AllByRecursion (λ value. value < 2 ^ 64) row

abbrev RowFits : RowId × List ℕ → Type 0
RowFits entry = place_in_range entry.0 × AreValues entry.1

abbrev RowsFit : Rows → Type 0
RowsFit rows = AllByRecursion RowFits rows.entries

same_length : (row : List ℕ) (change : List (Option ℕ)) → length (changed row change) ≡ length row
same_length [] change = refl
same_length (value ∷ row) [] = refl
same_length (value ∷ row) (cell ∷ change) = ap suc (same_length row change)

cell_or : (cell : Option ℕ) (value : ℕ) → IsCell cell → value < 2 ^ 64 → unwrap_or cell value < 2 ^ 64
cell_or None value is below = below
cell_or (Some new) value is below = is

changed_fit : (row : List ℕ) (change : List (Option ℕ)) → AllByRecursion (λ value. value < 2 ^ 64) row → AllByRecursion IsCell change
    → AllByRecursion (λ value. value < 2 ^ 64) (changed row change)
changed_fit [] change all cells = tt
changed_fit (value ∷ row) [] all cells = all
changed_fit (value ∷ row) (cell ∷ change) all cells = (cell_or cell value cells.0 all.0, changed_fit row change all.1 cells.1)

abbrev MayBeRow : Option (List ℕ) → Type 0
MayBeRow None = Unit {0}
MayBeRow (Some row) = AreValues row

update_fits : (o : Option (List ℕ)) (change : List (Option ℕ)) → AllByRecursion IsCell change → MayBeRow o
    → MayBeRow (option_map (λ row. changed row change) o)
update_fits None change cells fits = tt
update_fits (Some row) change cells fits =
    let same = same_length row change in
    (omega (arith, same, fits.0), omega (arith, same, fits.1), changed_fit row change fits.2 cells)

after_fits : (o : Option (List ℕ)) (op : Op) → OpInRange op → MayBeRow o → MayBeRow (row_after o op)
after_fits o (Insert id row) range fits = (range.1, range.2, range.3)
after_fits o (Update id change) range fits = update_fits o change range.2 fits
after_fits o (Delete id) range fits = tt

place_of : (op : Op) → OpInRange op → place_in_range (id_of op)
place_of (Insert id row) range = range.0
place_of (Update id change) range = range.0
place_of (Delete id) range = range

old_fits : (rows : Rows) (id : RowId) (o : Option (List ℕ)) → get rows id ≡ o → RowsFit rows → MayBeRow o
old_fits rows id None is all = tt
old_fits rows id (Some row) is all = let own = found rows_order RowFits rows id row all is in own.1

put_fits : (rows : Rows) (id : RowId) (o : Option (List ℕ)) → place_in_range id → MayBeRow o → RowsFit rows → RowsFit (with_row rows id o)
unfolding remove
put_fits rows id None range fits all = all_kept rows_order RowFits _ RowFits (λ entry own kept. own) rows all
put_fits rows id (Some row) range fits all = all_insert rows_order RowFits rows id row (range, fits) all

rows_fit : (ops : List Op) (rows : Rows) → OpsInRange ops → RowsFit rows → RowsFit (ops_on ops rows)
unfolding ops_on
rows_fit [] rows range all = all
rows_fit (op ∷ ops) rows range all =
    let id = id_of op in
    let old = old_fits rows id (get rows id) refl all in
    rows_fit ops (op_on rows op) range.1 (put_fits rows id (row_after (get rows id) op) (place_of op range.0) (after_fits (get rows id) op range.0 old) all)

ops_append : (ops more : List Op) → OpsInRange ops → OpsInRange more → OpsInRange (ops ++ more)
ops_append [] more one other = other
ops_append (op ∷ ops) more one other = (one.0, ops_append ops more one.1 other)

-- ---- keys

keys_order : IsKeyOrder parts_cmp
keys_order = record { total = parts_total; exact = parts_exact }

abbrev KeyFits : Parts × Kind → Type 0
KeyFits key = parts_in_range key.0

added : (keys : Keys) (more : List (Parts × Kind)) → KeysInRange keys → AllByRecursion KeyFits more → KeysInRange (with_keys keys more)
unfolding with_keys with_key
added keys [] all each = all
added keys (key ∷ more) all each =
    added (with_key keys key.0 key.1) more (all_insert keys_order KeyFits keys key.0 (raised (get keys key.0) key.1) each.0 all) each.1

-- ---- fragments

abbrev FragmentRange : Fragment → Type 0
FragmentRange fragment = (fragment.last_seen < 2 ^ 64) × KeysInRange fragment.keys × OpsInRange fragment.ops

abbrev OpenRange : TrxId × List Fragment → Type 0
OpenRange entry = TrxInRange entry.0 × AllByRecursion FragmentRange entry.1

joined : (keys : Keys) (fragments : List Fragment) → KeysInRange keys → AllByRecursion FragmentRange fragments
    → KeysInRange (fold (λ (all : Keys) (fragment : Fragment). union all fragment.keys) keys fragments)
joined keys [] all each = all
joined keys (fragment ∷ fragments) all each =
    joined (union keys fragment.keys) fragments (added keys fragment.keys.entries all each.0.1) each.1

ops_of_all : (fragments : List Fragment) → AllByRecursion FragmentRange fragments → OpsInRange (flat_map (λ (fragment : Fragment). fragment.ops) fragments)
ops_of_all [] each = tt
ops_of_all (fragment ∷ fragments) each =
    ops_append fragment.ops (flat_map (λ (other : Fragment). other.ops) fragments) each.0.2 (ops_of_all fragments each.1)

whole_range : (fragments : List Fragment) (keys : Keys) → AllByRecursion FragmentRange fragments → KeysInRange keys
    → KeysInRange (whole_keys fragments keys)
unfolding empty
whole_range fragments keys each range = added (fragment_keys fragments) keys.entries (joined empty fragments tt each) range

more_are : {A : Type 0} (P : A → Type 0) (xs : List A) (x : A) → AllByRecursion P xs → P x → AllByRecursion P (xs ++ x ∷ [])
more_are P [] x all one = (one, tt)
more_are P (y ∷ xs) x all one = (all.0, more_are P xs x all.1 one)

-- ---- one event

abbrev MemberRange : ℕ × Standing → Type 0
MemberRange entry = (entry.0 < 2 ^ 32) × (entry.1.serial < 2 ^ 64)

abbrev CommitRange : CommitItem → Type 0
CommitRange commit = TrxInRange commit.trx × KeysInRange commit.keys

pub record InRange (s : FoldState) : Type 0 where
  pub version : s.version < 2 ^ 32
  pub members : AllByRecursion MemberRange s.members.entries
  pub rows : RowsFit s.rows
  pub commits : AllByRecursion CommitRange s.commits
  pub opened : AllByRecursion OpenRange s.open_trx.entries

module _ (s : FoldState) (range : InRange s) where
  standing_range : (member : ℕ) (standing : Standing) → get s.members member ≡ Some standing → MemberRange (member, standing)
  standing_range member standing is = found numbers MemberRange s.members member standing range.members is

  with_serial_range : (member serial : ℕ) (o : Option Standing) → get s.members member ≡ o → serial < 2 ^ 64
      → AllByRecursion MemberRange
      (option_map_or (λ (standing : Standing). insert s.members member (record standing { serial = serial })) o s.members).entries
  with_serial_range member serial None is below = range.members
  with_serial_range member serial (Some standing) is below =
      let own = standing_range member standing is in
      all_insert numbers MemberRange s.members member (record standing { serial = serial }) (own.0, below) range.members

  left : (trx : TrxId) → AllByRecursion OpenRange (remove s.open_trx trx).entries
  unfolding remove
  left trx = all_kept transactions OpenRange _ OpenRange (λ entry own kept. own) s.open_trx range.opened

  front_range : (trx : TrxId) (o : Option (List Fragment)) → get s.open_trx trx ≡ o → AllByRecursion FragmentRange (unwrap_or o [])
  front_range trx None is = tt
  front_range trx (Some fragments) is = let own = found transactions OpenRange s.open_trx trx fragments range.opened is in own.1

  by_effect : (w : WriteSet) (effect : Effect) → SetInRange w → (IsTaken effect → w.member < 2 ^ 32) → InRange (affected s w effect)
  by_effect w Same fits below = range
  by_effect w Closes fits below = record {
    version = range.version;
    members = with_serial_range w.member w.serial (get s.members w.member) refl fits.serial;
    rows = range.rows;
    commits = range.commits;
    opened = left (trx_of w);
  }
  by_effect w Adds fits below =
      let trx = trx_of w in
      let front = front_range trx (get s.open_trx trx) refl in
      let one : FragmentRange (fragment_by s w) = (fits.last_seen, fits.keys, fits.ops) in
      let all = more_are FragmentRange (fragments_of s trx) (fragment_by s w) front one in
      record {
        version = range.version;
        members = with_serial_range w.member w.serial (get s.members w.member) refl fits.serial;
        rows = range.rows;
        commits = range.commits;
        opened = all_insert transactions OpenRange s.open_trx trx (fragments_of s trx ++ fragment_by s w ∷ []) ((below tt, fits.begin), all) range.opened;
      }
  by_effect w Commits fits below =
      let trx = trx_of w in
      let front = front_range trx (get s.open_trx trx) refl in
      record {
        version = range.version;
        members = with_serial_range w.member w.serial (get s.members w.member) refl fits.serial;
        rows = rows_fit (whole_ops (fragments_of s trx) w.ops) s.rows
            (ops_append (flat_map (λ (fragment : Fragment). fragment.ops) (fragments_of s trx)) w.ops (ops_of_all (fragments_of s trx) front) fits.ops)
            range.rows;
        commits = more_are CommitRange s.commits (commit_by s w) range.commits ((below tt, fits.begin), whole_range (fragments_of s trx) w.keys front fits.keys);
        opened = left trx;
      }

  is_below : (q : ℕ) (o : Option Standing) → get s.members q ≡ o → is_some o ≡ true → q < 2 ^ 32
  is_below q None is there = absurd cc
  is_below q (Some standing) is there = let own = standing_range q standing is in own.0

  by_write : (member : ℕ) (body : List ℕ) (o : Option WriteSet) → ((i : ℕ) → slice_index body i < 256) → decoded body ≡ o
      → InRange (written s member o)
  by_write member body None fits is = range
  by_write member body (Some w) fits is =
      by_effect w (effect_of (judged_write s member (Some w))) (set_in_range body w fits is) (λ taken.
      let passes = taken_passes w (verdict s member w) taken in
      let joined = joins s member w passes.0 passes.1 in is_below w.member (get s.members w.member) refl joined.own)

  standing_in_range : (number member : ℕ) (o : Option Standing) → get s.members member ≡ o → member < 2 ^ 32
      → MemberRange (member, unwrap_or o (record { report = number; serial = 0 }))
  standing_in_range number member None is below = (below, omega arith)
  standing_in_range number member (Some standing) is below = standing_range member standing is

  members_range : (number : ℕ) (listed : List ℕ) → AllByRecursion (λ member. member < 2 ^ 32) listed
      → AllByRecursion MemberRange (members_in s.members number listed).entries
  unfolding empty
  members_range number [] below = tt
  members_range number (member ∷ listed) below =
      all_insert numbers MemberRange (members_in s.members number listed) member (standing_in s.members number member)
      (standing_in_range number member (get s.members member) refl below.0) (members_range number listed below.1)

  by_view : (version : ℕ) (members : List ℕ) → version < 2 ^ 32 → AllByRecursion (λ member. member < 2 ^ 32) members
      → InRange (changed_by s (View version members))
  by_view version members fits below = record {
    version = fits;
    members = members_range (s.number + 1) members below;
    rows = range.rows;
    commits = range.commits;
    opened = all_kept transactions OpenRange (is_of members) OpenRange (λ entry own kept. own) s.open_trx range.opened;
  }

  chosen : (b : Bool) (t : FoldState) → InRange t → InRange (cond b t s)
  chosen true t one = one
  chosen false t one = range

  by_report : (member number : ℕ) (o : Option Standing) → get s.members member ≡ o → InRange (reported s member number o)
  by_report member number None is = range
  by_report member number (Some standing) is =
      let own = standing_range member standing is in
      chosen (nat_le standing.report number && nat_lt number (s.number + 1)) _ (record {
        version = range.version;
        members = all_insert numbers MemberRange s.members member (record standing { report = number }) (own.0, own.1) range.members;
        rows = range.rows;
        commits = range.commits;
        opened = range.opened;
      })

-- what is asked of an event
pub record EventFits (o : Option Event) : Type 0 where
  pub versions : (version : ℕ) (members : List ℕ) → o ≡ Some (View version members) → version < 2 ^ 32
  pub members : (version : ℕ) (members : List ℕ) → o ≡ Some (View version members) → AllByRecursion (λ member. member < 2 ^ 32) members
  pub bodies : (member : ℕ) (body : List ℕ) → o ≡ Some (Write member body) → (i : ℕ) → slice_index body i < 256

by_event : (s : FoldState) (range : InRange s) (event : Event) → EventFits (Some event) → InRange (changed_by s event)
by_event s range (Write member body) fits = by_write s range member body (decoded body) (fits.bodies member body refl) refl
by_event s range (View version members) fits = by_view s range version members (fits.versions version members refl) (fits.members version members refl)
by_event s range (Report member number) fits = by_report s range member number (get s.members member) refl

range_after : (s : FoldState) (event : Event) → InRange s → EventFits (Some event) → InRange (after s event)
unfolding after
range_after s event range fits =
    let is = by_event s range event fits in
    record { version = is.version; members = is.members; rows = is.rows; commits = is.commits; opened = is.opened }

range_next : (s : FoldState) (o : Option Event) → InRange s → EventFits o → InRange (after_next s o)
range_next s None range fits = range
range_next s (Some event) range fits = range_after s event range fits

range_at : (order : List Event) (n : ℕ) → OrderFits order → InRange (state_at order n)
unfolding state_at no_events empty
range_at order zero fits = record { version = omega arith; members = tt; rows = tt; commits = tt; opened = tt }
range_at order (suc n) fits =
    range_next (state_at order n) (slice_get order n) (range_at order n fits)
    (record { versions = fits.versions n; members = fits.members n; bodies = fits.bodies n })

-- ---- the parts of the trimmed state

members_in_range : (high : ℕ) (entries : List (ℕ × Standing)) → high ≤ MOST_EVENTS
    → AllByRecursion (λ (item : MemberItem). item.report ≤ high) (map member_item entries) → AllByRecursion MemberRange entries
    → AllByRecursion MemberInRange (map member_item entries)
members_in_range high [] few reported all = tt
members_in_range high (entry ∷ entries) few reported all =
    ((all.0.0, omega (arith, reported.0, few), all.0.1), members_in_range high entries few reported.1 all.1)

rows_in_range : (entries : List (RowId × List ℕ)) → AllByRecursion RowFits entries → AllByRecursion RowInRange (map row_item entries)
rows_in_range [] all = tt
rows_in_range (entry ∷ entries) all = ((all.0.0, all.0.1.0, all.0.1.1, all.0.1.2), rows_in_range entries all.1)

kept_by : (b : Bool) (commit : CommitItem) (rest : List CommitItem) → CommitRange commit → AllByRecursion CommitRange rest
    → AllByRecursion CommitRange (cond b (commit ∷ rest) rest)
kept_by true commit rest one all = (one, all)
kept_by false commit rest one all = all

commits_kept : (floor : ℕ) (commits : List CommitItem) → AllByRecursion CommitRange commits
    → AllByRecursion CommitRange (filter (λ (commit : CommitItem). nat_lt floor commit.number) commits)
commits_kept floor [] all = tt
commits_kept floor (commit ∷ commits) all = kept_by (nat_lt floor commit.number) commit _ all.0 (commits_kept floor commits all.1)

commits_in_range : (above most : ℕ) (commits : List CommitItem) → most ≤ MOST_EVENTS → RiseWithin above most commits
    → AllByRecursion CommitRange commits → AllByRecursion CommitInRange commits
commits_in_range above most [] few rise all = tt
commits_in_range above most (commit ∷ commits) few rise all =
    ((omega (arith, rise.1, few), all.0.0, all.0.1), commits_in_range commit.number most commits few rise.2 all.1)

fragments_in_range : (most from seen : ℕ) (fragments : List Fragment) → most ≤ MOST_EVENTS → FragmentsRise most from seen fragments
    → AllByRecursion FragmentRange fragments → AllByRecursion FragmentInRange fragments
fragments_in_range most from seen [] few rise all = tt
fragments_in_range most from seen (fragment ∷ fragments) few rise all = (
  (omega (arith, rise.1, few), all.0.0, all.0.1, all.0.2),
  fragments_in_range most (fragment.number + 1) fragment.last_seen fragments few rise.4 all.1,
)

open_in_range : (number : ℕ) (members : List MemberItem) (entries : List (TrxId × List Fragment)) → number ≤ MOST_EVENTS
    → AllByRecursion (OpenObeys number members) (map open_item entries) → AllByRecursion OpenRange entries
    → AllByRecursion OpenInRange (map open_item entries)
open_in_range number members [] few obeys all = tt
open_in_range number members (entry ∷ entries) few obeys all =
    let own = obeys.0 in
    ((all.0.0, fragments_in_range number 0 0 entry.1 few own.rise all.0.1), open_in_range number members entries few obeys.1 all.1)

pub in_range : TrimmedIsInRange
in_range order n there few fits =
    let s = state_at order n in
    let rules = can_be_taken order n there few fits in
    let range = range_at order n fits in
    let members = rules.members in
    let commits = rules.commits in
    let kept = filter (λ (commit : CommitItem). nat_lt s.floor commit.number) s.commits in
    record {
      version = range.version;
      members = members_in_range s.number s.members.entries rules.number members.reported range.members;
      rows = rows_in_range s.rows.entries range.rows;
      commits = commits_in_range s.floor s.number kept rules.number commits.rise (commits_kept s.floor s.commits range.commits);
      open_trx = open_in_range s.number (map member_item s.members.entries) s.open_trx.entries rules.number rules.open_trx range.opened;
    }
