-- The states of an order meet rules of a snapshot.
use Rattle.std.proofs.Common.{◌≡◌, ℕ, zero, suc, ◌+◌, ◌^◌, ◌<◌, ◌≤◌, Bool, true, false, cond, is_some, List, [], ◌∷◌, length, map, Option, Some, None, refl, sym, ap, subst, ◌∙◌, arith}
use Rattle.std.specs.Prelude.{◌&&◌, nat_lt, nat_le, slice_get, unwrap_or}
use Rattle.std.specs.List.{filter, AllByRecursion}
use Rattle.std.specs.Option.{option_map_or}
use Rattle.std.specs.Ordering.{is_lt, nat_cmp}
use Rattle.std.specs.declared.cmp.Ordering.TheVariants.{Less}
use Rattle.std.specs.Cmp.{nat_cmp_total, ranked}
use Rattle.std.proofs.lemmas.Bool.{ltb-true}
use Rattle.finite_map.specs.FiniteMap.{FiniteMap, empty, get, insert, len, len-empty, len-insert}
use Rattle.finite_map.proofs.Edits.{numbers, len-over}
use Rattle.wsrep_base.specs.declared.ids.TrxId.{TrxId}
use Rattle.wsrep_base.specs.declared.limits.TheConstants.{MOST_EVENTS}
use Rattle.wsrep_base.specs.Trx.{least}
use Rattle.row_model.specs.declared.row.RowId.{RowId}
use Rattle.row_model.specs.RowOrder.{row_total}
use Rattle.order_event.specs.declared.event.Event.{Event}
use Rattle.order_event.specs.declared.event.Event.TheVariants.{Write, View, Report}
use Rattle.write_set.specs.declared.write_set.WriteSet.{WriteSet}
use Rattle.write_set.specs.Reading.{decoded}
use Rattle.cert_meaning.specs.declared.items.CommitItem.{CommitItem}
use Rattle.cert_meaning.specs.declared.items.Fragment.{Fragment}
use Rattle.cert_meaning.specs.declared.members.Standing.{Standing}
use Rattle.cert_meaning.specs.declared.parts.MemberItem.{MemberItem}
use Rattle.cert_meaning.specs.State.{FoldState, RiseWithin, no_events}
use Rattle.cert_meaning.specs.Parts.{member_item, open_item}
use Rattle.cert_meaning.specs.Fold.{Effect, Same, Closes, Adds, Commits, effect_of, judged_write, affected, written, standing_in, members_in, reported, changed_by, floor_over, after, after_next, state_at}
use Rattle.cert_meaning.proofs.FoldLaws.{number-at}
use Rattle.cert_meaning.proofs.CommitLaws.{commits-rise}
use Rattle.cert_meaning.proofs.FloorLaws.{settled_at}
use Rattle.cert_meaning.proofs.TrxLemmas.{trx_total}
use Rattle.state_snapshot.specs.Rules.{AreCounted, MembersRise, RowsRise, OpenRise}
use Rattle.state_snapshot.proofs.Points.{HoldsAtEach, NumbersFit, MembersFit, CommitsFit, StandInOrder}
use Rattle.state_snapshot.proofs.Sorted.{less_is, KeysRise, rises_all, entries_sorted}
use Rattle.state_snapshot.proofs.StateLaws.{row_item, all_above}

-- ---- the head

pub numbers_fit : HoldsAtEach NumbersFit
numbers_fit order n there few fits =
    let settled = settled_at order n in
    (subst (λ k. k ≤ MOST_EVENTS) (sym (number-at order n there)) few, settled.floor)

-- ---- members

above_is : (x y : ℕ) → is_lt (nat_cmp x y) ≡ true → x < y
above_is x y h = ranked x y Less (sym (less_is (nat_cmp x y) h))

members_above : (last : ℕ) (entries : List (ℕ × Standing)) → KeysRise nat_cmp_total (Some last) entries
    → MembersRise (last + 1) (map member_item entries)
members_above last [] rises = tt
members_above last (entry ∷ entries) rises =
    let above = above_is last entry.0 rises.0 in (omega (arith, above), members_above entry.0 entries rises.1)

members_rise : (entries : List (ℕ × Standing)) → KeysRise nat_cmp_total None entries → MembersRise 0 (map member_item entries)
members_rise [] rises = tt
members_rise (entry ∷ entries) rises = (omega arith, members_above entry.0 entries rises)

all_reported : (low high : ℕ) (entries : List (ℕ × Standing))
    → AllByRecursion (λ (entry : ℕ × Standing). (low ≤ entry.1.report) × (entry.1.report ≤ high)) entries
    → AllByRecursion (λ (item : MemberItem). item.report ≤ high) (map member_item entries)
all_reported low high [] all = tt
all_reported low high (entry ∷ entries) all = (all.0.1, all_reported low high entries all.1)

reports_same : (entries : List (ℕ × Standing))
    → map (λ (item : MemberItem). item.report) (map member_item entries) ≡ map (λ (standing : Standing). standing.report) (map (λ entry. entry.1) entries)
reports_same [] = refl
reports_same (entry ∷ entries) = ap (λ others. entry.1.report ∷ others) (reports_same entries)

least_stays : (o : Option ℕ) (floor : ℕ) → unwrap_or o (unwrap_or o floor) ≡ unwrap_or o floor
least_stays None floor = refl
least_stays (Some n) floor = refl

abbrev FloorIsLeast : FoldState → Type 0
FloorIsLeast s = floor_over s.members s.floor ≡ s.floor

least_after : (s : FoldState) (event : Event) → FloorIsLeast (after s event)
unfolding after
least_after s event =
    least_stays (least (map (λ (standing : Standing). standing.report) (map (λ entry. entry.1) (changed_by s event).members.entries)))
    (changed_by s event).floor

least_next : (s : FoldState) (o : Option Event) → FloorIsLeast s → FloorIsLeast (after_next s o)
least_next s None is = is
least_next s (Some event) is = least_after s event

least_at : (order : List Event) (n : ℕ) → FloorIsLeast (state_at order n)
unfolding state_at no_events empty
least_at order zero = refl
least_at order (suc n) = least_next (state_at order n) (slice_get order n) (least_at order n)

-- how many members there are

abbrev Members : Type 0
Members = FiniteMap nat_cmp Standing

abbrev AreFew : Members → Type 0
AreFew members = len members < 2 ^ 32

there_is : (o : Option Standing) (standing : Standing) → o ≡ Some standing → is_some o ≡ true
there_is o standing is = ap is_some is

few_over : (members : Members) (member : ℕ) (old new : Standing) → get members member ≡ Some old → AreFew members
    → AreFew (insert members member new)
few_over members member old new is few =
    subst (λ n. n < 2 ^ 32) (sym (len-over numbers members member new (there_is (get members member) old is))) few

few_counted : (members : Members) (member serial : ℕ) (o : Option Standing) → get members member ≡ o → AreFew members
    → AreFew (option_map_or (λ (standing : Standing). insert members member (record standing { serial = serial })) o members)
few_counted members member serial None is few = few
few_counted members member serial (Some standing) is few =
    few_over members member standing (record standing { serial = serial }) is few

few_affected : (s : FoldState) (w : WriteSet) (effect : Effect) → AreFew s.members → AreFew (affected s w effect).members
few_affected s w Same few = few
few_affected s w Closes few = few_counted s.members w.member w.serial (get s.members w.member) refl few
few_affected s w Adds few = few_counted s.members w.member w.serial (get s.members w.member) refl few
few_affected s w Commits few = few_counted s.members w.member w.serial (get s.members w.member) refl few

few_written : (s : FoldState) (member : ℕ) (w : Option WriteSet) → AreFew s.members → AreFew (written s member w).members
few_written s member None few = few
few_written s member (Some w) few = few_affected s w (effect_of (judged_write s member (Some w))) few

few_chosen : (b : Bool) (s t : FoldState) → AreFew s.members → AreFew t.members → AreFew (cond b s t).members
few_chosen true s t one other = one
few_chosen false s t one other = other

few_reported : (s : FoldState) (member number : ℕ) (o : Option Standing) → get s.members member ≡ o → AreFew s.members
    → AreFew (reported s member number o).members
few_reported s member number None is few = few
few_reported s member number (Some standing) is few =
    let new : Standing = record standing { report = number } in
    few_chosen (nat_le standing.report number && nat_lt number (s.number + 1)) (record s { members = insert s.members member new }) s
    (few_over s.members member standing new is few) few

no_more : (known : Bool) (n count : ℕ) → n ≤ count → cond known n (n + 1) ≤ suc count
no_more true n count few = omega (arith, few)
no_more false n count few = omega (arith, few)

few_listed : (members : Members) (number : ℕ) (listed : List ℕ) → len (members_in members number listed) ≤ length listed
few_listed members number [] = omega (arith, len-empty nat_cmp Standing)
few_listed members number (member ∷ listed) =
    let others = members_in members number listed in
    subst (λ n. n ≤ suc (length listed)) (sym (len-insert nat_cmp_total others member (standing_in members number member)))
    (no_more (is_some (get others member)) (len others) (length listed) (few_listed members number listed))

few_changed : (s : FoldState) (event : Event) → ((version : ℕ) (members : List ℕ) → event ≡ View version members → AreCounted members)
    → AreFew s.members → AreFew (changed_by s event).members
few_changed s (Write member body) counted few = few_written s member (decoded body) few
few_changed s (View version members) counted few =
    let listed = few_listed s.members (s.number + 1) members in omega (arith, listed, counted version members refl)
few_changed s (Report member number) counted few = few_reported s member number (get s.members member) refl few

few_after : (s : FoldState) (event : Event) → ((version : ℕ) (members : List ℕ) → event ≡ View version members → AreCounted members)
    → AreFew s.members → AreFew (after s event).members
unfolding after
few_after s event counted few = few_changed s event counted few

few_next : (s : FoldState) (o : Option Event) → ((version : ℕ) (members : List ℕ) → o ≡ Some (View version members) → AreCounted members)
    → AreFew s.members → AreFew (after_next s o).members
few_next s None counted few = few
few_next s (Some event) counted few = few_after s event (λ version members is. counted version members (ap Some is)) few

few_at : (order : List Event) (n : ℕ)
    → ((k version : ℕ) (members : List ℕ) → slice_get order k ≡ Some (View version members) → AreCounted members)
    → AreFew (state_at order n).members
unfolding state_at no_events
few_at order zero counted = omega (arith, len-empty nat_cmp Standing)
few_at order (suc n) counted = few_next (state_at order n) (slice_get order n) (counted n) (few_at order n counted)

items_counted : (entries : List (ℕ × Standing)) → length (map member_item entries) ≡ length entries
items_counted [] = refl
items_counted (entry ∷ entries) = ap suc (items_counted entries)

pub members_fit : HoldsAtEach MembersFit
unfolding len
members_fit order n there few fits =
    let s = state_at order n in
    let settled = settled_at order n in
    let entries = s.members.entries in
    record {
      counted = subst (λ k. k < 2 ^ 32) (sym (items_counted entries)) (few_at order n fits.views);
      rise = members_rise entries (rises_all nat_cmp_total entries (entries_sorted nat_cmp_total s.members));
      reported = all_reported s.floor s.number entries settled.reports;
      least = ap (λ reports. unwrap_or (least reports) s.floor) (reports_same entries) ∙ least_at order n;
    }

-- ---- commits

above_by : (floor number : ℕ) → nat_lt floor number ≡ true → floor < number
above_by floor number is = ltb-true floor number is

kept_by : (b : Bool) (floor most : ℕ) (commit : CommitItem) (kept commits : List CommitItem) → nat_lt floor commit.number ≡ b
    → (nat_lt floor commit.number ≡ true → kept ≡ commits) → commit.number ≤ most → RiseWithin commit.number most commits
    → RiseWithin floor most kept → RiseWithin floor most (cond b (commit ∷ kept) kept)
kept_by true floor most commit kept commits is all within rise rest =
    (above_by floor commit.number is, within, subst (RiseWithin commit.number most) (sym (all is)) rise)
kept_by false floor most commit kept commits is all within rise rest = rest

filtered_rise : (floor above most : ℕ) (commits : List CommitItem) → RiseWithin above most commits
    → RiseWithin floor most (filter (λ (commit : CommitItem). nat_lt floor commit.number) commits)
filtered_rise floor above most [] rise = tt
filtered_rise floor above most (commit ∷ commits) rise =
    let kept = filter (λ (other : CommitItem). nat_lt floor other.number) commits in
    kept_by (nat_lt floor commit.number) floor most commit kept commits refl
    (λ is. let below = above_by floor commit.number is in all_above floor commit.number most commits (omega (arith, below)) rise.2)
    rise.1 rise.2 (filtered_rise floor commit.number most commits rise.2)

how_many : (above most : ℕ) (commits : List CommitItem) → above ≤ most → RiseWithin above most commits → above + length commits ≤ most
how_many above most [] low rise = omega (arith, low)
how_many above most (commit ∷ commits) low rise =
    let rest = how_many commit.number most commits rise.1 rise.2 in omega (arith, rest, rise.0)

pub commits_fit : HoldsAtEach CommitsFit
commits_fit order n there few fits =
    let s = state_at order n in
    let settled = settled_at order n in
    let number : n ≡ s.number = sym (number-at order n there) in
    let rise = filtered_rise s.floor 0 s.number s.commits (subst (λ k. RiseWithin 0 k s.commits) number (commits-rise order n there)) in
    let kept = filter (λ (commit : CommitItem). nat_lt s.floor commit.number) s.commits in
    let count = how_many s.floor s.number kept settled.floor rise in
    (omega (arith, count, number, few), rise)

-- ---- rows and open transactions

rows_above : (last : RowId) (entries : List (RowId × List ℕ)) → KeysRise row_total (Some last) entries → RowsRise (Some last) (map row_item entries)
rows_above last [] rises = tt
rows_above last (entry ∷ entries) rises = (rises.0, rows_above entry.0 entries rises.1)

rows_rise : (entries : List (RowId × List ℕ)) → KeysRise row_total None entries → RowsRise None (map row_item entries)
rows_rise [] rises = tt
rows_rise (entry ∷ entries) rises = (refl, rows_above entry.0 entries rises)

open_above : (last : TrxId) (entries : List (TrxId × List Fragment)) → KeysRise trx_total (Some last) entries
    → OpenRise (Some last) (map open_item entries)
open_above last [] rises = tt
open_above last (entry ∷ entries) rises = (rises.0, open_above entry.0 entries rises.1)

open_rise : (entries : List (TrxId × List Fragment)) → KeysRise trx_total None entries → OpenRise None (map open_item entries)
open_rise [] rises = tt
open_rise (entry ∷ entries) rises = (refl, open_above entry.0 entries rises)

pub stand_in_order : HoldsAtEach StandInOrder
stand_in_order order n there few fits =
    let s = state_at order n in (
      rows_rise s.rows.entries (rises_all row_total s.rows.entries (entries_sorted row_total s.rows)),
      open_rise s.open_trx.entries (rises_all trx_total s.open_trx.entries (entries_sorted trx_total s.open_trx)),
    )
