-- The open transactions of each state of an order meet the rules of a snapshot.
use Rattle.std.proofs.Common.{◌≡◌, ℕ, zero, suc, ◌+◌, ◌<◌, ◌≤◌, Bool, true, false, cond, is_some, List, [], ◌∷◌, ◌++◌, length, map, Option, Some, None, Result, Ok, Err, refl, sym, ap, subst, ◌∙◌, arith}
use Rattle.std.specs.Prelude.{◌==◌, ◌||◌, ◌&&◌, not, nat_eq, nat_lt, nat_le, slice_get, slice_index, unwrap_or, fold, is_none}
use Rattle.std.specs.List.{list_any, list_all, AllByRecursion}
use Rattle.std.specs.Option.{option_map_or}
use Rattle.std.specs.Result.{result_ok}
use Rattle.std.specs.Ordering.{eq_by_cmp, nat_cmp}
use Rattle.std.specs.Cmp.{nat_cmp_total, both_ways, unsigned_tied}
use Rattle.std.specs.FinMap.Entries.{is_some-find}
use Rattle.std.proofs.lemmas.Bool.{ltb-false, eqb-true, eq-eqb}
use Rattle.finite_map.specs.FiniteMap.{FiniteMap, empty, get, insert, remove, len, get-empty, get-insert, get-entries}
use Rattle.key_sets.specs.Keys.{Keys, LIMIT}
use Rattle.wsrep_base.specs.declared.ids.TrxId.{TrxId}
use Rattle.wsrep_base.specs.declared.verdict.Verdict.{Verdict}
use Rattle.wsrep_base.specs.declared.verdict.Verdict.TheVariants.{Pass, Malformed, Stranger, Repeat, Future, Stale, Broken, Conflict, Held}
use Rattle.wsrep_base.specs.declared.verdict.Judged.{Judged}
use Rattle.wsrep_base.specs.declared.verdict.Judged.TheVariants as became
use Rattle.wsrep_base.specs.declared.limits.TheConstants.{MOST_EVENTS}
use Rattle.wsrep_base.specs.Trx.{trx_cmp}
use Rattle.order_event.specs.declared.event.Event.{Event}
use Rattle.order_event.specs.declared.event.Event.TheVariants.{Write, View, Report}
use Rattle.write_set.specs.declared.fault.WsFault.{WsFault}
use Rattle.write_set.specs.declared.write_set.WriteSet.{WriteSet}
use Rattle.write_set.specs.declared.rules.TheConstants.{MOST_OPS}
use Rattle.write_set.specs.Laws.{AreKeys, AreOps}
use Rattle.write_set.specs.Rules.{op_fits, uncovered_from, obeys}
use Rattle.write_set.specs.Reading.{decoded, read}
use Rattle.write_set.proofs.RulesOf.{and, rules_of}
use Rattle.write_set.proofs.WholeLaws.{read_takes}
use Rattle.cert_meaning.specs.declared.items.Fragment.{Fragment}
use Rattle.cert_meaning.specs.declared.members.Standing.{Standing}
use Rattle.cert_meaning.specs.declared.parts.MemberItem.{MemberItem}
use Rattle.cert_meaning.specs.State.{FoldState, no_events, is_member, serial_of, fragments_of, last_seen_of, fragment_keys, whole_keys}
use Rattle.cert_meaning.specs.Parts.{member_item, open_item}
use Rattle.cert_meaning.specs.Verdict.{verdict, trx_of, is_rollback, is_out_of_place, is_broken}
use Rattle.cert_meaning.specs.Fold.{Effect, Same, Closes, Adds, Commits, effect_of, judged_as, judged_write, affected, written, standing_in, members_in, is_of, fragment_by, reported, changed_by, after, after_next, state_at}
use Rattle.cert_meaning.proofs.FoldLaws.{number-after}
use Rattle.cert_meaning.proofs.TrxLemmas.{transactions}
use Rattle.cert_meaning.proofs.VerdictLaws.{IsTaken, taken-passed}
use Rattle.cert_meaning.proofs.WholeLemmas.{fragment_keys-more}
use Rattle.state_snapshot.specs.Reading.{is_listed}
use Rattle.state_snapshot.specs.Rules.{FragmentsRise, FragmentObeys, OpenObeys}
use Rattle.state_snapshot.proofs.Points.{HoldsAtEach, OpenFit}
use Rattle.state_snapshot.proofs.Entries.{all_map, all_insert, found, all_kept}
use Rattle.state_snapshot.proofs.OrderLaws.{numbers_fit}

-- ---- fragments in order

rise_wider : (most more from seen : ℕ) (fragments : List Fragment) → most ≤ more → FragmentsRise most from seen fragments
    → FragmentsRise more from seen fragments
rise_wider most more from seen [] low rise = tt
rise_wider most more from seen (fragment ∷ fragments) low rise =
    (rise.0, omega (arith, rise.1, low), rise.2, rise.3, rise_wider most more (fragment.number + 1) fragment.last_seen fragments low rise.4)

rise_more : (most from seen : ℕ) (fragments : List Fragment) (last : Fragment) → from ≤ most + 1 → last.number ≡ most + 1
    → fold (λ (before : ℕ) (fragment : Fragment). fragment.last_seen) seen fragments ≤ last.last_seen → last.last_seen < last.number
    → FragmentsRise most from seen fragments → FragmentsRise (most + 1) from seen (fragments ++ last ∷ [])
rise_more most from seen [] last low is later before rise = (omega (arith, is, low), omega (arith, is), later, before, tt)
rise_more most from seen (fragment ∷ fragments) last low is later before rise = (
  rise.0,
  omega (arith, rise.1),
  rise.2,
  rise.3,
  rise_more most (fragment.number + 1) fragment.last_seen fragments last (omega (arith, rise.1)) is later before rise.4,
)

how_many : (most from seen : ℕ) (fragments : List Fragment) → from ≤ most + 1 → FragmentsRise most from seen fragments
    → from + length fragments ≤ most + 1
how_many most from seen [] low rise = omega (arith, low)
how_many most from seen (fragment ∷ fragments) low rise =
    let rest = how_many most (fragment.number + 1) fragment.last_seen fragments (omega (arith, rise.1)) rise.4 in
    omega (arith, rest, rise.0)

more_are : {A : Type 0} (P : A → Type 0) (xs : List A) (x : A) → AllByRecursion P xs → P x → AllByRecursion P (xs ++ x ∷ [])
more_are P [] x all one = (one, tt)
more_are P (y ∷ xs) x all one = (all.0, more_are P xs x all.1 one)

some_more : {A : Type 0} (xs : List A) (x : A) → 0 < length (xs ++ x ∷ [])
some_more [] x = omega arith
some_more (y ∷ xs) x = omega arith

-- ---- write sets that are read

decoded_read : (r : Result WriteSet WsFault) (w : WriteSet) → result_ok r ≡ Some w → r ≡ Ok w
decoded_read (Ok v) w is = ap (λ o. Ok (unwrap_or o v)) is
decoded_read (Err fault) w is = absurd cc

none_is : (o : Option ℕ) → is_none o ≡ true → o ≡ None
none_is None h = refl
none_is (Some n) h = absurd cc

-- the keys and changes of a write set meet the rules of a fragment
abbrev pub SetObeys : WriteSet → Type 0
SetObeys w = AreKeys w.keys × AreOps w.ops × (uncovered_from 0 w.keys w.ops ≡ None)

pub set_obeys : (body : List ℕ) (w : WriteSet) → ((i : ℕ) → slice_index body i < 256) → decoded body ≡ Some w → SetObeys w
set_obeys body w fits is =
    let spelled = read_takes body w fits (decoded_read (read body) w is) in
    let rules = rules_of w spelled.0 in (
      (rules.few_keys, rules.keys),
      and (nat_le (length w.ops) MOST_OPS) (list_all op_fits w.ops) rules.few_ops rules.ops,
      none_is (uncovered_from 0 w.keys w.ops) rules.covered,
    )

-- ---- what a write set that adds a fragment has

later : (b : Bool) (first rest : Verdict) → (first ≡ Pass → ⊥) → cond b first rest ≡ Pass → (b ≡ false) × (rest ≡ Pass)
later true first rest fails is = absurd (fails is)
later false first rest fails is = (refl, is)

middle : (a b c : Bool) → a || b || c ≡ false → b ≡ false
middle true b c is = absurd cc
middle false true c is = absurd cc
middle false false c is = refl

no_stranger : (m o : Bool) → not m || not o ≡ false → (m ≡ true) × (o ≡ true)
no_stranger true true is = (refl, refl)
no_stranger true false is = absurd cc
no_stranger false o is = absurd cc

unrolled : (b : Bool) (rest : Verdict) → b ≡ false → cond b Pass rest ≡ Pass → rest ≡ Pass
unrolled b rest stays is = sym (ap (λ test. cond test Pass rest) stays) ∙ is

pub record Joins (s : FoldState) (member : ℕ) (w : WriteSet) : Type 0 where
  pub own : is_member s w.member ≡ true
  pub later : last_seen_of (fragments_of s (trx_of w)) ≤ w.last_seen

pub joins : (s : FoldState) (member : ℕ) (w : WriteSet) → verdict s member w ≡ Pass → is_rollback w ≡ false → Joins s member w
unfolding verdict is_broken
joins s member w passes stays =
    let one = later (not (is_member s member) || not (w.member == member)) Stranger _ (λ is. cc) passes in
    let two = later (nat_le w.serial (serial_of s member)) Repeat _ (λ is. cc) one.1 in
    let three = later (nat_lt s.number w.last_seen) Future _ (λ is. cc) two.1 in
    let four = later (nat_lt w.last_seen s.floor) Stale _ (λ is. cc) three.1 in
    let five = unrolled (is_rollback w) _ stays four.1 in
    let six = later (is_broken s w) Broken _ (λ is. cc) five in
    let who = no_stranger (is_member s member) (w.member == member) one.0 in
    record {
      own = subst (λ m. is_member s m ≡ true) (sym (eqb-true w.member member who.1)) who.0;
      later = ltb-false w.last_seen (last_seen_of (fragments_of s (trx_of w)))
          (middle (is_out_of_place s w) (nat_lt w.last_seen (last_seen_of (fragments_of s (trx_of w)))) _ six.0);
    }

-- ---- members stay

abbrev pub Members : Type 0
Members = FiniteMap nat_cmp Standing

-- each member of the one is a member of the other
abbrev Stay : Members → Members → Type 0
Stay members more = (q : ℕ) → is_some (get members q) ≡ true → is_some (get more q) ≡ true

some_by : (b : Bool) (v : Standing) (o : Option Standing) → is_some o ≡ true → is_some (cond b (Some v) o) ≡ true
some_by true v o there = refl
some_by false v o there = there

stay_put : (members : Members) (member : ℕ) (standing : Standing) → Stay members (insert members member standing)
stay_put members member standing q there =
    ap is_some (get-insert nat_cmp_total members member standing q) ∙ some_by (eq_by_cmp nat_cmp q member) standing (get members q) there

stay_counted : (members : Members) (member serial : ℕ) (o : Option Standing)
    → Stay members (option_map_or (λ (standing : Standing). insert members member (record standing { serial = serial })) o members)
stay_counted members member serial None = λ q there. there
stay_counted members member serial (Some standing) = stay_put members member (record standing { serial = serial })

stay_chosen : (b : Bool) (members : Members) (s t : FoldState) → Stay members s.members → Stay members t.members
    → Stay members (cond b s t).members
stay_chosen true members s t one other = one
stay_chosen false members s t one other = other

eqb-symm : (a b : ℕ) → (a == b) ≡ (b == a)
eqb-symm a b = both_ways (a == b) (b == a) (λ is. eq-eqb b a (sym (eqb-true a b is))) (λ is. eq-eqb a b (sym (eqb-true b a is)))

-- a member that a view lists is its member
listed_by : (b : Bool) (standing : Standing) (o : Option Standing) (more : Bool) → is_some o ≡ more → is_some (cond b (Some standing) o) ≡ b || more
listed_by true standing o more is = refl
listed_by false standing o more is = is

members_listed : (members : Members) (number : ℕ) (listed : List ℕ) (q : ℕ)
    → is_some (get (members_in members number listed) q) ≡ list_any (λ member. member == q) listed
members_listed members number [] q = ap is_some (get-empty nat_cmp q)
members_listed members number (member ∷ listed) q =
    let others = members_in members number listed in
    ap is_some (get-insert nat_cmp_total others member (standing_in members number member) q)
    ∙ listed_by (eq_by_cmp nat_cmp q member) (standing_in members number member) (get others q) (list_any (λ other. other == q) listed)
    (members_listed members number listed q)
    ∙ ap (λ b. b || list_any (λ other. other == q) listed) (unsigned_tied q member ∙ eqb-symm q member)

-- ---- one event

-- the fragments of a transaction are in order, and meet the rules
pub record AreInOrder (number : ℕ) (fragments : List Fragment) : Type 0 where
  pub rise : FragmentsRise number 0 0 fragments
  pub each : AllByRecursion FragmentObeys fragments

-- so are those of an open transaction of a member, which has one and few keys
pub record IsGood (number : ℕ) (members : Members) (entry : TrxId × List Fragment) : Type 0 where
  pub own : is_some (get members entry.0.member) ≡ true
  pub some : 0 < length entry.1
  pub order : AreInOrder number entry.1
  pub few : len (fragment_keys entry.1) ≤ LIMIT

abbrev pub AllGood : ℕ → Members → FiniteMap trx_cmp (List Fragment) → Type 0
AllGood number members opened = AllByRecursion (IsGood number members) opened.entries

good_wider : (number : ℕ) (members more : Members) (entry : TrxId × List Fragment) → Stay members more → IsGood number members entry
    → IsGood (number + 1) more entry
good_wider number members more entry stay good =
    let order = good.order in
    record {
      own = stay entry.0.member good.own;
      some = good.some;
      order = record { rise = rise_wider number (number + 1) 0 0 entry.1 (omega arith) order.rise; each = order.each };
      few = good.few;
    }

all_wider : (number : ℕ) (members more : Members) (opened : FiniteMap trx_cmp (List Fragment)) → Stay members more → AllGood number members opened
    → AllGood (number + 1) more opened
all_wider number members more opened stay all =
    all_map (IsGood number members) (IsGood (number + 1) more) (λ entry. good_wider number members more entry stay) opened.entries all

all_left : (number : ℕ) (members more : Members) (opened : FiniteMap trx_cmp (List Fragment)) (trx : TrxId) → Stay members more
    → AllGood number members opened → AllGood (number + 1) more (remove opened trx)
unfolding remove
all_left number members more opened trx stay all =
    all_kept transactions (IsGood number members) (λ other. not (eq_by_cmp trx_cmp trx other)) (IsGood (number + 1) more)
    (λ entry good kept. good_wider number members more entry stay good) opened all

in_order_or : (number : ℕ) (members : Members) (trx : TrxId) (o : Option (List Fragment))
    → ((fragments : List Fragment) → o ≡ Some fragments → IsGood number members (trx, fragments)) → AreInOrder number (unwrap_or o [])
in_order_or number members trx None good = record { rise = tt; each = tt }
in_order_or number members trx (Some fragments) good = let one = good fragments refl in one.order

module _ (s : FoldState) (all : AllGood s.number s.members s.open_trx) where
  pub before : (trx : TrxId) → AreInOrder s.number (fragments_of s trx)
  before trx =
      in_order_or s.number s.members trx (get s.open_trx trx)
      (λ fragments is. found transactions (IsGood s.number s.members) s.open_trx trx fragments all is)

  by_effect : (member : ℕ) (w : WriteSet) (effect : Effect) → SetObeys w
      → (IsTaken effect → Joins s member w × (w.last_seen ≤ s.number) × (len (whole_keys (fragments_of s (trx_of w)) w.keys) ≤ LIMIT))
      → AllGood (s.number + 1) (affected s w effect).members (affected s w effect).open_trx
  by_effect member w Same obeys taken = all_wider s.number s.members s.members s.open_trx (λ q there. there) all
  by_effect member w Closes obeys taken =
      all_left s.number s.members (affected s w Closes).members s.open_trx (trx_of w)
      (stay_counted s.members w.member w.serial (get s.members w.member)) all
  by_effect member w Commits obeys taken =
      all_left s.number s.members (affected s w Commits).members s.open_trx (trx_of w)
      (stay_counted s.members w.member w.serial (get s.members w.member)) all
  by_effect member w Adds obeys taken =
      let has = taken tt in
      let joined = has.0 in
      let trx = trx_of w in
      let front = fragments_of s trx in
      let last = fragment_by s w in
      let order = before trx in
      let more = (affected s w Adds).members in
      let stay : Stay s.members more = stay_counted s.members w.member w.serial (get s.members w.member) in
      let good : IsGood (s.number + 1) more (trx, front ++ last ∷ []) = record {
        own = stay w.member joined.own;
        some = some_more front last;
        order = record {
          rise = rise_more s.number 0 0 front last (omega arith) refl joined.later (omega (arith, has.1)) order.rise;
          each = more_are FragmentObeys front last order.each obeys;
        };
        few = subst (λ (keys : Keys). len keys ≤ LIMIT) (sym (fragment_keys-more front last)) has.2;
      } in
      all_insert transactions (IsGood (s.number + 1) more) s.open_trx trx (front ++ last ∷ []) good
      (all_wider s.number s.members more s.open_trx stay all)

no_rollback : (b : Bool) (rest : Judged) → IsTaken (effect_of (cond b became.Rollback rest)) → b ≡ false
no_rollback true rest taken = absurd taken
no_rollback false rest taken = refl

pub taken_passes : (w : WriteSet) (verdict : Verdict) → IsTaken (effect_of (judged_as w verdict)) → (verdict ≡ Pass) × (is_rollback w ≡ false)
taken_passes w Pass taken = (refl, no_rollback (is_rollback w) _ taken)
taken_passes w Malformed taken = absurd taken
taken_passes w Stranger taken = absurd taken
taken_passes w Repeat taken = absurd taken
taken_passes w Future taken = absurd taken
taken_passes w Stale taken = absurd taken
taken_passes w Broken taken = absurd taken
taken_passes w (Conflict commit) taken = absurd taken
taken_passes w (Held fragment) taken = absurd taken

module _ (s : FoldState) (all : AllGood s.number s.members s.open_trx) where
  by_write : (member : ℕ) (body : List ℕ) (o : Option WriteSet) → ((i : ℕ) → slice_index body i < 256) → decoded body ≡ o
      → AllGood (s.number + 1) (written s member o).members (written s member o).open_trx
  by_write member body None fits is = all_wider s.number s.members s.members s.open_trx (λ q there. there) all
  by_write member body (Some w) fits is =
      by_effect s all member w (effect_of (judged_write s member (Some w))) (set_obeys body w fits is) (λ taken.
      let passes = taken_passes w (verdict s member w) taken in
      let passed = taken-passed s member w taken in
      (joins s member w passes.0 passes.1, passed.seen, passed.fits))

  by_view : (version : ℕ) (members : List ℕ) → AllGood (s.number + 1) (changed_by s (View version members)).members (changed_by s (View version members)).open_trx
  by_view version members =
      let now = members_in s.members (s.number + 1) members in
      all_kept transactions (IsGood s.number s.members) (is_of members) (IsGood (s.number + 1) now)
      (λ entry good kept.
      let order = good.order in
      record {
        own = members_listed s.members (s.number + 1) members entry.0.member ∙ kept;
        some = good.some;
        order = record { rise = rise_wider s.number (s.number + 1) 0 0 entry.1 (omega arith) order.rise; each = order.each };
        few = good.few;
      }) s.open_trx all

  chosen : (b : Bool) (t : FoldState) → AllGood (s.number + 1) t.members t.open_trx → AllGood (s.number + 1) (cond b t s).members (cond b t s).open_trx
  chosen true t one = one
  chosen false t one = all_wider s.number s.members s.members s.open_trx (λ q there. there) all

  by_report : (member number : ℕ) (o : Option Standing) → AllGood (s.number + 1) (reported s member number o).members (reported s member number o).open_trx
  by_report member number None = all_wider s.number s.members s.members s.open_trx (λ q there. there) all
  by_report member number (Some standing) =
      let new : Standing = record standing { report = number } in
      let now = insert s.members member new in
      chosen (nat_le standing.report number && nat_lt number (s.number + 1)) (record s { members = now })
      (all_wider s.number s.members now s.open_trx (stay_put s.members member new) all)

  by_event : (event : Event) → ((member : ℕ) (body : List ℕ) → event ≡ Write member body → (i : ℕ) → slice_index body i < 256)
      → AllGood (s.number + 1) (changed_by s event).members (changed_by s event).open_trx
  by_event (Write member body) fits = by_write member body (decoded body) (fits member body refl) refl
  by_event (View version members) fits = by_view version members
  by_event (Report member number) fits = by_report member number (get s.members member)

  good_after : (event : Event) → ((member : ℕ) (body : List ℕ) → event ≡ Write member body → (i : ℕ) → slice_index body i < 256)
      → AllGood (after s event).number (after s event).members (after s event).open_trx
  unfolding after
  good_after event fits =
      subst (λ n. AllGood n (changed_by s event).members (changed_by s event).open_trx) (sym (number-after s event)) (by_event event fits)

good_next : (s : FoldState) (o : Option Event) → ((member : ℕ) (body : List ℕ) → o ≡ Some (Write member body) → (i : ℕ) → slice_index body i < 256)
    → AllGood s.number s.members s.open_trx → AllGood (after_next s o).number (after_next s o).members (after_next s o).open_trx
good_next s None fits all = all
good_next s (Some event) fits all = good_after s all event (λ member body is. fits member body (ap Some is))

pub good_at : (order : List Event) (n : ℕ)
    → ((k member : ℕ) (body : List ℕ) → slice_get order k ≡ Some (Write member body) → (i : ℕ) → slice_index body i < 256)
    → AllGood (state_at order n).number (state_at order n).members (state_at order n).open_trx
unfolding state_at no_events empty
good_at order zero fits = tt
good_at order (suc n) fits = good_next (state_at order n) (slice_get order n) (fits n) (good_at order n fits)

-- ---- the rules of a snapshot

listed_same : (q : ℕ) (entries : List (ℕ × Standing))
    → list_any (eq_by_cmp nat_cmp q) (map (λ entry. entry.0) entries) ≡ list_any (nat_eq q) (map (λ (item : MemberItem). item.member) (map member_item entries))
listed_same q [] = refl
listed_same q (entry ∷ entries) = λ i. (unsigned_tied q entry.0) i || (listed_same q entries) i

is_listed_in : (members : Members) (q : ℕ) → is_some (get members q) ≡ true → is_listed (map member_item members.entries) q ≡ true
is_listed_in members q there =
    sym (listed_same q members.entries) ∙ sym (is_some-find nat_cmp q members.entries)
    ∙ ap is_some (sym (get-entries members q)) ∙ there

all_obey : (number : ℕ) (members : Members) (entries : List (TrxId × List Fragment)) → number ≤ MOST_EVENTS
    → AllByRecursion (IsGood number members) entries → AllByRecursion (OpenObeys number (map member_item members.entries)) (map open_item entries)
all_obey number members [] few all = tt
all_obey number members (entry ∷ entries) few all =
    let good = all.0 in
    let order = good.order in
    let count = how_many number 0 0 entry.1 (omega arith) order.rise in (
      record {
        listed = is_listed_in members entry.0.member good.own;
        counted = omega (arith, count, few);
        some = good.some;
        rise = order.rise;
        each = order.each;
        few = good.few;
      },
      all_obey number members entries few all.1,
    )

pub open_fit : HoldsAtEach OpenFit
open_fit order n there few fits =
    let s = state_at order n in
    let numbers = numbers_fit order n there few fits in
    all_obey s.number s.members s.open_trx.entries numbers.0 (good_at order n fits.bodies)
