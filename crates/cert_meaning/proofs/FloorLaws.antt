-- The floor never falls, since each report is between the floor and the number of events.
use Rattle.std.proofs.Common.{◌≡◌, ℕ, zero, suc, ◌+◌, ◌-◌, ◌≤◌, Bool, true, false, cond, List, [], ◌∷◌, Option, None, Some, refl, sym, subst, ◌∙◌, arith}
use Rattle.std.specs.Prelude.{◌&&◌, nat_le, nat_lt, map, min, slice_get, unwrap_or}
use Rattle.std.specs.List.{AllByRecursion}
use Rattle.std.specs.Option.{option_map_or}
use Rattle.std.specs.Ordering.{nat_cmp, eq_by_cmp}
use Rattle.std.specs.declared.cmp.Ordering.{Ordering}
use Rattle.std.specs.declared.cmp.Ordering.TheVariants.{Less, Equal, Greater}
use Rattle.std.specs.Cmp.{nat_cmp_total}
use Rattle.std.specs.FinMap.Entries.{find, put, by_order}
use Rattle.std.proofs.lemmas.Bool.{leb-true, ltb-true}
use Rattle.std.proofs.lemmas.Option.{same_Some}
use Rattle.finite_map.specs.FiniteMap.{FiniteMap, empty, get, insert, get-entries, entries-insert}
use Rattle.wsrep_base.specs.Trx.{least}
use Rattle.order_event.specs.declared.event.Event.{Event}
use Rattle.order_event.specs.declared.event.Event.TheVariants.{Write, View, Report}
use Rattle.write_set.specs.declared.write_set.WriteSet.{WriteSet}
use Rattle.write_set.specs.Reading.{decoded}
use Rattle.cert_meaning.specs.State.{FoldState, Standing, no_events}
use Rattle.cert_meaning.specs.Fold.{Effect, Same, Closes, Adds, Commits, effect_of, judged_write, affected, written, standing_in, members_in, reported, changed_by, after, after_next, state_at}
use Rattle.cert_meaning.specs.Floor.{FloorNeverFalls}

-- ---- reports between two numbers
abbrev IsBetween : ℕ → ℕ → ℕ × Standing → Type 0
IsBetween low high entry = (low ≤ entry.1.report) × (entry.1.report ≤ high)

abbrev AllBetween : ℕ → ℕ → FiniteMap nat_cmp Standing → Type 0
AllBetween low high members = AllByRecursion (IsBetween low high) members.entries

all_map : {A : Type 0} (P Q : A → Type 0) → ((x : A) → P x → Q x) → (xs : List A) → AllByRecursion P xs → AllByRecursion Q xs
all_map P Q f [] all = tt
all_map P Q f (x ∷ xs) all = (f x all.0, all_map P Q f xs all.1)

wider : (low high more : ℕ) (members : FiniteMap nat_cmp Standing) → high ≤ more → AllBetween low high members → AllBetween low more members
wider low high more members fits all =
    all_map (IsBetween low high) (IsBetween low more) (λ e is. (is.0, omega (arith, fits, is.1))) members.entries all

all_put : (low high member : ℕ) (standing : Standing) (es : List (ℕ × Standing)) → IsBetween low high (member, standing)
    → AllByRecursion (IsBetween low high) es → AllByRecursion (IsBetween low high) (put nat_cmp member standing es)
all_put low high member standing [] new all = (new, tt)
all_put low high member standing (e ∷ es) new all = by (nat_cmp member e.0) (all_put low high member standing es new all.1)
  where
    by : (r : Ordering) → AllByRecursion (IsBetween low high) (put nat_cmp member standing es)
        → AllByRecursion (IsBetween low high) (by_order r ((member, standing) ∷ e ∷ es) ((e.0, standing) ∷ es) (e ∷ put nat_cmp member standing es))
    by Less rest = (new, all)
    by Equal rest = (new, all.1)
    by Greater rest = (all.0, rest)

all_insert : (low high member : ℕ) (standing : Standing) (members : FiniteMap nat_cmp Standing) → IsBetween low high (member, standing)
    → AllBetween low high members → AllBetween low high (insert members member standing)
all_insert low high member standing members new all =
    subst (AllByRecursion (IsBetween low high)) (sym (entries-insert nat_cmp_total members member standing))
    (all_put low high member standing members.entries new all)

found : (low high member : ℕ) (standing : Standing) (es : List (ℕ × Standing)) → AllByRecursion (IsBetween low high) es
    → find nat_cmp member es ≡ Some standing → IsBetween low high (member, standing)
found low high member standing [] all is = cc
found low high member standing (e ∷ es) all is = by (eq_by_cmp nat_cmp member e.0) is (found low high member standing es all.1)
  where
    by : (b : Bool) → cond b (Some e.1) (find nat_cmp member es) ≡ Some standing
        → (find nat_cmp member es ≡ Some standing → IsBetween low high (member, standing)) → IsBetween low high (member, standing)
    by true is rest = subst (λ (st : Standing). IsBetween low high (member, st)) (same_Some e.1 standing is) all.0
    by false is rest = rest is

is_there : (low high member : ℕ) (standing : Standing) (members : FiniteMap nat_cmp Standing) → AllBetween low high members
    → get members member ≡ Some standing → IsBetween low high (member, standing)
is_there low high member standing members all is =
    found low high member standing members.entries all (sym (get-entries members member) ∙ is)

-- ---- the least report
-- the least of the reports, if there is one
abbrev IsLeast : ℕ → ℕ → List (ℕ × Standing) → Option ℕ → Type 0
IsLeast low high es None = (m : ℕ) → AllByRecursion (λ e. m ≤ e.1.report) es
IsLeast low high es (Some m) = (low ≤ m) × (m ≤ high) × AllByRecursion (λ e. m ≤ e.1.report) es

abbrev reports_in : List (ℕ × Standing) → List ℕ
reports_in es = map (λ (standing : Standing). standing.report) (map (λ e. e.1) es)

least_more : (low high : ℕ) (e : ℕ × Standing) (es : List (ℕ × Standing)) (rest : Option ℕ) → IsBetween low high e → IsLeast low high es rest
    → IsLeast low high (e ∷ es) (Some (min e.1.report (unwrap_or rest e.1.report)))
least_more low high e es None one all = (omega (arith, one.0), omega (arith, one.1), (omega arith, all (min e.1.report e.1.report)))
least_more low high e es (Some m) one all = (
  omega (arith, one.0, all.0),
  omega (arith, one.1),
  (omega arith, all_map (λ x. m ≤ x.1.report) (λ x. min e.1.report m ≤ x.1.report) (λ x is. omega (arith, is)) es all.2),
)

is_least : (low high : ℕ) (es : List (ℕ × Standing)) → AllByRecursion (IsBetween low high) es → IsLeast low high es (least (reports_in es))
is_least low high [] all = λ m. tt
is_least low high (e ∷ es) all = least_more low high e es (least (reports_in es)) all.0 (is_least low high es all.1)

-- ---- one event
-- the floor is at most the number of events, and each report is between them
pub record IsSettled (s : FoldState) : Type 0 where
  pub floor : s.floor ≤ s.number
  pub reports : AllBetween s.floor s.number s.members

-- before it is counted, an event keeps floor and number, and reports are between the floor and its number
record IsChanged (s t : FoldState) : Type 0 where
  floor : t.floor ≡ s.floor
  number : t.number ≡ s.number
  reports : AllBetween s.floor (s.number + 1) t.members

module _ (s : FoldState) (settled : IsSettled s) where
  still : AllBetween s.floor (s.number + 1) s.members
  still = wider s.floor s.number (s.number + 1) s.members (omega arith) settled.reports

  same : IsChanged s s
  same = record { floor = refl; number = refl; reports = still }

  counts : (member serial : ℕ) (o : Option Standing) → get s.members member ≡ o
      → AllBetween s.floor (s.number + 1)
      (option_map_or (λ (standing : Standing). insert s.members member (record standing { serial = serial })) o s.members)
  counts member serial None is = still
  counts member serial (Some standing) is =
      let has = is_there s.floor (s.number + 1) member standing s.members still is in
      all_insert s.floor (s.number + 1) member (record standing { serial = serial }) s.members (has.0, has.1) still

  by_effect : (w : WriteSet) (effect : Effect) → IsChanged s (affected s w effect)
  by_effect w Same = same
  by_effect w Closes = record { floor = refl; number = refl; reports = counts w.member w.serial (get s.members w.member) refl }
  by_effect w Adds = record { floor = refl; number = refl; reports = counts w.member w.serial (get s.members w.member) refl }
  by_effect w Commits = record { floor = refl; number = refl; reports = counts w.member w.serial (get s.members w.member) refl }

  by_write : (member : ℕ) (w : Option WriteSet) → IsChanged s (written s member w)
  by_write member None = same
  by_write member (Some w) = by_effect w (effect_of (judged_write s member (Some w)))

  stands : (member : ℕ) (o : Option Standing) → get s.members member ≡ o
      → IsBetween s.floor (s.number + 1) (member, unwrap_or o (record { report = s.number + 1; serial = 0 }))
  stands member None is = (omega (arith, settled.floor), omega arith)
  stands member (Some standing) is = is_there s.floor (s.number + 1) member standing s.members still is

  listed : (members : List ℕ) → AllBetween s.floor (s.number + 1) (members_in s.members (s.number + 1) members)
  unfolding empty
  listed [] = tt
  listed (member ∷ members) =
      all_insert s.floor (s.number + 1) member (standing_in s.members (s.number + 1) member)
      (members_in s.members (s.number + 1) members) (stands member (get s.members member) refl) (listed members)

  reports : (member number : ℕ) (standing : Standing) → get s.members member ≡ Some standing → (a b : Bool)
      → nat_le standing.report number ≡ a → nat_lt number (s.number + 1) ≡ b
      → IsChanged s (cond (a && b) (record s { members = insert s.members member (record standing { report = number }) }) s)
  reports member number standing is true true not_below before = record {
    floor = refl;
    number = refl;
    reports = all_insert s.floor (s.number + 1) member (record standing { report = number }) s.members (
      omega (arith, (is_there s.floor (s.number + 1) member standing s.members still is).0, leb-true standing.report number not_below),
      omega (arith, ltb-true number (s.number + 1) before),
    ) still;
  }
  reports member number standing is true false not_below before = same
  reports member number standing is false b not_below before = same

  by_report : (member number : ℕ) (o : Option Standing) → get s.members member ≡ o → IsChanged s (reported s member number o)
  by_report member number None is = same
  by_report member number (Some standing) is = reports member number standing is _ _ refl refl

  by_event : (event : Event) → IsChanged s (changed_by s event)
  by_event (Write member body) = by_write member (decoded body)
  by_event (View version members) = record { floor = refl; number = refl; reports = listed members }
  by_event (Report member number) = by_report member number (get s.members member) refl

-- the floor after the event: not below that before, and settled again
record Rises (s now : FoldState) : Type 0 where
  rises : s.floor ≤ now.floor
  settled : IsSettled now

counted : (s t : FoldState) → IsSettled s → IsChanged s t → (o : Option ℕ) → IsLeast s.floor (s.number + 1) t.members.entries o
    → Rises s (record t { number = t.number + 1; floor = unwrap_or o t.floor })
counted s t settled changed None all = record {
  rises = omega (arith, changed.floor);
  settled = record {
    floor = omega (arith, changed.floor, changed.number, settled.floor);
    reports = all_map (IsBetween s.floor (s.number + 1)) (IsBetween t.floor (t.number + 1))
        (λ e is. (omega (arith, changed.floor, is.0), omega (arith, changed.number, is.1))) t.members.entries changed.reports;
  };
}
counted s t settled changed (Some m) all = record {
  rises = all.0;
  settled = record {
    floor = omega (arith, all.1, changed.number);
    reports = both t.members.entries changed.reports all.2;
  };
}
  where
    both : (es : List (ℕ × Standing)) → AllByRecursion (IsBetween s.floor (s.number + 1)) es → AllByRecursion (λ e. m ≤ e.1.report) es
        → AllByRecursion (IsBetween m (t.number + 1)) es
    both [] one other = tt
    both (e ∷ es) one other = ((other.0, omega (arith, one.0.1, changed.number)), both es one.1 other.1)

one_event : (s : FoldState) (event : Event) → IsSettled s → Rises s (after s event)
unfolding after
one_event s event settled =
    let changed = by_event s settled event in
    counted s (changed_by s event) settled changed (least (reports_in (changed_by s event).members.entries))
    (is_least s.floor (s.number + 1) (changed_by s event).members.entries changed.reports)

next : (s : FoldState) (o : Option Event) → IsSettled s → Rises s (after_next s o)
next s None settled = record { rises = omega arith; settled = settled }
next s (Some event) settled = one_event s event settled

-- at every point of an order
pub settled_at : (order : List Event) (n : ℕ) → IsSettled (state_at order n)
unfolding state_at no_events empty
settled_at order zero = record { floor = omega arith; reports = tt }
settled_at order (suc n) = (next (state_at order n) (slice_get order n) (settled_at order n)).settled

rises_on : (order : List Event) (m d : ℕ) → (state_at order m).floor ≤ (state_at order (m + d)).floor
unfolding state_at
rises_on order m zero = let same : m + 0 ≡ m = omega arith in subst (λ k. (state_at order m).floor ≤ (state_at order k).floor) (sym same) (omega arith)
rises_on order m (suc d) =
    let same : m + suc d ≡ suc (m + d) = omega arith in
    let step : (state_at order (m + d)).floor ≤ (state_at order (suc (m + d))).floor =
    (next (state_at order (m + d)) (slice_get order (m + d)) (settled_at order (m + d))).rises in
    subst (λ k. (state_at order m).floor ≤ (state_at order k).floor) (sym same) (omega (arith, rises_on order m d, step))

pub floor_rises : FloorNeverFalls
floor_rises order m n below =
    let same : m + (n - m) ≡ n = omega (arith, below) in
    subst (λ k. (state_at order m).floor ≤ (state_at order k).floor) same (rises_on order m (n - m))
