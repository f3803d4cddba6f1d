-- The floor over members that change: it rises with their reports, and no serial moves it.
use Rattle.std.proofs.Common.{◌≡◌, ℕ, ◌≤◌, Bool, true, false, cond, List, [], ◌∷◌, Option, None, Some, refl, sym, subst, ap, ◌∙◌, arith}
use Rattle.std.specs.Prelude.{◌&&◌, T, nat_le, nat_lt, map, min, unwrap_or}
use Rattle.std.specs.List.{AllByRecursion}
use Rattle.std.specs.Option.{option_map_or}
use Rattle.std.specs.Ordering.{nat_cmp, eq_by_cmp, is_lt, is_eq}
use Rattle.std.specs.declared.cmp.Ordering.{Ordering}
use Rattle.std.specs.declared.cmp.Ordering.TheVariants.{Less, Equal, Greater}
use Rattle.std.specs.Cmp.{nat_cmp_total}
use Rattle.std.specs.FinMap.Entries.{find, put, by_order, below_all, is_sorted}
use Rattle.std.proofs.lemmas.Bool.{leb-true}
use Rattle.std.proofs.lemmas.Option.{same_Some}
use Rattle.finite_map.specs.FiniteMap.{FiniteMap, empty, get, insert, get-entries, entries-insert}
use Rattle.wsrep_base.specs.Trx.{least}
use Rattle.cert_meaning.specs.declared.members.Standing.{Standing}
use Rattle.cert_meaning.specs.Fold.{standing_in, members_in, with_serial, floor_over}
use Rattle.view_change.specs.Membership.{Membership, IsSettled, viewed, with_report, is_taken}

abbrev Members : Type 0
Members = FiniteMap nat_cmp Standing

abbrev reports_in : List (ℕ × Standing) → List ℕ
reports_in es = map (λ (standing : Standing). standing.report) (map (λ e. e.1) es)

-- ---- no report is below a number
abbrev IsFrom : ℕ → ℕ × Standing → Type 0
IsFrom low entry = low ≤ entry.1.report

abbrev AllFrom : ℕ → Members → Type 0
AllFrom low members = AllByRecursion (IsFrom low) members.entries

head_from : (low report : ℕ) (rest : Option ℕ) → low ≤ min report (unwrap_or rest report)
    → low ≤ report
head_from low report None is = omega (arith, is)
head_from low report (Some m) is = omega (arith, is)

tail_from : (low report : ℕ) (rest : Option ℕ) → low ≤ min report (unwrap_or rest report)
    → low ≤ unwrap_or rest low
tail_from low report None is = omega arith
tail_from low report (Some m) is = omega (arith, is)

-- where the least is not below it
from_least : (low : ℕ) (es : List (ℕ × Standing)) → low ≤ unwrap_or (least (reports_in es)) low
    → AllByRecursion (IsFrom low) es
from_least low [] is = tt
from_least low (e ∷ es) is = (
  head_from low e.1.report (least (reports_in es)) is,
  from_least low es (tail_from low e.1.report (least (reports_in es)) is),
)

lower_still : (low report floor : ℕ) (rest : Option ℕ) → low ≤ report → low ≤ unwrap_or rest floor
    → low ≤ min report (unwrap_or rest report)
lower_still low report floor None one other = omega (arith, one)
lower_still low report floor (Some m) one other = omega (arith, one, other)

-- and then the least is not
least_from : (low floor : ℕ) (es : List (ℕ × Standing))
    → low ≤ floor → AllByRecursion (IsFrom low) es
    → low ≤ unwrap_or (least (reports_in es)) floor
least_from low floor [] below all = below
least_from low floor (e ∷ es) below all =
    lower_still low e.1.report floor (least (reports_in es)) all.0
    (least_from low floor es below all.1)

all_put : (low member : ℕ) (standing : Standing) (es : List (ℕ × Standing))
    → low ≤ standing.report → AllByRecursion (IsFrom low) es
    → AllByRecursion (IsFrom low) (put nat_cmp member standing es)
all_put low member standing [] new all = (new, tt)
all_put low member standing (e ∷ es) new all =
    by (nat_cmp member e.0) (all_put low member standing es new all.1)
  where
    by : (r : Ordering) → AllByRecursion (IsFrom low) (put nat_cmp member standing es)
        → AllByRecursion (IsFrom low)
        (by_order r ((member, standing) ∷ e ∷ es) ((e.0, standing) ∷ es)
        (e ∷ put nat_cmp member standing es))
    by Less rest = (new, all)
    by Equal rest = (new, all.1)
    by Greater rest = (all.0, rest)

all_insert : (low member : ℕ) (standing : Standing) (members : Members)
    → low ≤ standing.report → AllFrom low members → AllFrom low (insert members member standing)
all_insert low member standing members new all =
    subst (AllByRecursion (IsFrom low))
    (sym (entries-insert nat_cmp_total members member standing))
    (all_put low member standing members.entries new all)

found : (low member : ℕ) (standing : Standing) (es : List (ℕ × Standing))
    → AllByRecursion (IsFrom low) es → find nat_cmp member es ≡ Some standing
    → low ≤ standing.report
found low member standing [] all is = cc
found low member standing (e ∷ es) all is =
    by (eq_by_cmp nat_cmp member e.0) is (found low member standing es all.1)
  where
    by : (b : Bool) → cond b (Some e.1) (find nat_cmp member es) ≡ Some standing
        → (find nat_cmp member es ≡ Some standing → low ≤ standing.report) → low ≤ standing.report
    by true is rest = subst (λ (st : Standing). low ≤ st.report) (same_Some e.1 standing is) all.0
    by false is rest = rest is

is_there : (low member : ℕ) (standing : Standing) (members : Members) → AllFrom low members
    → get members member ≡ Some standing → low ≤ standing.report
is_there low member standing members all is =
    found low member standing members.entries all (sym (get-entries members member) ∙ is)

-- ---- the floor rises
settled_from : (m : Membership) → IsSettled m → AllFrom m.floor m.members
settled_from m settled = from_least m.floor m.members.entries (omega (arith, settled))

stands : (m : Membership) (number : ℕ) (o : Option Standing) (member : ℕ)
    → IsSettled m → m.floor ≤ number → get m.members member ≡ o
    → m.floor ≤ (unwrap_or o (record { report = number; serial = 0 })).report
stands m number None member settled below is = below
stands m number (Some standing) member settled below is =
    is_there m.floor member standing m.members (settled_from m settled) is

all_listed : (m : Membership) (number : ℕ) (listed : List ℕ) → IsSettled m → m.floor ≤ number
    → AllFrom m.floor (members_in m.members number listed)
unfolding empty
all_listed m number [] settled below = tt
all_listed m number (member ∷ listed) settled below =
    all_insert m.floor member (standing_in m.members number member)
    (members_in m.members number listed)
    (stands m number (get m.members member) member settled below refl)
    (all_listed m number listed settled below)

-- at a view behind it
pub viewed_rises : (m : Membership) (number : ℕ) (listed : List ℕ) → IsSettled m → m.floor ≤ number
    → m.floor ≤ (viewed m number listed).floor
viewed_rises m number listed settled below =
    least_from m.floor m.floor (members_in m.members number listed).entries (omega arith)
    (all_listed m number listed settled below)

-- whether a report is not below that of a member that there may be
abbrev is_above : ℕ → Option Standing → Bool
is_above report = λ o. option_map_or (λ (standing : Standing). nat_le standing.report report) o true

-- the members with a report, where the member is found or not
abbrev pub reports_at : Members → ℕ → ℕ → Option Standing → Members
reports_at members member report = λ o.
    option_map_or
    (λ (standing : Standing). insert members member (record standing { report = report }))
    o members

-- at a report that is not below the last one
report_rises : (m : Membership) (member report : ℕ) (o : Option Standing)
    → IsSettled m → get m.members member ≡ o → is_above report o ≡ true
    → AllFrom m.floor (reports_at m.members member report o)
report_rises m member report None settled is taken = settled_from m settled
report_rises m member report (Some standing) settled is taken =
    let all = settled_from m settled in
    let old = is_there m.floor member standing m.members all is in
    let new = leb-true standing.report report taken in
    all_insert m.floor member (record standing { report = report }) m.members
    (omega (arith, old, new)) all

both_first : (a b : Bool) → (a && b) ≡ true → a ≡ true
both_first true b is = refl
both_first false b is = cc

first_taken : (number report : ℕ) (o : Option Standing)
    → option_map_or
    (λ (standing : Standing). nat_le standing.report report && nat_lt report number) o false ≡ true
    → is_above report o ≡ true
first_taken number report None is = refl
first_taken number report (Some standing) is =
    both_first (nat_le standing.report report) (nat_lt report number) is

pub taken_rises : (m : Membership) (number member report : ℕ) → IsSettled m
    → is_taken m.members number member report ≡ true
    → m.floor ≤ floor_over (with_report m.members member report) m.floor
taken_rises m number member report settled is =
    least_from m.floor m.floor (with_report m.members member report).entries (omega arith)
    (report_rises m member report (get m.members member) settled refl
    (first_taken number report (get m.members member) is))

-- ---- no serial moves it
first : (a b : Bool) → T (a && b) → T a
first true b is = tt
first false b is = is

second : (a b : Bool) → T (a && b) → T b
second true b is = is
second false b is = absurd is

less : (r : Ordering) → T (is_lt r) → r ≡ Less
less Less is = refl
less Equal is = absurd is
less Greater is = absurd is

missing : (member key : ℕ) (es : List (ℕ × Standing))
    → nat_cmp member key ≡ Less → T (below_all nat_cmp key es) → find nat_cmp member es ≡ None
missing member key [] lower below = refl
missing member key (e ∷ es) lower below =
    let one = first (is_lt (nat_cmp key e.0)) (below_all nat_cmp key es) below in
    let rest = second (is_lt (nat_cmp key e.0)) (below_all nat_cmp key es) below in
    ap (λ r. cond (is_eq r) (Some e.1) (find nat_cmp member es))
    (nat_cmp_total.trans member key e.0 lower (less (nat_cmp key e.0) one))
    ∙ missing member key es lower rest

-- what stands in a member's place with the same report
same_reports : (member : ℕ) (old new : Standing) (es : List (ℕ × Standing))
    → T (is_sorted nat_cmp es) → find nat_cmp member es ≡ Some old → new.report ≡ old.report
    → reports_in (put nat_cmp member new es) ≡ reports_in es
same_reports member old new [] sorted there same = cc
same_reports member old new (e ∷ es) sorted there same =
    let below = first (below_all nat_cmp e.0 es) (is_sorted nat_cmp es) sorted in
    let above = second (below_all nat_cmp e.0 es) (is_sorted nat_cmp es) sorted in
    by below (nat_cmp member e.0) refl there (λ is. same_reports member old new es above is same)
  where
    by : T (below_all nat_cmp e.0 es) → (r : Ordering) → nat_cmp member e.0 ≡ r
        → cond (is_eq r) (Some e.1) (find nat_cmp member es) ≡ Some old
        → (find nat_cmp member es ≡ Some old
        → reports_in (put nat_cmp member new es) ≡ reports_in es)
        → reports_in
        (by_order r ((member, new) ∷ e ∷ es) ((e.0, new) ∷ es) (e ∷ put nat_cmp member new es))
        ≡ reports_in (e ∷ es)
    by below Less order is rest = let gone = sym (missing member e.0 es order below) ∙ is in cc
    by below Equal order is rest =
        ap (λ report. report ∷ reports_in es)
        (same ∙ ap (λ (st : Standing). st.report) (sym (same_Some e.1 old is)))
    by below Greater order is rest = ap (λ reports. e.1.report ∷ reports) (rest is)

-- the members with a serial, where the member is found or not
abbrev serials_at : Members → ℕ → ℕ → Option Standing → Members
serials_at members member serial = λ o.
    option_map_or
    (λ (standing : Standing). insert members member (record standing { serial = serial }))
    o members

serial_at : (members : Members) (member serial floor : ℕ) (o : Option Standing)
    → get members member ≡ o
    → floor_over (serials_at members member serial o) floor ≡ floor_over members floor
serial_at members member serial floor None is = refl
serial_at members member serial floor (Some standing) is =
    let new : Standing = record standing { serial = serial } in
    ap (λ reports. unwrap_or (least reports) floor)
    (ap reports_in (entries-insert nat_cmp_total members member new)
    ∙ same_reports member standing new members.entries members.sorted
    (sym (get-entries members member) ∙ is) refl)

pub serial_keeps_floor : (members : Members) (member serial floor : ℕ)
    → floor_over (with_serial members member serial) floor ≡ floor_over members floor
serial_keeps_floor members member serial floor =
    serial_at members member serial floor (get members member) refl
