-- Members: what is read meets the rules, and members that meet them are read again.
use Rattle.std.proofs.Common.{◌≡◌, ℕ, suc, ◌+◌, ◌^◌, ◌<◌, ◌≤◌, Bool, true, false, List, [], ◌∷◌, ◌++◌, length, map, Ok, refl, sym, ap, subst, ◌∙◌, append_assoc, arith}
use Rattle.std.specs.Prelude.{◌==◌, ◌||◌, ◌&&◌, not, nat_lt, nat_le, min, unwrap_or}
use Rattle.std.specs.Int.{w32, w64, to_be_bytes}
use Rattle.std.specs.List.{list_any, AllByRecursion}
use Rattle.std.proofs.lemmas.Bool.{ltb-false, leb-true, le-leb, le-ltb, lt-ltb, eqb-true, eqb-false, eq-eqb}
use Rattle.wsrep_base.specs.Trx.{least}
use Rattle.write_set.specs.declared.fault.WsFault.TheVariants.{Short}
use Rattle.write_set.specs.Place.{Place}
use Rattle.write_set.proofs.Bounds.{is_not}
use Rattle.write_set.proofs.RulesOf.{both, and}
use Rattle.wsrep_base.proofs.Fields.{IsBytes, read_ok, passed, ok_is, place, Took, took_then, number_takes, number_again, wide32, wide64}
use Rattle.cert_meaning.specs.declared.parts.MemberItem.{MemberItem}
use Rattle.state_snapshot.specs.declared.head.Head.{Head}
use Rattle.state_snapshot.specs.declared.members.MembersSoFar.{MembersSoFar}
use Rattle.state_snapshot.specs.Reading.{no_members, report_fits, with_member, member_at}
use Rattle.state_snapshot.specs.Spelling.{member_text}
use Rattle.state_snapshot.specs.Rules.{MembersRise, least_report}
use Rattle.state_snapshot.specs.Laws.{MemberInRange}
use Rattle.state_snapshot.proofs.Each.{Step, Always, AllFit}

-- ---- one member

abbrev pub MemberFits : Head → MembersSoFar → MemberItem → Type 0
MemberFits head s item = (nat_lt item.member s.least ≡ false) × (report_fits head s item.report ≡ true) × MemberInRange item

abbrev TakesMember : Head → MembersSoFar → Place → (MemberItem × MembersSoFar) × Place → Type 0
TakesMember head s p x =
    Took p (member_text x.0.0) x.1 × MemberFits head s x.0.0 × (x.0.1 ≡ with_member head s x.0.0) × Always (with_member head s x.0.0)

member_takes : (head : Head) (s : MembersSoFar) (p : Place) (x : (MemberItem × MembersSoFar) × Place) → IsBytes p.left → Always s
    → member_at head s p ≡ Ok x → TakesMember head s p x
unfolding member_at
member_takes head s p x fits holds e =
    let m = read_ok ℕ _ _ x e in
    let rising = passed _ _ _ x m.2 in
    let r = read_ok ℕ _ _ x rising.1 in
    let within = passed (not (report_fits head s r.0.0)) _ _ x r.2 in
    let l = read_ok ℕ _ _ x within.1 in
    let tm = number_takes Short w32 (2 ^ 32) wide32 p m.0 fits m.1 in
    let tr = number_takes Short w64 (2 ^ 64) wide64 m.0.1 r.0 tm.0.fits r.1 in
    let tl = number_takes Short w64 (2 ^ 64) wide64 r.0.1 l.0 tr.0.fits l.1 in
    let item : MemberItem = record { member = m.0.0; report = r.0.0; serial = l.0.0 } in
    let later : Took m.0.1 (to_be_bytes w64 r.0.0 ++ to_be_bytes w64 l.0.0) l.0.1 =
    took_then m.0.1 (to_be_bytes w64 r.0.0) r.0.1 (to_be_bytes w64 l.0.0) l.0.1 tr.0 tl.0 in
    let taken : Took p (member_text item) l.0.1 =
    took_then p (to_be_bytes w32 m.0.0) m.0.1 (to_be_bytes w64 r.0.0 ++ to_be_bytes w64 l.0.0) l.0.1 tm.0 later in
    subst (TakesMember head s p) (ok_is ((item, with_member head s item), l.0.1) x l.2)
    (taken, (rising.0, is_not (report_fits head s r.0.0) within.0, (tm.1, tr.1, tl.1)), refl, tt)

member_again : (head : Head) (s : MembersSoFar) (item : MemberItem) (rest : List ℕ) (at : ℕ) → MemberFits head s item
    → (q : ℕ) × (member_at head s (place (member_text item ++ rest) at) ≡ Ok ((item, with_member head s item), place rest q))
unfolding member_at
member_again head s item rest at fits =
    let report = to_be_bytes w64 item.report in
    let serial = to_be_bytes w64 item.serial in
    let is : member_at head s (place (to_be_bytes w32 item.member ++ (report ++ (serial ++ rest))) at)
    ≡ Ok ((item, with_member head s item), place rest (at + 4 + 8 + 8)) =
    rw (
      number_again Short w32 (2 ^ 32) wide32 item.member (report ++ (serial ++ rest)) at fits.2.0,
      fits.0,
      number_again Short w64 (2 ^ 64) wide64 item.report (serial ++ rest) (at + 4) fits.2.1,
      fits.1,
      number_again Short w64 (2 ^ 64) wide64 item.serial rest (at + 4 + 8) fits.2.2,
    ) refl in (
      at + 4 + 8 + 8,
      ap (λ left. member_at head s (place left at))
          (append_assoc (to_be_bytes w32 item.member) (report ++ serial) rest
          ∙ ap (λ left. to_be_bytes w32 item.member ++ left) (append_assoc report serial rest)) ∙ is,
    )

pub member_step : (head : Head) → Step member_text (with_member head) Always (MemberFits head) (member_at head)
member_step head = record { takes = member_takes head; again = member_again head }

-- ---- the least report

abbrev has : ℕ → List ℕ → Bool
has floor reports = list_any (λ n. n == floor) reports

abbrev reports_of : List MemberItem → List ℕ
reports_of items = map (λ (item : MemberItem). item.report) items

first_has : (n floor : ℕ) (ns : List ℕ) → n ≡ floor → has floor (n ∷ ns) ≡ true
first_has n floor ns is = ap (λ b. b || has floor ns) (eq-eqb n floor is)

least_from : (floor d : ℕ) (ns : List ℕ) → floor ≤ d → AllByRecursion (λ n. floor ≤ n) ns → floor ≤ unwrap_or (least ns) d
least_from floor d [] low all = low
least_from floor d (n ∷ ns) low all = let rest = least_from floor n ns all.0 all.1 in omega (arith, rest, all.0)

least_by : (floor n : ℕ) (ns : List ℕ) (b : Bool) → (n == floor) ≡ b → b || has floor ns ≡ true
    → (has floor ns ≡ true → unwrap_or (least ns) n ≤ floor) → min n (unwrap_or (least ns) n) ≤ floor
least_by floor n ns true is h later = let equal = eqb-true n floor is in omega (arith, equal)
least_by floor n ns false is h later = let low = later h in omega (arith, low)

least_reaches : (floor d : ℕ) (ns : List ℕ) → has floor ns ≡ true → unwrap_or (least ns) d ≤ floor
least_reaches floor d [] h = absurd cc
least_reaches floor d (n ∷ ns) h = least_by floor n ns (n == floor) refl h (least_reaches floor n ns)

least_bounds : (floor d : ℕ) (ns : List ℕ) → floor ≤ unwrap_or (least ns) d → AllByRecursion (λ n. floor ≤ n) ns
least_bounds floor d [] low = tt
least_bounds floor d (n ∷ ns) low = (omega (arith, low), least_bounds floor n ns (omega (arith, low)))

there_by : (floor d n m : ℕ) (ns : List ℕ) (b : Bool) → (n == floor) ≡ b → unwrap_or (least (n ∷ m ∷ ns)) d ≡ floor
    → (unwrap_or (least (m ∷ ns)) n ≡ floor → has floor (m ∷ ns) ≡ true) → b || has floor (m ∷ ns) ≡ true
there_by floor d n m ns true is low later = refl
there_by floor d n m ns false is low later = let differs = eqb-false n floor is in later (omega (arith, low, differs))

least_there : (floor d n : ℕ) (ns : List ℕ) → unwrap_or (least (n ∷ ns)) d ≡ floor → has floor (n ∷ ns) ≡ true
least_there floor d n [] is = first_has n floor [] (omega (arith, is))
least_there floor d n (m ∷ ns) is = there_by floor d n m ns (n == floor) refl is (least_there floor n m ns)

-- ---- all members

-- whether the floor was met, or is met by one of these reports
abbrev Reaches : ℕ → Bool → List ℕ → Type 0
Reaches floor reached [] = Unit {0}
Reaches floor reached (n ∷ ns) = reached || has floor (n ∷ ns) ≡ true

or_assoc : (a b c : Bool) → (a || b) || c ≡ a || (b || c)
or_assoc true b c = refl
or_assoc false b c = refl

or_none : (a : Bool) → a || false ≡ a
or_none true = refl
or_none false = refl

-- what a report that fits says
pub record ReportFits (head : Head) (s : MembersSoFar) (report : ℕ) : Type 0 where
  pub low : head.floor ≤ report
  pub high : report ≤ head.number
  pub last : (nat_lt 1 s.left || s.reached) || (report == head.floor) ≡ true

report_is : (head : Head) (s : MembersSoFar) (report : ℕ) → report_fits head s report ≡ true → ReportFits head s report
report_is head s report h =
    let last = both (nat_le head.floor report && nat_le report head.number) ((nat_lt 1 s.left || s.reached) || (report == head.floor)) h in
    let each = both (nat_le head.floor report) (nat_le report head.number) last.0 in
    record { low = leb-true head.floor report each.0; high = leb-true report head.number each.1; last = last.1 }

report_again : (head : Head) (s : MembersSoFar) (report : ℕ) → ReportFits head s report → report_fits head s report ≡ true
report_again head s report r =
    and (nat_le head.floor report && nat_le report head.number) ((nat_lt 1 s.left || s.reached) || (report == head.floor))
    (and (nat_le head.floor report) (nat_le report head.number) (le-leb head.floor report r.low) (le-leb report head.number r.high)) r.last

abbrev MembersFit : Head → MembersSoFar → List MemberItem → Type 0
MembersFit head s items = AllFit (with_member head) (MemberFits head) s items

-- what members that fit say
pub record MembersSay (head : Head) (s : MembersSoFar) (items : List MemberItem) : Type 0 where
  pub rise : MembersRise s.least items
  pub high : AllByRecursion (λ (item : MemberItem). item.report ≤ head.number) items
  pub low : AllByRecursion (λ n. head.floor ≤ n) (reports_of items)
  pub reaches : Reaches head.floor s.reached (reports_of items)
  pub range : AllByRecursion MemberInRange items

last_reaches : (left : ℕ) (reached here : Bool) → left ≡ 1 → (nat_lt 1 left || reached) || here ≡ true → reached || (here || false) ≡ true
last_reaches left reached here one h =
    ap (λ b. reached || b) (or_none here) ∙ ap (λ n. (nat_lt 1 n || reached) || here) (sym one) ∙ h

reaches_before : (head : Head) (s : MembersSoFar) (item : MemberItem) (items : List MemberItem) → s.left ≡ suc (length items)
    → ReportFits head s item.report → Reaches head.floor (s.reached || (item.report == head.floor)) (reports_of items)
    → s.reached || has head.floor (item.report ∷ reports_of items) ≡ true
reaches_before head s item [] count r later = last_reaches s.left s.reached (item.report == head.floor) count r.last
reaches_before head s item (other ∷ items) count r later =
    sym (or_assoc s.reached (item.report == head.floor) (has head.floor (reports_of (other ∷ items)))) ∙ later

pub members_say : (head : Head) (s : MembersSoFar) (items : List MemberItem) → s.left ≡ length items → MembersFit head s items
    → MembersSay head s items
members_say head s [] count fit = record { rise = tt; high = tt; low = tt; reaches = tt; range = tt }
members_say head s (item ∷ items) count fit =
    let r = report_is head s item.report fit.0.1 in
    let rest = members_say head (with_member head s item) items (omega (arith, count)) fit.1 in
    record {
      rise = (ltb-false item.member s.least fit.0.0, rest.rise);
      high = (r.high, rest.high);
      low = (r.low, rest.low);
      reaches = reaches_before head s item items count r rest.reaches;
      range = (fit.0.2, rest.range);
    }

more_left : (left : ℕ) (reached here : Bool) → 1 < left → (nat_lt 1 left || reached) || here ≡ true
more_left left reached here more = ap (λ b. (b || reached) || here) (lt-ltb 1 left more)

one_left : (left : ℕ) (reached here : Bool) → left ≡ 1 → reached || (here || false) ≡ true → (nat_lt 1 left || reached) || here ≡ true
one_left left reached here one h =
    ap (λ n. (nat_lt 1 n || reached) || here) one ∙ ap (λ b. reached || b) (sym (or_none here)) ∙ h

last_fits : (head : Head) (s : MembersSoFar) (item : MemberItem) (items : List MemberItem) → s.left ≡ suc (length items)
    → s.reached || has head.floor (item.report ∷ reports_of items) ≡ true
    → ((nat_lt 1 s.left || s.reached) || (item.report == head.floor) ≡ true)
    × Reaches head.floor (s.reached || (item.report == head.floor)) (reports_of items)
last_fits head s item [] count h = (one_left s.left s.reached (item.report == head.floor) count h, tt)
last_fits head s item (other ∷ items) count h = (
  more_left s.left s.reached (item.report == head.floor) (omega (arith, count)),
  or_assoc s.reached (item.report == head.floor) (has head.floor (reports_of (other ∷ items))) ∙ h,
)

pub members_fit : (head : Head) (s : MembersSoFar) (items : List MemberItem) → s.left ≡ length items → MembersSay head s items
    → MembersFit head s items
members_fit head s [] count say = tt
members_fit head s (item ∷ items) count say =
    let last = last_fits head s item items count say.reaches in
    let rest : MembersSay head (with_member head s item) items = record {
      rise = say.rise.1;
      high = say.high.1;
      low = say.low.1;
      reaches = last.1;
      range = say.range.1;
    } in (
      (
        le-ltb item.member s.least say.rise.0,
        report_again head s item.report (record { low = say.low.0; high = say.high.0; last = last.0 }),
        say.range.0,
      ),
      members_fit head (with_member head s item) items (omega (arith, count)) rest,
    )

-- members that fit have the floor as their least report
pub least_is : (head : Head) (s : MembersSoFar) (items : List MemberItem) → s.reached ≡ false → MembersSay head s items
    → least_report items head.floor ≡ head.floor
least_is head s [] none say = refl
least_is head s (item ∷ items) none say =
    let reports = item.report ∷ reports_of items in
    let low = least_from head.floor head.floor reports (omega arith) say.low in
    let there : has head.floor reports ≡ true = ap (λ b. b || has head.floor reports) (sym none) ∙ say.reaches in
    let high = least_reaches head.floor head.floor reports there in
    omega (arith, low, high)

reaches_from : (floor : ℕ) (items : List MemberItem) → least_report items floor ≡ floor → Reaches floor false (reports_of items)
reaches_from floor [] is = tt
reaches_from floor (item ∷ items) is = least_there floor floor item.report (reports_of items) is

-- members that rise, and whose least report is the floor, fit
pub members_meet : (head : Head) (items : List MemberItem) → MembersRise 0 items
    → AllByRecursion (λ (item : MemberItem). item.report ≤ head.number) items → least_report items head.floor ≡ head.floor
    → AllByRecursion MemberInRange items → MembersSay head (no_members (length items)) items
members_meet head items rise high is range = record {
  rise = rise;
  high = high;
  low = least_bounds head.floor head.floor (reports_of items) (omega (arith, is));
  reaches = reaches_from head.floor items is;
  range = range;
}
