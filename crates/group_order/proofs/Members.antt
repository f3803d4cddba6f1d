-- The greatest member of any view, as views come.
use Rattle.std.proofs.Common.{◌≡◌, ℕ, zero, suc, ◌+◌, ◌≤◌, Bool, true, false, List, [], ◌∷◌, ◌++◌, refl, sym, ap, ◌∙◌, arith, max, not, length, length-append}
use Rattle.std.specs.Prelude.{fold, cond, ◌==◌}
use Rattle.std.specs.List.{filter}
use Rattle.std.proofs.lemmas.List.Sums.{fold-append}
use Rattle.order_event.specs.declared.event.Event.{Event}
use Rattle.order_event.specs.declared.event.Event.TheVariants.{Write, View, Report}
use Rattle.group_order.specs.Order.{up_to, newer_view, last_view, all_but, view_without, view_with, greatest_member, later_member, last_member, new_member}

-- ---- some members
filtered : (p : ℕ → Bool) (a b : ℕ) (xs : List ℕ) → a ≤ b → fold max a (filter p xs) ≤ fold max b xs
filtered p a b [] le = le
filtered p a b (x ∷ xs) le =
    by_test (p x) (filtered p (max a x) (max b x) xs (omega (arith, le))) (filtered p a (max b x) xs (omega (arith, le)))
  where
    by_test : (kept : Bool) → fold max (max a x) (filter p xs) ≤ fold max (max b x) xs → fold max a (filter p xs) ≤ fold max (max b x) xs
        → fold max a (cond kept (x ∷ filter p xs) (filter p xs)) ≤ fold max (max b x) xs
    by_test true with_it without = with_it
    by_test false with_it without = without

pub greatest_behind : (xs : List ℕ) (m : ℕ) → greatest_member (xs ++ m ∷ []) ≡ max (greatest_member xs) m
greatest_behind xs m = fold-append max 0 xs (m ∷ [])

pub greatest_to : (n : ℕ) → greatest_member (up_to n) ≡ n
greatest_to zero = refl
greatest_to (suc n) =
    let e = greatest_behind (up_to n) (suc n) in
    let f = greatest_to n in
    e ∙ (let g : max (greatest_member (up_to n)) (suc n) ≡ suc n = omega (arith, f) in g)

-- ---- the order
pub last_behind : (order : List Event) (e : Event) → last_member (order ++ e ∷ []) ≡ later_member (last_member order) e
last_behind order e = fold-append later_member 0 order (e ∷ [])

-- the members of the last view are none above the greatest of any view
view_within : (v : ℕ × List ℕ) (n : ℕ) (order : List Event) → greatest_member v.1 ≤ n
    → greatest_member (fold newer_view v order).1 ≤ fold later_member n order
view_within v n [] le = le
view_within v n (Write member body ∷ es) le = view_within v n es le
view_within v n (View version members ∷ es) le =
    view_within (version, members) (max n (greatest_member members)) es (omega arith)
view_within v n (Report member number ∷ es) le = view_within v n es le

pub last_within : (order : List Event) → greatest_member (last_view order).1 ≤ last_member order
last_within order = view_within (0, []) 0 order (omega arith)

-- a view with one member less has no new member
pub last_left : (order : List Event) (member : ℕ) → last_member (order ++ view_without order member ∷ []) ≡ last_member order
last_left order member =
    let e = last_behind order (view_without order member) in
    let f = last_within order in
    let g : greatest_member (all_but member (last_view order).1) ≤ greatest_member (last_view order).1 =
    filtered (λ other. not (other == member)) 0 0 (last_view order).1 (omega arith) in
    e ∙ (let same : max (last_member order) (greatest_member (all_but member (last_view order).1)) ≡ last_member order = omega (arith, f, g) in same)

-- a view with one member more has the new member as its greatest
pub last_joined : (order : List Event)
    → last_member (order ++ view_with order (new_member order) ∷ []) ≡ new_member order
last_joined order =
    let e = last_behind order (view_with order (new_member order)) in
    let f = last_within order in
    let g = greatest_behind (last_view order).1 (new_member order) in
    e ∙ ap (max (last_member order)) g
    ∙ (let same : max (last_member order) (max (greatest_member (last_view order).1) (new_member order)) ≡ new_member order = omega (arith, f) in same)

-- ---- what a group in memory keeps
abbrev pub IsKept : List Event → ℕ → List ℕ → ℕ → Type 0
IsKept events version members last =
    (last_view events ≡ (version, members)) × (last_member events ≡ last) × (last ≤ 9 + length events)

pub start_keeps : (events : List Event) (members : List ℕ) (last : ℕ) → last ≤ 9 → events ≡ View 1 (up_to last) ∷ [] → members ≡ up_to last
    → IsKept events 1 members last
start_keeps events members last few is same = (
  ap last_view is ∙ ap (λ k. (1, k)) (sym same),
  ap last_member is ∙ (let e = greatest_to last in let same : max 0 (greatest_member (up_to last)) ≡ last = omega (arith, e) in same),
  omega (arith, few),
)

view_behind : (events : List Event) (version : ℕ) (members : List ℕ) → last_view (events ++ View version members ∷ []) ≡ (version, members)
view_behind events version members = fold-append newer_view (0, []) events (View version members ∷ [])

longer : (events : List Event) (e : Event) → length (events ++ e ∷ []) ≡ length events + 1
longer events e = length-append events (e ∷ [])

pub left_keeps : (events now : List Event) (member version : ℕ) (members others : List ℕ) (last : ℕ) → IsKept events version members last
    → others ≡ all_but member members → now ≡ events ++ View version others ∷ [] → IsKept now version others last
left_keeps events now member version members others last kept are is =
    let same : now ≡ events ++ view_without events member ∷ [] =
    is ∙ ap (λ k. events ++ View version k ∷ []) are ∙ ap (λ (v : ℕ × List ℕ). events ++ View v.0 (all_but member v.1) ∷ []) (sym kept.0) in (
      ap last_view is ∙ view_behind events version others,
      ap last_member same ∙ last_left events member ∙ kept.1,
      (let e = ap length is ∙ longer events (View version others) in omega (arith, e, kept.2)),
    )

pub join_keeps : (events now : List Event) (version : ℕ) (members more : List ℕ) (last : ℕ) → IsKept events version members last
    → more ≡ members ++ (last + 1) ∷ [] → now ≡ events ++ View version more ∷ [] → IsKept now version more (last + 1)
join_keeps events now version members more last kept are is =
    let same : now ≡ events ++ view_with events (new_member events) ∷ [] =
    is ∙ ap (λ k. events ++ View version k ∷ []) are
    ∙ ap (λ (v : ℕ × List ℕ). events ++ View v.0 (v.1 ++ (last + 1) ∷ []) ∷ []) (sym kept.0)
    ∙ ap (λ k. events ++ view_with events (k + 1) ∷ []) (sym kept.1) in (
      ap last_view is ∙ view_behind events version more,
      ap last_member same ∙ last_joined events ∙ ap (λ k. k + 1) kept.1,
      (let e = ap length is ∙ longer events (View version more) in omega (arith, e, kept.2)),
    )
