-- The greatest member of the views of an order: it grows with the order, no view has a member above
-- it, and messages do not change it.
use Rattle.std.proofs.Common.{◌≡◌, ℕ, ◌+◌, ◌≤◌, ◌<◌, Bool, true, false, cond, List, [], ◌∷◌, ◌++◌, refl, ap, ◌∙◌, arith}
use Rattle.std.specs.Prelude.{◌==◌, ◌||◌, not, max, fold, map}
use Rattle.std.specs.List.{AllByRecursion}
use Rattle.std.proofs.lemmas.Grind.{fold-append}
use Rattle.order_event.specs.declared.event.Event.{Event}
use Rattle.order_event.specs.declared.event.Event.TheVariants as event
use Rattle.order_event.specs.declared.event.Message.{Message}
use Rattle.order_event.specs.declared.event.Message.TheVariants as message
use Rattle.group_order.specs.Order.{event_of, start_order, up_to, newer_view, last_view, all_but, view_without, greatest_member, later_member, last_member, new_member, view_with}
use Rattle.node_laws.specs.Views.{ViewLacks}
use Rattle.node_laws.proofs.SetLists.{unequal, all_push, all_each}
use Rattle.node_laws.proofs.ViewLists.{is_among, up_to_below}

-- ---- the greatest of some members
greatest_least : (k : ℕ) (ms : List ℕ) → k ≤ fold max k ms
greatest_least k [] = omega arith
greatest_least k (m ∷ ms) = omega (arith, greatest_least (max k m) ms)

greatest_from : (k b : ℕ) (ms : List ℕ) → k ≤ b → AllByRecursion (λ m. m ≤ b) ms → fold max k ms ≤ b
greatest_from k b [] low all = low
greatest_from k b (m ∷ ms) low all =
    greatest_from (max k m) b ms (omega (arith, low, all.0)) all.1

greatest_each : (k : ℕ) (ms : List ℕ) → AllByRecursion (λ m. m ≤ fold max k ms) ms
greatest_each k [] = tt
greatest_each k (m ∷ ms) =
    (omega (arith, greatest_least (max k m) ms), greatest_each (max k m) ms)

pub greatest_bound : (b : ℕ) (ms : List ℕ) → AllByRecursion (λ m. m ≤ b) ms → greatest_member ms ≤ b
greatest_bound b ms all = greatest_from 0 b ms (omega arith) all

pub greatest_all : (b : ℕ) (ms : List ℕ) → greatest_member ms ≤ b → AllByRecursion (λ m. m ≤ b) ms
greatest_all b ms below =
    all_each (λ m. m ≤ greatest_member ms) (λ m. m ≤ b) (λ m h. omega (arith, h, below)) ms
    (greatest_each 0 ms)

pub greatest_last : (ms : List ℕ) (m : ℕ) → m ≤ greatest_member (ms ++ m ∷ [])
greatest_last ms m =
    let is = fold-append max 0 ms (m ∷ []) in omega (arith, is)

but_all : (P : ℕ → Type 0) (gone : ℕ) (ms : List ℕ) → AllByRecursion P ms
    → AllByRecursion P (all_but gone ms)
but_all P gone [] all = tt
but_all P gone (m ∷ ms) all = by (m == gone) (but_all P gone ms all.1)
  where
    by : (b : Bool) → AllByRecursion P (all_but gone ms)
        → AllByRecursion P (cond (not b) (m ∷ all_but gone ms) (all_but gone ms))
    by true rest = rest
    by false rest = (all.0, rest)

pub among_not : (b member : ℕ) (ms : List ℕ) → b < member → AllByRecursion (λ m. m ≤ b) ms
    → is_among member ms ≡ false
among_not b member [] above all = refl
among_not b member (m ∷ ms) above all =
    ap (λ o. o || is_among member ms)
    (unequal m member (λ same. omega (arith, same, above, all.0)))
    ∙ among_not b member ms above all.1

-- ---- the greatest of an order
later_least : (k : ℕ) (events : List Event) → k ≤ fold later_member k events
later_least k [] = omega arith
later_least k (event.Write sender body ∷ events) = later_least k events
later_least k (event.View version ms ∷ events) =
    omega (arith, later_least (max k (greatest_member ms)) events)
later_least k (event.Report sender number ∷ events) = later_least k events

pub last-grows : (order more : List Event) → last_member order ≤ last_member (order ++ more)
last-grows order more =
    let is = fold-append later_member 0 order more in
    omega (arith, is, later_least (last_member order) more)

sent_same : (k member : ℕ) (ms : List Message) → fold later_member k (map (event_of member) ms) ≡ k
sent_same k member [] = refl
sent_same k member (message.Write body ∷ ms) = sent_same k member ms
sent_same k member (message.Report number ∷ ms) = sent_same k member ms

pub last-sent : (order : List Event) (member : ℕ) (ms : List Message)
    → last_member (order ++ map (event_of member) ms) ≡ last_member order
last-sent order member ms =
    fold-append later_member 0 order (map (event_of member) ms)
    ∙ sent_same (last_member order) member ms

pub last-viewed : (order : List Event) (version : ℕ) (ms : List ℕ)
    → last_member (order ++ event.View version ms ∷ [])
    ≡ max (last_member order) (greatest_member ms)
last-viewed order version ms = fold-append later_member 0 order (event.View version ms ∷ [])

-- the members of the last view are within it
within_from : (last : ℕ × List ℕ) (k : ℕ) (events : List Event) → greatest_member last.1 ≤ k
    → greatest_member (fold newer_view last events).1 ≤ fold later_member k events
within_from last k [] below = below
within_from last k (event.Write sender body ∷ events) below = within_from last k events below
within_from last k (event.View version ms ∷ events) below =
    within_from (version, ms) (max k (greatest_member ms)) events (omega arith)
within_from last k (event.Report sender number ∷ events) below = within_from last k events below

pub last_within : (order : List Event)
    → AllByRecursion (λ m. m ≤ last_member order) (last_view order).1
last_within order =
    greatest_all (last_member order) (last_view order).1 (within_from (0, []) 0 order (omega arith))

-- so it stays where a member leaves
pub last-without : (order : List Event) (member : ℕ)
    → last_member (order ++ view_without order member ∷ []) ≡ last_member order
last-without order member =
    let ms = all_but member (last_view order).1 in
    let below : greatest_member ms ≤ last_member order =
    greatest_bound (last_member order) ms
    (but_all (λ m. m ≤ last_member order) member (last_view order).1 (last_within order)) in
    omega (arith, last-viewed order (last_view order).0 ms, below)

-- and a new one is the next
pub last-with : (order : List Event)
    → last_member (order ++ view_with order (new_member order) ∷ []) ≡ new_member order
last-with order =
    let ms = (last_view order).1 ++ new_member order ∷ [] in
    let below : greatest_member ms ≤ new_member order =
    greatest_bound (new_member order) ms
    (all_push (λ m. m ≤ new_member order) (last_view order).1 (new_member order)
    (all_each (λ m. m ≤ last_member order) (λ m. m ≤ new_member order) (λ m h. omega (arith, h))
    (last_view order).1 (last_within order)) (omega arith)) in
    omega (
      arith,
      last-viewed order (last_view order).0 ms,
      below,
      greatest_last (last_view order).1 (new_member order),
    )

-- no view has a member above it
lacks_from : (k member : ℕ) (events : List Event) → fold later_member k events < member
    → AllByRecursion (ViewLacks member) events
lacks_from k member [] above = tt
lacks_from k member (event.Write sender body ∷ events) above =
    (tt, lacks_from k member events above)
lacks_from k member (event.View version ms ∷ events) above =
    let low = later_least (max k (greatest_member ms)) events in (
      among_not (greatest_member ms) member ms (omega (arith, low, above))
          (greatest_all (greatest_member ms) ms (omega arith)),
      lacks_from (max k (greatest_member ms)) member events above,
    )
lacks_from k member (event.Report sender number ∷ events) above =
    (tt, lacks_from k member events above)

pub none_views : (order : List Event) (member : ℕ) → last_member order < member
    → AllByRecursion (ViewLacks member) order
none_views order member above = lacks_from 0 member order above

-- ---- the start
up_to_within : (nodes : ℕ) → AllByRecursion (λ m. m ≤ nodes) (up_to nodes)
up_to_within nodes =
    all_each (λ m. m < nodes + 1) (λ m. m ≤ nodes) (λ m h. omega (arith, h)) (up_to nodes)
    (up_to_below nodes (nodes + 1) (omega arith))

pub start_last : (nodes : ℕ) → last_member (start_order nodes) ≤ nodes
start_last nodes =
    let below = greatest_bound nodes (up_to nodes) (up_to_within nodes) in omega (arith, below)

pub start_each : (nodes : ℕ)
    → AllByRecursion (λ m. m ≤ last_member (start_order nodes)) (up_to nodes)
start_each nodes =
    greatest_all (last_member (start_order nodes)) (up_to nodes) (omega arith)
