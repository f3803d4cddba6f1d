-- The order of a cluster as events come.
use Rattle.std.proofs.lemmas.Bool.{cond_both}
use Rattle.std.proofs.Common.{◌≡◌, ℕ, zero, suc, ◌+◌, ◌<◌, ◌≤◌, ◌^◌, Bool, List, [], ◌∷◌, ◌++◌, length, fold, ap, subst, arith, length-append}
use Rattle.std.specs.Prelude.{slice_get, not, ◌==◌, Some}
use Rattle.std.specs.List.{AllByRecursion, filter}
use Rattle.std.proofs.lemmas.Grind.{fold-append}
use Rattle.std.proofs.lemmas.Option.{same_Some}
use Rattle.order_event.specs.declared.event.Event.{Event}
use Rattle.order_event.specs.declared.event.Event.TheVariants as event
use Rattle.order_event.specs.declared.event.Message.{Message}
use Rattle.order_event.specs.declared.event.Message.TheVariants as message
use Rattle.order_event.specs.Spelling.{HasFewMembers}
use Rattle.group_order.specs.Order.{event_of, start_order, up_to, newer_view, last_view, all_but, view_without, view_with, new_member}
use Rattle.group_order.proofs.Members.{last_behind, last_left, last_joined, greatest_to}
use Rattle.state_snapshot.specs.Orders.{OrderFits}
use Rattle.node_laws.proofs.ClusterLaws.{length-up_to}
use Rattle.cluster_core.specs.Orders.{EventFits, MessageFits, OrderIsKept}

-- ---- lists
pub all_append : {A : Type 0} (P : A → Type 0) (xs ys : List A) → AllByRecursion P xs → AllByRecursion P ys → AllByRecursion P (xs ++ ys)
all_append P [] ys here there = there
all_append P (x ∷ xs) ys here there = (here.0, all_append P xs ys here.1 there)

pub all_at : {A : Type 0} (P : A → Type 0) (xs : List A) (i : ℕ) (x : A) → AllByRecursion P xs → slice_get xs i ≡ Some x → P x
all_at P [] i x all there = absurd cc
all_at P (y ∷ ys) zero x all there = subst P (same_Some y x there) all.0
all_at P (y ∷ ys) (suc i) x all there = all_at P ys i x all.1 there

pub all_each : {A : Type 0} (P Q : A → Type 0) → ((x : A) → P x → Q x) → (xs : List A) → AllByRecursion P xs → AllByRecursion Q xs
all_each P Q each [] all = tt
all_each P Q each (x ∷ xs) all = (each x all.0, all_each P Q each xs all.1)

-- ---- what each event says
pub few_of : (e : Event) → EventFits e → HasFewMembers e
few_of (event.Write member body) fits = tt
few_of (event.View version members) fits = fits.2
few_of (event.Report member number) fits = tt

pub order_fits : (order : List Event) → OrderIsKept order → OrderFits order
order_fits order kept = record {
  views = λ k version members there. (all_at EventFits order k (event.View version members) kept.fits there).2;
  versions = λ k version members there. (all_at EventFits order k (event.View version members) kept.fits there).0;
  members = λ k version members there. (all_at EventFits order k (event.View version members) kept.fits there).1;
  bodies = λ k member body there. all_at EventFits order k (event.Write member body) kept.fits there;
}

pub all_few : (order : List Event) → OrderIsKept order → AllByRecursion HasFewMembers order
all_few order kept = all_each EventFits HasFewMembers few_of order kept.fits

-- ---- the last view
abbrev ViewFits : ℕ × List ℕ → Type 0
ViewFits view = (view.0 < 2 ^ 32) × AllByRecursion (λ member. member < 2 ^ 32) view.1

view_fits : (order : List Event) (view : ℕ × List ℕ) → ViewFits view → AllByRecursion EventFits order → ViewFits (fold newer_view view order)
view_fits [] view fits all = fits
view_fits (event.Write member body ∷ order) view fits all = view_fits order view fits all.1
view_fits (event.View version members ∷ order) view fits all = view_fits order (version, members) (all.0.0, all.0.1) all.1
view_fits (event.Report member number ∷ order) view fits all = view_fits order view fits all.1

last_fits : (order : List Event) → AllByRecursion EventFits order → ViewFits (last_view order)
last_fits order all = view_fits order (0, []) (omega arith, tt) all

view_behind : (order : List Event) (e : Event) → last_view (order ++ e ∷ []) ≡ newer_view (last_view order) e
view_behind order e = fold-append newer_view (0, []) order (e ∷ [])

longer : (order : List Event) (e : Event) → length (order ++ e ∷ []) ≡ length order + 1
longer order e = length-append order (e ∷ [])

-- ---- a message
pub message_fits : (member : ℕ) (m : Message) → MessageFits m → EventFits (event_of member m)
message_fits member (message.Write body) fits = fits
message_fits member (message.Report number) fits = tt

pub sent_kept : (order : List Event) (member : ℕ) (m : Message) → EventFits (event_of member m) → OrderIsKept order
    → OrderIsKept (order ++ event_of member m ∷ [])
sent_kept order member (message.Write body) fits kept =
    let e = event.Write member body in
    record {
      fits = all_append EventFits order (e ∷ []) kept.fits (fits, tt);
      members = (let a = ap (λ (v : ℕ × List ℕ). length v.1) (view_behind order e) in omega (arith, a, longer order e, kept.members));
      last = omega (arith, last_behind order e, longer order e, kept.last);
    }
sent_kept order member (message.Report number) fits kept =
    let e = event.Report member number in
    record {
      fits = all_append EventFits order (e ∷ []) kept.fits (fits, tt);
      members = (let a = ap (λ (v : ℕ × List ℕ). length v.1) (view_behind order e) in omega (arith, a, longer order e, kept.members));
      last = omega (arith, last_behind order e, longer order e, kept.last);
    }

-- ---- a view with one member less
not_more : (test : ℕ → Bool) (xs : List ℕ) → length (filter test xs) ≤ length xs
not_more test [] = omega arith
not_more test (x ∷ xs) = grind (arith, not_more test xs)

all_filter : (P : ℕ → Type 0) (test : ℕ → Bool) (xs : List ℕ) → AllByRecursion P xs → AllByRecursion P (filter test xs)
all_filter P test [] all = tt
all_filter P test (x ∷ xs) all =
    let rest = all_filter P test xs all.1 in
    cond_both (test x) (x ∷ filter test xs) (filter test xs) (AllByRecursion P) (λ _. (all.0, rest))
    (λ _. rest)

pub left_kept : (order : List Event) (member : ℕ) → length order ≤ 500_000 → OrderIsKept order → OrderIsKept (order ++ view_without order member ∷ [])
left_kept order member short kept =
    let view = view_without order member in
    let was = last_fits order kept.fits in
    let fewer : length (all_but member (last_view order).1) ≤ length (last_view order).1 = not_more (λ other. not (other == member)) (last_view order).1 in
    record {
      fits = all_append EventFits order (view ∷ []) kept.fits
          ((was.0, all_filter (λ m. m < 2 ^ 32) (λ other. not (other == member)) (last_view order).1 was.1, omega (arith, fewer, kept.members, short)), tt);
      members = (let a = ap (λ (v : ℕ × List ℕ). length v.1) (view_behind order view) in omega (arith, a, fewer, longer order view, kept.members));
      last = omega (arith, last_left order member, longer order view, kept.last);
    }

-- ---- a view with one member more
pub joined_kept : (order : List Event) → length order ≤ 500_000 → OrderIsKept order
    → OrderIsKept (order ++ view_with order (new_member order) ∷ [])
joined_kept order short kept =
    let view = view_with order (new_member order) in
    let was = last_fits order kept.fits in
    let one : length ((last_view order).1 ++ new_member order ∷ []) ≡ length (last_view order).1 + 1 =
    length-append (last_view order).1 (new_member order ∷ []) in
    record {
      fits = all_append EventFits order (view ∷ []) kept.fits (
        (
          was.0,
          all_append (λ m. m < 2 ^ 32) (last_view order).1 (new_member order ∷ []) was.1 (omega (arith, kept.last, short), tt),
          omega (arith, one, kept.members, short),
        ),
        tt,
      );
      members = (let a = ap (λ (v : ℕ × List ℕ). length v.1) (view_behind order view) in omega (arith, a, one, longer order view, kept.members));
      last = omega (arith, last_joined order, longer order view, kept.last);
    }

-- ---- the start
small_members : (nodes : ℕ) → nodes ≤ 9 → AllByRecursion (λ member. member < 2 ^ 32) (up_to nodes)
small_members zero small = tt
small_members (suc n) small =
    all_append (λ member. member < 2 ^ 32) (up_to n) (suc n ∷ []) (small_members n (omega (arith, small))) (omega (arith, small), tt)

pub start_kept : (nodes : ℕ) → nodes ≤ 9 → OrderIsKept (start_order nodes)
start_kept nodes small = record {
  fits = ((omega arith, small_members nodes small, omega (arith, length-up_to nodes, small)), tt);
  members = omega (arith, length-up_to nodes, small);
  last = (let e = greatest_to nodes in omega (arith, e, small));
}
