-- Along a course the last view has the member exactly while its node has not left.
use Rattle.std.proofs.Common.{◌≡◌, ℕ, Bool, true, false, List, [], ◌∷◌, ◌++◌, refl, ap, sym, subst, ◌∙◌}
use Rattle.std.specs.Prelude.{◌==◌, ◌||◌, ◌&&◌, not, map, fold}
use Rattle.std.proofs.lemmas.Bool.{cond_both}
use Rattle.std.proofs.lemmas.List.Folds.{list_any-append}
use Rattle.std.specs.List.{AllByRecursion, list_any}
use Rattle.std.proofs.lemmas.List.Sums.{fold-append}
use Rattle.order_event.specs.declared.event.Event.{Event}
use Rattle.order_event.specs.declared.event.Event.TheVariants as event
use Rattle.order_event.specs.declared.event.Message.{Message}
use Rattle.order_event.specs.declared.step.Act.{Act}
use Rattle.order_event.specs.declared.step.Act.TheVariants as act
use Rattle.group_order.specs.Order.{event_of, newer_view, last_view, all_but, view_without, view_with, new_member}
use Rattle.node_meaning.specs.declared.progress.Phase.{Phase}
use Rattle.node_meaning.specs.declared.progress.Phase.TheVariants as phase
use Rattle.node_meaning.specs.Node.{ModelNode, is_left, is_joining}
use Rattle.node_meaning.specs.Steps.{first_sent, node_step, drained}
use Rattle.node_laws.proofs.Moves.{Reaches, with_ordered}
use Rattle.node_laws.proofs.Counts.{reach_grows}
use Rattle.node_laws.proofs.AdvanceMoves.{CanStep, CanDrain, step_moves, drained_moves}
use Rattle.node_laws.proofs.InStep.{phase_reached}
use Rattle.node_laws.proofs.Leaving.{left_at}
use Rattle.node_laws.proofs.NodeViews.{last_beside, last_added}
use Rattle.node_laws.proofs.ViewLists.{but_lacks, but_other, among_new}
use Rattle.course_laws.specs.Courses.{Course, Happens, Others, Does, Takes, Installs, first_event, does, next, IsOfOthers, Fits}
use Rattle.course_laws.specs.Laws.{IsViewed}

-- ---- members without one, and with one more
abbrev Has : ℕ → List ℕ → Bool
Has member members = list_any (λ k. k == member) members

-- the member is not among them
pub without_itself : (member : ℕ) (xs : List ℕ) → Has member (all_but member xs) ≡ false
without_itself member xs = but_lacks member xs

-- any other one is where it was
pub without_other : (member other : ℕ) (xs : List ℕ) → (other ≡ member → ⊥)
    → Has member (all_but other xs) ≡ Has member xs
without_other member other xs differs = but_other other member (λ same. differs (sym same)) xs

or_none : (b : Bool) → b || false ≡ b
or_none true = refl
or_none false = refl

pub any_last : (m k : ℕ) (xs : List ℕ) → list_any (λ j. j == m) (xs ++ k ∷ [])
    ≡ (list_any (λ j. j == m) xs || k == m)
any_last m k xs =
    list_any-append (λ j. j == m) xs (k ∷ []) ∙ ap (λ b. Has m xs || b) (or_none (k == m))

pub has_last : (m : ℕ) (xs : List ℕ) → Has m (xs ++ m ∷ []) ≡ true
has_last m xs = among_new m xs

-- ---- views behind the order
module _ (member : ℕ) (left : Bool) where
  newer_viewed : (last : ℕ × List ℕ) (e : Event) → IsOfOthers member left e
      → Has member last.1 ≡ not left → Has member (newer_view last e).1 ≡ not left
  newer_viewed last (event.Write sender body) of_others is = is
  newer_viewed last (event.View version members) of_others is = of_others
  newer_viewed last (event.Report sender number) of_others is = is

  all_viewed : (last : ℕ × List ℕ) (more : List Event)
      → AllByRecursion (IsOfOthers member left) more → Has member last.1 ≡ not left
      → Has member (fold newer_view last more).1 ≡ not left
  all_viewed last [] all is = is
  all_viewed last (e ∷ more) all is =
      all_viewed (newer_view last e) more all.1 (newer_viewed last e all.0 is)

  pub viewed_grown : (order more : List Event) → AllByRecursion (IsOfOthers member left) more
      → IsViewed order member left → IsViewed (order ++ more) member left
  viewed_grown order more all is =
      ap (λ (last : ℕ × List ℕ). Has member last.1) (fold-append newer_view (0, []) order more)
      ∙ all_viewed (last_view order) more all is

-- messages are no views
viewed_sent : (order : List Event) (member sender : ℕ) (ms : List Message) (left : Bool)
    → IsViewed order member left → IsViewed (order ++ map (event_of sender) ms) member left
viewed_sent order member sender ms left is =
    ap (λ (last : ℕ × List ℕ). Has member last.1) (last_beside order sender ms) ∙ is

-- a view without it is the last
viewed_left : (order : List Event) (member : ℕ)
    → IsViewed (order ++ view_without order member ∷ []) member true
viewed_left order member =
    ap (λ (last : ℕ × List ℕ). Has member last.1)
    (last_added order (last_view order).0 (all_but member (last_view order).1))
    ∙ but_lacks member (last_view order).1

-- ---- a course
-- where the node is the same one, and has left or not as before
abbrev Viewed : Course → Type 0
Viewed c = IsViewed c.order c.node.at.member (is_left c.node.at.phase)

row_viewed : (order : List Event) (given : Type 0) (n : ModelNode) (k : ℕ) (m : ModelNode)
    → Reaches order given true n k m → IsViewed order n.at.member (is_left n.at.phase)
    → IsViewed order m.at.member (is_left m.at.phase)
row_viewed order given n k m row is =
    rw ((reach_grows order given true n k m row).member, phase_reached order given true n k m row)
    is

first_viewed : (order : List Event) (n : ModelNode) (queue : List Message)
    → IsViewed order n.at.member (is_left n.at.phase)
    → IsViewed (order ++ first_event n queue) (first_sent n queue).at.member
    (is_left (first_sent n queue).at.phase)
first_viewed order n [] is = viewed_sent order n.at.member n.at.member [] (is_left n.at.phase) is
first_viewed order n (m ∷ ms) is =
    viewed_sent order n.at.member n.at.member (m ∷ []) (is_left n.at.phase) is

-- a view with a new one is the last
pub viewed_joined : (order : List Event) (member : ℕ)
    → IsViewed (order ++ view_with order member ∷ []) member false
viewed_joined order member =
    ap (λ (last : ℕ × List ℕ). Has member last.1)
    (last_added order (last_view order).0 ((last_view order).1 ++ member ∷ []))
    ∙ among_new member (last_view order).1

does_viewed : (c : Course) (a : Act) → Viewed c → Viewed (does c a)
does_viewed c act.Order is = first_viewed c.order c.node c.node.outbox is
does_viewed c act.Drain is =
    let order = c.order ++ map (event_of c.node.at.member) c.node.outbox in
    let sent = with_ordered c.node c.node.outbox [] in
    row_viewed order (CanDrain order sent) sent 0 (drained order sent)
    (drained_moves order (CanDrain order sent) sent (λ g. g))
    (viewed_sent c.order c.node.at.member c.node.at.member c.node.outbox
    (is_left c.node.at.phase) is)
does_viewed c act.Leave is =
    cond_both (is_left c.node.at.phase) _ _ Viewed (λ _. is) (λ _.
    rw (left_at c.node) (viewed_left c.order c.node.at.member))
does_viewed c (act.Join fresh) is =
    cond_both (is_left c.node.at.phase && c.node.at.taken == c.node.at.committed) _ _ Viewed
    (λ _. viewed_joined c.order (new_member c.order)) (λ _. is)
does_viewed c a is =
    row_viewed c.order (CanStep c.node a) c.node 1 (node_step c.order c.node a).1
    (step_moves c.order c.node a) is

not_left : (now : Phase) → is_joining now ≡ true → is_left now ≡ false
not_left phase.Left joining = cc
not_left phase.Joining joining = refl
not_left phase.Connected joining = cc

-- what happens keeps it
pub next_viewed : (c : Course) (x : Happens) → Fits c x
    → IsViewed c.order c.node.at.member (is_left c.node.at.phase)
    → IsViewed (next c x).order (next c x).node.at.member (is_left (next c x).node.at.phase)
next_viewed c (Others events) fits is =
    viewed_grown c.node.at.member (is_left c.node.at.phase) c.order events fits.0 is
next_viewed c (Does a) fits is = does_viewed c a is
next_viewed c (Takes last) fits is =
    subst (IsViewed c.order c.node.at.member) (not_left c.node.at.phase fits.0) is
next_viewed c (Installs number id) fits is =
    subst (IsViewed c.order c.node.at.member) (not_left c.node.at.phase fits.0) is
