-- All answers that the sessions of a node were told along its course are right over the order at
-- its end.
use Rattle.std.proofs.Common.{◌≡◌, ℕ, zero, suc, ◌+◌, ◌≤◌, ◌<◌, ◌^◌, Bool, false, List, [], ◌∷◌, length, Option, Some, None, refl, sym, subst, ◌∙◌, arith, true≢false}
use Rattle.std.specs.Prelude.{is_some}
use Rattle.std.specs.Ordering.{nat_cmp}
use Rattle.finite_map.specs.FiniteMap.{FiniteMap, empty, get, get-empty}
use Rattle.row_model.specs.declared.calls.Call.{Call}
use Rattle.row_model.specs.declared.calls.Reply.{Reply}
use Rattle.row_model.specs.declared.calls.Reply.TheVariants as reply
use Rattle.order_event.specs.declared.event.Event.{Event}
use Rattle.order_event.specs.declared.step.Act.TheVariants as act
use Rattle.group_order.specs.Order.{start_order}
use Rattle.client_trx.specs.Live.{Live}
use Rattle.node_meaning.specs.Node.{ModelNode, start_node}
use Rattle.node_meaning.specs.Client.{asked, told_first, client}
use Rattle.node_meaning.proofs.EntryLaws.{some_not_none}
use Rattle.course_laws.specs.Courses.{Course, Happens, Does, next, course, Fits, AllFit, start_course}
use Rattle.course_laws.proofs.CourseEnds.{course_longer, start_course_kept, is_numbered}
use Rattle.answer_laws.specs.Answers.{Asker, asker_of, asked_by, told, IsBare, IsRight, IsRightTo, AreRight, AnswersAreRight}
use Rattle.answer_laws.proofs.Pasts.{Pasts}
use Rattle.answer_laws.proofs.Claims.{Claim}
use Rattle.answer_laws.proofs.Ending.{IsWithin, claim_right}
use Rattle.answer_laws.proofs.ClientSteps.{Answered, Bare, Claims, asked_told}
use Rattle.answer_laws.proofs.Former.{Claimed, Own, Old, before_right}
use Rattle.answer_laws.proofs.Holding.{range}
use Rattle.answer_laws.proofs.RightAnswers.{RightSoFar, moved_claim, next_right}

abbrev Askers : Type 0
Askers = FiniteMap nat_cmp Asker

bare_right : (order : List Event) (p : ℕ) (a : Asker) (waited : Bool) (r : Reply)
    → IsBare waited r → IsRight order p a waited r
bare_right order p a waited (reply.Committed n) bare = absurd bare
bare_right order p a waited (reply.DeadlockCert v) bare = absurd bare
bare_right order p a waited (reply.DeadlockBf v) bare = absurd bare
bare_right order p a waited reply.RolledBack bare = absurd bare
bare_right order p a waited reply.Disconnected bare = λ has. absurd (true≢false (sym has ∙ bare))
bare_right order p a waited _ bare = tt

bare_to : (order : List Event) (p : ℕ) (o : Option Asker) (waited : Bool) (r : Reply)
    → IsBare waited r → IsRightTo order p o waited r
bare_to order p None waited r bare = bare
bare_to order p (Some a) waited r bare = bare_right order p a waited r bare

-- what a call is told: nothing of a transaction, or a claim of the session's
pub data Says (former : List ℕ) (order : List Event) (m : ModelNode) (p : ℕ) (o : Option Asker)
    (waited : Bool) (r : Reply) : Type 0 where
  Nothing : IsBare waited r → Says former order m p o waited r
  Something : (a : Asker) → o ≡ Some a → Claimed former order m a r → IsWithin p r
      → Says former order m p o waited r

-- a claim that waits is not above what is committed
within_of : (order : List Event) (n : ModelNode) (a : Asker) (r : Reply) → Claim order n a r
    → IsWithin n.at.committed r
within_of order n a (reply.Committed zero) h = omega arith
within_of order n a (reply.Committed (suc k)) h = h.within
within_of order n a _ h = tt

within_up : (p q : ℕ) (r : Reply) → p ≤ q → IsWithin p r → IsWithin q r
within_up p q (reply.Committed k) up h = omega (arith, up, h)
within_up p q _ up h = tt

claimed_within : (former : List ℕ) (order : List Event) (n : ModelNode) (a : Asker) (r : Reply)
    → Claimed former order n a r → IsWithin n.at.committed r
claimed_within former order n a r (Own h) = within_of order n a r h
claimed_within former order n a r (Old h) =
    within_up h.old.at.committed n.at.committed r h.committed (within_of order h.old a r h.claim)

module _ (most : ℕ) (few : most ≤ 2 ^ 63) (c : Course) (askers : Askers)
    (h : RightSoFar most c askers) (s : ℕ) (call : Call) where
  abbrev x : Happens
  x = Does (act.Client s call)

  abbrev after : ModelNode
  after = (next c x).node

  module _ (fits : Fits c x) (short : length c.order ≤ 2 ^ 63) where
    answered : (o : Option Live) → get c.node.live s ≡ o → (m : ModelNode) (r : Reply)
        → Answered c.order c.node m o r
        → Says c.former c.order m c.node.at.committed (get askers s) false r
    answered o there m r (Bare bare) = Nothing bare
    answered o there m r (Claims t is claim within) =
        Something (asker_of t) (h.waits.asked s t (there ∙ is)) (Own claim) within

    abbrev otherwise : Reply × ModelNode
    otherwise = asked c.order c.node s (get c.node.live s) call

    first_says : (o : Option Reply) → get c.node.waiting s ≡ o
        → (told_first c.node s o otherwise).1 ≡ after
        → Says c.former c.order after c.node.at.committed (get askers s) (is_some o)
        (told_first c.node s o otherwise).0
    first_says (Some r) there is =
        let w = h.waits.claims s r there in
        Something w.0 w.1 (moved_claim most few c askers h x fits short w.0 r w.2)
        (claimed_within c.former c.order c.node w.0 r w.2)
    first_says None there is =
        let r = range most few c h.kept short in
        subst (λ m. Says c.former c.order m c.node.at.committed (get askers s) false otherwise.0)
        is
        (answered (get c.node.live s) refl otherwise.1 otherwise.0
        (asked_told c.order c.node h.kept.kept.follows.facts h.past s r (get c.node.live s) call
        refl).0)

    pub call_says : Says c.former c.order after c.node.at.committed (get askers s)
        (is_some (get c.node.waiting s)) (client c.order c.node s call).0
    unfolding client
    call_says = first_says (get c.node.waiting s) refl refl

-- ---- a claim is kept to the end, and then right
claimed_right : (most : ℕ) (c : Course) (askers : Askers) → RightSoFar most c askers
    → (a : Asker) (p : ℕ) (waited : Bool) (r : Reply) → Claimed c.former c.order c.node a r
    → IsWithin p r → IsRight c.order p a waited r
claimed_right most c askers h a p waited r (Own claim) within =
    claim_right c.order c.node h.kept.kept.follows.facts h.past a p waited r within claim
claimed_right most c askers h a p waited r (Old claim) within =
    before_right c.former c.order a r c.node.at.committed p waited within claim

at_end : (most : ℕ) (c : Course) (askers : Askers) (happens : List Happens)
    → most + length happens ≤ 2 ^ 63 → AllFit c happens
    → length (course c happens).order ≤ 2 ^ 63 → RightSoFar most c askers
    → (a : Asker) (p : ℕ) (waited : Bool) (r : Reply) → Claimed c.former c.order c.node a r
    → IsWithin p r → IsRight (course c happens).order p a waited r
at_end most c askers [] few fits short h a p waited r claim within =
    claimed_right most c askers h a p waited r claim within
at_end most c askers (x ∷ happens) few fits short h a p waited r claim within =
    let d = next c x in
    let room : length d.order ≤ 2 ^ 63 = omega (arith, short, course_longer d happens) in
    at_end (most + 1) d (asked_by d.node.live.entries askers) happens (omega (arith, few)) fits.1
    short (next_right most (omega (arith, few)) c askers h x fits.0 room) a p waited r
    (moved_claim most (omega (arith, few)) c askers h x fits.0 room a r claim) within

pub says_right : (most : ℕ) (c : Course) (askers : Askers) (happens : List Happens)
    → most + length happens ≤ 2 ^ 63 → AllFit c happens
    → length (course c happens).order ≤ 2 ^ 63 → RightSoFar most c askers
    → (p : ℕ) (o : Option Asker) (waited : Bool) (r : Reply)
    → Says c.former c.order c.node p o waited r
    → IsRightTo (course c happens).order p o waited r
says_right most c askers happens few fits short h p o waited r (Nothing bare) =
    bare_to (course c happens).order p o waited r bare
says_right most c askers happens few fits short h p o waited r (Something a is claim within) =
    subst (λ q. IsRightTo (course c happens).order p q waited r) (sym is)
    (at_end most c askers happens few fits short h a p waited r claim within)

-- what was told at once, and then the rest
module _ (most : ℕ) (c : Course) (askers : Askers) (happens : List Happens)
    (few : most + suc (length happens) ≤ 2 ^ 63) (h : RightSoFar most c askers) where
  abbrev Rest : Happens → Type 0
  Rest x = AreRight (course (next c x) happens).order
      (told (next c x) (asked_by (next c x).node.live.entries askers) happens)

  step_right : (x : Happens) → AllFit c (x ∷ happens)
      → length (course (next c x) happens).order ≤ 2 ^ 63 → length (next c x).order ≤ 2 ^ 63
      → RightSoFar (most + 1) (next c x) (asked_by (next c x).node.live.entries askers)
      → Rest x → AreRight (course c (x ∷ happens)).order (told c askers (x ∷ happens))
  step_right (Does (act.Client s call)) fits short room right rest = (
    says_right (most + 1) (next c (Does (act.Client s call)))
        (asked_by (next c (Does (act.Client s call))).node.live.entries askers) happens
        (omega (arith, few)) fits.1 short right c.node.at.committed (get askers s)
        (is_some (get c.node.waiting s)) (client c.order c.node s call).0
        (call_says most (omega (arith, few)) c askers h s call fits.0 room),
    rest,
  )
  step_right _ fits short room right rest = rest

all_right : (most : ℕ) (c : Course) (askers : Askers) (happens : List Happens)
    → most + length happens ≤ 2 ^ 63 → AllFit c happens
    → length (course c happens).order ≤ 2 ^ 63 → RightSoFar most c askers
    → AreRight (course c happens).order (told c askers happens)
all_right most c askers [] few fits short h = tt
all_right most c askers (x ∷ happens) few fits short h =
    let room : length (next c x).order ≤ 2 ^ 63 =
    omega (arith, short, course_longer (next c x) happens) in
    let right = next_right most (omega (arith, few)) c askers h x fits.0 room in
    step_right most c askers happens few h x fits short room right
    (all_right (most + 1) (next c x) (asked_by (next c x).node.live.entries askers) happens
    (omega (arith, few)) fits.1 short right)

-- ---- the start
start_past : (nodes gcache member : ℕ) (id : List ℕ)
    → Pasts (start_order nodes) (start_node gcache id member)
start_past nodes gcache member id = record {
  fresh = λ b above. refl;
  once = λ b. omega arith;
  each = λ s t there. absurd (some_not_none t _ there (get-empty nat_cmp s));
  idle = λ s r there. absurd (some_not_none r _ there (get-empty nat_cmp s));
}

pub start_right : (nodes gcache member : ℕ) (id : List ℕ) → 1 ≤ member → member ≤ nodes
    → member < 2 ^ 32 → RightSoFar 1 (start_course nodes gcache id member) empty
start_right nodes gcache member id above below small = record {
  kept = start_course_kept nodes gcache member id (is_numbered nodes member above below) small;
  past = start_past nodes gcache member id;
  waits = record {
    asked = λ s t there. absurd (some_not_none t _ there (get-empty nat_cmp s));
    claims = λ s r there. absurd (some_not_none r _ there (get-empty nat_cmp s));
  };
}

-- over the order at the end of every course from a start all answers are right
pub answers_are_right : AnswersAreRight
answers_are_right nodes gcache member id happens above below small fits few short =
    all_right 1 (start_course nodes gcache id member) empty happens (omega (arith, few)) fits
    short (start_right nodes gcache member id above below small)
