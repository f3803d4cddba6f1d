-- Answers of transactions of members that a node had before: each stands with the node as it was
-- when it joined again, of whose member nothing is ordered any more.
use Rattle.std.proofs.Common.{◌≡◌, ℕ, ◌≤◌, ◌<◌, Bool, true, List, [], ◌∷◌, ◌++◌, None, refl, ap, sym, subst, arith, true≢false, eq-eqb, inl, inr}
use Rattle.std.specs.Prelude.{◌==◌, ◌||◌, map}
use Rattle.std.specs.List.{AllByRecursion, list_any}
use Rattle.std.specs.Ordering.{nat_cmp}
use Rattle.std.proofs.lemmas.Bool.{or_cases, or_right}
use Rattle.finite_map.specs.FiniteMap.{FiniteMap}
use Rattle.order_event.specs.declared.event.Event.{Event}
use Rattle.order_event.specs.declared.event.Event.TheVariants as event
use Rattle.order_event.specs.declared.event.Message.{Message}
use Rattle.group_order.specs.Order.{event_of}
use Rattle.row_model.specs.declared.calls.Reply.{Reply}
use Rattle.client_trx.specs.Live.{Live}
use Rattle.node_meaning.specs.Node.{ModelNode}
use Rattle.node_meaning.specs.Facts.{Facts}
use Rattle.node_meaning.proofs.GrowFacts.{facts_grow}
use Rattle.node_laws.specs.InStep.{message_of}
use Rattle.node_laws.proofs.SetLists.{equal, unequal}
use Rattle.course_laws.specs.Courses.{IsOfOthers}
use Rattle.course_laws.proofs.Growing.{AreSilent, others_silent}
use Rattle.answer_laws.specs.Answers.{Asker, IsRight}
use Rattle.answer_laws.proofs.Pasts.{Pasts}
use Rattle.answer_laws.proofs.Claims.{ClaimOf, Claim}
use Rattle.answer_laws.proofs.Grown.{past_grown, claim_grown, silent_same}
use Rattle.answer_laws.proofs.Ending.{IsWithin, claim_right}

-- what an answer claims of a transaction of a former member, on a node that has committed so many
-- events: the node as it was with that member claims it, and nothing of it waits to be ordered
pub record Before (former : List ℕ) (order : List Event) (p : ℕ) (a : Asker) (r : Reply)
    : Type 0 where
  pub old : ModelNode
  pub had : list_any (λ k. k == old.at.member) former ≡ true
  pub facts : Facts order old
  pub past : Pasts order old
  pub none_waits : old.outbox ≡ []
  pub committed : old.at.committed ≤ p
  pub claim : Claim order old a r

-- what it claims of a transaction of the node's member, or of a former one
pub data ClaimedOf (former : List ℕ) (order : List Event) (member begin p : ℕ)
    (outbox : List Message) (live : FiniteMap nat_cmp Live) (a : Asker) (r : Reply)
    : Type 0 where
  Own : ClaimOf order member begin p outbox live a r
      → ClaimedOf former order member begin p outbox live a r
  Old : Before former order p a r → ClaimedOf former order member begin p outbox live a r

abbrev pub Claimed : List ℕ → List Event → ModelNode → Asker → Reply → Type 0
Claimed former order n a r =
    ClaimedOf former order n.at.member n.at.begin n.at.committed n.outbox n.live a r

-- ---- events of which none is a member's
-- another member's messages
other_message : (member other : ℕ) → (other ≡ member → ⊥) → (m : Message)
    → message_of member (event_of other m) ≡ None
other_message member other differs m = grind (arith, unequal other member differs)

pub other_silent : (member other : ℕ) → (other ≡ member → ⊥) → (front : List Message)
    → AreSilent member (map (event_of other) front)
other_silent member other differs [] = tt
other_silent member other differs (m ∷ front) =
    (other_message member other differs m, other_silent member other differs front)

-- none is a former member's
abbrev pub AllSilent : List ℕ → List Event → Type 0
AllSilent former events =
    (k : ℕ) → list_any (λ j. j == k) former ≡ true → AreSilent k events

-- so it is with what others order, where each former member has left, and with the messages of a
-- member that is none of them
abbrev pub AreApart : List ℕ → ℕ → Type 0
AreApart former member = (k : ℕ) → list_any (λ j. j == k) former ≡ true → member ≡ k → ⊥

pub all_apart : (former : List ℕ) (member : ℕ) → AllByRecursion (λ k. k < member) former
    → AreApart former member
all_apart [] member all k had here = absurd (true≢false (sym had))
all_apart (m ∷ former) member all k had here =
    elim (or_cases (m == k) (list_any (λ j. j == k) former) had) [
      | inl same ↦ let is = equal m k same in omega (arith, is, all.0, here)
      | inr later ↦ all_apart former member all.1 k later here
    ]

pub others_silent_all : (former : List ℕ) (events : List Event)
    → AllByRecursion (λ k. AllByRecursion (IsOfOthers k true) events) former
    → AllSilent former events
others_silent_all [] events all k had = absurd (true≢false (sym had))
others_silent_all (m ∷ former) events all k had =
    elim (or_cases (m == k) (list_any (λ j. j == k) former) had) [
      | inl same ↦
          subst (λ j. AreSilent j events) (equal m k same) (others_silent m true events all.0)
      | inr later ↦ others_silent_all former events all.1 k later
    ]

pub own_silent_all : (former : List ℕ) (member : ℕ) → AreApart former member
    → (front : List Message) → AllSilent former (map (event_of member) front)
own_silent_all former member apart front k had = other_silent k member (apart k had) front

pub view_silent_all : (former : List ℕ) (version : ℕ) (members : List ℕ)
    → AllSilent former (event.View version members ∷ [])
view_silent_all former version members k had = (refl, tt)

-- ---- what is kept
module _ (former : List ℕ) (order : List Event) (a : Asker) (r : Reply) where
  -- more is committed
  pub before_up : (p q : ℕ) → p ≤ q → Before former order p a r → Before former order q a r
  before_up p q up h = record {
    old = h.old;
    had = h.had;
    facts = h.facts;
    past = h.past;
    none_waits = h.none_waits;
    committed = omega (arith, h.committed, up);
    claim = h.claim;
  }

  -- the order grows by nothing of a former member
  pub before_grown : (p : ℕ) (more : List Event) → AllSilent former more
      → Before former order p a r → Before former (order ++ more) p a r
  before_grown p more silent h =
      let same = silent_same order h.old.at.member h.old.outbox more
      (silent h.old.at.member h.had) in
      record {
        old = h.old;
        had = h.had;
        facts = facts_grow order more h.old h.facts;
        past = past_grown order more h.old h.facts h.old.outbox same h.past;
        none_waits = h.none_waits;
        committed = h.committed;
        claim = claim_grown order more h.old h.facts h.old.outbox same a r h.claim;
      }

  -- the node has one more former member
  pub before_joined : (m p : ℕ) → Before former order p a r → Before (m ∷ former) order p a r
  before_joined m p h = record {
    old = h.old;
    had = or_right (m == h.old.at.member) _ h.had;
    facts = h.facts;
    past = h.past;
    none_waits = h.none_waits;
    committed = h.committed;
    claim = h.claim;
  }

  -- what was claimed of its own member is claimed of a former one
  pub now_before : (n : ModelNode) → Facts order n → Pasts order n → n.outbox ≡ []
      → Claimed former order n a r → Before (n.at.member ∷ former) order n.at.committed a r
  now_before n f past none (Own claim) = record {
    old = n;
    had = ap (λ b. b || list_any (λ k. k == n.at.member) former)
        (eq-eqb n.at.member n.at.member refl);
    facts = f;
    past = past;
    none_waits = none;
    committed = omega arith;
    claim = claim;
  }
  now_before n f past none (Old h) = before_joined n.at.member n.at.committed h

  -- and so it is right
  pub before_right : (p q : ℕ) (waited : Bool) → IsWithin q r → Before former order p a r
      → IsRight order q a waited r
  before_right p q waited within h =
      claim_right order h.old h.facts h.past a q waited r within h.claim
