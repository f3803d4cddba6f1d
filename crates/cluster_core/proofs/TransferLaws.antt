-- What a donor offers to a node that joins is what the model hands over.
use Rattle.std.proofs.Common.{◌≡◌, ℕ, zero, suc, ◌+◌, ◌-◌, ◌≤◌, Bool, true, false, cond, not, min, List, [], ◌∷◌, length, take, drop, Option, Some, None, Ok, refl, sym, ap, subst, ◌∙◌, arith, leb-true, eq-eqb, length-drop}
use Rattle.std.specs.Prelude.{nat_le, nat_lt, IsTrue}
use Rattle.std.specs.List.{AllByRecursion}
use Rattle.std.specs.Str.{bytes_eq}
use Rattle.std.proofs.lemmas.Bool.{and_parts, le-ltb}
use Rattle.std.proofs.lemmas.List.{length-take, drop-take}
use Rattle.std.proofs.lemmas.Slice.Eq.{bytes_eq-Decides}
use Rattle.order_event.specs.declared.event.Event.{Event}
use Rattle.order_event.specs.Spelling.{HasFewMembers}
use Rattle.order_event.specs.declared.step.Answer.{Answer}
use Rattle.order_event.specs.declared.step.Answer.TheVariants as answer
use Rattle.gcache_ring.specs.Held.{Ring, range_to, range_of}
use Rattle.state_transfer.specs.declared.transfer.Plan.{Plan}
use Rattle.state_transfer.specs.declared.transfer.Plan.TheVariants as plan
use Rattle.state_transfer.specs.Plan.{plan_of}
use Rattle.node_meaning.specs.Node.{ModelNode, is_connected}
use Rattle.node_meaning.specs.Facts.{own_body}
use Rattle.node_meaning.specs.Joining.{ring_of, received_events, received_snapshot, by_snapshot, by_plan, transfer_plan, transfer_from}
use Rattle.node_core.specs.declared.gift.Gift.{Gift}
use Rattle.node_core.specs.declared.gift.Gift.TheVariants as gift
use Rattle.node_core.specs.declared.node.NodeParts.{NodeParts}
use Rattle.node_core.specs.Giving.{Gives, gives_events, events_from, is_in}
use Rattle.node_core.specs.Stands.{plain_of}
use Rattle.cluster_core.specs.declared.transfer.Offer.{Offer}
use Rattle.cluster_core.specs.Steps.{hands_over}
use Rattle.cluster_core.specs.Transfers.{Awaits, BringsEvents, Brings, IsOffer, CanOffer}
use Rattle.cluster_core.proofs.OrderLaws.{all_few, order_fits}

-- ---- lists
all_take : {A : Type 0} (P : A → Type 0) (k : ℕ) (xs : List A) → AllByRecursion P xs → AllByRecursion P (take k xs)
all_take P zero xs all = tt
all_take P (suc k) [] all = tt
all_take P (suc k) (x ∷ xs) all = (all.0, all_take P k xs all.1)

all_drop : {A : Type 0} (P : A → Type 0) (k : ℕ) (xs : List A) → AllByRecursion P xs → AllByRecursion P (drop k xs)
all_drop P zero xs all = all
all_drop P (suc k) [] all = tt
all_drop P (suc k) (x ∷ xs) all = all_drop P k xs all.1

-- ---- the plan
plan_says : (same : Bool) (p : ℕ) (range : Option (ℕ × ℕ)) (from : ℕ)
    → plan_of same p range ≡ plan.Ist from
    → (from ≡ p + 1) × (same ≡ true) × (is_in range from ≡ true)
plan_says same p range from is = grind arith

in_range : (last : ℕ) (events : List Event) (from : ℕ) → is_in (range_to last events) from ≡ true → from ≤ last
in_range last [] from is = absurd cc
in_range last (e ∷ events) from is =
    leb-true from last (and_parts (nat_le (last - length (e ∷ events) + 1) from) _ is).1

-- ---- offers
pub handing : (order : List Event) (n : ModelNode) (offer : Offer) (told : Answer × ModelNode)
    (a : Answer) (after : ModelNode) (g : Gift) → told ≡ (a, after) → IsTrue (hands_over a)
    → (offer.answer ≡ a) × (offer.gift ≡ Some g) → Brings order n (Some g) after
    → IsOffer order n told offer
handing order n offer told a after g is hands says brings =
    subst (λ t. IsOffer order n t offer) (sym is)
    (record {
      answer = says.0;
      hands = λ some. hands;
      brings = subst (λ o. Brings order n o after) (sym says.1) brings;
    })

module _ (order : List Event) (n d : ModelNode) where
  abbrev by_view : Bool → Answer × ModelNode
  by_view b = cond b (answer.DonorBehind n.at.view d.at.taken, n) (by_plan n d (transfer_plan order n d))

  abbrev by_phase : Bool → Answer × ModelNode
  by_phase b = cond (not b) (answer.NoDonor, n) (by_view (nat_lt d.at.taken n.at.view))

  pub from_plan : is_connected d.at.phase ≡ true → (p : Plan) → n.at.view ≤ d.at.taken
      → p ≡ transfer_plan order n d → transfer_from order n (Some d) ≡ by_plan n d p
  from_plan connected p more is =
      ap by_phase connected ∙ ap by_view (le-ltb d.at.taken n.at.view more)
      ∙ ap (by_plan n d) (sym is)

  abbrev by_committed : Bool → Answer × ModelNode
  by_committed b =
      cond b (answer.DonorBehind n.at.view d.at.committed, n) (answer.Sst d.at.committed, received_snapshot d.at.committed d.id n)

  abbrev by_done : Bool → Answer × ModelNode
  by_done b = cond (not b) (answer.DonorBusy d.at.certified d.at.committed, n) (by_committed (nat_lt d.at.committed n.at.view))

  pub snapshot_there : d.at.certified ≡ d.at.committed → n.at.view ≤ d.at.committed
      → by_snapshot n d ≡ (answer.Sst d.at.committed, received_snapshot d.at.committed d.id n)
  snapshot_there same more =
      ap by_done (eq-eqb d.at.certified d.at.committed same)
      ∙ ap by_committed (le-ltb d.at.committed n.at.view more)

-- the plan is made of the same ids, the same number and the donor's ring
pub plan_is : (order : List Event) (n d : ModelNode) (same : Bool) (p : ℕ) (range : Option (ℕ × ℕ)) (one other : List ℕ) (ring : Ring)
    → same ≡ bytes_eq one other → one ≡ n.id → other ≡ d.id → p ≡ n.at.committed → range ≡ range_of ring → ring ≡ ring_of order d
    → plan_of same p range ≡ transfer_plan order n d
plan_is order n d same p range one other ring tested first second number held kept =
    ap (λ b. plan_of b p range) tested
    ∙ ap (λ i. plan_of (bytes_eq i other) p range) first ∙ ap (λ i. plan_of (bytes_eq n.id i) p range) second
    ∙ ap (λ k. plan_of (bytes_eq n.id d.id) k range) number
    ∙ ap (plan_of (bytes_eq n.id d.id) n.at.committed) (held ∙ ap range_of kept)

module _ (order : List Event) (n : ModelNode) (node : NodeParts) (can : CanOffer order node) where
  -- the order's state, as the donor has it
  pub brings_state : (g : Gift) → Gives order (plain_of node) 0 false (Ok g) → Brings order n (Some g) (received_snapshot node.at.committed node.id n)
  brings_state (gift.Ist events) is = let e = is.0 in absurd cc
  brings_state (gift.Sst bytes) is =
      let placed = can.stands.facts.in_order in record {
        number = node.at.committed;
        id = node.id;
        becomes = refl;
        state = record {
          within = omega (arith, placed.committed_fits, placed.certified_fits, placed.taken_fits);
          few = omega (arith, placed.committed_fits, placed.certified_fits, placed.taken_fits, can.short);
          fits = order_fits order can.kept;
          sized = is.2.sized;
          given = is.2.given;
          spelled = is.2.spelled;
        };
      }

  module _ (from : ℕ) (awaits : Awaits order n) (connected : is_connected node.at.phase ≡ true) (is : plan.Ist from ≡ transfer_plan order n (plain_of node)) where
    says : (from ≡ n.at.committed + 1) × (bytes_eq n.id node.id ≡ true) × (is_in (range_of (ring_of order (plain_of node))) from ≡ true)
    says = plan_says (bytes_eq n.id node.id) n.at.committed (range_of (ring_of order (plain_of node))) from (sym is)

    pub will_give : gives_events order (plain_of node) from true ≡ true
    will_give = says.2

    within : from ≤ node.at.taken
    within = in_range node.at.taken (ring_of order (plain_of node)).events from says.2

    taken_next : n.at.taken + 1 ≡ from
    taken_next = ap (λ k. k + 1) (sym awaits.rests.all_committed) ∙ sym says.0

    abbrev count : ℕ
    count = node.at.taken - n.at.taken

    all_of : n.at.taken + count ≡ node.at.taken
    all_of = omega (arith, within, taken_next)

    events_are : events_from order (plain_of node) from ≡ take count (drop n.at.taken order)
    events_are =
        ap (λ k. drop k (take node.at.taken order)) (let e : from - 1 ≡ n.at.taken = omega (arith, taken_next) in e)
        ∙ ap (λ k. drop n.at.taken (take k order)) (sym all_of)
        ∙ drop-take n.at.taken count order

    how_many : length (take count (drop n.at.taken order)) ≡ count
    how_many =
        let a = length-take count (drop n.at.taken order) in
        let b = length-drop n.at.taken order in
        a ∙ (let e : min count (length (drop n.at.taken order)) ≡ count = omega (arith, b, all_of, can.stands.facts.in_order.taken_fits) in e)

    brings_events : (events : List Event) → events ≡ take count (drop n.at.taken order) → BringsEvents order n events (received_events node.at.taken n)
    brings_events events are =
        let long : length events ≡ count = ap length are ∙ how_many in
        record {
          last = node.at.taken;
          becomes = refl;
          to = omega (arith, long, all_of);
          next = ap (λ k. take k (drop n.at.taken order)) long ∙ sym are;
          fits = record {
            few = omega (arith, long, all_of, can.stands.facts.in_order.taken_fits, can.short);
            members = subst (AllByRecursion HasFewMembers) (sym are)
                (all_take HasFewMembers count (drop n.at.taken order) (all_drop HasFewMembers n.at.taken order (all_few order can.kept)));
            others = subst (AllByRecursion (λ e. own_body n.at.member e ≡ None)) (sym are)
                (all_take (λ e. own_body n.at.member e ≡ None) count (drop n.at.taken order) awaits.others);
            given = λ nil. can.stands.serves.id connected
                (sym ((bytes_eq-Decides n.id node.id).0 says.1) ∙ nil);
          };
        }

    -- the events that the node misses, as far as the donor has taken them
    pub brings_next : (g : Gift) → Gives order (plain_of node) from true (Ok g) → Brings order n (Some g) (received_events node.at.taken n)
    brings_next (gift.Ist events) it = brings_events events (it.1 ∙ events_are)
    brings_next (gift.Sst bytes) it = let e = it.0 in let f = will_give in absurd cc
