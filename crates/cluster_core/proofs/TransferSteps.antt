-- What a transfer does to the seats of a cluster.
use Rattle.std.proofs.Common.{◌≡◌, ℕ, ◌+◌, ◌-◌, ◌≤◌, Bool, true, cond, List, length, set, get_or, ◌<◌, Some, None, refl, sym, ap, subst, ◌∙◌, arith}
use Rattle.std.specs.Prelude.{slice_get, is_some}
use Rattle.std.proofs.lemmas.Option.{same_Some, slice_get_past}
use Rattle.order_event.specs.declared.event.Event.{Event}
use Rattle.order_event.specs.declared.step.Act.{Act}
use Rattle.order_event.specs.declared.step.Act.TheVariants as act
use Rattle.order_event.specs.declared.step.Answer.{Answer}
use Rattle.order_event.specs.declared.step.Answer.TheVariants as answer
use Rattle.node_meaning.specs.Node.{ModelNode, is_joining}
use Rattle.node_meaning.specs.Joining.{transfer_from}
use Rattle.node_meaning.specs.Cluster.{ModelCluster, set_at, with_node, step_at}
use Rattle.node_core.specs.declared.answers.Place.{Place}
use Rattle.node_core.specs.declared.gift.Gift.{Gift}
use Rattle.node_core.specs.Stands.{plain_of}
use Rattle.cluster_core.specs.declared.seat.Seat.{Seat as SeatOf}
use Rattle.cluster_core.specs.declared.transfer.Offer.{Offer}
use Rattle.cluster_core.specs.Seated.{IsSeated, SeatUnchanged, seen}
use Rattle.cluster_core.specs.declared.fault.StepFault.TheVariants as fault
use Rattle.cluster_core.specs.Steps.{TransferWants, MayFailAt, FailedBy}
use Rattle.cluster_core.specs.Acts.{AreKept, cluster_of, nodes_of}
use Rattle.cluster_core.specs.Transfers.{IsAlone, Awaits, Brings, IsJoiner, IsOffer, OfferWants, CanOffer, CanTransfer, Receives, TakesGift, Transferred, NotTransferred}
use Rattle.cluster_core.proofs.OrderLaws.{all_at}
use Rattle.cluster_core.proofs.ActLaws.{item_there, length-nodes, set_at_same, set_nodes, at_nodes, kept_set, goes_same}

-- a seat's node is a donor
can_offer : {W : Type 0} (order : List Event) (seats : List (SeatOf W)) (at i : ℕ)
    (seat : SeatOf W) → slice_get seats i ≡ Some seat → CanTransfer order seats at → CanOffer order seat.node.parts
can_offer order seats at i seat there can = record {
  stands = (all_at (λ s. IsSeated order (seen s)) seats i seat can.kept.seated there).stands;
  kept = can.kept.order_kept;
  short = can.short;
}

module _ {W : Type 0} (order : List Event) (seats : List (SeatOf W)) (at donor : ℕ) (seat : SeatOf W) (there : slice_get seats at ≡ Some seat)
    (can : CanTransfer order seats at) where
  abbrev told : Answer × ModelNode
  told = transfer_from order (plain_of seat.node.parts) (slice_get (nodes_of seats) (donor - 1))

  node_there : slice_get (nodes_of seats) at ≡ Some (plain_of seat.node.parts)
  node_there = at_nodes seats at seat there

  pub is_seated : IsSeated order (seen seat)
  is_seated = all_at (λ s. IsSeated order (seen s)) seats at seat can.kept.seated there

  abbrev by_joining : Bool → Answer × ModelCluster
  by_joining b = cond b (with_node (cluster_of order (nodes_of seats)) at told) (answer.NotJoining, cluster_of order (nodes_of seats))

  step_is : step_at (cluster_of order (nodes_of seats)) at (slice_get (nodes_of seats) at) (act.Transfer donor) ≡ by_joining (is_joining seat.node.parts.at.phase)
  step_is = ap (λ o. step_at (cluster_of order (nodes_of seats)) at o (act.Transfer donor)) node_there

  module _ (joining : is_joining seat.node.parts.at.phase ≡ true) where
    awaits : Awaits order (plain_of seat.node.parts)
    awaits = (can.enters (plain_of seat.node.parts) node_there).waits joining

    told_is : with_node (cluster_of order (nodes_of seats)) at told ≡ step_at (cluster_of order (nodes_of seats)) at (slice_get (nodes_of seats) at) (act.Transfer donor)
    told_is = ap by_joining (sym joining) ∙ sym step_is

    -- it is told that, and stays
    stays : (a : Answer) → told ≡ (a, plain_of seat.node.parts) → Transferred order at donor seats seats a
    stays a is = record {
      same = ap (λ ns. (a, cluster_of order ns)) (sym (set_at_same (nodes_of seats) at (plain_of seat.node.parts) node_there))
          ∙ ap (with_node (cluster_of order (nodes_of seats)) at) (sym is) ∙ told_is;
      kept = can.kept;
    }

    pub no_donor : length seats ≤ donor - 1 → Transferred order at donor seats seats answer.NoDonor
    no_donor past =
        stays answer.NoDonor
        (ap (transfer_from order (plain_of seat.node.parts))
        (slice_get_past (nodes_of seats) (donor - 1) (subst (λ n. n ≤ donor - 1) (sym (length-nodes seats)) past)))

    wants_by : OfferWants told → (n : ModelNode) → slice_get (nodes_of seats) at ≡ Some n → TransferWants (cluster_of order (nodes_of seats)) n donor
    wants_by wants n other =
        subst (λ m. TransferWants (cluster_of order (nodes_of seats)) m donor) (same_Some (plain_of seat.node.parts) n (sym node_there ∙ other))
        (record { joining = joining; hands = wants })

-- what was read of a node that joins, and of its donor
module _ {W : Type 0} (seats : List (SeatOf W)) (at donor : ℕ) (seat again : SeatOf W) (from : ℕ)
    (other : SeatOf W) (place : Place) (committed : ℕ) (within : at < length seats)
    (is : seat ≡ get_or seats at seat) (also : again ≡ get_or seats at again)
    (below : from < length seats) (given : other ≡ get_or seats from other)
    (from_is : from ≡ donor - 1) (phase : place.phase ≡ seat.node.parts.at.phase)
    (joins : is_joining place.phase ≡ true) (view : place.view ≡ seat.node.parts.at.view)
    (id : place.id ≡ seat.node.parts.id) (counted : committed ≡ again.node.parts.at.committed)
    (order : List Event) (can : CanTransfer order seats at) where
  there : slice_get seats at ≡ Some seat
  there = item_there seats at seat within is

  joining : is_joining seat.node.parts.at.phase ≡ true
  joining = ap is_joining (sym phase) ∙ joins

  gives : slice_get seats from ≡ Some other
  gives = item_there seats from other below given

  -- what is read at the place once more is the same seat
  same_seat : (s : SeatOf W) → s ≡ get_or seats at s → s ≡ seat
  same_seat s read = same_Some s seat (sym (item_there seats at s within read) ∙ there)

  abbrev node : ModelNode
  node = plain_of seat.node.parts

  abbrev offer_told : Answer × ModelNode
  offer_told = transfer_from order node (Some (plain_of other.node.parts))

  told_of : told order seats at donor seat there can ≡ offer_told
  told_of =
      ap (λ k. transfer_from order node (slice_get (nodes_of seats) k)) (sym from_is)
      ∙ ap (transfer_from order node) (at_nodes seats from other gives)

  wants : OfferWants offer_told → (n : ModelNode) → slice_get (nodes_of seats) at ≡ Some n
      → TransferWants (cluster_of order (nodes_of seats)) n donor
  wants it =
      wants_by order seats at donor seat there can joining
      (subst OfferWants (sym told_of) it)

  joiner : IsJoiner order node place committed
  joiner = record {
    view = view;
    id = id;
    committed_is =
        counted ∙ ap (λ (s : SeatOf W). s.node.parts.at.committed) (same_seat again also);
    awaits = awaits order seats at donor seat there can joining;
  }

  -- the donor makes its offer to it
  abbrev Made : Type 0 → Type 0
  Made P = CanOffer order other.node.parts → IsJoiner order node place committed → P

  made : {P : Type 0} → Made P → P
  made of = of (can_offer order seats at from other gives can) joiner

  -- no memory for the offer
  pub no_offer : Made (OfferWants offer_told) → NotTransferred order at donor seats seats
  no_offer of = record { same = refl; wants = wants (made of); kept = can.kept }

  module _ (offer : Offer) (of : Made (IsOffer order node offer_told offer)) where
    -- nothing is handed over
    pub offered_none : offer.gift ≡ None → Transferred order at donor seats seats offer.answer
    offered_none none =
        let made_it = made of in
        let same : offer_told.1 ≡ node =
        subst (λ g. Brings order node g offer_told.1) none made_it.brings in
        stays order seats at donor seat there can joining offer.answer
        (told_of ∙ (λ i. (sym made_it.answer i, same i)))

    module _ (g : Gift) (some : offer.gift ≡ Some g) (taker : SeatOf W)
        (read : taker ≡ get_or seats at taker) where
      brings : Brings order node (Some g) offer_told.1
      brings =
          let made_it = made of in
          subst (λ o. Brings order node o offer_told.1) some made_it.brings

      seated : IsSeated order (seen seat)
      seated = is_seated order seats at donor seat there can

      pub receives : Receives g (seen taker)
      receives = subst (λ s. Receives g (seen s)) (sym (same_seat taker read)) (record {
        order = order;
        after = offer_told.1;
        seated = seated;
        joining = joining;
        rests = joiner.awaits.rests;
        brings = brings;
      })

      module _ (new : SeatOf W) where
        kept_by : IsSeated order (seen new) → AreKept order (set seats at new)
        kept_by it =
            kept_set order order seats at new (goes_same order order (seen new) refl
            (record { order_kept = can.kept.order_kept; seated = it })) can.kept

        -- it takes what is handed over
        pub offered_some : TakesGift g (seen taker) (seen new)
            → Transferred order at donor seats (set seats at new) offer.answer
        offered_some takes =
            let it = subst (λ s. TakesGift g (seen s) (seen new)) (same_seat taker read) takes
            order offer_told.1 seated brings in
            let made_it = made of in
            record {
              same = ap (λ ns. (offer.answer, cluster_of order ns)) (set_nodes seats at new)
                  ∙ (λ i. (
                    made_it.answer i,
                    cluster_of order (set_at (nodes_of seats) at (it.plain i)),
                  ))
                  ∙ ap (with_node (cluster_of order (nodes_of seats)) at) (sym told_of)
                  ∙ told_is order seats at donor seat there can joining;
              kept = kept_by it.seated;
            }

        -- or memory is wanted for it
        pub not_taken : SeatUnchanged (seen taker) (seen new)
            → NotTransferred order at donor seats (set seats at new)
        not_taken left =
            let u = subst (λ s. SeatUnchanged (seen s) (seen new)) (same_seat taker read) left in
            record {
              same = set_nodes seats at new ∙ ap (set_at (nodes_of seats) at) u.plain
                  ∙ set_at_same (nodes_of seats) at node (at_nodes seats at seat there);
              wants = let made_it = made of in wants (made_it.hands (ap is_some some));
              kept = kept_by (u.seated order seated);
            }

-- ---- the step of a cluster
pub alone_of : (a : Act) → ((donor : ℕ) → a ≡ act.Transfer donor → ⊥) → IsAlone a
alone_of (act.Transfer donor) other = other donor refl
alone_of a other = tt

failed_to : (order : List Event) (at donor : ℕ) (nodes now : List ModelNode) (n : ModelNode) → slice_get nodes at ≡ Some n → now ≡ nodes
    → TransferWants (cluster_of order nodes) n donor → FailedBy (act.Transfer donor) (at + 1) (cluster_of order nodes) (cluster_of order now) fault.NoMemory
failed_to order at donor nodes now n there same wants =
    let place : (at + 1) - 1 ≡ at = omega arith in
    subst (λ ns. FailedBy (act.Transfer donor) (at + 1) (cluster_of order nodes) (cluster_of order ns) fault.NoMemory) (sym same) (
      act.Transfer donor,
      (refl, refl),
      subst (λ o. MayFailAt (cluster_of order nodes) o (act.Transfer donor) fault.NoMemory) (sym (ap (slice_get nodes) place ∙ there)) wants,
    )

pub transfer_failed : {W : Type 0} (order : List Event) (at donor : ℕ) (old new : List (SeatOf W)) (seat : SeatOf W) → slice_get old at ≡ Some seat
    → NotTransferred order at donor old new
    → FailedBy (act.Transfer donor) (at + 1) (cluster_of order (nodes_of old)) (cluster_of order (nodes_of new)) fault.NoMemory
transfer_failed order at donor old new seat there failed =
    let is = at_nodes old at seat there in
    failed_to order at donor (nodes_of old) (nodes_of new) (plain_of seat.node.parts) is failed.same (failed.wants (plain_of seat.node.parts) is)
