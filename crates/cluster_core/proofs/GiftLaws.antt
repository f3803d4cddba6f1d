-- A seat whose node takes what another gave.
use Rattle.std.proofs.Common.{◌≡◌, ℕ, List, Ok, Err, Result, refl, sym, ap, ◌∙◌}
use Rattle.finite_map.specs.FiniteMap.{get}
use Rattle.order_event.specs.declared.event.Event.{Event}
use Rattle.cert_meaning.specs.Fold.{state_at}
use Rattle.cert_meaning.specs.Parts.{trim}
use Rattle.state_snapshot.specs.Reading.{installed}
use Rattle.state_snapshot.specs.declared.fault.SnapFault.{SnapFault}
use Rattle.state_snapshot.proofs.StateLaws.{snapshot_again}
use Rattle.state_snapshot.proofs.TakeLaws.{can_be_taken}
use Rattle.state_snapshot.proofs.RangeLaws.{in_range}
use Rattle.node_meaning.specs.Node.{ModelNode}
use Rattle.node_meaning.specs.Joining.{received_events, received_snapshot}
use Rattle.node_core.specs.declared.gift.Gift.{Gift}
use Rattle.node_core.specs.declared.gift.Gift.TheVariants as gift
use Rattle.node_core.specs.declared.gift.ReceiveFault.TheVariants.{Snap}
use Rattle.node_core.specs.declared.node.NodeParts.{NodeParts}
use Rattle.node_core.specs.Answers.{is_started}
use Rattle.node_core.specs.Joining.{GiftFits, Received, IsFaultOf, IsStateAt}
use Rattle.node_core.specs.Stands.{DoneOver, plain_of, quietly}
use Rattle.cluster_core.specs.Seated.{Seat, IsSeated, work_of}
use Rattle.cluster_core.specs.Transfers.{Receives, SeatTook, TakesGift}

-- the bytes of an order's state are installed
installs : (order : List Event) (number : ℕ) (id bytes : List ℕ) → IsStateAt order number id bytes
    → installed bytes ≡ Ok (trim (state_at order number), id)
installs order number id bytes at =
    ap installed at.spelled
    ∙ snapshot_again (state_at order number) id (in_range order number at.within at.few at.fits) (can_be_taken order number at.within at.few at.fits) at.sized at.given

never_both : {A E : Type 0} (r : Result A E) (x : A) (e : E) → r ≡ Ok x → r ≡ Err e → ⊥
never_both r x e one other = absurd cc

pub gift_fits : (g : Gift) (seat : Seat) → Receives g seat → GiftFits g (plain_of seat.node)
gift_fits (gift.Ist events) seat r = r.brings.fits
gift_fits (gift.Sst bytes) seat r = tt

pub no_fault : (g : Gift) (seat : Seat) (fault : SnapFault) → Receives g seat → IsFaultOf g (Snap fault) → ⊥
no_fault (gift.Ist events) seat fault r is = is
no_fault (gift.Sst bytes) seat fault r is =
    let b = r.brings in
    never_both (installed bytes) (trim (state_at r.order b.number), b.id) fault (installs r.order b.number b.id bytes b.state) is.0

module _ (old : Seat) (node : NodeParts) where
  took : (order : List Event) (after to : ModelNode) → after ≡ to → ((k : ℕ) → get to.units k ≡ get old.node.units.units k)
      → DoneOver order (quietly (λ m. to) order) old.node node tt → IsSeated order old → SeatTook order after (record old { node = node })
  took order after to is same d s =
      let plain : plain_of node ≡ to = ap (λ (r : Unit {0} × ModelNode). r.1) d.same in
      record {
        plain = plain ∙ sym is;
        seated = record {
          stands = d.stands;
          work = λ k. s.work k ∙ ap (λ o. work_of order k (is_started o)) (sym (same k))
              ∙ ap (λ (m : ModelNode). work_of order k (is_started (get m.units k))) (sym plain);
        };
      }

  pub takes_gift : (g : Gift) (last : ℕ) → Received g old.node node last → TakesGift g old (record old { node = node })
  takes_gift (gift.Ist events) last r order after s b =
      let d = r.does order b.next s.stands in
      let same : last ≡ b.last = r.to ∙ b.to in
      took order after (received_events last (plain_of old.node)) (b.becomes ∙ ap (λ k. received_events k (plain_of old.node)) (sym same))
      (λ k. refl) (record { same = d.same; stands = d.stands }) s
  takes_gift (gift.Sst bytes) last r order after s b =
      let d = (r.does order b.number b.id b.state s.stands).1 in
      took order after (received_snapshot b.number b.id (plain_of old.node)) b.becomes
      (λ k. refl) (record { same = d.same; stands = d.stands }) s
