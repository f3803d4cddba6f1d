-- A node at its start stands over any order.
use Rattle.std.proofs.Common.{◌≡◌, ℕ, List, [], Some, refl, ap, sym, subst, ◌∙◌, arith, true≢false}
use Rattle.std.specs.Prelude.{is_some, ◌≢◌}
use Rattle.std.specs.Ordering.{nat_cmp}
use Rattle.finite_map.specs.FiniteMap.{empty, get, get-empty}
use Rattle.row_model.specs.Rows.{row_cmp}
use Rattle.row_locks.specs.Holders.{holder_cmp}
use Rattle.row_locks.specs.Locks.{Locks, keys_at}
use Rattle.row_locks.specs.declared.holder.Holder.TheVariants.{Session, Unit as UnitHolder}
use Rattle.order_event.specs.declared.event.Event.{Event}
use Rattle.cert_meaning.specs.State.{no_events}
use Rattle.cert_meaning.specs.Fold.{state_at}
use Rattle.wsrep_base.specs.StateId.{nil_id}
use Rattle.gcache_ring.specs.Held.{empty_ring}
use Rattle.node_meaning.specs.Joining.{ring_of}
use Rattle.node_meaning.specs.Node.{start_node, locks_of, rows_at}
use Rattle.node_meaning.specs.Facts.{Facts}
use Rattle.node_meaning.proofs.StartNode.{start_facts}
use Rattle.node_meaning.proofs.LockLaws.{same_locks, get-locks_of-session, get-locks_of-unit, lock_of_live, lock_of_unit}
use Rattle.certification.specs.Certifies.{Certifies}
use Rattle.node_parts.specs.Queue.{nothing_sent}
use Rattle.node_parts.specs.Units.{no_units}
use Rattle.node_core.specs.declared.node.NodeParts.{NodeParts}
use Rattle.node_core.specs.Tabled.{made_by, shown_of}
use Rattle.node_core.specs.Stands.{Stands, plain_of}

nothing : {X : Type 0} (s : ℕ) (t : X) → get (empty {X = X} {R = nat_cmp}) s ≡ Some t → ⊥
nothing s t there = true≢false (ap is_some (sym there ∙ get-empty nat_cmp s))

no_locks : locks_of empty empty ≡ empty
no_locks =
    same_locks (locks_of empty empty) empty
    (λ s. get-locks_of-session empty empty s ∙ ap lock_of_live (get-empty nat_cmp s) ∙ sym (get-empty holder_cmp (Session s)))
    (λ k. get-locks_of-unit empty empty k ∙ ap lock_of_unit (get-empty nat_cmp k) ∙ sym (get-empty holder_cmp (UnitHolder k)))

no_rows : (order : List Event) → rows_at order 0 ≡ empty
unfolding state_at no_events
no_rows order = refl

module _ (order : List Event) (node : NodeParts) (gcache : ℕ) (id : List ℕ) (member : ℕ) (at_is : node.at ≡ (start_node gcache id member).at) (id_is : node.id ≡ id)
    (live : node.live ≡ empty) (waiting : node.waiting ≡ empty) (queue : node.queue ≡ nothing_sent) (units : node.units ≡ no_units)
    (ring : node.ring ≡ empty_ring gcache 0) (since : node.since ≡ 0) (given : id ≢ nil_id) where
  plain_is : plain_of node ≡ start_node gcache id member
  plain_is = rw (at_is, id_is, live, waiting, queue, units, ring, since) refl

  ring_is : (order : List Event) → ring_of order (plain_of node) ≡ empty_ring gcache 0
  ring_is order = ap (ring_of order) plain_is

  pub started : node.inbox ≡ [] → Certifies order 0 0 node.certification → node.locks.locks ≡ empty → node.rows.committed ≡ empty
      → node.rows.changes ≡ empty → Stands order node
  started inbox certification locks committed changes =
      let committed_is : node.at.committed ≡ 0 = ap (λ (a : _). a.committed) at_is in
      let certified_is : node.at.certified ≡ 0 = ap (λ (a : _). a.certified) at_is in
      let taken_is : node.at.taken ≡ 0 = ap (λ (a : _). a.taken) at_is in
      record {
        inbox = rw (certified_is, taken_is) inbox;
        certification = rw (committed_is, certified_is) certification;
        tables = record {
          locks = λ h. ap (λ (m : Locks). keys_at m h)
              (locks ∙ sym no_locks ∙ ap (λ l. locks_of l empty) (sym live) ∙ ap (locks_of node.live) (sym (ap (λ (u : _). u.units) units)));
          rows = record {
            committed = committed ∙ sym (no_rows order) ∙ ap (rows_at order) (sym committed_is);
            changed = λ session id.
                ap (shown_of session) (ap (λ c. get c id) changes ∙ get-empty row_cmp id)
                ∙ sym (ap (made_by (rows_at order node.at.committed) id) (ap (λ l. get l session) live ∙ get-empty nat_cmp session));
          };
          units = record { worked = λ number u there. absurd (nothing number u (ap (λ (t : _). get t.units number) (sym units) ∙ there)) };
          room = omega (arith, ap (λ (t : _). t.room) units);
        };
        serves = record {
          ring = ring ∙ sym (ring_is order);
          since = omega (arith, since);
          id = λ is nil. given (sym id_is ∙ nil);
        };
        facts = subst (Facts order) (sym plain_is) (start_facts order gcache id member);
      }
