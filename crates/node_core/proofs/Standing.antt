-- How a call shows that the node stands after it.
use Rattle.std.proofs.Common.{rules, ◌≡◌, ℕ, zero, suc, ◌+◌, ◌≤◌, ◌<◌, List, [], ◌∷◌, ◌++◌, length, take, drop, true, Some, refl, ap, sym, subst, ◌∙◌, arith, add-one, length-take-le}
use Rattle.std.specs.Prelude.{slice_get}
use Rattle.std.proofs.lemmas.List.{drop-append-le, take_more}
use Rattle.std.proofs.lemmas.Option.{get_or_from_slice_get, slice_get_within}
use Rattle.finite_map.specs.FiniteMap.{get, insert}
use Rattle.finite_map.proofs.Edits.{numbers, Inserted, AtKey, Elsewhere, inserted, get-put, get-put_beside}
use Rattle.order_event.specs.declared.event.Event.{Event}
use Rattle.certification.specs.Certifies.{Certifies}
use Rattle.node_core.specs.declared.node.NodeParts.{NodeParts}
use Rattle.node_meaning.specs.declared.progress.Progress.{Progress}
use Rattle.node_meaning.specs.Node.{ModelNode, ApplyUnit, is_connected}
use Rattle.node_meaning.specs.Facts.{Facts}
use Rattle.node_meaning.specs.Joining.{ring_of}
use Rattle.gcache_ring.specs.Held.{Ring, held, with_event}
use Rattle.gcache_ring.proofs.HeldLemmas.{held-again}
use Rattle.node_parts.specs.Units.{Work, UnitTable}
use Rattle.node_core.specs.Stands.{Unchanged, Serves, KeepsRing, AreWorked, IsWorked, Tables, Stands, DoneOver, plain_of}

-- ---- the inbox
-- one more event is taken
pub taken_one : (order : List Event) (certified taken : ℕ) (e : Event) → certified ≤ taken → taken ≤ length order
    → slice_get order taken ≡ Some e
    → drop certified (take taken order) ++ e ∷ [] ≡ drop certified (take (taken + 1) order)
taken_one order certified taken e fits inside there =
    let long : certified ≤ length (take taken order) = omega (arith, length-take-le taken order inside, fits) in
    sym (ap (drop certified) (take_more order taken e (slice_get_within order taken e there)
    ∙ ap (λ x. take taken order ++ x ∷ []) (get_or_from_slice_get order taken e e there))
    ∙ drop-append-le certified (take taken order) (e ∷ []) long)

slice_take : {A : Type 0} (xs : List A) (n k : ℕ) → k < n → slice_get (take n xs) k ≡ slice_get xs k
slice_take xs zero k below = absurd (omega (arith, below))
slice_take [] (suc n) k below = refl
slice_take (x ∷ xs) (suc n) zero below = refl
slice_take (x ∷ xs) (suc n) (suc k) below = slice_take xs n k (omega (arith, below))

slice_drop : {A : Type 0} (xs : List A) (k : ℕ) → slice_get (drop k xs) 0 ≡ slice_get xs k
slice_drop xs zero = refl
slice_drop [] (suc k) = refl
slice_drop (x ∷ xs) (suc k) = slice_drop xs k

-- the oldest event of the inbox is the next one that is certified
pub first_of : (order : List Event) (certified taken : ℕ) → certified < taken
    → slice_get (drop certified (take taken order)) 0 ≡ slice_get order certified
first_of order certified taken more = slice_drop (take taken order) certified ∙ slice_take order taken certified more

drop_next : {A : Type 0} (xs : List A) (k : ℕ) → drop 1 (drop k xs) ≡ drop (suc k) xs
drop_next xs zero = refl
drop_next [] (suc k) = refl
drop_next (x ∷ xs) (suc k) = drop_next xs k

-- the oldest one goes
pub dropped_one : (order : List Event) (certified taken : ℕ)
    → drop 1 (drop certified (take taken order)) ≡ drop (certified + 1) (take taken order)
dropped_one order certified taken = drop_next (take taken order) certified ∙ ap (λ k. drop k (take taken order)) (sym (add-one certified))

-- ---- the ring
-- it depends on these numbers of a node alone
pub same_ring_of : (order : List Event) (n m : ModelNode) → n.gcache ≡ m.gcache → n.since ≡ m.since
    → n.at.taken ≡ m.at.taken → ring_of order n ≡ ring_of order m
same_ring_of order n m gcache since taken i = record {
  size = gcache i;
  last = taken i;
  events = held (gcache i) (drop (since i) (take (taken i) order));
}

-- one more event is taken and pushed
pub pushed_one : (order : List Event) (node : NodeParts) (e : Event) → Serves order node
    → node.at.taken ≤ length order → slice_get order node.at.taken ≡ Some e
    → with_event node.ring e
    ≡ record {
      size = node.ring.size;
      last = node.at.taken + 1;
      events = held node.ring.size (drop node.since (take (node.at.taken + 1) order));
    }
pushed_one order node e serves inside there =
    let made : List Event → Ring = λ events. record { size = node.ring.size; last = node.at.taken + 1; events = held node.ring.size events } in
    let events = drop node.since (take node.at.taken order) in
    ap (λ (r : Ring). record { size = node.ring.size; last = r.last + 1; events = held node.ring.size (r.events ++ e ∷ []) }) serves.ring
    ∙ ap (λ (kept : List Event). record { size = node.ring.size; last = node.at.taken + 1; events = kept }) (held-again node.ring.size events e)
    ∙ ap made (taken_one order node.since node.at.taken e serves.since inside there)

-- what stays as it was still serves, while no other node is connected
pub serves_by : (order : List Event) (old new : NodeParts) → KeepsRing old new
    → new.at.taken ≡ old.at.taken
    → (is_connected new.at.phase ≡ true → is_connected old.at.phase ≡ true)
    → Serves order old → Serves order new
serves_by order old new kept taken connected serves = record {
  ring = kept.ring ∙ serves.ring
      ∙ sym (same_ring_of order (plain_of new) (plain_of old) (ap (λ (r : Ring). r.size) kept.ring)
      kept.since taken);
  since = omega (arith, serves.since, kept.since, taken);
  id = λ is nil. serves.id (connected is) (sym kept.id ∙ nil);
}

-- one after the other
pub rings_kept : (a b c : NodeParts) → KeepsRing a b → KeepsRing b c → KeepsRing a c
rings_kept a b c one two = record {
  ring = two.ring ∙ one.ring;
  since = two.since ∙ one.since;
  id = two.id ∙ one.id;
}

-- as where memory was wanted
pub unchanged_ring : (old new : NodeParts) → Unchanged old new → KeepsRing old new
unchanged_ring old new same = record {
  ring = same.ring;
  since = ap (λ (n : ModelNode). n.since) same.plain;
  id = ap (λ (n : ModelNode). n.id) same.plain;
}

-- or where the one is the other but for other parts
pub ring_by : (old new : NodeParts) → new ≡ old → KeepsRing old new
ring_by old new same = rw same (search rules)

-- ---- a call that moves no progress but the serial and the begin number
module _ {A : Type 0} (order : List Event) (f : ModelNode → A × ModelNode)
    (old new : NodeParts) (answer : A) (st : Stands order old)
    (same : (answer, plain_of new) ≡ f (plain_of old))
    (keeps : Facts order (plain_of old) → Facts order (f (plain_of old)).1) where
  -- the facts are those of the model's node
  pub facts_by : Facts order (plain_of new)
  facts_by = subst (Facts order) (ap (λ p. p.1) (sym same)) (keeps st.facts)

  pub done_by : (serial begin : ℕ) → new.at ≡ record old.at { serial = serial; begin = begin }
      → KeepsRing old new → new.inbox ≡ old.inbox → new.certification ≡ old.certification
      → Tables order new → DoneOver order f old new answer
  done_by serial begin at ring inbox certification tables = record {
    same = same;
    stands = record {
      inbox = inbox ∙ st.inbox
          ∙ sym (ap (λ (p : Progress). drop p.certified (take p.taken order)) at);
      certification = subst (λ (p : Progress). Certifies order p.committed p.certified
          new.certification) (sym at)
          (subst (Certifies order old.at.committed old.at.certified) (sym certification)
          st.certification);
      tables = tables;
      serves = serves_by order old new ring (ap (λ (p : Progress). p.taken) at)
          (λ is. ap (λ (p : Progress). is_connected p.phase) (sym at) ∙ is) st.serves;
      facts = facts_by;
    };
  }

-- ---- the units
-- one is put, which is worked on as the others are
pub worked_put : (order : List Event) (table : UnitTable) (number : ℕ) (unit : ApplyUnit)
    (new : Work) (room : ℕ) → AreWorked order table → IsWorked order number unit new
    → AreWorked order (record {
      units = insert table.units number unit;
      work = insert table.work number new;
      room = room;
    })
worked_put order table number unit new room worked own = record {
  worked = λ q v h. each q v (inserted numbers table.units number unit q v h);
}
  where
    each : (q : ℕ) (v : ApplyUnit) → Inserted numbers table.units number unit q v
        → (work : Work) × (get (insert table.work number new) q ≡ Some work)
        × IsWorked order q v work
    each q v (AtKey key value) = (
      new,
      ap (get (insert table.work number new)) key ∙ get-put numbers table.work number new,
      rw (key, value) own,
    )
    each q v (Elsewhere differs elsewhere) =
        let other = worked.worked q v elsewhere in
        (other.0, get-put_beside numbers table.work number new q differs ∙ other.1, other.2)

-- a node that is as it was
pub unchanged : (old new : NodeParts) → new ≡ old → Unchanged old new
unchanged old new same = rw same (search rules)
