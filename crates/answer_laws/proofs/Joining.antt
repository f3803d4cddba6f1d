-- A node joins again, and takes the state that it misses at once: it has sent nothing as the new
-- member, and what answers claimed of transactions of its member is now of a former one.
use Rattle.std.proofs.Common.{◌≡◌, ℕ, ◌≤◌, Bool, List, [], ◌∷◌, ◌++◌, Option, Some, None, refl, ap, arith}
use Rattle.finite_map.specs.FiniteMap.{get}
use Rattle.order_event.specs.declared.event.Event.{Event}
use Rattle.order_event.specs.declared.event.Event.TheVariants as event
use Rattle.order_event.specs.declared.event.Message.{Message}
use Rattle.write_set.specs.declared.write_set.WriteSet.{WriteSet}
use Rattle.client_trx.specs.Live.{Live}
use Rattle.node_meaning.specs.Node.{ModelNode}
use Rattle.node_meaning.specs.Joining.{joined_node, received_snapshot}
use Rattle.node_meaning.specs.Facts.{Facts}
use Rattle.course_laws.proofs.Growing.{AreSilent}
use Rattle.answer_laws.specs.Counting.{is_of, is_end_of, count_waiting, count_sent}
use Rattle.answer_laws.proofs.Pasts.{Pasts}
use Rattle.answer_laws.proofs.Claims.{claim_kept}
use Rattle.answer_laws.proofs.Former.{Own, Old, view_silent_all, before_up, before_grown, now_before}
use Rattle.answer_laws.proofs.Telling.{Still}
use Rattle.answer_laws.proofs.Counted.{ordered-silent}

-- nothing is live
abbrev pub IsIdle : ModelNode → Type 0
IsIdle n = (s : ℕ) (t : Live) → get n.live s ≡ Some t → ⊥

none_is : (o : Option Live) → ((t : Live) → o ≡ Some t → ⊥) → o ≡ None
none_is None never = refl
none_is (Some t) never = absurd (never t refl)

-- a member of which nothing is ordered, and nothing waits to be
none_sent : (test : WriteSet → Bool) (member : ℕ) (order : List Event) (outbox : List Message)
    → AreSilent member order → outbox ≡ [] → count_sent test member order outbox ≡ 0
none_sent test member order outbox silent none =
    omega (arith, ordered-silent test member order silent, ap (count_waiting test) none)

-- ---- it is a new member
module _ (order : List Event) (n : ModelNode) (idle : IsIdle n) where
  pub joined_past : (fresh : Bool) (member view : ℕ) → AreSilent member order → n.outbox ≡ []
      → Pasts order (joined_node fresh member view n)
  joined_past fresh member view silent none = record {
    fresh = λ b above. none_sent (is_of b) member order n.outbox silent none;
    once = λ b. omega (arith, none_sent (is_end_of b) member order n.outbox silent none);
    each = λ s t there. absurd (idle s t there);
    idle = λ s r there. none_is (get n.live s) (λ t. idle s t);
  }

module _ (former : List ℕ) (order : List Event) (n : ModelNode) (f : Facts order n)
    (past : Pasts order n) (none : n.outbox ≡ []) (version : ℕ) (members : List ℕ) (fresh : Bool)
    (member view : ℕ) where
  abbrev more : List Event
  more = event.View version members ∷ []

  pub joined_claimed : Still former order n (n.at.member ∷ former) (order ++ more)
      (joined_node fresh member view n)
  joined_claimed a r h =
      Old (before_grown (n.at.member ∷ former) order a r n.at.committed more
      (view_silent_all (n.at.member ∷ former) version members)
      (now_before former order a r n f past none h))

-- ---- it takes a snapshot, of no less than it has committed
module _ (order : List Event) (n : ModelNode) (idle : IsIdle n) (number : ℕ) (id : List ℕ) where
  pub snapshot_past : Pasts order n → Pasts order (received_snapshot number id n)
  snapshot_past h = record {
    fresh = h.fresh;
    once = h.once;
    each = λ s t there. absurd (idle s t there);
    idle = h.idle;
  }

module _ (former : List ℕ) (order : List Event) (n : ModelNode) (number : ℕ) (id : List ℕ)
    (up : n.at.committed ≤ number) where
  abbrev now : ModelNode
  now = received_snapshot number id n

  pub snapshot_claimed : Still former order n former order now
  snapshot_claimed a r (Own h) =
      Own (claim_kept order n now refl up a (λ test kind shut. shut) r h)
  snapshot_claimed a r (Old h) = Old (before_up former order a r n.at.committed number up h)
