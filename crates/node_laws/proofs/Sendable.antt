-- What live transactions may send stays valid and in range.
use Rattle.std.proofs.Common.{◌≡◌, ℕ, Bool, true, false, cond, List, None, Some}
use Rattle.std.specs.Prelude.{◌&&◌, nat_lt}
use Rattle.std.proofs.lemmas.Option.{same_Some}
use Rattle.std.specs.Ordering.{nat_cmp}
use Rattle.finite_map.proofs.Edits.{numbers, each_put, each_left}
use Rattle.finite_map.specs.FiniteMap.{FiniteMap, get}
use Rattle.order_event.specs.declared.event.Event.{Event}
use Rattle.write_set.specs.declared.write_set.WriteSet.{WriteSet}
use Rattle.client_trx.specs.Live.{Live, with_status, passed_status, is_uncommitted, fragment_sent, rollback_of, rollback_due}
use Rattle.client_trx.specs.declared.status.Status.TheVariants as status
use Rattle.node_meaning.specs.Node.{ModelNode}
use Rattle.node_meaning.specs.Client.{extended, met_by}
use Rattle.node_meaning.specs.Facts.{IsSendable}
use Rattle.node_meaning.proofs.ClientFacts.{sendable_first, sendable_extended, sendable_again, sendable_sent, first, free_of}
use Rattle.node_laws.proofs.Moves.{Kind, Move, Begins, Extends, Streams, Sends, Ends, TakesBack, Unlocks, Passes, Fails, Commits}

abbrev pub AreSendable : FiniteMap nat_cmp Live → Type 0
AreSendable live = (s : ℕ) (t : Live) → get live s ≡ Some t → IsSendable t

pub sendable_moved : (order : List Event) (given : Type 0) → given
    → (n : ModelNode) (k : Kind) (m : ModelNode) → Move order given n k m
    → AreSendable n.live → AreSendable m.live
sendable_moved order given g n k m (Begins s unit may) h =
    each_put numbers n.live s (λ _ t. IsSendable t) h (first n.at.member n.at.begin unit)
    (sendable_first n.at.member n.at.begin unit)
sendable_moved order given g n k m (Extends s t st here fits free) h =
    each_put numbers n.live s (λ _ t. IsSendable t) h (extended t st)
    (sendable_extended t st (fits g) (free_of (met_by order n s t st) st.change free).room
    (h s t here.there))
sendable_moved order given g n k m (Streams s t here change range) h =
    each_put numbers n.live s (λ _ t. IsSendable t) h (fragment_sent t)
    (sendable_sent t change (h s t here.there))
sendable_moved order given g n k m (Sends s t here range) h =
    each_put numbers n.live s (λ _ t. IsSendable t) h (with_status t status.CommitSent)
    (sendable_again t status.CommitSent (h s t here.there))
sendable_moved order given g n k m (Ends s t o there) h =
    each_left numbers n.live s (λ _ t. IsSendable t) h
sendable_moved order given g n k m (TakesBack s t w o there due range) h =
    each_left numbers n.live s (λ _ t. IsSendable t) h
sendable_moved order given g n k m (Unlocks s t to there unlocked) h =
    each_put numbers n.live s (λ _ t. IsSendable t) h (with_status t to)
    (sendable_again t to (h s t there))
sendable_moved order given g n k m (Passes s t body w judged pass) h =
    each_put numbers n.live s (λ _ t. IsSendable t) h _ (sendable_again t (passed_status _ t.status)
    (h s t judged.there))
sendable_moved order given g n k m (Fails s t body w v judged came) h =
    each_left numbers n.live s (λ _ t. IsSendable t) h
sendable_moved order given g n k m (Commits s t may there is) h =
    each_left numbers n.live s (λ _ t. IsSendable t) h
sendable_moved order given g n k m _ h = h

-- ---- the rollback that is due
pub due_is : (t : Live) (serial seen : ℕ) (w : WriteSet) → rollback_due t serial seen ≡ Some w
    → rollback_of t serial seen ≡ w
due_is t serial seen w due = by (is_uncommitted t.status && nat_lt 0 t.sent) due
  where
    by : (b : Bool) → cond b (Some (rollback_of t serial seen)) None ≡ Some w
        → rollback_of t serial seen ≡ w
    by true is = same_Some (rollback_of t serial seen) w is
    by false is = cc
