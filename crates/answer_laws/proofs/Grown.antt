-- The order grows by events of others, or by the front of the node's outbox: what the node has
-- sent of each transaction is the same, and claims stay.
use Rattle.std.proofs.Common.{◌≡◌, ℕ, zero, suc, ◌≤◌, ◌<◌, Bool, List, ◌++◌, length, ap, sym, subst, ◌∙◌, arith, length-append}
use Rattle.std.specs.Prelude.{slice_get, map}
use Rattle.std.proofs.lemmas.Option.{slice_get_within}
use Rattle.row_model.specs.declared.calls.Reply.{Reply}
use Rattle.row_model.specs.declared.calls.Reply.TheVariants as reply
use Rattle.wsrep_base.specs.declared.ids.TrxId.{TrxId}
use Rattle.order_event.specs.declared.event.Event.{Event}
use Rattle.order_event.specs.declared.event.Event.TheVariants as event
use Rattle.order_event.specs.declared.event.Message.{Message}
use Rattle.group_order.specs.Order.{event_of}
use Rattle.write_set.specs.declared.write_set.WriteSet.{WriteSet}
use Rattle.cert_meaning.specs.State.{FoldState, commit_numbered}
use Rattle.cert_meaning.specs.Verdict as rules
use Rattle.cert_meaning.specs.Fold.{state_at}
use Rattle.cert_meaning.proofs.FoldLaws.{state_at-append}
use Rattle.client_trx.specs.Live.{Live}
use Rattle.node_meaning.specs.Node.{ModelNode}
use Rattle.node_meaning.specs.Units.{ops_at, ops_by}
use Rattle.node_meaning.specs.Facts.{Facts, commit_at}
use Rattle.course_laws.proofs.PendingSets.{within_order}
use Rattle.course_laws.proofs.Growing.{front_get, AreSilent}
use Rattle.answer_laws.specs.Answers.{Asker, IsWriteAt, PassesAt, Prevailed, ByCommit, ByFragment, FailsBehind}
use Rattle.answer_laws.specs.Counting.{count_waiting, count_sent}
use Rattle.answer_laws.proofs.Counted.{ordered-append, waiting-append, ordered-own, ordered-silent}
use Rattle.answer_laws.proofs.Pasts.{HasPast, Past, Pasts}
use Rattle.answer_laws.proofs.Claims.{IsShut, IsBarred, Unended, Failed, Defeats, ClaimOf, Claim}

-- what was sent is the same
abbrev pub SameSent : List Event → List Message → List Event → List Message → ℕ → Type 0
SameSent order outbox longer back member =
    (test : WriteSet → Bool)
    → count_sent test member longer back ≡ count_sent test member order outbox

pub own_same : (order : List Event) (member : ℕ) (outbox front back : List Message)
    → outbox ≡ front ++ back
    → SameSent order outbox (order ++ map (event_of member) front) back member
own_same order member outbox front back is test =
    omega (
      arith,
      ordered-append test member order (map (event_of member) front),
      ordered-own test member front,
      ap (count_waiting test) is ∙ waiting-append test front back,
    )

-- of events of which none is the member's
pub silent_same : (order : List Event) (member : ℕ) (outbox : List Message) (events : List Event)
    → AreSilent member events → SameSent order outbox (order ++ events) outbox member
silent_same order member outbox events all test =
    omega (arith, ordered-append test member order events, ordered-silent test member events all)

module _ (order more : List Event) where
  at_before : (before : ℕ) (trx : TrxId) (w : WriteSet) → before < length order
      → IsWriteAt (order ++ more) before trx w → IsWriteAt order before trx w
  at_before before trx w inside at = record {
    body = at.body;
    there = sym (front_get order more before inside) ∙ at.there;
    is = at.is;
    of_trx = at.of_trx;
  }

  at_later : (before : ℕ) (trx : TrxId) (w : WriteSet)
      → IsWriteAt order before trx w → IsWriteAt (order ++ more) before trx w
  at_later before trx w at =
      let inside = slice_get_within order before (event.Write trx.member at.body) at.there in
      record {
        body = at.body;
        there = front_get order more before inside ∙ at.there;
        is = at.is;
        of_trx = at.of_trx;
      }

  passes_later : (before : ℕ) (w : WriteSet) → before ≤ length order → PassesAt order before w
      → PassesAt (order ++ more) before w
  passes_later before w inside is =
      ap (λ s. rules.verdict s w.member w) (state_at-append order more before inside) ∙ is

  passes_before : (before : ℕ) (w : WriteSet) → before ≤ length order
      → PassesAt (order ++ more) before w → PassesAt order before w
  passes_before before w inside is =
      ap (λ s. rules.verdict s w.member w) (sym (state_at-append order more before inside)) ∙ is

  commit_later : (k : ℕ) → k ≤ length order → commit_at (order ++ more) k ≡ commit_at order k
  commit_later k inside =
      ap (λ (s : FoldState). commit_numbered k s.commits) (state_at-append order more k inside)

  ops_later : (k : ℕ) → 0 < k → k ≤ length order → ops_at (order ++ more) k ≡ ops_at order k
  ops_later zero above inside = absurd (omega (arith, above))
  ops_later (suc k) above inside =
      ap (λ s. ops_by s (slice_get (order ++ more) k))
      (state_at-append order more k (omega (arith, inside)))
      ∙ ap (ops_by (state_at order k)) (front_get order more k (omega (arith, inside)))

  prevailed_later : (v : ℕ) (a : Asker) → v ≤ length order → Prevailed order v a
      → Prevailed (order ++ more) v a
  prevailed_later v a inside (ByCommit c is differs touching) =
      ByCommit c (commit_later v inside ∙ is) differs touching
  prevailed_later v a inside (ByFragment before trx w is at pass last back differs touching) =
      ByFragment before trx w is (at_later before trx w at)
      (passes_later before w (omega (arith, is, inside)) pass) last back differs touching

  behind_later : (v : ℕ) (trx : TrxId) → v ≤ length order → FailsBehind order v trx
      → FailsBehind (order ++ more) v trx
  behind_later v trx inside h before w at fails =
      let first : before < length order → v ≤ before = λ below.
      h before w (at_before before trx w below at)
      (λ pass. fails (passes_later before w (omega (arith, below)) pass)) in
      grind (arith, first, inside)

  module _ (n : ModelNode) (f : Facts order n) (back : List Message)
      (same : SameSent order n.outbox (order ++ more) back n.at.member) where
    inside : n.at.certified ≤ length order
    inside = within_order order n f

    has_past_grown : (t : Live) → HasPast order n.at.member n.at.certified n.outbox t
        → HasPast (order ++ more) n.at.member n.at.certified back t
    has_past_grown t h = record {
      unended = λ o. same _ ∙ h.unended o;
      unsent = λ o none. same _ ∙ h.unsent o none;
      passed = λ before w below at.
          let first : before < length order = omega (arith, below, inside) in
          passes_later before w (omega (arith, first))
          (h.passed before w below (at_before before t.trx w first at));
    }

    pub past_grown : Pasts order n
        → Past (order ++ more) n.at.member n.at.begin n.at.certified back n.live n.waiting
    past_grown h = record {
      fresh = λ b above. same _ ∙ h.fresh b above;
      once = λ b. subst (λ k. k ≤ 1) (sym (same _)) (h.once b);
      each = λ s t there. has_past_grown t (h.each s t there);
      idle = h.idle;
    }

    module _ (a : Asker) where
      shut_grown : (test : WriteSet → Bool)
          → IsShut test order n.at.member n.at.begin n.outbox n.live a.trx
          → IsShut test (order ++ more) n.at.member n.at.begin back n.live a.trx
      shut_grown test h = record {
        home = h.home;
        begun = h.begun;
        gone = h.gone;
        none = same test ∙ h.none;
      }

      barred_grown : IsBarred order n.at.member n.at.begin n.outbox n.live a.trx
          → IsBarred (order ++ more) n.at.member n.at.begin back n.live a.trx
      barred_grown (Unended h) = Unended (shut_grown _ h)
      barred_grown (Failed before w home at ends fails) =
          let within = slice_get_within order before (event.Write a.trx.member at.body) at.there in
          Failed before w home (at_later before a.trx w at) ends
          (λ pass. fails (passes_before before w (omega (arith, within)) pass))

      defeats_grown : (v : ℕ) → Defeats order n.at.member n.at.begin n.outbox n.live v a
          → Defeats (order ++ more) n.at.member n.at.begin back n.live v a
      defeats_grown v h = record {
        within = omega (arith, h.within, length-append order more);
        prevailed = prevailed_later v a h.within h.prevailed;
        behind = behind_later v a.trx h.within h.behind;
        barred = barred_grown h.barred;
      }

      pub claim_grown : (r : Reply) → Claim order n a r
          → ClaimOf (order ++ more) n.at.member n.at.begin n.at.committed back n.live a r
      claim_grown (reply.Committed zero) h = shut_grown _ h
      claim_grown (reply.Committed (suc k)) h =
          let within : suc k ≤ length order =
          omega (arith, h.within, f.in_order.committed_fits, inside) in
          record {
            home = h.home;
            above = h.above;
            within = h.within;
            stands = commit_later (suc k) within ∙ h.stands;
            changes = ops_later (suc k) h.above within ∙ h.changes;
          }
      claim_grown (reply.DeadlockCert v) h = defeats_grown v h
      claim_grown (reply.DeadlockBf v) h = defeats_grown v h
      claim_grown reply.RolledBack h = barred_grown h
      claim_grown reply.Disconnected h = barred_grown h
      claim_grown _ h = tt
