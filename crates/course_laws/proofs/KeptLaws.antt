-- What is kept of a node gives its laws.
use Rattle.std.proofs.Common.{◌≡◌, ℕ, zero, suc, true, false, cond, List, [], ◌∷◌, length, Some, refl, ap, sym, subst, subst₂, ◌∙◌, arith, true≢false, drop, take}
use Rattle.std.proofs.lemmas.Option.{same_Some}
use Rattle.wsrep_base.specs.declared.ids.TrxId.{TrxId}
use Rattle.order_event.specs.declared.event.Event.{Event}
use Rattle.order_event.specs.declared.event.Event.TheVariants as event
use Rattle.write_set.specs.declared.write_set.WriteSet.{WriteSet}
use Rattle.cert_meaning.specs.Verdict as rules
use Rattle.cert_meaning.specs.Fold.{state_at}
use Rattle.client_trx.specs.Live.{Live, is_sent, is_uncommitted}
use Rattle.client_trx.specs.declared.status.Status.{Status}
use Rattle.client_trx.specs.declared.status.Status.TheVariants as status
use Rattle.node_meaning.specs.Node.{ModelNode, is_left, is_connected}
use Rattle.node_meaning.specs.Steps.{take_step}
use Rattle.node_meaning.specs.Facts.{IsUndecided, HasFailed, Alone, One, Lost, StandsBy, sets_of, HasPassed}
use Rattle.node_laws.specs.InStep.{IsInStep, IsCleared}
use Rattle.course_laws.specs.Ordered.{pending_sets}
use Rattle.course_laws.specs.Laws.{OwnAreDecided, NoneFailed, NodeLaws, NoneBehind, IsViewed, EndsIdle, SentStandOnce, NoSplit}
use Rattle.course_laws.proofs.Placing.{conflict_not}
use Rattle.course_laws.proofs.PendingSets.{sets_lined}
use Rattle.course_laws.proofs.Taking.{no_split}
use Rattle.course_laws.specs.Places.{Place, Inside, Entering, Outside}
use Rattle.course_laws.specs.Kept.{Kept}
use Rattle.course_laws.proofs.Following.{first_keeps}

pub dropped : (k : ℕ) (order : List Event) → drop k (take k order) ≡ []
dropped zero order = refl
dropped (suc k) [] = refl
dropped (suc k) (e ∷ order) = dropped k order

-- a node that is not connected takes nothing
out_whole : (order : List Event) (n : ModelNode) → is_connected n.at.phase ≡ false → NoSplit order n
unfolding take_step
out_whole order n out split = grind (arith, out, split)

module _ (member most : ℕ) (order : List Event) (n : ModelNode) (h : Kept member most order n) where
  pub none_failed : NoneFailed order n
  none_failed trx own failed =
      let home : trx.member ≡ member = own ∙ h.follows.home in
      let was = h.decided failed.before failed.body
      (failed.there ∙ ap (λ k. Some (event.Write k failed.body)) home) in
      let same : was.0 ≡ failed.set = same_Some was.0 failed.set (sym was.1 ∙ failed.is) in
      conflict_not (rules.verdict (state_at order failed.before) member was.0) was.2
      (subst₂ (λ k w. IsUndecided (rules.verdict (state_at order failed.before) k w)) home
      (sym same) failed.undecided)

  alone_once : {P : WriteSet → Type 0} (trx : TrxId) (mine : List WriteSet)
      → trx.member ≡ n.at.member → Alone P (HasFailed order n.at.certified trx) mine
      → length mine ≡ 1
  alone_once trx mine own (One w is here) = ap length is
  alone_once trx mine own (Lost none failed) = absurd (none_failed trx own failed)

  once_by : (t : Live) (mine : List WriteSet) → t.trx.member ≡ n.at.member → (st : Status)
      → StandsBy order n.at.committed n.at.certified mine t st
      → length mine ≡ cond (is_sent st) 1 0
  once_by t mine own status.Running s = ap length s.0
  once_by t mine own (status.Certified number) s = ap length s.0
  once_by t mine own (status.Replaying number) s = ap length s.0
  once_by t mine own _ s = alone_once t.trx mine own s

  pub once : SentStandOnce order n
  once se t there =
      let live = (sets_lined order n h.follows.facts).each se t there in
      once_by t (sets_of t.trx.begin (pending_sets order n)) live.of_member t.status live.stands

  -- ---- in its group or left
  whole_by : Place order n → NoSplit order n
  whole_by (Inside s) = no_split order n s.in_step s.connected
  whole_by (Entering s) = out_whole order n (ap is_connected s.joining)
  whole_by (Outside g) = out_whole order n (ap is_connected g.left)

  in_step_by : Place order n → is_left n.at.phase ≡ false → IsInStep order n
  in_step_by (Inside s) stays = s.in_step
  in_step_by (Entering s) stays = s.in_step
  in_step_by (Outside g) stays = absurd (true≢false (sym (ap is_left g.left) ∙ stays))

  cleared_by : Place order n → is_left n.at.phase ≡ true → IsCleared n.ordered n.outbox n.live
  cleared_by (Inside s) left = absurd (true≢false (sym left ∙ ap is_left s.connected))
  cleared_by (Entering s) left = absurd (true≢false (sym left ∙ ap is_left s.joining))
  cleared_by (Outside g) left = g.cleared

  -- ---- a node that left, once it has committed all that it took
  module _ (cleared : IsCleared n.ordered n.outbox n.live) (all : n.at.taken ≡ n.at.committed) where
    none_pending : pending_sets order n ≡ []
    none_pending =
        let o = h.follows.facts.in_order in
        let last : n.at.taken ≡ n.at.certified =
        omega (arith, all, o.committed_fits, o.certified_fits) in
        rw (last, dropped n.at.certified order, cleared.none_ordered, cleared.none_waits)

    passed_not : (t : Live) (number : ℕ)
        → HasPassed order n.at.committed n.at.certified t number → ⊥
    passed_not t number passed =
        let o = h.follows.facts.in_order in
        omega (arith, all, o.committed_fits, o.certified_fits, passed.above, passed.within)

    idle_by : (t : Live) (st : Status) → is_uncommitted st ≡ false
        → length (sets_of t.trx.begin (pending_sets order n)) ≡ cond (is_sent st) 1 0
        → StandsBy order n.at.committed n.at.certified
        (sets_of t.trx.begin (pending_sets order n)) t st → ⊥
    idle_by t (status.Certified number) commits waits s = passed_not t number s.1
    idle_by t (status.Replaying number) commits waits s = passed_not t number s.1
    idle_by t _ commits waits s =
        let none = rw none_pending at waits in cc

  pub ends_idle : is_left n.at.phase ≡ true → EndsIdle n
  ends_idle left all se t there =
      let cleared = cleared_by h.follows.place left in
      let live = (sets_lined order n h.follows.facts).each se t there in
      idle_by cleared all t t.status (cleared.committing se t there) (once se t there) live.stands

  pub kept_laws : IsViewed order n.at.member (is_left n.at.phase) → NodeLaws order n
  kept_laws viewed = record {
    decided = subst (OwnAreDecided order) (sym h.follows.home) h.decided;
    whole = whole_by h.follows.place;
    in_step = in_step_by h.follows.place;
    once = once;
    none_failed = none_failed;
    viewed = viewed;
    none_behind = subst (λ k. NoneBehind order k n.at.view) (sym h.follows.home) h.none_behind;
    cleared = cleared_by h.follows.place;
    idle = ends_idle;
    took = λ place version members.
        first_keeps order n h.follows.place place (event.View version members);
  }
