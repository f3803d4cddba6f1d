-- Nothing is queued at a node that has left, each of its live transactions has sent its commit, and
-- it takes nothing more.
use Rattle.std.proofs.Common.{◌≡◌, ℕ, zero, suc, ◌+◌, ◌-◌, length, Bool, true, false, cond, List, [], ◌++◌, None, Some, refl, ap, sym, ◌∙◌, true≢false}
use Rattle.std.specs.Prelude.{slice_get, ◌&&◌, nat_lt}
use Rattle.std.proofs.lemmas.Bool.{false_from_ne_true}
use Rattle.finite_map.specs.FiniteMap.{insert, remove}
use Rattle.finite_map.proofs.Edits.{numbers, each_put, each_left}
use Rattle.order_event.specs.declared.event.Event.{Event}
use Rattle.order_event.specs.declared.event.Message.{Message}
use Rattle.order_event.specs.declared.step.Answer.{Answer}
use Rattle.order_event.specs.declared.step.Answer.TheVariants as answer
use Rattle.write_set.specs.declared.write_set.WriteSet.{WriteSet}
use Rattle.client_trx.specs.Live.{Live, is_uncommitted, with_status, passed_status, rollback_due, rollback_of}
use Rattle.client_trx.specs.declared.status.Status.{Status}
use Rattle.client_trx.specs.declared.status.Status.TheVariants as status
use Rattle.node_meaning.specs.Node.{ModelNode, is_left, is_connected}
use Rattle.node_meaning.specs.declared.progress.Phase.{Phase}
use Rattle.node_meaning.specs.Leaving.{told_at_leave, left_node}
use Rattle.node_meaning.specs.Steps.{take_event, take_step, times, all_taken}
use Rattle.node_laws.specs.InStep.{IsCleared}
use Rattle.node_laws.proofs.Moves.{Kind, Move, Begins, Extends, Streams, Sends, Ends, TakesBack, Unlocks, Reports, Orders, Leaves, Takes, Passes, Fails, Commits, IsRunning, Unlocked, Sent, Passed, May, Reaches, kept}
use Rattle.node_laws.proofs.LeftSets.{front_none}
use Rattle.node_laws.proofs.Leaving.{may_leave}
use Rattle.node_laws.proofs.InStep.{left_not_in, phase_moved}

passed_sent : (number : ℕ) (st : Status) → is_uncommitted st ≡ false
    → is_uncommitted (passed_status number st) ≡ false
passed_sent number status.Running sent = cc
passed_sent number status.FragmentSent sent = cc
passed_sent number status.CommitSent sent = refl
passed_sent number (status.Certified m) sent = refl
passed_sent number status.KilledSent sent = refl
passed_sent number (status.Replaying m) sent = refl

unlocked_sent : (from to : Status) → Unlocked from to → is_uncommitted to ≡ false
unlocked_sent from to Sent = refl
unlocked_sent from to (Passed number) = refl

-- a rollback is due of none that has sent its commit
due_open : (t : Live) (serial seen : ℕ) (w : WriteSet) → rollback_due t serial seen ≡ Some w
    → is_uncommitted t.status ≡ true
due_open t serial seen w due = by (is_uncommitted t.status) (nat_lt 0 t.sent) due
  where
    by : (a b : Bool) → cond (a && b) (Some (rollback_of t serial seen)) None ≡ Some w → a ≡ true
    by true b is = refl
    by false b is = cc

-- ---- a move
module _ (n : ModelNode) (left : is_left n.at.phase ≡ true)
    (h : IsCleared n.ordered n.outbox n.live) where
  abbrev HasSent : ℕ → Live → Type 0
  HasSent s t = is_uncommitted t.status ≡ false

  put : (s : ℕ) (t : Live) → HasSent s t → IsCleared n.ordered n.outbox (insert n.live s t)
  put s t sent = record {
    none_ordered = h.none_ordered;
    none_waits = h.none_waits;
    committing = each_put numbers n.live s HasSent h.committing t sent;
  }

  taken_out : (s : ℕ) → IsCleared n.ordered n.outbox (remove n.live s)
  taken_out s = record {
    none_ordered = h.none_ordered;
    none_waits = h.none_waits;
    committing = each_left numbers n.live s HasSent h.committing;
  }

  not_running : (s : ℕ) (t : Live) → IsRunning n s t → ⊥
  not_running s t here =
      true≢false (sym (ap is_uncommitted here.running) ∙ h.committing s t here.there)

  cleared_moved : (order : List Event) (given : Type 0) (works : Bool) (kind : Kind) (m : ModelNode)
      → May works kind → Move order given n kind m → IsCleared m.ordered m.outbox m.live
  cleared_moved order given works kind m may (Begins s unit can) =
      absurd (left_not_in n.at.phase left can.connected)
  cleared_moved order given works kind m may (Extends s t st here fits free) =
      absurd (not_running s t here)
  cleared_moved order given works kind m may (Streams s t here change range) =
      absurd (not_running s t here)
  cleared_moved order given works kind m may (Sends s t here range) = absurd (not_running s t here)
  cleared_moved order given works kind m may (Ends s t o there) = taken_out s
  cleared_moved order given works kind m may (TakesBack s t w o there due range) =
      absurd (true≢false (sym (due_open t n.at.serial n.at.committed w due)
      ∙ h.committing s t there))
  cleared_moved order given works kind m may (Unlocks s t to there unlocked) =
      put s (with_status t to) (unlocked_sent t.status to unlocked)
  cleared_moved order given works kind m may (Reports connected) =
      absurd (left_not_in n.at.phase left connected)
  cleared_moved order given works kind m may (Orders front back is) = absurd may
  cleared_moved order given works kind m may (Leaves can) = absurd may
  cleared_moved order given works kind m may (Takes e ordered there leaves) =
      absurd (left_not_in n.at.phase left leaves.connected)
  cleared_moved order given works kind m may (Passes s t body w judged pass) =
      put s (with_status t (passed_status (n.at.certified + 1) t.status))
      (passed_sent (n.at.certified + 1) t.status (h.committing s t judged.there))
  cleared_moved order given works kind m may (Fails s t body w v judged came) = taken_out s
  cleared_moved order given works kind m may (Commits s t can there is) = taken_out s
  cleared_moved order given works kind m may _ = h

-- ---- rows of moves
abbrev pub ClearedOnceLeft : ModelNode → Type 0
ClearedOnceLeft n = is_left n.at.phase ≡ true → IsCleared n.ordered n.outbox n.live

pub cleared_reached : (order : List Event) (given : Type 0) (works : Bool) (n : ModelNode) (k : ℕ)
    (m : ModelNode) → Reaches order given works n k m → ClearedOnceLeft n → ClearedOnceLeft m
cleared_reached order given works =
    kept ClearedOnceLeft (λ n kind m may move h left.
    let was : is_left n.at.phase ≡ true =
    ap is_left (sym (phase_moved order given works n kind m may move)) ∙ left in
    cleared_moved n was (h was) order given works kind m may move)

-- ---- what goes with a growth of the order
-- none is there to be ordered
pub cleared_ordered : (n : ModelNode) (front back : List Message) → n.outbox ≡ front ++ back
    → IsCleared n.ordered n.outbox n.live → IsCleared (n.ordered ++ front) back n.live
cleared_ordered n front back is h =
    let none : front ++ back ≡ [] = sym is ∙ h.none_waits in
    let first : front ≡ [] = front_none front back none in
    record {
      none_ordered = (λ i. h.none_ordered i ++ first i);
      none_waits = ap (λ ms. ms ++ back) (sym first) ∙ none;
      committing = h.committing;
    }

told_sent : (untaken : Bool) (st : Status) → told_at_leave untaken st ≡ None
    → is_uncommitted st ≡ false
told_sent untaken status.Running told = cc
told_sent untaken status.FragmentSent told = cc
told_sent untaken status.CommitSent told = refl
told_sent untaken (status.Certified m) told = refl
told_sent untaken status.KilledSent told = refl
told_sent untaken (status.Replaying m) told = refl

pub left_cleared : (n : ModelNode)
    → IsCleared (left_node n).ordered (left_node n).outbox (left_node n).live
unfolding left_node
left_cleared n = record {
  none_ordered = refl;
  none_waits = refl;
  committing = λ s t is. told_sent _ t.status ((may_leave n).stay s t is);
}

-- ---- it takes nothing, and so does its drain
not_connected : (now : Phase) → is_left now ≡ true → is_connected now ≡ false
not_connected now left =
    false_from_ne_true (is_connected now) (λ connected. left_not_in now left connected)

times_same : (k : ℕ) (f : ModelNode → ModelNode) (n : ModelNode) → f n ≡ n → times k f n ≡ n
times_same zero f n same = refl
times_same (suc k) f n same = ap (times k f) same ∙ times_same k f n same

module _ (order : List Event) (n : ModelNode) (left : is_left n.at.phase ≡ true) where
  pub take_left : take_step order n ≡ (answer.Nothing, n)
  unfolding take_step
  take_left =
      ap (λ b. cond b (take_event n (slice_get order n.at.taken)) (answer.Nothing, n))
      (not_connected n.at.phase left)

  pub all_taken_left : all_taken order n ≡ n
  all_taken_left =
      times_same (length order - n.at.taken) (λ m. (take_step order m).1) n
      (ap (λ (x : Answer × ModelNode). x.1) take_left)
