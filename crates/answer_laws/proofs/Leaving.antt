-- A node leaves: it tells DISCONNECTED of transactions whose commit was never sent, and UNKNOWN of
-- others; what it sent of each transaction is not more than before, and claims stay.
use Rattle.std.proofs.Common.{◌≡◌, ℕ, Bool, true, List, [], ◌∷◌, inl, inr, ◌⊎◌, Some, None, refl, ap, sym, subst, ◌∙◌, arith}
use Rattle.std.specs.Prelude.{◌++◌, fold}
use Rattle.std.specs.Ordering.{nat_cmp}
use Rattle.finite_map.specs.FiniteMap.{FiniteMap, get, insert, remove}
use Rattle.finite_map.proofs.Edits.{numbers, each_put, each_left}
use Rattle.key_sets.proofs.ListLemmas.{In}
use Rattle.wsrep_base.specs.declared.ids.TrxId.{TrxId}
use Rattle.row_model.specs.declared.calls.Reply.{Reply}
use Rattle.row_model.specs.declared.calls.Reply.TheVariants as reply
use Rattle.order_event.specs.declared.event.Event.{Event}
use Rattle.order_event.specs.declared.event.Message.{Message}
use Rattle.write_set.specs.declared.write_set.WriteSet.{WriteSet}
use Rattle.client_trx.specs.Live.{Live, is_uncommitted}
use Rattle.client_trx.specs.declared.status.Status.{Status}
use Rattle.client_trx.specs.declared.status.Status.TheVariants as status
use Rattle.node_meaning.specs.Node.{ModelNode, end_with}
use Rattle.node_meaning.specs.Leaving.{waits_in, told_at_leave, ended_where, leave_one, sessions_left, departed, left_node}
use Rattle.node_meaning.specs.Facts.{Facts, Lined}
use Rattle.node_meaning.proofs.EntryLaws.{some_not_none, get_from_in}
use Rattle.course_laws.specs.Ordered.{pending_sets}
use Rattle.course_laws.proofs.PendingSets.{sets_lined}
use Rattle.answer_laws.specs.Answers.{asker_of}
use Rattle.answer_laws.specs.Counting.{is_of, is_end_of, count_sent}
use Rattle.answer_laws.proofs.Pasts.{Pasts, idle_insert}
use Rattle.answer_laws.proofs.Claims.{Shut, Unended, Claim, claim_kept}
use Rattle.answer_laws.proofs.Former.{Own, Old}
use Rattle.answer_laws.proofs.Telling.{Still, Told}

-- what the session of a transaction is told
pub data ToldOf (t : Live) : Reply → Type 0 where
  Unsent : is_uncommitted t.status ≡ true → ToldOf t reply.Disconnected
  Unclear : ToldOf t reply.Unknown

-- ---- over all transactions
-- what is live and what waits once some of them have ended
module _ (n : ModelNode) where
  abbrev ToldTo : ℕ → Reply → Type 0
  ToldTo s r = (get n.waiting s ≡ Some r) ⊎ ((t : Live) × (get n.live s ≡ Some t) × ToldOf t r)

  pub record Ended (live : FiniteMap nat_cmp Live) (waiting : FiniteMap nat_cmp Reply)
      : Type 0 where
    pub fewer : (s : ℕ) (t : Live) → get live s ≡ Some t → get n.live s ≡ Some t
    pub told : (s : ℕ) (r : Reply) → get waiting s ≡ Some r → ToldTo s r
    pub idle : (s : ℕ) (r : Reply) → get waiting s ≡ Some r → get live s ≡ None

  pub record EndedNode (m : ModelNode) : Type 0 where
    pub only : m ≡ record n { live = m.live; waiting = m.waiting }
    pub ended : Ended m.live m.waiting

  module _ (s : ℕ) (t : Live) (there : get n.live s ≡ Some t) (m : ModelNode)
      (h : EndedNode m) where
    gone : (r : Reply) → ToldOf t r → EndedNode (end_with m s r)
    gone r told = record {
      only = ap (λ (x : ModelNode).
          record x { live = remove m.live s; waiting = insert m.waiting s r }) h.only;
      ended = record {
        fewer = each_left numbers m.live s (λ q u. get n.live q ≡ Some u) h.ended.fewer;
        told = each_put numbers m.waiting s ToldTo h.ended.told r (inr (t, there, told));
        idle = idle_insert m.live s m.waiting h.ended.idle r;
      };
    }

    by_status : (untaken : Bool) (st : Status) → t.status ≡ st
        → EndedNode (ended_where m s (told_at_leave untaken st))
    by_status untaken status.Running now = gone reply.Disconnected (Unsent (ap is_uncommitted now))
    by_status untaken status.FragmentSent now =
        gone reply.Disconnected (Unsent (ap is_uncommitted now))
    by_status true status.CommitSent now = gone reply.Unknown Unclear
    by_status true status.KilledSent now = gone reply.Unknown Unclear
    by_status untaken _ now = h

  all_ended : (queue : List Message) (es : List (ℕ × Live)) (m : ModelNode) → EndedNode m
      → ((e : ℕ × Live) → In e es → get n.live e.0 ≡ Some e.1)
      → EndedNode (fold (leave_one queue) m es)
  all_ended queue [] m h there = h
  all_ended queue (e ∷ es) m h there =
      all_ended queue es (leave_one queue m e)
      (by_status e.0 e.1 (there e (inl refl)) m h (waits_in queue e.1) e.1.status refl)
      (λ x i. there x (inr i))

  sessions_ended : ((s : ℕ) (r : Reply) → get n.waiting s ≡ Some r → get n.live s ≡ None)
      → EndedNode (sessions_left n)
  unfolding sessions_left
  sessions_ended idle =
      all_ended (n.ordered ++ n.outbox) n.live.entries n (record {
        only = refl;
        ended = record { fewer = λ s t there. there; told = λ s r there. inl there; idle = idle };
      }) (λ e i. get_from_in n.live e.0 e.1 i)

-- ---- what was sent, and what answers claim
module _ (order : List Event) (n : ModelNode) (live : FiniteMap nat_cmp Live)
    (waiting : FiniteMap nat_cmp Reply) (e : Ended n live waiting) where
  abbrev after : ModelNode
  after = departed (record n { live = live; waiting = waiting })

  none_left : (test : WriteSet → Bool) → count_sent test n.at.member order n.outbox ≡ 0
      → count_sent test n.at.member order [] ≡ 0
  none_left test none = omega (arith, none)

  past_left : Pasts order n → Pasts order after
  past_left h = record {
    fresh = λ b above. none_left (is_of b) (h.fresh b above);
    once = λ b. omega (arith, h.once b);
    each = λ s t there.
        let past = h.each s t (e.fewer s t there) in record {
          unended = λ o. none_left (is_end_of t.trx.begin) (past.unended o);
          unsent = λ o none. none_left (is_of t.trx.begin) (past.unsent o none);
          passed = past.passed;
        };
    idle = e.idle;
  }

  shut_left : (test : WriteSet → Bool) (trx : TrxId) → Shut test order n trx
      → Shut test order after trx
  shut_left test trx h = record {
    home = h.home;
    begun = h.begun;
    gone = λ s t there. h.gone s t (e.fewer s t there);
    none = none_left test h.none;
  }

  -- former members' claims are of what is committed alone
  claimed_left : (former : List ℕ) → Still former order n former order after
  claimed_left former a r (Own h) =
      Own (claim_kept order n after refl (omega arith) a (λ test kind. shut_left test a.trx) r h)
  claimed_left former a r (Old h) = Old h

  -- of a transaction that is told DISCONNECTED no commit was sent, and none will be
  module _ (f : Facts order n) (h : Pasts order n) where
    l : Lined order n.at.member n.at.begin n.at.serial n.at.committed n.at.certified n.live
        (pending_sets order n)
    l = sets_lined order n f

    told_claims : (s : ℕ) (t : Live) → get n.live s ≡ Some t → get live s ≡ None → (r : Reply)
        → ToldOf t r → Claim order after (asker_of t) r
    told_claims s t there none _ (Unsent may) = Unended (record {
      home = (l.each s t there).of_member;
      begun = (l.each s t there).begun;
      gone = λ q u at same.
          let here = l.begins q s u t (e.fewer q u at) there same in
          some_not_none u (get live q) at (ap (get live) here ∙ none);
      none = none_left (is_end_of t.trx.begin) ((h.each s t there).unended may);
    })
    told_claims s t there none _ Unclear = tt

    told_left : (s : ℕ) (r : Reply) → get live s ≡ None → ToldTo n s r → Told order n after s r
    told_left s r none (inl before) = inl before
    told_left s r none (inr new) =
        inr (new.0, new.1, told_claims s new.0 new.1 none r new.2)

-- ---- the node that left
module _ (order : List Event) (n : ModelNode) (h : Pasts order n) where
  x : EndedNode n (sessions_left n)
  x = sessions_ended n h.idle

  pub left_past : Pasts order (left_node n)
  unfolding left_node
  left_past =
      subst (λ m. Pasts order (departed m)) (sym x.only)
      (past_left order n (sessions_left n).live (sessions_left n).waiting x.ended h)

  pub left_claimed : (former : List ℕ) → Still former order n former order (left_node n)
  unfolding left_node
  left_claimed former =
      subst (λ m. Still former order n former order (departed m)) (sym x.only)
      (claimed_left order n (sessions_left n).live (sessions_left n).waiting x.ended former)

  pub left_told : Facts order n → (s : ℕ) (r : Reply) → get (left_node n).waiting s ≡ Some r
      → Told order n (left_node n) s r
  unfolding left_node
  left_told f s r there =
      subst (λ m. Told order n (departed m) s r) (sym x.only)
      (told_left order n (sessions_left n).live (sessions_left n).waiting x.ended f h s r
      (x.ended.idle s r there) (x.ended.told s r there))
