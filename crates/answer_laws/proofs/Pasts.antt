-- What a node has sent of each transaction, kept by every move: of one that is not begun nothing,
-- of one whose commit is not sent no commit, and of none more than one commit.
use Rattle.std.proofs.Common.{◌≡◌, ℕ, ◌+◌, ◌≤◌, ◌<◌, Bool, true, false, cond, List, [], ◌∷◌, ◌++◌, Option, Some, None, refl, ap, sym, subst, ◌∙◌, arith, eq-eqb, true≢false, inl, inr}
use Rattle.std.specs.Prelude.{◌==◌}
use Rattle.std.specs.Ordering.{nat_cmp, eq_by_cmp}
use Rattle.std.proofs.lemmas.Bool.{and_parts, cases_Bool, cond_both, false_from_ne_true}
use Rattle.finite_map.specs.FiniteMap.{FiniteMap, get, insert, remove, get-remove}
use Rattle.finite_map.proofs.Edits.{numbers, tied, Inserted, AtKey, Elsewhere, inserted, left, get-taken, get-put_beside, each_put, each_left}
use Rattle.wsrep_base.specs.declared.ids.TrxId.{TrxId}
use Rattle.row_model.specs.declared.calls.Reply.{Reply}
use Rattle.order_event.specs.declared.event.Event.{Event}
use Rattle.order_event.specs.declared.event.Event.TheVariants as event
use Rattle.order_event.specs.declared.event.Message.{Message}
use Rattle.order_event.specs.declared.event.Message.TheVariants as message
use Rattle.write_set.specs.declared.write_set.WriteSet.{WriteSet}
use Rattle.write_set.specs.Spelling.{spelling}
use Rattle.write_set.specs.Reading.{decoded}
use Rattle.cert_meaning.specs.Verdict.{is_end}
use Rattle.client_trx.specs.Live.{Live, is_uncommitted, with_status, fragment_sent}
use Rattle.client_trx.specs.declared.status.Status.TheVariants as status
use Rattle.node_meaning.specs.Node.{ModelNode}
use Rattle.node_meaning.specs.Facts.{Facts, Lined}
use Rattle.node_meaning.proofs.ClientFacts.{first}
use Rattle.node_laws.proofs.SetLists.{equal, unequal}
use Rattle.node_laws.proofs.Lining.{elsewhere}
use Rattle.node_laws.proofs.Moves.{MayBegin, with_reply}
use Rattle.course_laws.specs.Ordered.{pending_sets}
use Rattle.course_laws.proofs.PendingSets.{sets_lined}
use Rattle.answer_laws.specs.Answers.{IsWriteAt, PassesAt}
use Rattle.answer_laws.specs.Counting.{is_of, is_end_of, count_sent}
use Rattle.answer_laws.proofs.Counted.{sent-one, sent-report, one_there, no_ends, end_of_other, no_end}

-- ---- what is kept
-- of a live transaction, among the events that are certified
pub record HasPast (order : List Event) (member certified : ℕ) (outbox : List Message)
    (t : Live) : Type 0 where
  pub unended : is_uncommitted t.status ≡ true
      → count_sent (is_end_of t.trx.begin) member order outbox ≡ 0
  pub unsent : is_uncommitted t.status ≡ true → t.sent ≡ 0
      → count_sent (is_of t.trx.begin) member order outbox ≡ 0
  pub passed : (before : ℕ) (w : WriteSet) → before < certified → IsWriteAt order before t.trx w
      → PassesAt order before w

pub record Past (order : List Event) (member begin certified : ℕ) (outbox : List Message)
    (live : FiniteMap nat_cmp Live) (waiting : FiniteMap nat_cmp Reply) : Type 0 where
  pub fresh : (b : ℕ) → begin ≤ b → count_sent (is_of b) member order outbox ≡ 0
  pub once : (b : ℕ) → count_sent (is_end_of b) member order outbox ≤ 1
  pub each : (s : ℕ) (t : Live) → get live s ≡ Some t → HasPast order member certified outbox t
  -- a session for which an answer waits has no transaction
  pub idle : (s : ℕ) (r : Reply) → get waiting s ≡ Some r → get live s ≡ None

abbrev pub Pasts : List Event → ModelNode → Type 0
Pasts order n = Past order n.at.member n.at.begin n.at.certified n.outbox n.live n.waiting

-- ---- sessions that are idle
module _ (live : FiniteMap nat_cmp Live) (s : ℕ) where
  pub idle_put : (u : Live) (q : ℕ) → (q ≡ s → ⊥) → get live q ≡ None
      → get (insert live s u) q ≡ None
  idle_put u q apart none =
      get-put_beside numbers live s u q
      (false_from_ne_true (eq_by_cmp nat_cmp q s) (λ tie. apart (tied numbers q s tie))) ∙ none

  pub idle_gone : (q : ℕ) → get live q ≡ None → get (remove live s) q ≡ None
  idle_gone q none =
      get-remove numbers.total live s q
      ∙ cond_both (eq_by_cmp nat_cmp q s) None (get live q) (λ o. o ≡ None) (λ _. refl) (λ _. none)

  module _ (waiting : FiniteMap nat_cmp Reply)
      (idle : (q : ℕ) (r : Reply) → get waiting q ≡ Some r → get live q ≡ None) where
    pub idle_insert : (answer : Reply) (q : ℕ) (r : Reply)
        → get (insert waiting s answer) q ≡ Some r → get (remove live s) q ≡ None
    idle_insert answer =
        each_put numbers waiting s (λ q _. get (remove live s) q ≡ None)
        (λ q r is. idle_gone q (idle q r is)) answer (get-taken numbers live s)

    idle_reply : (o : Option Reply) (q : ℕ) (r : Reply) → get (with_reply waiting s o) q ≡ Some r
        → get (remove live s) q ≡ None
    idle_reply None q r is = idle_gone q (idle q r is)
    idle_reply (Some answer) q r is = idle_insert answer q r is

-- ---- the moves that send nothing
module _ (order : List Event) (n : ModelNode) (h : Pasts order n) where
  abbrev m : ℕ
  m = n.at.member

  abbrev c : ℕ
  c = n.at.certified

  pub still_idle : (s : ℕ) (t u : Live) → get n.live s ≡ Some t → (q : ℕ) (r : Reply)
      → get n.waiting q ≡ Some r → get (insert n.live s u) q ≡ None
  still_idle s t u there q r is =
      let none = h.idle q r is in idle_put n.live s u q (λ same. cc) none

  -- a live transaction is changed
  pub put_past : (s : ℕ) (t u : Live) → get n.live s ≡ Some t → HasPast order m c n.outbox u
      → Past order m n.at.begin c n.outbox (insert n.live s u) n.waiting
  put_past s t u there past = record {
    fresh = h.fresh;
    once = h.once;
    each = each_put numbers n.live s (λ _ v. HasPast order m c n.outbox v) h.each u past;
    idle = still_idle s t u there;
  }

  -- and ends
  pub gone_past : (s : ℕ) (o : Option Reply)
      → Past order m n.at.begin c n.outbox (remove n.live s) (with_reply n.waiting s o)
  gone_past s o = record {
    fresh = h.fresh;
    once = h.once;
    each = each_left numbers n.live s (λ _ v. HasPast order m c n.outbox v) h.each;
    idle = idle_reply n.live s n.waiting h.idle o;
  }

  no_ends_fresh : (b : ℕ) → n.at.begin ≤ b → count_sent (is_end_of b) m order n.outbox ≡ 0
  no_ends_fresh b above = no_ends b m order n.outbox (h.fresh b above)

  -- nothing of a transaction that sent nothing stands in the order
  pub not_there : (trx : TrxId) (before : ℕ) (w : WriteSet) → trx.member ≡ m
      → count_sent (is_of trx.begin) m order n.outbox ≡ 0 → IsWriteAt order before trx w → ⊥
  not_there trx before w home none at =
      let one = one_there (is_of trx.begin) m order before at.body w
      (at.there ∙ ap (λ k. Some (event.Write k at.body)) home) at.is
      (eq-eqb w.begin trx.begin (ap (λ (x : TrxId). x.begin) at.of_trx)) in
      omega (arith, one, none)

  module _ (s unit : ℕ) (may : MayBegin n s) where
    abbrev new : Live
    new = first m n.at.begin unit

    new_past : HasPast order m c n.outbox new
    new_past = record {
      unended = λ _. no_ends_fresh n.at.begin (omega arith);
      unsent = λ _ _. h.fresh n.at.begin (omega arith);
      passed = λ before w inside at. absurd
          (not_there new.trx before w refl (h.fresh n.at.begin (omega arith)) at);
    }

    pub begun_past : Past order m (n.at.begin + 1) c n.outbox (insert n.live s new) n.waiting
    begun_past = record {
      fresh = λ b above. h.fresh b (omega (arith, above));
      once = h.once;
      each = each_put numbers n.live s (λ _ v. HasPast order m c n.outbox v) h.each new new_past;
      idle = λ q r is. idle_put n.live s new q (λ same. cc may.told) (h.idle q r is);
    }

  -- ---- a report is sent
  abbrev reported : List Message
  reported = n.outbox ++ message.Report n.at.committed ∷ []

  report_count : (test : WriteSet → Bool)
      → count_sent test m order reported ≡ count_sent test m order n.outbox
  report_count test = sent-report test m order n.outbox n.at.committed

  still_has : (t : Live) → HasPast order m c n.outbox t → HasPast order m c reported t
  still_has t past = record {
    unended = λ o. report_count (is_end_of t.trx.begin) ∙ past.unended o;
    unsent = λ o none. report_count (is_of t.trx.begin) ∙ past.unsent o none;
    passed = past.passed;
  }

  pub reported_past : Past order m n.at.begin c reported n.live n.waiting
  reported_past = record {
    fresh = λ b above. report_count (is_of b) ∙ h.fresh b above;
    once = λ b. let same = report_count (is_end_of b) in omega (arith, same, h.once b);
    each = λ s t there. still_has t (h.each s t there);
    idle = h.idle;
  }

  -- ---- a write set is sent
  module _ (f : Facts order n) (s : ℕ) (t : Live) (there : get n.live s ≡ Some t) (w : WriteSet)
      (begin : w.begin ≡ t.trx.begin) (read : decoded (spelling w) ≡ Some w) where
    abbrev now : List Message
    now = n.outbox ++ message.Write (spelling w) ∷ []

    l : Lined order m n.at.begin n.at.serial n.at.committed c n.live (pending_sets order n)
    l = sets_lined order n f

    counted : (test : WriteSet → Bool) (b : Bool) → test w ≡ b
        → count_sent test m order now ≡ count_sent test m order n.outbox + cond b 1 0
    counted test b is = sent-one test m order n.outbox w b read is

    same_count : (test : WriteSet → Bool) → test w ≡ false
        → count_sent test m order now ≡ count_sent test m order n.outbox
    same_count test is = let one = counted test false is in omega (arith, one)

    other_past : (u : Live) → t.trx.begin == u.trx.begin ≡ false → HasPast order m c n.outbox u
        → HasPast order m c now u
    other_past u differs past =
        let other : w.begin == u.trx.begin ≡ false = ap (λ k. k == u.trx.begin) begin ∙ differs in
        record {
          unended = λ o. same_count (is_end_of u.trx.begin) (end_of_other u.trx.begin w other)
              ∙ past.unended o;
          unsent = λ o none. same_count (is_of u.trx.begin) other ∙ past.unsent o none;
          passed = past.passed;
        }

    others : (q : ℕ) (u : Live) → eq_by_cmp nat_cmp q s ≡ false → get n.live q ≡ Some u
        → HasPast order m c now u
    others q u differs at =
        other_past u (elsewhere order m n.at.begin n.at.serial n.at.committed c n.live
        (pending_sets order n) l s t there q u differs at) (h.each q u at)

    fresh_sent : (b : ℕ) → n.at.begin ≤ b → count_sent (is_of b) m order now ≡ 0
    fresh_sent b above =
        let below = (l.each s t there).begun in
        same_count (is_of b) (unequal w.begin b (λ same. omega (arith, above, below, begin, same)))
        ∙ h.fresh b above

    -- it is no commit, or the first one
    once_sent : (is_end w ≡ true → is_uncommitted t.status ≡ true) → (b : ℕ)
        → count_sent (is_end_of b) m order now ≤ 1
    once_sent may b =
        elim (cases_Bool (is_end_of b w)) [
          | inl is ↦
              let parts = and_parts (w.begin == b) (is_end w) is in
              let here : t.trx.begin ≡ b = sym begin ∙ equal w.begin b parts.0 in
              omega (
                arith,
                counted (is_end_of b) true is,
                subst (λ k. count_sent (is_end_of k) m order n.outbox ≡ 0) here
                    ((h.each s t there).unended (may parts.1)),
              )
          | inr is ↦ omega (arith, counted (is_end_of b) false is, h.once b)
        ]

    pub sent_past : (is_end w ≡ true → is_uncommitted t.status ≡ true) → (u : Live)
        → HasPast order m c now u → Past order m n.at.begin c now (insert n.live s u) n.waiting
    sent_past may u past = record {
      fresh = fresh_sent;
      once = once_sent may;
      each = λ q v at. by q v (inserted numbers n.live s u q v at);
      idle = still_idle s t u there;
    }
      where
        by : (q : ℕ) (v : Live) → Inserted numbers n.live s u q v → HasPast order m c now v
        by q v (AtKey here same) = subst (HasPast order m c now) (sym same) past
        by q v (Elsewhere differs at) = others q v differs at

    pub last_past : is_end w ≡ false → (o : Option Reply)
        → Past order m n.at.begin c now (remove n.live s) (with_reply n.waiting s o)
    last_past none o = record {
      fresh = fresh_sent;
      once = once_sent (λ is. absurd (true≢false (sym is ∙ none)));
      each = λ q v at. let was = left numbers n.live s q v at in others q v was.elsewhere was.there;
      idle = idle_reply n.live s n.waiting h.idle o;
    }

    pub fragment_past : is_end w ≡ false → is_uncommitted t.status ≡ true
        → HasPast order m c now (fragment_sent t)
    fragment_past none may = record {
      unended = λ _. same_count (is_end_of t.trx.begin) (no_end t.trx.begin w none)
          ∙ (h.each s t there).unended may;
      unsent = λ _ zero_is. absurd (omega (arith, zero_is));
      passed = (h.each s t there).passed;
    }

    pub commit_past : HasPast order m c now (with_status t status.CommitSent)
    commit_past = record {
      unended = λ o. absurd (true≢false (sym o));
      unsent = λ o _. absurd (true≢false (sym o));
      passed = (h.each s t there).passed;
    }
