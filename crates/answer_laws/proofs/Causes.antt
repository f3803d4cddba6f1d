-- What an answer claims when it begins to wait: of a transaction that commits, and of one that a
-- unit aborts.
use Rattle.std.proofs.Common.{◌≡◌, ℕ, ◌+◌, ◌≤◌, Bool, true, false, List, length, Option, Some, None, refl, ap, subst, ◌∙◌, arith, ◌<◌}
use Rattle.finite_map.specs.FiniteMap.{get, remove}
use Rattle.finite_map.proofs.Edits.{numbers, untied, left}
use Rattle.wsrep_base.specs.declared.ids.TrxId.{TrxId}
use Rattle.key_sets.specs.Keys.{touches}
use Rattle.order_event.specs.declared.event.Event.{Event}
use Rattle.order_event.specs.declared.event.Event.TheVariants as event
use Rattle.order_event.specs.declared.event.Message.{Message}
use Rattle.write_set.specs.declared.write_set.WriteSet.{WriteSet}
use Rattle.cert_meaning.specs.declared.items.CommitItem.{CommitItem}
use Rattle.client_trx.specs.Live.{Live, is_uncommitted, rollback_of, rollback_due}
use Rattle.node_meaning.specs.Node.{ModelNode, send_any}
use Rattle.node_meaning.specs.Steps.{committer_of}
use Rattle.node_meaning.specs.Facts.{Facts, Lined, commit_at, sets_of, ProgressInRange}
use Rattle.node_meaning.proofs.EntryLaws.{entry_found}
use Rattle.node_meaning.proofs.AdvanceFacts.{commits_at, passed_by}
use Rattle.node_meaning.proofs.RangeLaws.{rollback-decoded}
use Rattle.node_laws.proofs.Sendable.{due_is}
use Rattle.course_laws.specs.Ordered.{pending_sets}
use Rattle.course_laws.proofs.PendingSets.{sets_lined, within_order}
use Rattle.answer_laws.specs.Answers.{asker_of, ByCommit, FailsBehind}
use Rattle.answer_laws.specs.Counting.{is_end_of, count_sent}
use Rattle.answer_laws.proofs.Counted.{sent-one, one_there, end_is, no_end}
use Rattle.answer_laws.proofs.Made.{made_at}
use Rattle.answer_laws.proofs.Pasts.{Pasts}
use Rattle.answer_laws.proofs.Claims.{IsShut, Unended, Defeats, Stands}

module _ (order : List Event) (n : ModelNode) (f : Facts order n) where
  abbrev m : ℕ
  m = n.at.member

  abbrev c : ℕ
  c = n.at.certified

  l : Lined order m n.at.begin n.at.serial n.at.committed c n.live (pending_sets order n)
  l = sets_lined order n f

  -- ---- a transaction commits with the next number
  pub commit_stands : (s : ℕ) (t : Live) → get n.live s ≡ Some t
      → committer_of n.live (n.at.committed + 1) ≡ Some (s, t)
      → Stands order m (n.at.committed + 1) (n.at.committed + 1) (asker_of t)
  commit_stands s t there found =
      let own = l.each s t there in
      let passed = passed_by order n.at.committed c (n.at.committed + 1)
      (sets_of t.trx.begin (pending_sets order n)) t t.status own.stands
      (entry_found n.live (commits_at (n.at.committed + 1)) (s, t) found).passes in
      record {
        home = own.of_member;
        above = omega arith;
        within = omega arith;
        stands = passed.is_commit;
        changes = passed.changes;
      }

  -- ---- a transaction is defeated
  module _ (h : Pasts order n) (s : ℕ) (t : Live) (there : get n.live s ≡ Some t) where
    -- what fails of it stands behind all that is certified
    pub fails_behind : (v : ℕ) → v ≤ c → FailsBehind order v t.trx
    fails_behind v within before w at fails =
        let out : before < c → ⊥ = λ below. fails ((h.each s t there).passed before w below at) in
        grind (arith, within, out)

    -- a passed commit is another one's
    pub not_own : (v : ℕ) (item : CommitItem) → v ≤ length order → commit_at order v ≡ Some item
        → is_uncommitted t.status ≡ true → item.trx ≡ t.trx → ⊥
    not_own v item inside is may same =
        let made = made_at order v item inside is in
        let home : item.trx.member ≡ m = ap (λ (x : TrxId). x.member) same
        ∙ (l.each s t there).of_member in
        let begin : made.set.begin ≡ t.trx.begin =
        ap (λ (x : TrxId). x.begin) (made.write.of_trx ∙ same) in
        let one = one_there (is_end_of t.trx.begin) m order made.before made.write.body made.set
        (made.write.there ∙ ap (λ k. Some (event.Write k made.write.body)) home) made.write.is
        (end_is t.trx.begin made.set begin made.ends) in
        let none = (h.each s t there).unended may in omega (arith, one, none)

    pub gone_from : (q : ℕ) (u : Live) → get (remove n.live s) q ≡ Some u
        → u.trx.begin ≡ t.trx.begin → ⊥
    gone_from q u at same =
        let was = left numbers n.live s q u at in
        untied numbers q s was.elsewhere (l.begins q s u t was.there there same)

    -- it ends before its commit is sent, and maybe leaves a rollback
    module _ (may : is_uncommitted t.status ≡ true) where
      pub shut_by : (test : WriteSet → Bool) (outbox : List Message)
          → count_sent test m order outbox ≡ 0
          → IsShut test order m n.at.begin outbox (remove n.live s) t.trx
      shut_by test outbox none = record {
        home = (l.each s t there).of_member;
        begun = (l.each s t there).begun;
        gone = gone_from;
        none = none;
      }

      pub shut_ended : IsShut (is_end_of t.trx.begin) order m n.at.begin n.outbox
          (remove n.live s) t.trx
      shut_ended = shut_by (is_end_of t.trx.begin) n.outbox ((h.each s t there).unended may)

      pub shut_back : ProgressInRange n.at → (due : Option WriteSet)
          → rollback_due t n.at.serial n.at.committed ≡ due
          → IsShut (is_end_of t.trx.begin) order m n.at.begin (send_any n due).outbox
          (remove n.live s) t.trx
      shut_back range None is = shut_ended
      shut_back range (Some w) is =
          let back = rollback_of t n.at.serial n.at.committed in
          let same : back ≡ w = due_is t n.at.serial n.at.committed w is in
          let read = rollback-decoded n.at t range (l.each s t there).of_member
          (l.each s t there).begun (f.sendable s t there) in
          let one = sent-one (is_end_of t.trx.begin) m order n.outbox back false read
          (no_end t.trx.begin back refl) in
          let none = (h.each s t there).unended may in
          subst (λ x. IsShut (is_end_of t.trx.begin) order m n.at.begin
          (send_any n (Some x)).outbox (remove n.live s) t.trx) same
          (shut_by (is_end_of t.trx.begin) (send_any n (Some back)).outbox
          (omega (arith, one, none)))

    -- by a unit whose commit touches its keys
    pub unit_defeats : (number : ℕ) (item : CommitItem) → number ≤ c
        → commit_at order number ≡ Some item → touches item.keys t.keys ≡ true
        → is_uncommitted t.status ≡ true → (outbox : List Message)
        → IsShut (is_end_of t.trx.begin) order m n.at.begin outbox (remove n.live s) t.trx
        → Defeats order m n.at.begin outbox (remove n.live s) number (asker_of t)
    unit_defeats number item within is touching may outbox shut =
        let inside = within_order order n f in record {
          within = omega (arith, within, inside);
          prevailed = ByCommit item is
              (not_own number item (omega (arith, within, inside)) is may) touching;
          behind = fails_behind number within;
          barred = Unended shut;
        }
