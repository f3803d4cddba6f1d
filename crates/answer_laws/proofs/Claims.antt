-- What an answer claims of its transaction when it is given: each move keeps it, and so does an
-- order that grows.
use Rattle.std.proofs.Common.{◌≡◌, ℕ, zero, suc, ◌+◌, ◌≤◌, ◌<◌, Bool, true, false, List, [], ◌∷◌, ◌++◌, length, Some, refl, sym, subst, ◌∙◌, arith}
use Rattle.std.specs.Prelude.{◌==◌}
use Rattle.std.specs.Ordering.{nat_cmp}
use Rattle.finite_map.specs.FiniteMap.{FiniteMap, get, insert, remove}
use Rattle.finite_map.proofs.Edits.{numbers, each_put, each_left}
use Rattle.wsrep_base.specs.declared.ids.TrxId.{TrxId}
use Rattle.row_model.specs.declared.calls.Reply.{Reply}
use Rattle.row_model.specs.declared.calls.Reply.TheVariants as reply
use Rattle.order_event.specs.declared.event.Event.{Event}
use Rattle.order_event.specs.declared.event.Message.{Message}
use Rattle.order_event.specs.declared.event.Message.TheVariants as message
use Rattle.write_set.specs.declared.write_set.WriteSet.{WriteSet}
use Rattle.write_set.specs.Spelling.{spelling}
use Rattle.write_set.specs.Reading.{decoded}
use Rattle.cert_meaning.specs.Verdict.{is_end}
use Rattle.client_trx.specs.Live.{Live, with_status, passed_status, commit_of, fragment_of, fragment_sent, rollback_of}
use Rattle.client_trx.specs.declared.status.Status.TheVariants as status
use Rattle.node_meaning.specs.Node.{ModelNode}
use Rattle.node_meaning.specs.Client.{extended}
use Rattle.node_meaning.specs.Facts.{Facts, commit_at}
use Rattle.node_meaning.specs.Units.{ops_at}
use Rattle.node_meaning.proofs.ClientFacts.{first}
use Rattle.node_meaning.proofs.RangeLaws.{commit-decoded, fragment-decoded, rollback-decoded}
use Rattle.node_laws.proofs.SetLists.{unequal}
use Rattle.node_laws.proofs.Sendable.{due_is}
use Rattle.node_laws.proofs.Moves.{Kind, Move, May, Begins, Extends, Streams, Sends, Ends, TakesBack, Unlocks, Reports, Orders, Leaves, Passes, Fails, Commits, ended_with}
use Rattle.course_laws.proofs.PendingSets.{sets_lined, within_order}
use Rattle.answer_laws.specs.Answers.{Asker, IsWriteAt, PassesAt, Prevailed, FailsBehind}
use Rattle.answer_laws.specs.Counting.{is_of, is_end_of, count_sent}
use Rattle.answer_laws.proofs.Counted.{sent-one, sent-report, end_of_other}

-- ---- a transaction that has ended, of which nothing of a kind was sent
pub record IsShut (test : WriteSet → Bool) (order : List Event) (member begin : ℕ)
    (outbox : List Message) (live : FiniteMap nat_cmp Live) (trx : TrxId) : Type 0 where
  pub home : trx.member ≡ member
  pub begun : trx.begin < begin
  pub gone : (s : ℕ) (t : Live) → get live s ≡ Some t → t.trx.begin ≡ trx.begin → ⊥
  pub none : count_sent test member order outbox ≡ 0

abbrev pub Shut : (WriteSet → Bool) → List Event → ModelNode → TrxId → Type 0
Shut test order n trx = IsShut test order n.at.member n.at.begin n.outbox n.live trx

module _ (test : WriteSet → Bool) (trx : TrxId)
    (kind : (w : WriteSet) → w.begin == trx.begin ≡ false → test w ≡ false)
    (order : List Event) (n : ModelNode) (f : Facts order n) (h : Shut test order n trx) where
  abbrev Apart : ℕ → Live → Type 0
  Apart s t = t.trx.begin ≡ trx.begin → ⊥

  gone_put : (s : ℕ) (t u : Live) → get n.live s ≡ Some t → u.trx.begin ≡ t.trx.begin
      → (q : ℕ) (v : Live) → get (insert n.live s u) q ≡ Some v → Apart q v
  gone_put s t u there same =
      each_put numbers n.live s Apart h.gone u (λ own. h.gone s t there (sym same ∙ own))

  gone_left : (s q : ℕ) (v : Live) → get (remove n.live s) q ≡ Some v → Apart q v
  gone_left s = each_left numbers n.live s Apart h.gone

  -- with other live ones, where nothing of the kind waits either
  shut_with : {outbox : List Message} {live : FiniteMap nat_cmp Live}
      → count_sent test n.at.member order outbox ≡ 0
      → ((s : ℕ) (t : Live) → get live s ≡ Some t → Apart s t)
      → IsShut test order n.at.member n.at.begin outbox live trx
  shut_with none gone = record { home = h.home; begun = h.begun; gone = gone; none = none }

  sent_none : (s : ℕ) (t : Live) (w : WriteSet) → get n.live s ≡ Some t → w.begin ≡ t.trx.begin
      → decoded (spelling w) ≡ Some w
      → count_sent test n.at.member order (n.outbox ++ message.Write (spelling w) ∷ []) ≡ 0
  sent_none s t w there begin read =
      let other = unequal w.begin trx.begin (λ same. h.gone s t there (sym begin ∙ same)) in
      let one = sent-one test n.at.member order n.outbox w false read (kind w other) in
      omega (arith, one, h.none)

  pub shut_moved : (given : Type 0) → given → (k : Kind) (m : ModelNode) → May true k
      → Move order given n k m → Shut test order m trx
  shut_moved given g k m may (Begins s unit can) = record {
    home = h.home;
    begun = omega (arith, h.begun);
    gone = each_put numbers n.live s Apart h.gone (first n.at.member n.at.begin unit)
        (λ own. omega (arith, h.begun, own));
    none = h.none;
  }
  shut_moved given g k m may (Extends s t st here fits free) =
      shut_with h.none (gone_put s t (extended t st) here.there refl)
  shut_moved given g k m may (Streams s t here change range) =
      let own = (sets_lined order n f).each s t here.there in
      let read = fragment-decoded n.at t (range g) own.of_member own.begun
      (f.sendable s t here.there) in
      shut_with (sent_none s t (fragment_of t n.at.serial n.at.committed) here.there refl read)
      (gone_put s t (fragment_sent t) here.there refl)
  shut_moved given g k m may (Sends s t here range) =
      let own = (sets_lined order n f).each s t here.there in
      let read = commit-decoded n.at t (range g) own.of_member own.begun
      (f.sendable s t here.there) in
      shut_with (sent_none s t (commit_of t n.at.serial n.at.committed) here.there refl read)
      (gone_put s t (with_status t status.CommitSent) here.there refl)
  shut_moved given g k m may (Ends s t o there) = shut_with h.none (gone_left s)
  shut_moved given g k m may (TakesBack s t w o there due range) =
      let own = (sets_lined order n f).each s t there in
      let inside : n.at.committed ≤ length order =
      omega (arith, f.in_order.committed_fits, within_order order n f) in
      let back = rollback_of t n.at.serial n.at.committed in
      let read = rollback-decoded n.at t (range g inside) own.of_member own.begun
      (f.sendable s t there) in
      subst (λ x. Shut test order (ended_with n s x o) trx)
      (due_is t n.at.serial n.at.committed w due)
      (shut_with (sent_none s t back there refl read) (gone_left s))
  shut_moved given g k m may (Unlocks s t to there unlocked) =
      shut_with h.none (gone_put s t (with_status t to) there refl)
  shut_moved given g k m may (Reports stays) =
      shut_with (sent-report test n.at.member order n.outbox n.at.committed ∙ h.none) h.gone
  shut_moved given g k m may (Orders front back is) = absurd may
  shut_moved given g k m may (Leaves stay) = absurd may
  shut_moved given g k m may (Passes s t body w judged pass) =
      shut_with h.none (gone_put s t (with_status t (passed_status (n.at.certified + 1) t.status))
      judged.there refl)
  shut_moved given g k m may (Fails s t body w v judged came) = shut_with h.none (gone_left s)
  shut_moved given g k m may (Commits s t can there is) = shut_with h.none (gone_left s)
  shut_moved given g k m may _ = h

-- ---- no commit of it passes, now or later
pub data IsBarred (order : List Event) (member begin : ℕ) (outbox : List Message)
    (live : FiniteMap nat_cmp Live) (trx : TrxId) : Type 0 where
  Unended : IsShut (is_end_of trx.begin) order member begin outbox live trx
      → IsBarred order member begin outbox live trx
  Failed : (before : ℕ) (w : WriteSet) → trx.member ≡ member → IsWriteAt order before trx w
      → is_end w ≡ true → (PassesAt order before w → ⊥)
      → IsBarred order member begin outbox live trx

pub record Defeats (order : List Event) (member begin : ℕ) (outbox : List Message)
    (live : FiniteMap nat_cmp Live) (v : ℕ) (a : Asker) : Type 0 where
  pub within : v ≤ length order
  pub prevailed : Prevailed order v a
  pub behind : FailsBehind order v a.trx
  pub barred : IsBarred order member begin outbox live a.trx

pub record Stands (order : List Event) (member p n : ℕ) (a : Asker) : Type 0 where
  pub home : a.trx.member ≡ member
  pub above : 0 < n
  pub within : n ≤ p
  pub stands : commit_at order n ≡ Some (record { number = n; trx = a.trx; keys = a.keys })
  pub changes : ops_at order n ≡ a.ops

-- what is claimed, by the answer
abbrev pub ClaimOf : List Event → ℕ → ℕ → ℕ → List Message → FiniteMap nat_cmp Live → Asker
    → Reply → Type 0
ClaimOf order member begin p outbox live a (reply.Committed zero) =
    IsShut (is_of a.trx.begin) order member begin outbox live a.trx
ClaimOf order member begin p outbox live a (reply.Committed (suc n)) =
    Stands order member p (suc n) a
ClaimOf order member begin p outbox live a (reply.DeadlockCert v) =
    Defeats order member begin outbox live v a
ClaimOf order member begin p outbox live a (reply.DeadlockBf v) =
    Defeats order member begin outbox live v a
ClaimOf order member begin p outbox live a reply.RolledBack =
    IsBarred order member begin outbox live a.trx
ClaimOf order member begin p outbox live a reply.Disconnected =
    IsBarred order member begin outbox live a.trx
ClaimOf order member begin p outbox live a answer = Unit {0}

abbrev pub Claim : List Event → ModelNode → Asker → Reply → Type 0
Claim order n a r = ClaimOf order n.at.member n.at.begin n.at.committed n.outbox n.live a r

-- over one order a claim is kept, where what is shut is
module _ (order : List Event) (n m : ModelNode) (same : m.at.member ≡ n.at.member)
    (grows : n.at.committed ≤ m.at.committed) (a : Asker)
    (shut : (test : WriteSet → Bool)
    → ((w : WriteSet) → w.begin == a.trx.begin ≡ false → test w ≡ false)
    → Shut test order n a.trx → Shut test order m a.trx) where
  barred_kept : IsBarred order n.at.member n.at.begin n.outbox n.live a.trx
      → IsBarred order m.at.member m.at.begin m.outbox m.live a.trx
  barred_kept (Unended h) = Unended (shut (is_end_of a.trx.begin) (end_of_other a.trx.begin) h)
  barred_kept (Failed before w home at ends fails) =
      Failed before w (home ∙ sym same) at ends fails

  defeats_kept : (v : ℕ) → Defeats order n.at.member n.at.begin n.outbox n.live v a
      → Defeats order m.at.member m.at.begin m.outbox m.live v a
  defeats_kept v h = record {
    within = h.within;
    prevailed = h.prevailed;
    behind = h.behind;
    barred = barred_kept h.barred;
  }

  pub claim_kept : (r : Reply) → Claim order n a r → Claim order m a r
  claim_kept (reply.Committed zero) h = shut (is_of a.trx.begin) (λ w other. other) h
  claim_kept (reply.Committed (suc j)) h = record {
    home = h.home ∙ sym same;
    above = h.above;
    within = omega (arith, h.within, grows);
    stands = h.stands;
    changes = h.changes;
  }
  claim_kept (reply.DeadlockCert v) h = defeats_kept v h
  claim_kept (reply.DeadlockBf v) h = defeats_kept v h
  claim_kept reply.RolledBack h = barred_kept h
  claim_kept reply.Disconnected h = barred_kept h
  claim_kept _ h = tt
