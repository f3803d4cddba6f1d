-- A claim that is kept to the end makes the answer right.
use Rattle.std.proofs.Common.{◌≡◌, ℕ, zero, suc, ◌≤◌, Bool, true, List, length, Some, ap, sym, subst, ◌∙◌, arith}
use Rattle.std.specs.Prelude.{slice_get}
use Rattle.wsrep_base.specs.declared.ids.TrxId.{TrxId}
use Rattle.row_model.specs.declared.calls.Reply.{Reply}
use Rattle.row_model.specs.declared.calls.Reply.TheVariants as reply
use Rattle.order_event.specs.declared.event.Event.{Event}
use Rattle.order_event.specs.declared.event.Event.TheVariants as event
use Rattle.write_set.specs.declared.write_set.WriteSet.{WriteSet}
use Rattle.cert_meaning.specs.declared.items.CommitItem.{CommitItem}
use Rattle.cert_meaning.specs.Verdict.{is_end}
use Rattle.node_meaning.specs.Node.{ModelNode}
use Rattle.node_meaning.specs.Facts.{Facts, commit_at}
use Rattle.course_laws.proofs.PendingSets.{within_order}
use Rattle.answer_laws.specs.Answers.{Asker, IsWriteAt, PassesAt, NeverCommits, IsRight}
use Rattle.answer_laws.specs.Counting.{is_end_of}
use Rattle.answer_laws.proofs.Counted.{one_there, two_there, end_is}
use Rattle.answer_laws.proofs.Made.{IsMadeAt, made_at}
use Rattle.answer_laws.proofs.Pasts.{Pasts, not_there}
use Rattle.answer_laws.proofs.Claims.{IsBarred, Unended, Failed, Stands, Claim}

-- an answer names a number that is not above what is committed
abbrev pub IsWithin : ℕ → Reply → Type 0
IsWithin p (reply.Committed n) = n ≤ p
IsWithin p answer = Unit {0}

module _ (order : List Event) (n : ModelNode) (f : Facts order n) (h : Pasts order n) where
  abbrev m : ℕ
  m = n.at.member

  at_home : (trx : TrxId) (before : ℕ) (w : WriteSet) → trx.member ≡ m
      → (at : IsWriteAt order before trx w)
      → slice_get order before ≡ Some (event.Write m at.body)
  at_home trx before w home at = at.there ∙ ap (λ k. Some (event.Write k at.body)) home

  ends_it : (trx : TrxId) (before : ℕ) (w : WriteSet) → IsWriteAt order before trx w
      → is_end w ≡ true → is_end_of trx.begin w ≡ true
  ends_it trx before w at ends =
      end_is trx.begin w (ap (λ (x : TrxId). x.begin) at.of_trx) ends

  -- a transaction has one commit at most in the order
  one_end : (trx : TrxId) → trx.member ≡ m → (j k : ℕ) (v w : WriteSet)
      → IsWriteAt order j trx v → is_end v ≡ true → IsWriteAt order k trx w → is_end w ≡ true
      → j ≡ k
  one_end trx home j k v w one ends other also =
      two_there (is_end_of trx.begin) m order j k one.body other.body v w
      (at_home trx j v home one) one.is (ends_it trx j v one ends)
      (at_home trx k w home other) other.is (ends_it trx k w other also)
      (omega (arith, h.once trx.begin))

  write_same : (trx : TrxId) (k : ℕ) (v w : WriteSet) → IsWriteAt order k trx v
      → IsWriteAt order k trx w → v ≡ w
  write_same trx k v w one other = cc

  of_commit : (trx : TrxId) (k : ℕ) (c : CommitItem) → c.trx ≡ trx → (made : IsMadeAt order k c)
      → IsWriteAt order made.before trx made.set
  of_commit trx k c is made = subst (λ x. IsWriteAt order made.before x made.set) is made.write

  never : (trx : TrxId)
      → IsBarred order m n.at.begin n.outbox n.live trx → NeverCommits order trx
  never trx (Unended shut) k c inside there is =
      let made = made_at order k c inside there in
      let at = of_commit trx k c is made in
      let one = one_there (is_end_of trx.begin) m order made.before at.body made.set
      (at_home trx made.before made.set shut.home at) at.is
      (ends_it trx made.before made.set at made.ends) in
      omega (arith, one, shut.none)
  never trx (Failed before w home at ends fails) k c inside there is =
      let made = made_at order k c inside there in
      let own = of_commit trx k c is made in
      let here = one_end trx home made.before before made.set w own made.ends at ends in
      let now = subst (λ j. IsWriteAt order j trx made.set) here own in
      fails (subst (PassesAt order before) (write_same trx before made.set w now at)
      (subst (λ j. PassesAt order j made.set) here made.passes))

  once : (j : ℕ) (a : Asker) → Stands order m n.at.committed j a → (k : ℕ) (c : CommitItem)
      → k ≤ length order → commit_at order k ≡ Some c → c.trx ≡ a.trx → k ≡ j
  once j a s k c inside there is =
      let i = within_order order n f in
      let own = made_at order j (record { number = j; trx = a.trx; keys = a.keys })
      (omega (arith, s.within, i, f.in_order.committed_fits)) s.stands in
      let made = made_at order k c inside there in
      let same = one_end a.trx s.home made.before own.before made.set own.set
      (of_commit a.trx k c is made) made.ends own.write own.ends in
      made.number ∙ ap suc same ∙ sym own.number

  pub claim_right : (a : Asker) (p : ℕ) (waited : Bool) (r : Reply) → IsWithin p r
      → Claim order n a r → IsRight order p a waited r
  claim_right a p waited (reply.Committed zero) within s =
      λ before w at. not_there order n h a.trx before w s.home s.none at
  claim_right a p waited (reply.Committed (suc j)) within s = (
    record { stands = s.stands; changes = s.changes; once = once (suc j) a s },
    within,
  )
  claim_right a p waited (reply.DeadlockCert v) within s =
      record { prevailed = s.prevailed; behind = s.behind; never = never a.trx s.barred }
  claim_right a p waited (reply.DeadlockBf v) within s =
      record { prevailed = s.prevailed; behind = s.behind; never = never a.trx s.barred }
  claim_right a p waited reply.RolledBack within s = never a.trx s
  claim_right a p waited reply.Disconnected within s = λ _. never a.trx s
  claim_right a p waited _ within s = tt
