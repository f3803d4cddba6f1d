-- A transaction whose write set fails, as an event came first, is defeated by that event.
use Rattle.std.proofs.Common.{◌≡◌, ℕ, ◌≤◌, ◌<◌, Bool, true, false, cond, List, ◌∷◌, length, inl, inr, ◌⊎◌, Some, refl, ap, sym, subst, ◌∙◌, arith, eq-eqb, true≢false}
use Rattle.std.specs.Prelude.{◌==◌, ◌||◌, not}
use Rattle.std.specs.List.{AllByRecursion}
use Rattle.finite_map.specs.FiniteMap.{get, remove}
use Rattle.wsrep_base.specs.declared.ids.TrxId.{TrxId}
use Rattle.wsrep_base.specs.declared.verdict.Verdict.{Verdict}
use Rattle.wsrep_base.specs.declared.verdict.Verdict.TheVariants as verdict
use Rattle.key_sets.specs.Keys.{Keys, touches, union}
use Rattle.key_sets.proofs.KeyLaws.{touches_from_conflicts, touches-symm, touches-union}
use Rattle.order_event.specs.declared.event.Event.{Event}
use Rattle.order_event.specs.declared.event.Event.TheVariants as event
use Rattle.write_set.specs.declared.write_set.WriteSet.{WriteSet}
use Rattle.std.proofs.lemmas.Option.{same_Some, slice_get_within}
use Rattle.std.proofs.lemmas.Bool.{or_parts, or_right, true_from_ne_false, not_from_false}
use Rattle.cert_meaning.specs.declared.items.CommitItem.{CommitItem}
use Rattle.cert_meaning.specs.State.{FoldState, is_open, fragments_of, fragment_keys}
use Rattle.cert_meaning.specs.Verdict as rules
use Rattle.cert_meaning.specs.Verdict.{trx_of, is_end, is_start, is_rollback, is_broken}
use Rattle.cert_meaning.specs.Fold.{state_at}
use Rattle.client_trx.specs.Live.{Live, is_sent, is_uncommitted}
use Rattle.client_trx.specs.declared.status.Status.{Status}
use Rattle.client_trx.specs.declared.status.Status.TheVariants as status
use Rattle.node_meaning.specs.Node.{ModelNode}
use Rattle.node_meaning.specs.Facts.{Facts, Lined, Gathered, IsFragmentOf, IsCommitOf, HasFailed, Alone, One, Lost, StandsBy, sets_of, commit_at}
use Rattle.node_meaning.proofs.CertifyFacts.{out_not, none_there}
use Rattle.node_laws.proofs.SetLists.{equal, of-first}
use Rattle.node_laws.proofs.Moves.{IsJudged, verdict_next, CameFirst, AsCommit, AsFragment, with_certified}
use Rattle.course_laws.specs.Ordered.{pending_sets, IsPlaced, OrderedFacts, Stage, Early, Since}
use Rattle.course_laws.proofs.PendingSets.{sets_lined, own_next}
use Rattle.answer_laws.specs.Answers.{asker_of, IsWriteAt, PassesAt, Prevailed, ByCommit, ByFragment}
use Rattle.answer_laws.specs.Counting.{is_end_of}
use Rattle.answer_laws.proofs.Counted.{two_there, end_is}
use Rattle.answer_laws.proofs.Made.{made_at}
use Rattle.answer_laws.proofs.Pasts.{Pasts}
use Rattle.answer_laws.proofs.Claims.{Unended, Failed, IsBarred, Defeats}
use Rattle.answer_laws.proofs.Causes.{fails_behind, not_own, shut_ended}
use Rattle.answer_laws.proofs.Prevailing.{conflict_earlier, held_earlier, conflict_is, held_is}

-- ---- what the write set that waits for its verdict says of its transaction
record IsHead (s : FoldState) (t : Live) (w : WriteSet) : Type 0 where
  start : is_start w ≡ (w.fragment == 0)
  gathered : Gathered s t w.keys w.ops w.fragment
  kind : (is_uncommitted t.status ≡ true) ⊎ (is_end w ≡ true)

fragment_start : (w : WriteSet) (b : Bool) → w.flags ≡ cond b 1 0 → is_start w ≡ b
fragment_start w b flags = grind arith

commit_start : (w : WriteSet) (b : Bool) → w.flags ≡ cond b 3 2
    → (is_start w ≡ b) × (is_end w ≡ true)
commit_start w b flags = (grind arith, grind arith)

first_alone : (P : WriteSet → Type 0) (failed : Type 0) (mine left : List WriteSet) (w : WriteSet)
    → mine ≡ w ∷ left → Alone P failed mine → P w
first_alone P failed mine left w same (One x is h) =
    let head : x ≡ w = cc in
    subst P head h
first_alone P failed mine left w same (Lost none h) = cc

module _ (order : List Event) (p c : ℕ) (t : Live) (mine left : List WriteSet) (w : WriteSet)
    (same : mine ≡ w ∷ left) where
  commit_head : Alone (IsCommitOf (state_at order c) t) (HasFailed order c t.trx) mine
      → IsHead (state_at order c) t w
  commit_head alone =
      let h = first_alone (IsCommitOf (state_at order c) t) (HasFailed order c t.trx) mine left w
      same alone in
      let flags = commit_start w (w.fragment == 0) h.flags in
      record { start = flags.0; gathered = h.gathered; kind = inr flags.1 }

  head_by : (st : Status) → t.status ≡ st → StandsBy order p c mine t st → is_sent st ≡ true
      → IsHead (state_at order c) t w
  head_by status.FragmentSent now stands waits =
      let h = first_alone (IsFragmentOf (state_at order c) t) (HasFailed order c t.trx) mine left w
      same stands in
      record {
        start = fragment_start w (w.fragment == 0) h.flags;
        gathered = h.gathered;
        kind = inl (ap is_uncommitted now);
      }
  head_by status.CommitSent now stands waits = commit_head stands
  head_by status.KilledSent now stands waits = commit_head stands
  head_by _ now stands waits = absurd (true≢false (sym waits))

-- it stands where its transaction goes on
count_by : (s : FoldState) (w : WriteSet) (b : Bool) → w.fragment == 0 ≡ b
    → cond b (is_open s (trx_of w)) (not (is_open s (trx_of w))
    || not (w.fragment == length (fragments_of s (trx_of w)))) ≡ false
    → length (fragments_of s (trx_of w)) ≡ w.fragment
count_by s w true first placed =
    ap length (none_there (get s.open_trx (trx_of w)) placed) ∙ sym (equal w.fragment 0 first)
count_by s w false more placed =
    sym (equal w.fragment _ (true_from_ne_false _ (λ no. true≢false
    (sym (not_from_false _ no) ∙ (or_parts _ _ placed).1))))

count_placed : (s : FoldState) (w : WriteSet) → is_start w ≡ (w.fragment == 0)
    → is_broken s w ≡ false → length (fragments_of s (trx_of w)) ≡ w.fragment
count_placed s w start placed =
    count_by s w (w.fragment == 0) refl
    (ap (λ b. cond b (is_open s (trx_of w)) (not (is_open s (trx_of w))
    || not (w.fragment == length (fragments_of s (trx_of w))))) (sym start)
    ∙ out_not s w placed)

-- what touches its last write set touches the whole transaction
touches_whole : (x all front last : Keys) → all ≡ union front last → touches x last ≡ true
    → touches x all ≡ true
touches_whole x all front last is h =
    touches-symm x all ∙ ap (λ ks. touches ks x) is ∙ touches-union front last x
    ∙ or_right (touches front x) (touches last x) (touches-symm last x ∙ h)

module _ (order : List Event) (n : ModelNode) (f : Facts order n) (stage : Stage order n)
    (h : Pasts order n) (s : ℕ) (t : Live) (body : List ℕ) (w : WriteSet)
    (judged : IsJudged order n s t body w) where
  abbrev m : ℕ
  m = n.at.member

  abbrev c : ℕ
  c = n.at.certified

  abbrev left_sets : List WriteSet
  left_sets = pending_sets order (with_certified n)

  inside : c < length order
  inside = slice_get_within order c (event.Write m body) judged.next

  l : Lined order m n.at.begin n.at.serial n.at.committed c n.live (pending_sets order n)
  l = sets_lined order n f

  sets_are : pending_sets order n ≡ w ∷ left_sets
  sets_are =
      let own = own_next order n f body judged.more judged.next in
      own.sets_are ∙ ap (λ x. x ∷ left_sets) (same_Some own.set w (sym own.read ∙ judged.is))

  home : t.trx.member ≡ m
  home = (l.each s t judged.there).of_member

  of_trx : trx_of w ≡ t.trx
  of_trx =
      let ours = (subst (Lined order m n.at.begin n.at.serial n.at.committed c n.live) sets_are
      l).ours in
      let member : w.member ≡ t.trx.member = ours.0.of_member ∙ sym home in
      λ i. record { member = member i; begin = sym judged.begin i }

  head : IsHead (state_at order c) t w
  head =
      head_by order n.at.committed c t (sets_of t.trx.begin (pending_sets order n))
      (sets_of t.trx.begin left_sets) w
      (ap (sets_of t.trx.begin) sets_are
      ∙ of-first t.trx.begin w left_sets true (eq-eqb w.begin t.trx.begin (sym judged.begin)))
      t.status refl (l.each s t judged.there).stands judged.waits

  at : IsWriteAt order c t.trx w
  at = record {
    body = body;
    there = judged.next ∙ ap (λ k. Some (event.Write k body)) (sym home);
    is = judged.is;
    of_trx = of_trx;
  }

  whole : OrderedFacts order n → is_rollback w ≡ false
      → t.keys ≡ union (fragment_keys (fragments_of (state_at order c) t.trx)) w.keys
  whole o back =
      let placed = (subst (AllByRecursion (IsPlaced (state_at order c))) sets_are o.placed).0 in
      let count = count_placed (state_at order c) w head.start (placed back) in
      (head.gathered.whole
      (ap (λ x. length (fragments_of (state_at order c) x)) (sym of_trx) ∙ count)).0

  -- no commit of it passes
  barred_by : (PassesAt order c w → ⊥) → (is_uncommitted t.status ≡ true) ⊎ (is_end w ≡ true)
      → IsBarred order m n.at.begin n.outbox (remove n.live s) t.trx
  barred_by fails (inl may) = Unended (shut_ended order n f h s t judged.there may)
  barred_by fails (inr ends) = Failed c w home at ends fails

  -- a passed commit is another one's
  other_by : (v : ℕ) → v ≤ c → (item : CommitItem) → commit_at order v ≡ Some item
      → (is_uncommitted t.status ≡ true) ⊎ (is_end w ≡ true) → item.trx ≡ t.trx → ⊥
  other_by v within item is (inl may) same =
      not_own order n f h s t judged.there v item (omega (arith, within, inside)) is may same
  other_by v within item is (inr ends) same =
      let made = made_at order v item (omega (arith, within, inside)) is in
      let own : item.trx.member ≡ m = ap (λ (x : TrxId). x.member) same ∙ home in
      let here = two_there (is_end_of t.trx.begin) m order made.before c made.write.body body
      made.set w
      (made.write.there ∙ ap (λ k. Some (event.Write k made.write.body)) own) made.write.is
      (end_is t.trx.begin made.set
      (ap (λ (x : TrxId). x.begin) (made.write.of_trx ∙ same)) made.ends)
      judged.next judged.is (end_is t.trx.begin w (sym judged.begin) ends)
      (omega (arith, h.once t.trx.begin)) in
      omega (arith, here, made.number, within)

  conflict_prevails : OrderedFacts order n → (v : ℕ) → verdict_next order n w ≡ verdict.Conflict v
      → Prevailed order v (asker_of t) × (v ≤ c)
  conflict_prevails o v is =
      let found = conflict_is (state_at order c) m w v is in
      let e = conflict_earlier order c w.last_seen v w.keys (omega (arith, inside)) found.0 in (
        ByCommit e.item e.is_commit (other_by v e.within e.item e.is_commit head.kind)
            (touches_whole e.item.keys t.keys _ w.keys (whole o found.1)
            (touches_from_conflicts e.item.keys w.keys e.conflicting)),
        e.within,
      )

  held_prevails : OrderedFacts order n → (v : ℕ) → verdict_next order n w ≡ verdict.Held v
      → Prevailed order v (asker_of t) × (v ≤ c)
  held_prevails o v is =
      let found = held_is (state_at order c) m w v is in
      let e = held_earlier order c v (trx_of w) w.keys found.0 in
      let at = e.at.0 in (
        ByFragment at.before e.other at.set (e.number ∙ at.number) at.write at.passes at.no_end
            at.no_rollback (λ same. e.differs (same ∙ sym of_trx))
            (touches_whole at.set.keys t.keys _ w.keys (whole o found.1)
            (ap (λ k. touches k w.keys) at.keys ∙ e.touching)),
        omega (arith, e.number, e.at.1),
      )

  prevails_by : OrderedFacts order n → (v : ℕ) (x : Verdict) → CameFirst v x
      → verdict_next order n w ≡ x → Prevailed order v (asker_of t) × (v ≤ c)
  prevails_by o v x AsCommit is = conflict_prevails o v is
  prevails_by o v x AsFragment is = held_prevails o v is

  prevails : (v : ℕ) → CameFirst v (verdict_next order n w) → Stage order n
      → Prevailed order v (asker_of t) × (v ≤ c)
  prevails v came (Early early) = absurd (early.idle s t judged.there)
  prevails v came (Since o) = prevails_by o v (verdict_next order n w) came refl

  no_pass : (v : ℕ) (x : Verdict) → CameFirst v x → x ≡ verdict.Pass → ⊥
  no_pass v x AsCommit is = cc
  no_pass v x AsFragment is = cc

  pub cert_defeats : (v : ℕ) → CameFirst v (verdict_next order n w)
      → Defeats order m n.at.begin n.outbox (remove n.live s) v (asker_of t)
  cert_defeats v came =
      let p = prevails v came stage in
      let member : w.member ≡ m = ap (λ (x : TrxId). x.member) of_trx ∙ home in
      record {
        within = omega (arith, p.1, inside);
        prevailed = p.0;
        behind = fails_behind order n f h s t judged.there v p.1;
        barred = barred_by (λ pass. no_pass v (verdict_next order n w) came
            (ap (λ k. rules.verdict (state_at order c) k w) (sym member) ∙ pass)) head.kind;
      }
