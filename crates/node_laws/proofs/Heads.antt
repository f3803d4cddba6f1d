-- The oldest pending write set is certified: its transaction passes, ends, or stays as it is where
-- that failed; all others stand as
-- they did.
use Rattle.std.proofs.Common.{◌≡◌, ℕ, ◌+◌, ◌≤◌, ◌<◌, Bool, true, false, cond, List, [], ◌∷◌, ◌++◌, length, map, Option, Some, refl, ap, sym, subst, ◌∙◌, arith, add-one, eq-eqb, true≢false}
use Rattle.std.specs.Prelude.{◌==◌, ◌||◌, not, slice_get, unwrap_or}
use Rattle.std.specs.Ordering.{nat_cmp}
use Rattle.std.proofs.lemmas.Option.{same_Some}
use Rattle.finite_map.specs.FiniteMap.{FiniteMap, empty, get, insert, remove}
use Rattle.wsrep_base.specs.declared.ids.TrxId.{TrxId}
use Rattle.wsrep_base.specs.declared.verdict.Verdict.{Verdict}
use Rattle.wsrep_base.specs.declared.verdict.Verdict.TheVariants as verdict
use Rattle.wsrep_base.specs.declared.verdict.Judged.TheVariants as became
use Rattle.order_event.specs.declared.event.Event.{Event}
use Rattle.order_event.specs.declared.event.Event.TheVariants as event
use Rattle.write_set.specs.declared.write_set.WriteSet.{WriteSet}
use Rattle.write_set.specs.Reading.{decoded}
use Rattle.cert_meaning.specs.State.{FoldState, is_member, is_open, fragments_of, whole_keys, whole_ops}
use Rattle.cert_meaning.specs.Verdict as rules
use Rattle.cert_meaning.specs.Verdict.{trx_of, is_start, is_rollback, is_broken}
use Rattle.cert_meaning.specs.Fold.{Adds, Commits, commit_of, commit_by, commit_made, commit_written, committed_ops, ops_by, ops_written, effect_of, after, judged_as, judged_write, state_at, fragment_by}
use Rattle.cert_meaning.proofs.FoldLaws.{number-at, state_at-next}
use Rattle.client_trx.specs.Live.{Live, is_sent, with_status, passed_status}
use Rattle.client_trx.specs.declared.status.Status.{Status}
use Rattle.client_trx.specs.declared.status.Status.TheVariants as status
use Rattle.node_meaning.specs.Units.{ops_at, ops_by as ops_of_event}
use Rattle.node_meaning.specs.Facts.{sets_of, SerialsRise, Gathered, IsFragmentOf, IsCommitOf, IsUndecided, HasFailed, HasPassed, Alone, One, Lost, StandsBy, IsLive, Lined}
use Rattle.node_meaning.proofs.PassedLaws.{commit_at-is}
use Rattle.node_meaning.proofs.CertifyFacts.{broken_not, out_not, none_there}
use Rattle.node_meaning.proofs.GrowFacts.{stands_kept}
use Rattle.node_laws.proofs.SetLists.{equal, of-first, serials_lower}
use Rattle.node_laws.proofs.Lining.{replaced, ended}
use Rattle.node_laws.proofs.Gathering.{Fewer, gathered_fewer, gathered_passed}
use Rattle.node_laws.proofs.Fates.{Fate, Stays, Grows, fate, grown}

-- ---- one more is certified, and a transaction has the same fragments or none
module _ (order : List Event) (p c : ℕ) where
  failed_later : (trx : TrxId) → HasFailed order c trx → HasFailed order (c + 1) trx
  failed_later trx h = record {
    before = h.before;
    within = omega (arith, h.within);
    body = h.body;
    there = h.there;
    set = h.set;
    is = h.is;
    of_trx = h.of_trx;
    undecided = h.undecided;
  }

  passed_later : (t : Live) (number : ℕ) → HasPassed order p c t number
      → HasPassed order p (c + 1) t number
  passed_later t number h = record {
    above = h.above;
    within = omega (arith, h.within);
    is_commit = h.is_commit;
    changes = h.changes;
  }

  -- it stands so over the write sets that are left
  pub live_later : (m b : ℕ) (before after : List WriteSet) (t : Live)
      → Fewer (state_at order c) (state_at order (c + 1)) t.trx
      → sets_of t.trx.begin after ≡ sets_of t.trx.begin before → IsLive order m b p c before t
      → IsLive order m b p (c + 1) after t
  live_later m b before after t fewer same h = record {
    of_member = h.of_member;
    begun = h.begun;
    stands = stands_kept order order p c p (c + 1) t
        (λ keys ops sent. gathered_fewer (state_at order c)
        (state_at order (c + 1)) t keys ops sent fewer)
        (failed_later t.trx) (passed_later t) (sets_of t.trx.begin after) t.status
        (subst (λ mine. StandsBy order p c mine t t.status) (sym same) h.stands);
  }

-- ---- whose fragment can pass
own_by : (a b : Bool) (rest : Verdict) → cond (not a || not b) verdict.Stranger rest ≡ verdict.Pass
    → b ≡ true
own_by true true rest is = refl
own_by true false rest is = cc
own_by false b rest is = cc

passed_own : (s : FoldState) (member : ℕ) (w : WriteSet) → rules.verdict s member w ≡ verdict.Pass
    → w.member == member ≡ true
unfolding rules.verdict
passed_own s member w is = own_by (is_member s member) (w.member == member) _ is

adds_pass : (w : WriteSet) (v : Verdict) → effect_of (judged_as w v) ≡ Adds → v ≡ verdict.Pass
adds_pass w verdict.Pass h = refl
adds_pass w verdict.Malformed h = cc
adds_pass w verdict.Stranger h = cc
adds_pass w verdict.Repeat h = cc
adds_pass w verdict.Future h = cc
adds_pass w verdict.Stale h = cc
adds_pass w verdict.Broken h = cc
adds_pass w (verdict.Conflict v) h = cc
adds_pass w (verdict.Held v) h = cc

-- what an event leaves of a transaction that is not its own
module _ (s : FoldState) where
  pub fewer_view : (version : ℕ) (members : List ℕ) (trx : TrxId)
      → Fewer s (after s (event.View version members)) trx
  fewer_view version members trx = by (fate s (event.View version members) trx)
    where
      by : Fate s (event.View version members) trx
          → Fewer s (after s (event.View version members)) trx
      by (Stays h) = h
      by (Grows m body w is _ _ _ _) = cc

  pub fewer_report : (member number : ℕ) (trx : TrxId)
      → Fewer s (after s (event.Report member number)) trx
  fewer_report member number trx = by (fate s (event.Report member number) trx)
    where
      by : Fate s (event.Report member number) trx
          → Fewer s (after s (event.Report member number)) trx
      by (Stays h) = h
      by (Grows m body w is _ _ _ _) = cc

  abbrev sender_of : Event → ℕ
  sender_of (event.Write member body) = member
  sender_of (event.View version members) = 0
  sender_of (event.Report member number) = 0

  abbrev body_of : Event → List ℕ
  body_of (event.Write member body) = body
  body_of (event.View version members) = []
  body_of (event.Report member number) = []

  -- of another member
  pub fewer_foreign : (sender : ℕ) (body : List ℕ) (trx : TrxId) → (sender ≡ trx.member → ⊥)
      → Fewer s (after s (event.Write sender body)) trx
  fewer_foreign sender body trx foreign = by (fate s (event.Write sender body) trx)
    where
      by : Fate s (event.Write sender body) trx → Fewer s (after s (event.Write sender body)) trx
      by (Stays h) = h
      by (Grows m other w is read of_trx adds _) =
          absurd (foreign (ap sender_of is ∙ sym
          (equal w.member m (passed_own s m w (adds_pass w (rules.verdict s m w) adds)))
          ∙ ap (λ (t : TrxId). t.member) of_trx))

  -- of a write set that is another transaction's
  fewer_other : (sender : ℕ) (body : List ℕ) (w : WriteSet) (trx : TrxId) → decoded body ≡ Some w
      → (w.begin ≡ trx.begin → ⊥)
      → Fewer s (after s (event.Write sender body)) trx
  fewer_other sender body w trx read differs = by (fate s (event.Write sender body) trx)
    where
      by : Fate s (event.Write sender body) trx → Fewer s (after s (event.Write sender body)) trx
      by (Stays h) = h
      by (Grows m other v is other_read of_trx adds _) =
          let same : w ≡ v = same_Some w v (sym read ∙ ap decoded (ap body_of is) ∙ other_read) in
          absurd (differs (ap (λ (x : WriteSet). x.begin) same
          ∙ ap (λ (t : TrxId). t.begin) of_trx))

-- ---- the head of what is pending
pub data IsSplit (o : Option WriteSet) (os : List (Option WriteSet))
    (sets : List WriteSet) : Type 0 where
  Split : (w : WriteSet) (rest : List WriteSet) → sets ≡ w ∷ rest → o ≡ Some w → os ≡ map Some rest
      → IsSplit o os sets

pub split : (o : Option WriteSet) (os : List (Option WriteSet)) (sets : List WriteSet)
    → o ∷ os ≡ map Some sets → IsSplit o os sets
split o os [] is = cc
split o os (w ∷ rest) is =
    let head : o ≡ Some w = cc in
    let tail : os ≡ map Some rest = cc in
    Split w rest refl head tail

-- the one that stands alone is the head, and no other is left
head_alone : (P : WriteSet → Type 0) (failed : Type 0) (mine : List WriteSet) (w : WriteSet)
    (left : List WriteSet) → mine ≡ w ∷ left
    → Alone P failed mine → P w × (left ≡ [])
head_alone P failed mine w left same (One v is h) =
    let both : v ∷ [] ≡ w ∷ left = sym is ∙ same in
    let head : v ≡ w = cc in
    let tail : left ≡ [] = cc in
    (subst P head h, tail)
head_alone P failed mine w left same (Lost none h) = cc

-- ---- how many fragments a write set that passes follows
module _ (w : WriteSet) where
  fragment_start : (b : Bool) → w.flags ≡ cond b 1 0 → is_start w ≡ b
  fragment_start true flags = ap (λ f. f == 1 || f == 3) flags
  fragment_start false flags = ap (λ f. f == 1 || f == 3) flags

  commit_start : (b : Bool) → w.flags ≡ cond b 3 2 → is_start w ≡ b
  commit_start true flags = ap (λ f. f == 1 || f == 3) flags
  commit_start false flags = ap (λ f. f == 1 || f == 3) flags

  fragment_passes : (b : Bool) → w.flags ≡ cond b 1 0
      → (is_rollback w ≡ false) × (judged_as w verdict.Pass ≡ became.Fragment)
  fragment_passes true flags = (
    ap (λ f. f == 4) flags,
    ap (λ f. cond (f == 4) became.Rollback
        (cond (f == 2 || f == 3) became.Commit became.Fragment)) flags,
  )
  fragment_passes false flags = (
    ap (λ f. f == 4) flags,
    ap (λ f. cond (f == 4) became.Rollback
        (cond (f == 2 || f == 3) became.Commit became.Fragment)) flags,
  )

  commit_passes : (b : Bool) → w.flags ≡ cond b 3 2
      → (is_rollback w ≡ false) × (judged_as w verdict.Pass ≡ became.Commit)
  commit_passes true flags = (
    ap (λ f. f == 4) flags,
    ap (λ f. cond (f == 4) became.Rollback
        (cond (f == 2 || f == 3) became.Commit became.Fragment)) flags,
  )
  commit_passes false flags = (
    ap (λ f. f == 4) flags,
    ap (λ f. cond (f == 4) became.Rollback
        (cond (f == 2 || f == 3) became.Commit became.Fragment)) flags,
  )

  second_false : (a b : Bool) → not a || not b ≡ false → b ≡ true
  second_false true true h = refl
  second_false true false h = cc
  second_false false b h = cc

  module _ (s : FoldState) where
    abbrev mine : ℕ
    mine = length (fragments_of s (trx_of w))

    abbrev out_of_place : Bool → Bool
    out_of_place start = cond start (is_open s (trx_of w))
        (not (is_open s (trx_of w)) || not (w.fragment == mine))

    count_by : (b : Bool) → w.fragment == 0 ≡ b → out_of_place b ≡ false → mine ≡ w.fragment
    count_by true first placed = ap length (none_there (get s.open_trx (trx_of w)) placed)
        ∙ sym (equal w.fragment 0 first)
    count_by false more placed =
        sym (equal w.fragment mine (second_false (is_open s (trx_of w))
        (w.fragment == mine) placed))

    -- as many as its number says
    pub count : (member : ℕ) → is_start w ≡ (w.fragment == 0) → is_rollback w ≡ false
        → rules.verdict s member w ≡ verdict.Pass → mine ≡ w.fragment
    count member start back pass =
        count_by (w.fragment == 0) refl (ap out_of_place (sym start)
        ∙ out_not s w (broken_not s member w pass back))

-- ---- the transaction that sent the head
module _ (order : List Event) (m b serial p c : ℕ) (live : FiniteMap nat_cmp Live) (w : WriteSet)
    (rest : List WriteSet)
    (l : Lined order m b serial p c live (w ∷ rest)) (body : List ℕ)
    (there : slice_get order c ≡ Some (event.Write m body))
    (read : decoded body ≡ Some w) (inside : c < length order) (behind : p ≤ c) where
  abbrev before : FoldState
  before = state_at order c

  abbrev judgement : Verdict
  judgement = rules.verdict before m w

  left_serials : SerialsRise 0 rest serial
  left_serials = serials_lower 0 w.serial rest serial (omega arith) l.serials.1

  next_is : state_at order (c + 1) ≡ after before (event.Write m body)
  next_is = state_at-next order c (event.Write m body) there

  fewer_for : (v : Live) → w.begin == v.trx.begin ≡ false
      → Fewer before (state_at order (c + 1)) v.trx
  fewer_for v differs =
      subst (λ r. Fewer before r v.trx) (sym next_is)
      (fewer_other before m body w v.trx read
      (λ same. true≢false (sym (eq-eqb w.begin v.trx.begin same) ∙ differs)))

  other_later : (v : Live) → w.begin == v.trx.begin ≡ false → IsLive order m b p c (w ∷ rest) v
      → IsLive order m b p (c + 1) rest v
  other_later v differs h =
      live_later order p c m b (w ∷ rest) rest v (fewer_for v differs)
      (sym (of-first v.trx.begin w rest false differs)) h

  -- no live one has sent it
  pub head_alien : ((o : ℕ) (v : Live) → get live o ≡ Some v → w.begin == v.trx.begin ≡ false)
      → Lined order m b serial p (c + 1) live rest
  head_alien none = record {
    ours = l.ours.1;
    serials = left_serials;
    each = λ o v is. other_later v (none o v is) (l.each o v is);
    begins = l.begins;
  }

  module _ (se : ℕ) (t : Live) (is : get live se ≡ Some t) (begin : t.trx.begin ≡ w.begin) where
    own : IsLive order m b p c (w ∷ rest) t
    own = l.each se t is

    others : (o : ℕ) (v : Live) → t.trx.begin == v.trx.begin ≡ false
        → IsLive order m b p c (w ∷ rest) v → IsLive order m b p (c + 1) rest v
    others o v differs h = other_later v (ap (λ k. k == v.trx.begin) (sym begin) ∙ differs) h

    mine_is : sets_of t.trx.begin (w ∷ rest) ≡ w ∷ sets_of t.trx.begin rest
    mine_is = of-first t.trx.begin w rest true (eq-eqb w.begin t.trx.begin (sym begin))

    trx_is : trx_of w ≡ t.trx
    trx_is =
        let member : w.member ≡ t.trx.member = l.ours.0.of_member ∙ sym own.of_member in
        λ i. record { member = member i; begin = sym begin i }

    nothing_mine : sets_of t.trx.begin (w ∷ rest) ≡ [] → ⊥
    nothing_mine none = absurd (let e : w ∷ sets_of t.trx.begin rest ≡ [] = sym mine_is ∙ none in
        cc)

    sent_in : (st : Status) → StandsBy order p c (sets_of t.trx.begin (w ∷ rest)) t st
        → is_sent st ≡ true
    sent_in status.Running h = absurd (nothing_mine h.0)
    sent_in status.FragmentSent h = refl
    sent_in status.CommitSent h = refl
    sent_in (status.Certified number) h = absurd (nothing_mine h.0)
    sent_in status.KilledSent h = refl
    sent_in (status.Replaying number) h = absurd (nothing_mine h.0)

    -- it waits for its verdict
    pub head_waits : is_sent t.status ≡ true
    head_waits = sent_in t.status own.stands

    -- it ends
    pub head_ended : Lined order m b serial p (c + 1) (remove live se) rest
    head_ended = ended order m b serial p c live (w ∷ rest) l se t is p
        (c + 1) rest serial l.ours.1 left_serials others

    now : (to : Status) → StandsBy order p (c + 1) (sets_of t.trx.begin rest) (with_status t to) to
        → IsLive order m b p (c + 1) rest (with_status t to)
    now to stands = record { of_member = own.of_member; begun = own.begun; stands = stands }

    now_as : (to : Status) → StandsBy order p (c + 1) (sets_of t.trx.begin rest)
        (with_status t to) to
        → Lined order m b serial p (c + 1) (insert live se (with_status t to)) rest
    now_as to stands =
        replaced order m b serial p c live (w ∷ rest) l se t is p (c + 1)
        (with_status t to) refl rest serial l.ours.1 left_serials (now to stands) others

    fragment_head : Alone (IsFragmentOf before t) (HasFailed order c t.trx)
        (sets_of t.trx.begin (w ∷ rest))
        → IsFragmentOf before t w × (sets_of t.trx.begin rest ≡ [])
    fragment_head alone =
        head_alone (IsFragmentOf before t) (HasFailed order c t.trx)
        (sets_of t.trx.begin (w ∷ rest)) w (sets_of t.trx.begin rest) mine_is alone

    commit_head : Alone (IsCommitOf before t) (HasFailed order c t.trx)
        (sets_of t.trx.begin (w ∷ rest))
        → IsCommitOf before t w × (sets_of t.trx.begin rest ≡ [])
    commit_head alone =
        head_alone (IsCommitOf before t) (HasFailed order c t.trx)
        (sets_of t.trx.begin (w ∷ rest)) w (sets_of t.trx.begin rest) mine_is alone

    -- ---- it failed, and its transaction stays as it is
    module _ (undecided : IsUndecided judgement) where
      has_failed : HasFailed order (c + 1) t.trx
      has_failed = record {
        before = c;
        within = omega arith;
        body = body;
        there = there ∙ ap (λ k. Some (event.Write k body)) (sym own.of_member);
        set = w;
        is = read;
        of_trx = trx_is;
        undecided = subst (λ k. IsUndecided (rules.verdict before k w))
            (sym own.of_member) undecided;
      }

      stays_in : (st : Status) → StandsBy order p c (sets_of t.trx.begin (w ∷ rest)) t st
          → StandsBy order p (c + 1) (sets_of t.trx.begin rest) t st
      stays_in status.Running h = absurd (nothing_mine h.0)
      stays_in status.FragmentSent h = Lost (fragment_head h).1 has_failed
      stays_in status.CommitSent h = Lost (commit_head h).1 has_failed
      stays_in (status.Certified number) h = absurd (nothing_mine h.0)
      stays_in status.KilledSent h = Lost (commit_head h).1 has_failed
      stays_in (status.Replaying number) h = absurd (nothing_mine h.0)

      stays : IsLive order m b p (c + 1) rest t
      stays = record {
        of_member = own.of_member;
        begun = own.begun;
        stands = stays_in t.status own.stands;
      }

      each_by : (o : ℕ) (v : Live) (same : Bool) → t.trx.begin == v.trx.begin ≡ same
          → get live o ≡ Some v → IsLive order m b p (c + 1) rest v
      each_by o v true same at =
          let here : se ≡ o = l.begins se o t v is at (equal t.trx.begin v.trx.begin same) in
          subst (IsLive order m b p (c + 1) rest)
          (same_Some t v (sym is ∙ ap (get live) here ∙ at)) stays
      each_by o v false same at = others o v same (l.each o v at)

      pub head_failed : Lined order m b serial p (c + 1) live rest
      head_failed = record {
        ours = l.ours.1;
        serials = left_serials;
        each = λ o v at. each_by o v (t.trx.begin == v.trx.begin) refl at;
        begins = l.begins;
      }

    -- ---- it passes
    module _ (pass : judgement ≡ verdict.Pass) where
      counted : is_start w ≡ (w.fragment == 0) → is_rollback w ≡ false
          → length (fragments_of before t.trx) ≡ w.fragment
      counted start back = ap (λ x. length (fragments_of before x)) (sym trx_is)
          ∙ count w before m start back pass

      -- as a fragment
      fragment_passed : IsFragmentOf before t w
          → Gathered (state_at order (c + 1))
          (with_status t status.Running) t.new_keys t.new_ops t.sent
      fragment_passed f =
          let kind = fragment_passes w (w.fragment == 0) f.flags in
          let adds : effect_of (judged_write before m (Some w)) ≡ Adds =
          ap (λ v. effect_of (judged_as w v)) pass ∙ ap effect_of kind.1 in
          let more : fragments_of (state_at order (c + 1)) t.trx
          ≡ fragments_of before t.trx ++ fragment_by before w ∷ [] =
          ap (λ r. fragments_of r t.trx) next_is
          ∙ ap (fragments_of (after before (event.Write m body))) (sym trx_is)
          ∙ grown before m body w read adds ∙ ap
          (λ x. fragments_of before x ++ fragment_by before w ∷ []) trx_is in
          let g = gathered_passed before (state_at order (c + 1)) t w.keys w.ops w.fragment
          (fragment_by before w) refl refl
          (counted (fragment_start w (w.fragment == 0) f.flags) kind.0) more f.gathered in
          subst (λ k. Gathered (state_at order (c + 1))
          (with_status t status.Running) t.new_keys t.new_ops k) f.number
          (subst (λ ks. Gathered (state_at order (c + 1))
          (with_status t status.Running) ks t.new_ops (w.fragment + 1)) (sym f.no_keys)
          (subst (λ os. Gathered (state_at order (c + 1)) (with_status t status.Running) empty os
          (w.fragment + 1)) (sym f.no_ops)
          (record { first = g.first; whole = g.whole })))

      -- as a commit
      made_commit : effect_of (judged_write before m (Some w)) ≡ Commits
          → commit_of before (event.Write m body) ≡ Some (commit_by before w)
      unfolding commit_of
      made_commit effect = ap (λ o. commit_written before m o) read
          ∙ ap (commit_made before w) effect

      made_ops : effect_of (judged_write before m (Some w)) ≡ Commits
          → ops_of_event before (Some (event.Write m body))
          ≡ whole_ops (fragments_of before (trx_of w)) w.ops
      unfolding committed_ops
      made_ops effect = ap (λ o. unwrap_or (ops_written before m o) []) read
          ∙ ap (λ e. unwrap_or (ops_by before w e) []) effect

      commit_passed : IsCommitOf before t w → (to : Status)
          → HasPassed order p (c + 1) (with_status t to) (c + 1)
      commit_passed f to =
          let kind = commit_passes w (w.fragment == 0) f.flags in
          let all = f.gathered.whole (counted (commit_start w (w.fragment == 0) f.flags) kind.0) in
          let effect : effect_of (judged_write before m (Some w)) ≡ Commits =
          ap (λ v. effect_of (judged_as w v)) pass ∙ ap effect_of kind.1 in
          let number : before.number ≡ c = number-at order c (omega (arith, inside)) in
          let keys : whole_keys (fragments_of before (trx_of w)) w.keys ≡ t.keys =
          ap (λ x. whole_keys (fragments_of before x) w.keys) trx_is ∙ sym all.0 in
          let ops : whole_ops (fragments_of before (trx_of w)) w.ops ≡ t.ops =
          ap (λ x. whole_ops (fragments_of before x) w.ops) trx_is ∙ sym all.1 in
          record {
            above = omega (arith, behind);
            within = omega arith;
            is_commit = commit_at-is order c (event.Write m body) there ∙ made_commit effect
                ∙ (λ i. Some (record { number = number i + 1; trx = trx_is i; keys = keys i }));
            changes = ap (ops_at order) (add-one c) ∙ ap (ops_of_event before) there
                ∙ made_ops effect ∙ ops;
          }

      passed_in : (st : Status) → StandsBy order p c (sets_of t.trx.begin (w ∷ rest)) t st
          → Lined order m b serial p (c + 1) (insert live se
          (with_status t (passed_status (c + 1) st))) rest
      passed_in status.Running h = absurd (nothing_mine h.0)
      passed_in status.FragmentSent h =
          let f = fragment_head h in now_as status.Running (f.1, fragment_passed f.0)
      passed_in status.CommitSent h =
          let f = commit_head h in now_as (status.Certified (c + 1))
          (f.1, commit_passed f.0 (status.Certified (c + 1)))
      passed_in (status.Certified number) h = absurd (nothing_mine h.0)
      passed_in status.KilledSent h =
          let f = commit_head h in now_as (status.Replaying (c + 1))
          (f.1, commit_passed f.0 (status.Replaying (c + 1)))
      passed_in (status.Replaying number) h = absurd (nothing_mine h.0)

      pub head_passed : Lined order m b serial p (c + 1)
          (insert live se (with_status t (passed_status (c + 1) t.status))) rest
      head_passed = passed_in t.status own.stands
