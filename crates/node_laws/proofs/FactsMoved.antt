-- Every move keeps what holds of a node, part by part.
use Rattle.std.proofs.Common.{◌≡◌, ℕ, ◌+◌, ◌≤◌, ◌<◌, Bool, true, false, cond, List, length, Option, None, Some, refl, ap, sym, subst, ◌∙◌, arith, ltb-true, ltb-false}
use Rattle.std.specs.Prelude.{◌==◌, nat_lt, T}
use Rattle.std.proofs.Common.{eqb→eq}
use Rattle.std.proofs.lemmas.Option.{slice_get_within}
use Rattle.std.proofs.lemmas.Bool.{false_from_ne_true}
use Rattle.finite_map.proofs.Edits.{numbers, untied, left, each_put}
use Rattle.finite_map.specs.FiniteMap.{empty, get, remove}
use Rattle.key_sets.specs.Keys.{Keys, touches}
use Rattle.key_sets.proofs.KeyLaws.{touches-symm, touches-empty}
use Rattle.order_event.specs.declared.event.Event.{Event}
use Rattle.write_set.specs.Rules.{row_parts}
use Rattle.cert_meaning.specs.declared.items.CommitItem.{CommitItem}
use Rattle.client_trx.specs.Live.{Live, is_sent, has_locks, with_status, passed_status, fragment_sent}
use Rattle.client_trx.specs.declared.status.Status.{Status}
use Rattle.client_trx.specs.declared.status.Status.TheVariants as status
use Rattle.row_locks.specs.declared.holder.Holder.{Holder}
use Rattle.row_locks.specs.declared.holder.Holder.TheVariants.{Session, Unit as UnitHolder}
use Rattle.row_locks.specs.Holders.{same_holder}
use Rattle.row_locks.specs.Locks.{keys_at}
use Rattle.node_meaning.specs.declared.progress.Stage.TheVariants.{Started, Finished}
use Rattle.node_meaning.specs.Node.{ModelNode, ApplyUnit, locks_of}
use Rattle.node_meaning.specs.Client.{extended, met_by}
use Rattle.node_meaning.specs.Steps.{is_certified_at, is_local}
use Rattle.node_meaning.specs.Facts.{Facts, InOrder, HasUnit, AreApart}
use Rattle.node_meaning.proofs.EntryLaws.{some_not_none, less_from}
use Rattle.node_meaning.proofs.PassedLaws.{IsPassed, from_passed, none_touching}
use Rattle.node_meaning.proofs.LockLaws.{lock_keys, keys_of_live, keys_of_unit, keys_at-session, keys_at-unit}
use Rattle.node_meaning.proofs.TouchedLocks.{apart-ended, apart-replaced, apart-unlocked, apart-extended, apart-started, apart-finished, apart-unit_done}
use Rattle.node_meaning.proofs.ClientFacts.{remote_put, remote_left, free_of, first, no_lock}
use Rattle.node_meaning.proofs.CertifyFacts.{later_unit}
use Rattle.node_meaning.proofs.FinishFacts.{same_unit}
use Rattle.node_meaning.proofs.AdvanceFacts.{still_unit}
use Rattle.node_laws.proofs.Moves.{Kind, Move, Begins, Extends, Streams, Sends, Ends, TakesBack, Unlocks, Takes, Certifies, Passes, Fails, Starts, Finishes, Advances, Commits, Reaches, kept, Unlocked, Sent, Passed, MayStart, MayCommit}
use Rattle.node_laws.proofs.Sendable.{sendable_moved}
use Rattle.node_laws.proofs.SentMoved.{sent_moved}

unlocked_locks : (from to : Status) → Unlocked from to → has_locks to ≡ false
unlocked_locks from to Sent = refl
unlocked_locks from to (Passed number) = refl

unlocked_elsewhere : (from to : Status) (k : ℕ) → Unlocked from to → is_certified_at k to ≡ false
unlocked_elsewhere from to k Sent = refl
unlocked_elsewhere from to k (Passed number) = refl

locks_passed : (number : ℕ) (st : Status) → has_locks (passed_status number st) ≡ has_locks st
locks_passed number status.Running = refl
locks_passed number status.FragmentSent = refl
locks_passed number status.CommitSent = refl
locks_passed number (status.Certified m) = refl
locks_passed number status.KilledSent = refl
locks_passed number (status.Replaying m) = refl

module _ (order : List Event) (n : ModelNode) (f : Facts order n) where
  abbrev p : ℕ
  p = n.at.committed

  abbrev c : ℕ
  c = n.at.certified

  below_taken : c == n.at.taken ≡ false → c < n.at.taken
  below_taken more = less_from c n.at.taken f.in_order.certified_fits more

  below_certified : MayCommit order n → p < c
  below_certified may = less_from p c f.in_order.committed_fits may.more

  pub certified_inside : c ≤ length order
  certified_inside = omega (arith, f.in_order.certified_fits, f.in_order.taken_fits)

  -- ---- numbers
  in_order_moved : (given : Type 0) (k : Kind) (m : ModelNode) → Move order given n k m
      → InOrder order m.at.committed m.at.certified m.at.taken
  in_order_moved given k m (Takes e ordered there same) =
      let within = slice_get_within order n.at.taken e there in
      record {
        committed_fits = f.in_order.committed_fits;
        certified_fits = omega (arith, f.in_order.certified_fits);
        taken_fits = omega (arith, within);
      }
  in_order_moved given k m (Certifies e can) =
      let below = below_taken can.more in
      record {
        committed_fits = omega (arith, f.in_order.committed_fits);
        certified_fits = omega (arith, below);
        taken_fits = f.in_order.taken_fits;
      }
  in_order_moved given k m (Passes s t body w judged pass) =
      let below = below_taken judged.more in
      record {
        committed_fits = omega (arith, f.in_order.committed_fits);
        certified_fits = omega (arith, below);
        taken_fits = f.in_order.taken_fits;
      }
  in_order_moved given k m (Fails s t body w v judged came) =
      let below = below_taken judged.more in
      record {
        committed_fits = omega (arith, f.in_order.committed_fits);
        certified_fits = omega (arith, below);
        taken_fits = f.in_order.taken_fits;
      }
  in_order_moved given k m (Advances may none) =
      let below = below_certified may in
      record {
        committed_fits = omega (arith, below);
        certified_fits = f.in_order.certified_fits;
        taken_fits = f.in_order.taken_fits;
      }
  in_order_moved given k m (Commits s t may there is) =
      let below = below_certified may in
      record {
        committed_fits = omega (arith, below);
        certified_fits = f.in_order.certified_fits;
        taken_fits = f.in_order.taken_fits;
      }
  in_order_moved given k m _ = f.in_order

  -- ---- units
  unit_started : (number : ℕ) (commit : CommitItem) → MayStart order n number commit
      → HasUnit order p c number (record { stage = Started; keys = commit.keys })
  unit_started number commit may =
      let passed = from_passed order p c number commit certified_inside may.passed in
      record {
        above = passed.above;
        within = passed.within;
        item = commit;
        is_commit = passed.is_commit;
        keys = refl;
        clear = none_touching order p c number commit.keys certified_inside passed.within may.clear;
      }

  units_moved : (given : Type 0) (k : Kind) (m : ModelNode) → Move order given n k m
      → (number : ℕ) (u : ApplyUnit) → get m.units number ≡ Some u
      → HasUnit order m.at.committed m.at.certified number u
  units_moved given k m (Certifies e can) =
      λ number u here. later_unit order p c number u (f.units number u here)
  units_moved given k m (Passes s t body w judged pass) =
      λ number u here. later_unit order p c number u (f.units number u here)
  units_moved given k m (Fails s t body w v judged came) =
      λ number u here. later_unit order p c number u (f.units number u here)
  units_moved given k m (Starts number commit may) = λ j v here.
      let u : ApplyUnit = record { stage = Started; keys = commit.keys } in
      each_put numbers n.units number (HasUnit order p c) f.units u
      (unit_started number commit may) j v here
  units_moved given k m (Finishes number u there is) = λ j v here.
      let w : ApplyUnit = record { stage = Finished; keys = u.keys } in
      each_put numbers n.units number (HasUnit order p c) f.units w
      (same_unit order p c number u w refl (f.units number u there)) j v here
  units_moved given k m (Advances may none) = λ j v here.
      let l = left numbers n.units (p + 1) j v here in
      still_unit order p c j v (untied numbers j (p + 1) l.elsewhere) (f.units j v l.there)
  units_moved given k m (Commits s t may there is) = λ j v here.
      let l = left numbers n.units (p + 1) j v here in
      still_unit order p c j v (untied numbers j (p + 1) l.elsewhere) (f.units j v l.there)
  units_moved given k m _ = f.units

  no_unit_yet : (j : ℕ) (u : ApplyUnit) → get n.units j ≡ Some u → j == c + 1 ≡ false
  no_unit_yet j u there = false_from_ne_true (j == c + 1)
      (λ yes. absurd (omega (
        arith,
        (f.units j u there).within,
        eqb→eq j (c + 1)
            (subst T (sym yes) tt),
      )))

  passed_elsewhere : (j : ℕ) (st : Status) → is_sent st ≡ true → j == c + 1 ≡ false
      → is_certified_at j (passed_status (c + 1) st) ≡ false
  passed_elsewhere j status.Running waits differ = refl
  passed_elsewhere j status.FragmentSent waits differ = refl
  passed_elsewhere j status.CommitSent waits differ = differ
  passed_elsewhere j (status.Certified own) waits differ = cc
  passed_elsewhere j status.KilledSent waits differ = refl
  passed_elsewhere j (status.Replaying own) waits differ = refl

  remote_moved : (given : Type 0) (k : Kind) (m : ModelNode) → Move order given n k m
      → (number : ℕ) (u : ApplyUnit) → get m.units number ≡ Some u → is_local m.live number ≡ false
  remote_moved given k m (Begins s unit none) =
      λ j v here. remote_put n.live s j (first n.at.member n.at.begin unit) (f.remote j v here) refl
  remote_moved given k m (Extends s t st at fits free) = λ j v here.
      remote_put n.live s j (extended t st) (f.remote j v here) (ap (is_certified_at j) at.running)
  remote_moved given k m (Streams s t at change range) =
      λ j v here. remote_put n.live s j (fragment_sent t) (f.remote j v here) refl
  remote_moved given k m (Sends s t at range) =
      λ j v here. remote_put n.live s j (with_status t status.CommitSent) (f.remote j v here) refl
  remote_moved given k m (Ends s t waiting there) =
      λ j v here. remote_left n.live s j (f.remote j v here)
  remote_moved given k m (TakesBack s t w o there due range) =
      λ j v here. remote_left n.live s j (f.remote j v here)
  remote_moved given k m (Unlocks s t to there unlocked) = λ j v here.
      remote_put n.live s j (with_status t to) (f.remote j v here)
      (unlocked_elsewhere t.status to j unlocked)
  remote_moved given k m (Fails s t body w v judged came) =
      λ j v here. remote_left n.live s j (f.remote j v here)
  remote_moved given k m (Passes s t body w judged pass) = λ j v here.
      remote_put n.live s j (with_status t (passed_status (c + 1) t.status)) (f.remote j v here)
      (passed_elsewhere j t.status judged.waits (no_unit_yet j v here))
  remote_moved given k m (Starts number commit may) = λ j v here.
      let u : ApplyUnit = record { stage = Started; keys = commit.keys } in
      each_put numbers n.units number (λ (i : ℕ) (_ : ApplyUnit). is_local n.live i
      ≡ false) f.remote u may.remote j v here
  remote_moved given k m (Finishes number u there is) = λ j v here.
      let w : ApplyUnit = record { stage = Finished; keys = u.keys } in
      each_put numbers n.units number (λ (i : ℕ) (_ : ApplyUnit). is_local n.live i
      ≡ false) f.remote w (f.remote number u there) j v here
  remote_moved given k m (Advances may none) =
      λ j v here. f.remote j v (left numbers n.units (p + 1) j v here).there
  remote_moved given k m (Commits s t may there is) =
      λ j v here. remote_left n.live s j (f.remote j v
      (left numbers n.units (p + 1) j v here).there)
  remote_moved given k m _ = f.remote

  -- ---- locks
  nothing_touched : (keys : Keys) → touches keys empty ≡ false
  nothing_touched keys = touches-symm keys empty ∙ touches-empty keys

  module _ (number : ℕ) (commit : CommitItem) (may : MayStart order n number commit) where
    locked_free : (s : ℕ) (t : Live) (b : Bool) → get n.live s ≡ Some t → has_locks t.status ≡ b
        → touches commit.keys (cond b t.keys empty) ≡ false
    locked_free s t true there locks = may.free s t there locks
    locked_free s t false there locks = nothing_touched commit.keys

    session_free : (s : ℕ) (o : Option Live) → get n.live s ≡ o
        → touches commit.keys (keys_of_live o) ≡ false
    session_free s None there = nothing_touched commit.keys
    session_free s (Some t) there = locked_free s t (has_locks t.status) there refl

    is_passed : IsPassed order p c number commit
    is_passed = from_passed order p c number commit certified_inside may.passed

    apart_by : (j : ℕ) (v : ApplyUnit) (b : Bool) → HasUnit order p c j v → nat_lt j number ≡ b
        → (j ≡ number → ⊥) → touches commit.keys v.keys ≡ false
    apart_by j v true h below differ =
        touches-symm commit.keys v.keys ∙ ap (λ keys. touches keys commit.keys) (sym h.keys)
        ∙ none_touching order p c number commit.keys certified_inside is_passed.within may.clear j
        h.item h.above (ltb-true j number below) h.is_commit
    apart_by j v false h below differ =
        let behind : number ≤ j = ltb-false j number below in
        h.clear number commit is_passed.above (omega (arith, behind, differ)) is_passed.is_commit

    unit_free : (j : ℕ) (o : Option ApplyUnit) → get n.units j ≡ o
        → touches commit.keys (keys_of_unit o) ≡ false
    unit_free j None there = nothing_touched commit.keys
    unit_free j (Some v) there =
        apart_by j v (nat_lt j number) (f.units j v there) refl
        (λ same. some_not_none v (get n.units j) there (ap (get n.units) same ∙ may.fresh))

    holder_free : (g : Holder) → same_holder (UnitHolder number) g ≡ false
        → touches commit.keys (keys_at (locks_of n.live n.units) g) ≡ false
    holder_free (Session s) other = ap (touches commit.keys) (keys_at-session n.live n.units s)
        ∙ session_free s (get n.live s) refl
    holder_free (UnitHolder j) other = ap (touches commit.keys) (keys_at-unit n.live n.units j)
        ∙ unit_free j (get n.units j) refl

  apart_moved : (given : Type 0) (k : Kind) (m : ModelNode) → Move order given n k m
      → AreApart (locks_of m.live m.units)
  apart_moved given k m (Begins s unit none) =
      apart-unlocked n.live n.units f.apart s (first n.at.member n.at.begin unit) no_lock
  apart_moved given k m (Extends s t st here fits free) =
      apart-extended n.live n.units f.apart s t (extended t st) (row_parts st.id) st.kind here.there
      (ap has_locks here.running)
      (ap has_locks here.running) refl (free_of (met_by order n s t st) st.change free).free
  apart_moved given k m (Streams s t here change range) =
      apart-replaced n.live n.units f.apart s t (fragment_sent t) here.there
      (ap has_locks (sym here.running)) refl
  apart_moved given k m (Sends s t here range) =
      apart-replaced n.live n.units f.apart s t (with_status t status.CommitSent) here.there
      (ap has_locks (sym here.running)) refl
  apart_moved given k m (Ends s t waiting there) = apart-ended n.live n.units f.apart s
  apart_moved given k m (TakesBack s t w o there due range) = apart-ended n.live n.units f.apart s
  apart_moved given k m (Unlocks s t to there unlocked) =
      apart-unlocked n.live n.units f.apart s (with_status t to)
      (ap (λ b. lock_keys b t.keys) (unlocked_locks t.status to unlocked))
  apart_moved given k m (Fails s t body w v judged came) = apart-ended n.live n.units f.apart s
  apart_moved given k m (Passes s t body w judged pass) =
      apart-replaced n.live n.units f.apart s t
      (with_status t (passed_status (c + 1) t.status)) judged.there
      (locks_passed (c + 1) t.status) refl
  apart_moved given k m (Starts number commit may) =
      apart-started n.live n.units f.apart number (record {
        stage = Started;
        keys = commit.keys;
      }) (holder_free number commit may)
  apart_moved given k m (Finishes number u there is) =
      apart-finished n.live n.units f.apart number u (record {
        stage = Finished;
        keys = u.keys;
      }) there refl
  apart_moved given k m (Advances may none) = apart-unit_done n.live n.units f.apart (p + 1)
  apart_moved given k m (Commits s t may there is) =
      apart-unit_done (remove n.live s) n.units (apart-ended n.live n.units f.apart s) (p + 1)
  apart_moved given k m _ = f.apart

-- ---- all of it
pub facts_moved : (order : List Event) (given : Type 0) → given
    → (n : ModelNode) (k : Kind) (m : ModelNode)
    → Move order given n k m → Facts order n → Facts order m
facts_moved order given g n k m move f = record {
  in_order = in_order_moved order n f given k m move;
  sendable = sendable_moved order given g n k m move f.sendable;
  sent = sent_moved order n f.in_order f.sent given g f.sendable k m move;
  units = units_moved order n f given k m move;
  remote = remote_moved order n f given k m move;
  apart = apart_moved order n f given k m move;
}

-- whatever moves keep the facts
pub facts_reached : (order : List Event) (given : Type 0) (works : Bool) → given
    → (n : ModelNode) (k : ℕ) (m : ModelNode)
    → Reaches order given works n k m → Facts order n → Facts order m
facts_reached order given works g =
    kept (Facts order) (λ n kind m may. facts_moved order given g n kind m)
