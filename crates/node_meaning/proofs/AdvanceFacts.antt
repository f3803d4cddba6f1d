-- Committing the next number keeps the facts of a node; and the rows after it.
use Rattle.std.proofs.Common.{◌≡◌, ℕ, suc, ◌+◌, ◌≤◌, ◌<◌, Bool, true, false, List, [], Option, None, Some, refl, ap, sym, subst, ◌∙◌, arith, eqb→eq, eq-eqb, true≢false, length}
use Rattle.std.specs.Prelude.{◌==◌, ◌||◌, not, T, is_some, slice_get, unwrap_or}
use Rattle.std.proofs.lemmas.Option.{same_Some}
use Rattle.finite_map.specs.FiniteMap.{get}
use Rattle.row_model.specs.declared.ops.Op.{Op}
use Rattle.row_model.specs.Rows.{ops_on}
use Rattle.order_event.specs.declared.event.Event.{Event}
use Rattle.write_set.specs.declared.write_set.WriteSet.{WriteSet}
use Rattle.cert_meaning.specs.declared.items.CommitItem.{CommitItem}
use Rattle.cert_meaning.specs.Fold.{state_at, commit_of, committed_ops}
use Rattle.cert_meaning.proofs.FoldLaws.{some_there, rows-next}
use Rattle.cert_meaning.proofs.CoveredLaws.{no_ops, some_ops}
use Rattle.client_trx.specs.Live.{Live}
use Rattle.client_trx.specs.declared.status.Status.{Status}
use Rattle.client_trx.specs.declared.status.Status.TheVariants as status
use Rattle.node_meaning.specs.Node.{ModelNode, ApplyUnit, rows_at, passed_at}
use Rattle.node_meaning.specs.Steps.{is_certified_at, is_replaying_at, is_local, is_finished, committer_of, is_ready}
use Rattle.node_meaning.specs.Facts.{Facts, sets_of, HasPassed, StandsBy, HasUnit, commit_at}
use Rattle.node_meaning.proofs.EntryLaws.{entry_found, entry_missed, entry_any, some_entry, some_not_none}
use Rattle.node_meaning.proofs.PassedLaws.{commit_at-is, passed-is}

-- ---- who commits at a number
abbrev pub commits_at : ℕ → ℕ × Live → Bool
commits_at number e = is_certified_at number e.1.status || is_replaying_at number e.1.status

same_number : (a b : ℕ) → a == b ≡ true → a ≡ b
same_number a b h = eqb→eq a b (subst T (sym h) tt)

or_none : (a : Bool) → a || false ≡ true → a ≡ true
or_none true h = h
or_none false h = h

-- a transaction that commits at a number has passed there
pub passed_by : (order : List Event) (p c number : ℕ) (mine : List WriteSet) (t : Live) (status : Status) → StandsBy order p c mine t status
    → is_certified_at number status || is_replaying_at number status ≡ true → HasPassed order p c t number
passed_by order p c number mine t status.Running h now = cc
passed_by order p c number mine t status.FragmentSent h now = cc
passed_by order p c number mine t status.CommitSent h now = cc
passed_by order p c number mine t (status.Certified own) h now =
    subst (HasPassed order p c t) (sym (same_number number own (or_none _ now))) h.1
passed_by order p c number mine t status.KilledSent h now = cc
passed_by order p c number mine t (status.Replaying own) h now =
    subst (HasPassed order p c t) (sym (same_number number own now)) h.1

abbrev trx_or : CommitItem → Option CommitItem → ℕ
trx_or d None = d.trx.begin
trx_or d (Some c) = c.trx.begin

-- two transactions that commit at one number are one
pub same_begin : (order : List Event) (p c number : ℕ) (t u : Live) → HasPassed order p c t number → HasPassed order p c u number
    → t.trx.begin ≡ u.trx.begin
same_begin order p c number t u one other =
    ap (trx_or (record { number = number; trx = t.trx; keys = t.keys })) (sym one.is_commit ∙ other.is_commit)

-- ---- the number is committed
differs : (number own : ℕ) → number == own ≡ false → own ≡ number → ⊥
differs number own h same = true≢false (sym (eq-eqb number own (sym same)) ∙ h)

or_false : (a b : Bool) → a || b ≡ false → a ≡ false
or_false true b h = h
or_false false b h = refl

above_next : (p own : ℕ) → p < own → (own ≡ p + 1 → ⊥) → p + 1 < own
above_next p own above unequal = by (p + 1 == own) refl
  where
    by : (b : Bool) → p + 1 == own ≡ b → p + 1 < own
    by true h = absurd (unequal (sym (same_number (p + 1) own h)))
    by false h =
        let d : p + 1 ≡ own → ⊥ = λ same. unequal (sym same) in omega (arith, above, d)

still_passed : (order : List Event) (p c : ℕ) (t : Live) (own : ℕ) → (p + 1) == own ≡ false → HasPassed order p c t own
    → HasPassed order (p + 1) c t own
still_passed order p c t own unequal h = record {
  above = above_next p own h.above (differs (p + 1) own unequal);
  within = h.within;
  is_commit = h.is_commit;
  changes = h.changes;
}

-- a transaction that does not commit there stands as it did
pub stands_still : (order : List Event) (p c : ℕ) (mine : List WriteSet) (t : Live) (status : Status)
    → is_certified_at (p + 1) status || is_replaying_at (p + 1) status ≡ false
    → StandsBy order p c mine t status → StandsBy order (p + 1) c mine t status
stands_still order p c mine t status.Running none h = h
stands_still order p c mine t status.FragmentSent none h = h
stands_still order p c mine t status.CommitSent none h = h
stands_still order p c mine t (status.Certified own) none h = (h.0, still_passed order p c t own (or_false _ _ none) h.1)
stands_still order p c mine t status.KilledSent none h = h
stands_still order p c mine t (status.Replaying own) none h = (h.0, still_passed order p c t own none h.1)

pub still_unit : (order : List Event) (p c k : ℕ) (u : ApplyUnit) → (k ≡ p + 1 → ⊥) → HasUnit order p c k u → HasUnit order (p + 1) c k u
still_unit order p c k u unequal h = record {
  above = above_next p k h.above unequal;
  within = h.within;
  item = h.item;
  is_commit = h.is_commit;
  keys = h.keys;
  clear = λ earlier d above below is. h.clear earlier d (omega (arith, above)) below is;
}

-- the one that commits is the only one
module _ (order : List Event) (n : ModelNode) (facts : Facts order n) (number : ℕ) where
  pub passed_there : (s : ℕ) (t : Live) → get n.live s ≡ Some t → commits_at number (s, t) ≡ true
      → HasPassed order n.at.committed n.at.certified t number
  passed_there s t there now =
      passed_by order n.at.committed n.at.certified number (sets_of t.trx.begin facts.sent.sets) t t.status (facts.sent.lined.each s t there).stands now

  pub only_one : (s o : ℕ) (t u : Live) → get n.live s ≡ Some t → get n.live o ≡ Some u
      → commits_at number (s, t) ≡ true → commits_at number (o, u) ≡ true → s ≡ o
  only_one s o t u one other now too =
      facts.sent.lined.begins s o t u one other
      (same_begin order n.at.committed n.at.certified number t u (passed_there s t one now) (passed_there o u other too))

  pub committer_there : (s : ℕ) (t : Live) → committer_of n.live number ≡ Some (s, t)
      → (get n.live s ≡ Some t) × (commits_at number (s, t) ≡ true)
  committer_there s t is =
      let found = entry_found n.live (commits_at number) (s, t) is in (found.there, found.passes)

-- ---- the rows after it
-- the rows stay where the next event makes no commit
pub rows-no_commit : (order : List Event) (p : ℕ) → suc p ≤ length order → commit_at order (p + 1) ≡ None
    → rows_at order (p + 1) ≡ rows_at order p
unfolding ops_on
rows-no_commit order p fits none =
    let there = some_there order p fits in
    rows-next order p there.0 there.1
    ∙ ap (λ (o : Option (List Op)). ops_on (unwrap_or o []) (rows_at order p))
    (no_ops (state_at order p) there.0 (sym (commit_at-is order p there.0 there.1) ∙ none))

-- the changes of the next event, where it makes a commit
pub record Applies (order : List Event) (p : ℕ) (c : CommitItem) : Type 0 where
  pub event : Event
  pub there : slice_get order p ≡ Some event
  pub is_commit : commit_of (state_at order p) event ≡ Some c
  pub ops : List Op
  pub is_ops : committed_ops (state_at order p) event ≡ Some ops
  pub rows : rows_at order (p + 1) ≡ ops_on ops (rows_at order p)

pub rows-commit : (order : List Event) (p : ℕ) (c : CommitItem) → suc p ≤ length order → commit_at order (p + 1) ≡ Some c → Applies order p c
rows-commit order p c fits is =
    let there = some_there order p fits in
    let made = sym (commit_at-is order p there.0 there.1) ∙ is in
    let ops = some_ops (state_at order p) there.0 c made in
    record {
      event = there.0;
      there = there.1;
      is_commit = made;
      ops = ops.0;
      is_ops = ops.1;
      rows = rows-next order p there.0 there.1
          ∙ ap (λ (o : Option (List Op)). ops_on (unwrap_or o []) (rows_at order p)) ops.1;
    }

module _ (order : List Event) (n : ModelNode) (facts : Facts order n) (more : n.at.committed < n.at.certified) where
  abbrev next : ℕ
  next = n.at.committed + 1

  fits_next : suc n.at.committed ≤ length order
  fits_next = omega (arith, more, facts.in_order.certified_fits, facts.in_order.taken_fits)

  next_is : passed_at order n.at.committed n.at.certified next ≡ commit_at order next
  next_is =
      passed-is order n.at.committed n.at.certified next (omega arith) (omega (arith, more))
      (omega (arith, facts.in_order.certified_fits, facts.in_order.taken_fits))

  -- where the number is no passed commit the rows stay
  pub rows-none : passed_at order n.at.committed n.at.certified next ≡ None → rows_at order next ≡ rows_at order n.at.committed
  rows-none none = rows-no_commit order n.at.committed fits_next (sym next_is ∙ none)

  no_unit : (o : Option ApplyUnit) → get n.units next ≡ o → commit_at order next ≡ None → o ≡ None
  no_unit None is none = refl
  no_unit (Some u) is none =
      let unit = facts.units next u is in absurd (some_not_none unit.item (commit_at order next) unit.is_commit none)

  -- no unit has the number
  pub units-none : passed_at order n.at.committed n.at.certified next ≡ None → get n.units next ≡ None
  units-none none = no_unit (get n.units next) refl (sym next_is ∙ none)

  no_committer : (o : Option (ℕ × Live)) → committer_of n.live next ≡ o → commit_at order next ≡ None → o ≡ None
  no_committer None is none = refl
  no_committer (Some e) is none =
      let here = committer_there order n facts next e.0 e.1 is in
      let passed = passed_there order n facts next e.0 e.1 here.0 here.1 in
      absurd (some_not_none _ (commit_at order next) passed.is_commit none)

  -- and no live transaction commits
  pub committer-none : passed_at order n.at.committed n.at.certified next ≡ None → committer_of n.live next ≡ None
  committer-none none = no_committer (committer_of n.live next) refl (sym next_is ∙ none)

  -- where the number is a passed commit, its changes are on the rows
  pub rows-passed : (c : CommitItem) → passed_at order n.at.committed n.at.certified next ≡ Some c → Applies order n.at.committed c
  rows-passed c is = rows-commit order n.at.committed c fits_next (sym next_is ∙ is)

  local_or : (a b : Bool) → a ≡ true → a || b ≡ true
  local_or true b h = refl
  local_or false b h = cc

  -- a live transaction that is Certified at the number is the one that commits
  local_is : (s : ℕ) (t : Live) → get n.live s ≡ Some t → is_certified_at next t.status ≡ true → (o : Option (ℕ × Live))
      → committer_of n.live next ≡ o → (u : Live) × (committer_of n.live next ≡ Some (s, u)) × (get n.live s ≡ Some u)
  local_is s t there now None is =
      absurd (true≢false (sym (local_or _ (is_replaying_at next t.status) now) ∙ entry_missed n.live (commits_at next) s t is there))
  local_is s t there now (Some e) is =
      let here = committer_there order n facts next e.0 e.1 is in
      let same : e.0 ≡ s = only_one order n facts next e.0 s e.1 t here.0 there here.1 (local_or _ _ now) in
      (e.1, is ∙ ap (λ o. Some (o, e.1)) same, subst (λ o. get n.live o ≡ Some e.1) same here.0)

  not_local_by : (b : Bool) → is_local n.live next ≡ b → ((s : ℕ) (t : Live) → committer_of n.live next ≡ Some (s, t) → is_certified_at next t.status ≡ false)
      → b ≡ false
  not_local_by false is none = refl
  not_local_by true is none =
      let found = some_entry n.live (λ e. is_certified_at next e.1.status) is in
      let e = found.0 in
      let one = local_is e.0 e.1 found.1.there found.1.passes (committer_of n.live next) refl in
      let same : one.0 ≡ e.1 = same_Some one.0 e.1 (sym one.2 ∙ found.1.there) in
      absurd (true≢false (sym (ap (λ (t : Live). is_certified_at next t.status) same ∙ found.1.passes) ∙ none e.0 one.0 one.1))

  -- where the one that commits is not Certified there, or none commits, the number is not local
  pub not_local : ((s : ℕ) (t : Live) → committer_of n.live next ≡ Some (s, t) → is_certified_at next t.status ≡ false)
      → is_local n.live next ≡ false
  not_local none = not_local_by (is_local n.live next) refl none

  finished_by : (o : Option CommitItem) (done local : Bool) (c : CommitItem) → o ≡ Some c → local ≡ false
      → not (is_some o) || done || local ≡ true → done ≡ true
  finished_by None done local c is elsewhere ready = cc
  finished_by (Some d) true local c is elsewhere ready = refl
  finished_by (Some d) false true c is elsewhere ready = cc
  finished_by (Some d) false false c is elsewhere ready = cc

  -- a passed commit that is ready and not local has a finished unit
  pub unit-finished : (c : CommitItem) → passed_at order n.at.committed n.at.certified next ≡ Some c → is_local n.live next ≡ false
      → is_ready order n next ≡ true → is_finished (get n.units next) ≡ true
  unit-finished c is elsewhere ready =
      finished_by (passed_at order n.at.committed n.at.certified next) (is_finished (get n.units next)) (is_local n.live next) c is elsewhere ready

  unit_none : (o : Option ApplyUnit) → get n.units next ≡ o → is_local n.live next ≡ true → o ≡ None
  unit_none None is here = refl
  unit_none (Some u) is here = absurd (true≢false (sym here ∙ facts.remote next u is))

  -- where a Certified transaction commits no unit has the number
  pub units-local : (s : ℕ) (t : Live) → committer_of n.live next ≡ Some (s, t) → is_certified_at next t.status ≡ true
      → get n.units next ≡ None
  units-local s t is here =
      unit_none (get n.units next) refl
      (entry_any n.live (λ e. is_certified_at next e.1.status) s t (committer_there order n facts next s t is).0 here)
