-- A state without commits up to its floor is enough: over it each event has the same verdict, makes the same commit and commits the
-- same changes, and leads to the next state without them. The rows do not matter either.
use Rattle.std.proofs.Common.{◌≡◌, ℕ, ◌+◌, ◌≤◌, Bool, true, false, cond, ◌&&◌, ◌||◌, List, [], ◌∷◌, ◌++◌, Option, None, Some, refl, ap, sym, ◌∙◌, arith, ltb-false, le-ltb}
use Rattle.std.specs.Prelude.{◌==◌, min, nat_lt, nat_le, not, map, unwrap_or}
use Rattle.std.specs.List.{filter}
use Rattle.std.specs.Ordering.{nat_cmp}
use Rattle.finite_map.specs.FiniteMap.{FiniteMap, get, insert}
use Rattle.wsrep_base.specs.Trx.{greatest}
use Rattle.wsrep_base.specs.declared.verdict.Verdict.TheVariants.{Pass, Stranger, Repeat, Future, Stale, Broken}
use Rattle.key_sets.specs.Keys.{Keys, conflicts}
use Rattle.order_event.specs.declared.event.Event.{Event}
use Rattle.order_event.specs.declared.event.Event.TheVariants.{Write, View, Report}
use Rattle.write_set.specs.declared.write_set.WriteSet.{WriteSet}
use Rattle.write_set.specs.Reading.{decoded}
use Rattle.cert_meaning.specs.declared.items.CommitItem.{CommitItem}
use Rattle.cert_meaning.specs.declared.members.Standing.{Standing}
use Rattle.cert_meaning.specs.State.{FoldState, is_member, serial_of}
use Rattle.cert_meaning.specs.Parts.{trim}
use Rattle.cert_meaning.specs.Search.{is_related}
use Rattle.cert_meaning.specs.Verdict.{trx_of, is_rollback, is_broken, conflict_of, held_by, conflict_or_held, verdict}
use Rattle.cert_meaning.specs.Fold.{Effect, Same, Closes, Adds, Commits, effect_of, judged_as, judged_write, judged, closed, continued, committed, commit_by, affected, written, viewed, reported, changed_by, settled, after, ops_by, ops_written, committed_ops, ops_of, commit_made, commit_written, commit_of}
use Rattle.certification.specs.Certifies.{commits_above, purged, bare, kept}

-- ---- lists
-- what fails a test fails a narrower one
module _ {X : Type 0} (narrow wide : X → Bool) (implied : (x : X) → wide x ≡ false → narrow x ≡ false) where
  within_one : (x : X) (xs ys : List X) (b : Bool) → wide x ≡ b → filter narrow ys ≡ filter narrow xs
      → filter narrow (cond b (x ∷ ys) ys) ≡ cond (narrow x) (x ∷ filter narrow xs) (filter narrow xs)
  within_one x xs ys true is rest = ap (λ zs. cond (narrow x) (x ∷ zs) zs) rest
  within_one x xs ys false is rest = rest ∙ sym (ap (λ b. cond b (x ∷ filter narrow xs) (filter narrow xs)) (implied x is))

  pub filter_within : (xs : List X) → filter narrow (filter wide xs) ≡ filter narrow xs
  filter_within [] = refl
  filter_within (x ∷ xs) = within_one x xs (filter wide xs) (wide x) refl (filter_within xs)

module _ {X : Type 0} (test : X → Bool) (last : X) where
  filter_one : (x : X) (xs : List X) (b : Bool) → test x ≡ b → filter test (filter test xs ++ last ∷ []) ≡ filter test (xs ++ last ∷ [])
      → filter test (cond b (x ∷ filter test xs) (filter test xs) ++ last ∷ []) ≡ cond b (x ∷ filter test (xs ++ last ∷ [])) (filter test (xs ++ last ∷ []))
  filter_one x xs true is rest =
      ap (λ b. cond b (x ∷ filter test (filter test xs ++ last ∷ [])) (filter test (filter test xs ++ last ∷ []))) is
      ∙ ap (λ ys. x ∷ ys) rest
  filter_one x xs false is rest = rest

  filter_more : (xs : List X) → filter test (filter test xs ++ last ∷ []) ≡ filter test (xs ++ last ∷ [])
  filter_more [] = refl
  filter_more (x ∷ xs) = filter_one x xs (test x) refl (filter_more xs)

module _ (low : ℕ) where
  twice : (commits : List CommitItem) → commits_above low (commits_above low commits) ≡ commits_above low commits
  twice commits = filter_within (λ (c : CommitItem). nat_lt low c.number) (λ (c : CommitItem). nat_lt low c.number) (λ c none. none) commits

  -- commits above a greater number
  pub above_both : (above : ℕ) → low ≤ above → (commits : List CommitItem)
      → commits_above above (commits_above low commits) ≡ commits_above above commits
  above_both above fits commits =
      filter_within (λ (c : CommitItem). nat_lt above c.number) (λ (c : CommitItem). nat_lt low c.number)
      (λ c none. let most = ltb-false low c.number none in le-ltb above c.number (omega (arith, most, fits))) commits

-- ---- one state
module _ (low : ℕ) (s : FoldState) where
  abbrev t : FoldState
  t = purged low s

  module _ (fits : low ≤ s.floor) where
    related_not : (related : Keys → Keys → Bool) (above : ℕ) (keys : Keys) (c : CommitItem) → low ≤ above → nat_lt low c.number ≡ false
        → is_related related above keys c ≡ false
    related_not related above keys c under none =
        let most = ltb-false low c.number none in
        ap (λ b. b && related c.keys keys) (le-ltb above c.number (omega (arith, most, under)))

    conflict_same : (seen : ℕ) (keys : Keys) → s.floor ≤ seen → conflict_of t seen keys ≡ conflict_of s seen keys
    unfolding conflict_of
    conflict_same seen keys tested =
        ap (λ found. greatest (map (λ (c : CommitItem). c.number) found))
        (filter_within (is_related conflicts seen keys) (λ (c : CommitItem). nat_lt low c.number)
        (λ c none. related_not conflicts seen keys c (omega (arith, fits, tested)) none) s.commits)

    -- a write set that is not stale meets the same commits
    pub verdict_same : (member : ℕ) (w : WriteSet) → verdict t member w ≡ verdict s member w
    unfolding verdict is_broken held_by
    verdict_same member w =
        ap (λ v. cond (not (is_member s member) || not (w.member == member)) Stranger
        (cond (nat_le w.serial (serial_of s member)) Repeat (cond (nat_lt s.number w.last_seen) Future v)))
        (tested (nat_lt w.last_seen s.floor) refl)
      where
        tested : (b : Bool) → nat_lt w.last_seen s.floor ≡ b
            → cond b Stale (cond (is_rollback w) Pass (cond (is_broken s w) Broken
            (conflict_or_held (conflict_of t w.last_seen w.keys) (held_by s (trx_of w) w.keys))))
            ≡ cond b Stale (cond (is_rollback w) Pass (cond (is_broken s w) Broken
            (conflict_or_held (conflict_of s w.last_seen w.keys) (held_by s (trx_of w) w.keys))))
        tested true is = refl
        tested false is =
            ap (λ o. cond (is_rollback w) Pass (cond (is_broken s w) Broken (conflict_or_held o (held_by s (trx_of w) w.keys))))
            (conflict_same w.last_seen w.keys (ltb-false w.last_seen s.floor is))

    write_same : (member : ℕ) (set : Option WriteSet) → judged_write t member set ≡ judged_write s member set
    write_same member None = refl
    write_same member (Some w) = ap (judged_as w) (verdict_same member w)

    judged_same : (e : Event) → judged t e ≡ judged s e
    unfolding judged
    judged_same (Write member body) = write_same member (decoded body)
    judged_same (View version members) = refl
    judged_same (Report member number) = refl

    ops_by_same : (w : WriteSet) (effect : Effect) → ops_by t w effect ≡ ops_by s w effect
    ops_by_same w Same = refl
    ops_by_same w Closes = refl
    ops_by_same w Adds = refl
    ops_by_same w Commits = refl

    ops_written_same : (member : ℕ) (set : Option WriteSet) → ops_written t member set ≡ ops_written s member set
    ops_written_same member None = refl
    ops_written_same member (Some w) =
        ap (λ j. ops_by t w (effect_of j)) (write_same member (Some w)) ∙ ops_by_same w (effect_of (judged_write s member (Some w)))

    ops_same : (e : Event) → ops_of t e ≡ ops_of s e
    unfolding committed_ops
    ops_same (Write member body) = ap (λ o. unwrap_or o []) (ops_written_same member (decoded body))
    ops_same (View version members) = refl
    ops_same (Report member number) = refl

    commit_made_same : (w : WriteSet) (effect : Effect) → commit_made t w effect ≡ commit_made s w effect
    commit_made_same w Same = refl
    commit_made_same w Closes = refl
    commit_made_same w Adds = refl
    commit_made_same w Commits = refl

    commit_written_same : (member : ℕ) (set : Option WriteSet) → commit_written t member set ≡ commit_written s member set
    commit_written_same member None = refl
    commit_written_same member (Some w) =
        ap (λ j. commit_made t w (effect_of j)) (write_same member (Some w)) ∙ commit_made_same w (effect_of (judged_write s member (Some w)))

    commit_same : (e : Event) → commit_of t e ≡ commit_of s e
    unfolding commit_of
    commit_same (Write member body) = commit_written_same member (decoded body)
    commit_same (View version members) = refl
    commit_same (Report member number) = refl

    affected_same : (w : WriteSet) (effect : Effect) → purged low (affected t w effect) ≡ purged low (affected s w effect)
    affected_same w Same = ap (λ cs. record s { commits = cs }) (twice low s.commits)
    affected_same w Closes = ap (λ cs. record (closed s w) { commits = cs }) (twice low s.commits)
    affected_same w Adds = ap (λ cs. record (continued s w) { commits = cs }) (twice low s.commits)
    affected_same w Commits =
        ap (λ cs. record (committed s w) { commits = cs })
        (filter_more (λ (c : CommitItem). nat_lt low c.number) (commit_by s w) s.commits)

    written_same : (member : ℕ) (set : Option WriteSet) → purged low (written t member set) ≡ purged low (written s member set)
    written_same member None = ap (λ cs. record s { commits = cs }) (twice low s.commits)
    written_same member (Some w) =
        ap (λ j. purged low (affected t w (effect_of j))) (write_same member (Some w))
        ∙ affected_same w (effect_of (judged_write s member (Some w)))

    reported_same : (member number : ℕ) (standing : Option Standing)
        → purged low (reported t member number standing) ≡ purged low (reported s member number standing)
    reported_same member number None = ap (λ cs. record s { commits = cs }) (twice low s.commits)
    reported_same member number (Some standing) =
        either (nat_le standing.report number && nat_lt number (s.number + 1)) (insert s.members member (record standing { report = number }))
      where
        either : (b : Bool) (members : FiniteMap nat_cmp Standing)
            → purged low (cond b (record t { members = members }) t) ≡ purged low (cond b (record s { members = members }) s)
        either true members = ap (λ cs. record s { members = members; commits = cs }) (twice low s.commits)
        either false members = ap (λ cs. record s { commits = cs }) (twice low s.commits)

    changed_same : (e : Event) → purged low (changed_by t e) ≡ purged low (changed_by s e)
    changed_same (Write member body) = written_same member (decoded body)
    changed_same (View version members) = ap (λ cs. record (viewed s version members) { commits = cs }) (twice low s.commits)
    changed_same (Report member number) = reported_same member number (get s.members member)

    pub after_same : (e : Event) → purged low (after t e) ≡ purged low (after s e)
    unfolding after
    after_same e = ap settled (changed_same e)

    trim_same : trim t ≡ trim s
    trim_same = ap (λ cs. record s { commits = cs }) (above_both low s.floor fits s.commits)

-- ---- one state, without its rows
module _ (s : FoldState) where
  abbrev b : FoldState
  b = bare s

  write_bare : (member : ℕ) (set : Option WriteSet) → judged_write b member set ≡ judged_write s member set
  unfolding verdict is_broken conflict_of held_by
  write_bare member None = refl
  write_bare member (Some w) = refl

  judged_bare : (e : Event) → judged b e ≡ judged s e
  unfolding judged
  judged_bare (Write member body) = write_bare member (decoded body)
  judged_bare (View version members) = refl
  judged_bare (Report member number) = refl

  ops_by_bare : (w : WriteSet) (effect : Effect) → ops_by b w effect ≡ ops_by s w effect
  ops_by_bare w Same = refl
  ops_by_bare w Closes = refl
  ops_by_bare w Adds = refl
  ops_by_bare w Commits = refl

  ops_written_bare : (member : ℕ) (set : Option WriteSet) → ops_written b member set ≡ ops_written s member set
  ops_written_bare member None = refl
  ops_written_bare member (Some w) =
      ap (λ j. ops_by b w (effect_of j)) (write_bare member (Some w)) ∙ ops_by_bare w (effect_of (judged_write s member (Some w)))

  ops_bare : (e : Event) → ops_of b e ≡ ops_of s e
  unfolding committed_ops
  ops_bare (Write member body) = ap (λ o. unwrap_or o []) (ops_written_bare member (decoded body))
  ops_bare (View version members) = refl
  ops_bare (Report member number) = refl

  commit_made_bare : (w : WriteSet) (effect : Effect) → commit_made b w effect ≡ commit_made s w effect
  commit_made_bare w Same = refl
  commit_made_bare w Closes = refl
  commit_made_bare w Adds = refl
  commit_made_bare w Commits = refl

  commit_written_bare : (member : ℕ) (set : Option WriteSet) → commit_written b member set ≡ commit_written s member set
  commit_written_bare member None = refl
  commit_written_bare member (Some w) =
      ap (λ j. commit_made b w (effect_of j)) (write_bare member (Some w)) ∙ commit_made_bare w (effect_of (judged_write s member (Some w)))

  commit_bare : (e : Event) → commit_of b e ≡ commit_of s e
  unfolding commit_of
  commit_bare (Write member body) = commit_written_bare member (decoded body)
  commit_bare (View version members) = refl
  commit_bare (Report member number) = refl

  affected_bare : (w : WriteSet) (effect : Effect) → bare (affected b w effect) ≡ bare (affected s w effect)
  affected_bare w Same = refl
  affected_bare w Closes = refl
  affected_bare w Adds = refl
  affected_bare w Commits = refl

  written_bare : (member : ℕ) (set : Option WriteSet) → bare (written b member set) ≡ bare (written s member set)
  written_bare member None = refl
  written_bare member (Some w) =
      ap (λ j. bare (affected b w (effect_of j))) (write_bare member (Some w))
      ∙ affected_bare w (effect_of (judged_write s member (Some w)))

  reported_bare : (member number : ℕ) (standing : Option Standing)
      → bare (reported b member number standing) ≡ bare (reported s member number standing)
  reported_bare member number None = refl
  reported_bare member number (Some standing) =
      either (nat_le standing.report number && nat_lt number (s.number + 1)) (insert s.members member (record standing { report = number }))
    where
      either : (c : Bool) (members : FiniteMap nat_cmp Standing)
          → bare (cond c (record b { members = members }) b) ≡ bare (cond c (record s { members = members }) s)
      either true members = refl
      either false members = refl

  changed_bare : (e : Event) → bare (changed_by b e) ≡ bare (changed_by s e)
  changed_bare (Write member body) = written_bare member (decoded body)
  changed_bare (View version members) = refl
  changed_bare (Report member number) = reported_bare member number (get s.members member)

  after_bare : (e : Event) → bare (after b e) ≡ bare (after s e)
  unfolding after
  after_bare e = ap settled (changed_bare e)

-- ---- two states of which the same is left
pub trim-purged : (low : ℕ) (s r : FoldState) → purged low s ≡ purged low r → low ≤ r.floor → trim s ≡ trim r
trim-purged low s r same fits =
    let floors = ap (λ (q : FoldState). q.floor) same in
    sym (trim_same low s (omega (arith, fits, floors))) ∙ ap trim same ∙ trim_same low r fits

-- ---- what is kept of a state
module _ (done : ℕ) (s : FoldState) where
  low_fits : min s.floor done ≤ s.floor
  low_fits = omega arith

  pub judged-kept : (e : Event) → judged (kept done s) e ≡ judged s e
  judged-kept e = judged_same (min s.floor done) (bare s) low_fits e ∙ judged_bare s e

  pub ops-kept : (e : Event) → ops_of (kept done s) e ≡ ops_of s e
  ops-kept e = ops_same (min s.floor done) (bare s) low_fits e ∙ ops_bare s e

  pub commit-kept : (e : Event) → commit_of (kept done s) e ≡ commit_of s e
  commit-kept e = commit_same (min s.floor done) (bare s) low_fits e ∙ commit_bare s e

  -- purged, it leads on to what is kept of the next state
  pub after-kept : (e : Event) → s.floor ≤ (after s e).floor
      → purged (min (after (kept done s) e).floor done) (bare (after (kept done s) e)) ≡ kept done (after s e)
  after-kept e rises =
      let low = min s.floor done in
      let x = bare (after (kept done s) e) in
      let y = bare (after s e) in
      let high = min y.floor done in
      let fits : low ≤ high = omega (arith, rises) in
      let same : purged low x ≡ purged low y =
      ap bare (after_same low (bare s) low_fits e) ∙ ap (purged low) (after_bare s e) in
      ap (λ (q : FoldState). purged (min q.floor done) x) same
      ∙ ap (λ cs. record x { commits = cs }) (sym (above_both low high fits x.commits))
      ∙ ap (purged high) same
      ∙ ap (λ cs. record y { commits = cs }) (above_both low high fits y.commits)

  -- and so once more is done
  pub kept-more : (more : ℕ) → done ≤ more → purged (min s.floor more) (kept done s) ≡ kept more s
  kept-more more fits =
      ap (λ cs. record (bare s) { commits = cs })
      (above_both (min s.floor done) (min s.floor more) (omega (arith, fits)) s.commits)

  -- trimmed, nothing is missing but the rows
  pub trim-kept : trim (kept done s) ≡ bare (trim s)
  trim-kept = trim_same (min s.floor done) (bare s) low_fits
