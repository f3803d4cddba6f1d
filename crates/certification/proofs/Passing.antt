-- What is kept of passed commits goes along with what is certified and with what is committed.
use Rattle.std.proofs.Common.{◌≡◌, ℕ, ◌+◌, ◌≤◌, ◌<◌, Bool, true, false, cond, List, ◌++◌, length, Option, None, Some, refl, ap, sym, subst, ◌∙◌, arith, true≢false}
use Rattle.std.specs.Prelude.{◌==◌, is_some, min, slice_get}
use Rattle.std.specs.Ordering.{nat_cmp, eq_by_cmp}
use Rattle.std.specs.Cmp.{nat_cmp_total}
use Rattle.std.proofs.lemmas.Bool.{eqb-true, false_from_ne_true}
use Rattle.std.proofs.lemmas.Option.{slice_get_within}
use Rattle.finite_map.proofs.Edits.{numbers, tied, untied, itself}
use Rattle.finite_map.specs.FiniteMap.{FiniteMap, get, insert, remove, get-insert, get-remove}
use Rattle.wsrep_base.specs.declared.verdict.Judged.{Judged}
use Rattle.wsrep_base.specs.declared.verdict.Judged.TheVariants as became
use Rattle.wsrep_base.specs.Trx.{greatest}
use Rattle.key_sets.specs.Keys.{Keys}
use Rattle.order_event.specs.declared.event.Event.{Event}
use Rattle.cert_meaning.specs.declared.items.CommitItem.{CommitItem}
use Rattle.cert_meaning.specs.State.{FoldState}
use Rattle.cert_meaning.specs.Fold.{judged, ops_of, commit_of, state_at}
use Rattle.cert_meaning.proofs.CommitLaws.{commit-judged, commit-number, commits-next, commits-rise, is_commit}
use Rattle.cert_meaning.proofs.FoldLaws.{number-at, state_at-append}
use Rattle.cert_index.specs.Index.{only_above}
use Rattle.node_meaning.specs.Units.{ops_by}
use Rattle.node_meaning.specs.Facts.{commit_at}
use Rattle.node_meaning.specs.Steps.{touching_before}
use Rattle.node_meaning.proofs.EntryLaws.{less_from}
use Rattle.node_meaning.proofs.GrowFacts.{commit_at-append, ops_at-append}
use Rattle.node_meaning.proofs.PassedLaws.{commit_at-is}
use Rattle.node_meaning.proofs.UnitLaws.{ops_at-next}
use Rattle.node_parts.specs.declared.passed.PassedCommit.{PassedCommit}
use Rattle.certification.specs.Certifies.{IsPassed, KeepsPassed, commits_above, in_the_way, kept, with_passed}
use Rattle.certification.specs.Indexed.{dependency_of}
use Rattle.certification.proofs.Touching.{kept-way, higher-way, later-way, above_twice}

-- ---- what is in the way of a commit
-- the next commit comes behind it
way_later : (order : List Event) (committed certified number : ℕ) (e : Event) → slice_get order certified ≡ Some e → number ≤ certified + 1
    → (keys : Keys) → in_the_way order committed (certified + 1) number keys ≡ in_the_way order committed certified number keys
way_later order committed certified number e there within keys =
    let s = state_at order certified in
    let own : s.number ≡ certified =
    number-at order certified (let inside = slice_get_within order certified e there in omega (arith, inside)) in
    ap (λ cs. greatest (touching_before (commits_above committed cs) number keys)) (commits-next order certified e there)
    ∙ later-way keys number committed s.commits (commit_of s e)
    (λ commit made. let numbered = commit-number s e commit made in omega (arith, numbered, own, within))

module _ (order : List Event) (committed certified number : ℕ) (item : CommitItem) (p : PassedCommit)
    (is : IsPassed order committed certified number item p) where
  passed-later : (e : Event) → slice_get order certified ≡ Some e → number ≤ certified + 1
      → IsPassed order committed (certified + 1) number item p
  passed-later e there within = record {
    changes = is.changes;
    way = is.way ∙ sym (way_later order committed certified number e there within item.keys);
  }

  passed-higher : IsPassed order (committed + 1) certified number item p
  passed-higher =
      let fits : committed ≤ committed + 1 = omega arith in
      record {
        changes = is.changes;
        way = sym (above_twice committed (committed + 1) fits p.dependency)
            ∙ ap (only_above (committed + 1)) is.way
            ∙ higher-way item.keys number committed (committed + 1) (state_at order certified).commits fits;
      }

  passed-append : (more : List Event) → certified ≤ length order → number ≤ length order
      → IsPassed (order ++ more) committed certified number item p
  passed-append more fits within = record {
    changes = is.changes ∙ sym (ops_at-append order more number within);
    way = is.way ∙ sym (ap (λ (s : FoldState). greatest (touching_before (commits_above committed s.commits) number item.keys))
        (state_at-append order more certified fits));
  }

module _ (order : List Event) (committed certified : ℕ) (passed : FiniteMap nat_cmp PassedCommit)
    (keeps : KeepsPassed order committed certified passed) where
  -- what is kept of a commit in a map
  abbrev Has : FiniteMap nat_cmp PassedCommit → ℕ → CommitItem → Type 0
  Has m number item =
      (p : PassedCommit) × (get m number ≡ Some p) × IsPassed order committed (certified + 1) number item p

  module _ (e : Event) (there : slice_get order certified ≡ Some e) where
    abbrev s : FoldState
    s = state_at order certified

    has_old : (number : ℕ) (item : CommitItem) → committed < number → number ≤ certified → commit_at order number ≡ Some item
        → Has passed number item
    has_old number item above within is =
        let old = keeps.kept number item above within is in
        (old.0, old.1, passed-later order committed certified number item old.0 old.2 e there (omega (arith, within)))

    keeps_same : commit_at order (certified + 1) ≡ None → KeepsPassed order committed (certified + 1) passed
    keeps_same none = record {
      kept = λ number item above within is. same_kept number item above within is _ refl;
      only = λ number has. let old = keeps.only number has in (old.0, omega (arith, old.1));
    }
      where
        same_kept : (number : ℕ) (item : CommitItem) → committed < number → number ≤ certified + 1 → commit_at order number ≡ Some item
            → (b : Bool) → number == certified + 1 ≡ b → Has passed number item
        same_kept number item above within is true last =
            let other = sym (ap (commit_at order) (eqb-true number (certified + 1) last) ∙ none) ∙ is in absurd cc
        same_kept number item above within is false other =
            let below : number < certified + 1 = less_from number (certified + 1) within other in
            has_old number item above (omega (arith, below)) is

    keeps_pushed : (p : PassedCommit) → committed ≤ certified
        → ((item : CommitItem) → commit_at order (certified + 1) ≡ Some item → IsPassed order committed certified (certified + 1) item p)
        → KeepsPassed order committed (certified + 1) (insert passed (certified + 1) p)
    keeps_pushed p fits new = record {
      kept = λ number item above within is. pushed_kept number item above within is _ refl;
      only = λ number has. pushed_only number _ refl
          (sym (ap is_some (get-insert nat_cmp_total passed (certified + 1) p number)) ∙ has);
    }
      where
        pushed_kept : (number : ℕ) (item : CommitItem) → committed < number → number ≤ certified + 1 → commit_at order number ≡ Some item
            → (b : Bool) → eq_by_cmp nat_cmp number (certified + 1) ≡ b → Has (insert passed (certified + 1) p) number item
        pushed_kept number item above within is true last =
            let here = tied numbers number (certified + 1) last in
            let own = subst (λ n. IsPassed order committed certified n item p) (sym here) (new item (sym (ap (commit_at order) here) ∙ is)) in (
              p,
              get-insert nat_cmp_total passed (certified + 1) p number ∙ ap (λ b. cond b (Some p) (get passed number)) last,
              passed-later order committed certified number item p own e there within,
            )
        pushed_kept number item above within is false other =
            let below : number < certified + 1 = less_from number (certified + 1) within
            (false_from_ne_true (number == certified + 1) (λ tie. true≢false (sym (itself numbers (certified + 1))
            ∙ ap (λ k. eq_by_cmp nat_cmp k (certified + 1)) (sym (eqb-true number (certified + 1) tie)) ∙ other))) in
            let old = has_old number item above (omega (arith, below)) is in (
              old.0,
              get-insert nat_cmp_total passed (certified + 1) p number ∙ ap (λ b. cond b (Some p) (get passed number)) other ∙ old.1,
              old.2,
            )

        pushed_only : (number : ℕ) (b : Bool) → eq_by_cmp nat_cmp number (certified + 1) ≡ b
            → is_some (cond b (Some p) (get passed number)) ≡ true → (committed < number) × (number ≤ certified + 1)
        pushed_only number true last has =
            let is : number ≡ certified + 1 = tied numbers number (certified + 1) last in (omega (arith, is, fits), omega (arith, is))
        pushed_only number false other has = let old = keeps.only number has in (old.0, omega (arith, old.1))

    module _ (p : PassedCommit) (fits : committed ≤ certified) (changes_is : p.changes ≡ ops_of s e)
        (way_is : p.dependency ≡ dependency_of (kept committed s) (commit_of s e)) where
      no_commit : is_commit (judged s e) ≡ false → commit_at order (certified + 1) ≡ None
      no_commit none =
          is_none (commit_at order (certified + 1))
          (ap is_some (commit_at-is order certified e there) ∙ commit-judged s e ∙ none)
        where
          is_none : {A : Type 0} (o : Option A) → is_some o ≡ false → o ≡ None
          is_none None h = refl
          is_none (Some a) h = absurd cc

      new_passed : (item : CommitItem) → commit_at order (certified + 1) ≡ Some item
          → IsPassed order committed certified (certified + 1) item p
      new_passed item is = record {
        changes = changes_is ∙ sym (ops_at-next order certified ∙ ap (ops_by s) there);
        way = ap (only_above committed) (way_is ∙ ap (dependency_of (kept committed s)) (sym (commit_at-is order certified e there) ∙ is))
            ∙ kept-way item.keys (certified + 1) (min s.floor committed) committed certified s.commits (omega arith) (omega arith)
            (commits-rise order certified (let inside = slice_get_within order certified e there in omega (arith, inside)));
      }

      -- one more event is certified
      pub passed-certified : (j : Judged) → j ≡ judged s e
          → KeepsPassed order committed (certified + 1) (with_passed j passed (certified + 1) p)
      passed-certified became.View is = keeps_same (no_commit (ap is_commit (sym is)))
      passed-certified became.Report is = keeps_same (no_commit (ap is_commit (sym is)))
      passed-certified became.Commit is = keeps_pushed p fits new_passed
      passed-certified became.Fragment is = keeps_same (no_commit (ap is_commit (sym is)))
      passed-certified became.Rollback is = keeps_same (no_commit (ap is_commit (sym is)))
      passed-certified (became.Fail v) is = keeps_same (no_commit (ap is_commit (sym is)))

  -- one more number is committed
  pub passed-committed : KeepsPassed order (committed + 1) certified (remove passed (committed + 1))
  passed-committed = record {
    kept = λ number item above fits is.
        let old = keeps.kept number item (omega (arith, above)) fits is in (
          old.0,
          get-remove nat_cmp_total passed (committed + 1) number
              ∙ ap (λ b. cond b None (get passed number))
              (false_from_ne_true (eq_by_cmp nat_cmp number (committed + 1))
              (λ tie. let same = tied numbers number (committed + 1) tie in absurd (omega (arith, above, same))))
              ∙ old.1,
          passed-higher order committed certified number item old.0 old.2,
        );
    only = λ number has. left_only number _ refl (sym (ap is_some (get-remove nat_cmp_total passed (committed + 1) number)) ∙ has);
  }
    where
      left_only : (number : ℕ) (b : Bool) → eq_by_cmp nat_cmp number (committed + 1) ≡ b
          → is_some (cond b None (get passed number)) ≡ true → (committed + 1 < number) × (number ≤ certified)
      left_only number true tie has = cc
      left_only number false other has =
          let was = keeps.only number has in
          let apart = untied numbers number (committed + 1) other in
          (less_from (committed + 1) number (omega (arith, was.0)) (false_from_ne_true (committed + 1 == number) (λ same. apart (sym (eqb-true (committed + 1) number same)))), was.1)

  -- the order goes on
  pub passed-append-all : (more : List Event) → certified ≤ length order → KeepsPassed (order ++ more) committed certified passed
  passed-append-all more fits = record {
    kept = λ number item above within is.
        let inside : number ≤ length order = omega (arith, within, fits) in
        let old = keeps.kept number item above within (sym (commit_at-append order more number inside) ∙ is) in
        (old.0, old.1, passed-append order committed certified number item old.0 old.2 more fits inside);
    only = keeps.only;
  }
