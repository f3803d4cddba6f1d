-- What is certified stays so: after the next event, after the next commit, and over an order that goes on.
use Rattle.std.proofs.Common.{◌≡◌, ℕ, ◌+◌, ◌-◌, ◌≤◌, List, [], ◌∷◌, ◌++◌, length, Some, ap, sym, subst, ◌∙◌, arith, length-append, true≢false}
use Rattle.std.specs.Prelude.{slice_get, drop, is_some, min}
use Rattle.std.specs.Ordering.{nat_cmp}
use Rattle.std.proofs.lemmas.Option.{slice_get_within}
use Rattle.finite_map.specs.FiniteMap.{FiniteMap, empty, get, remove, get-empty}
use Rattle.wsrep_base.specs.declared.verdict.Judged.{Judged}
use Rattle.order_event.specs.declared.event.Event.{Event}
use Rattle.cert_meaning.specs.State.{FoldState, no_events}
use Rattle.cert_meaning.specs.Parts.{trim}
use Rattle.cert_meaning.specs.Fold.{judged, after, ops_of, commit_of, state_at}
use Rattle.cert_meaning.proofs.FloorLaws.{settled_at, floor_rises}
use Rattle.cert_meaning.proofs.FoldLaws.{state_at-next, state_at-append, number-at}
use Rattle.node_parts.specs.Passed.{AllBefore}
use Rattle.node_parts.specs.declared.passed.PassedCommit.{PassedCommit}
use Rattle.certification.specs.Certifies.{ModelCertification, Certifies, IsNext, KeepsPassed, bare, judged_after, kept, purged, with_passed}
use Rattle.certification.specs.Indexed.{dependency_of}
use Rattle.certification.proofs.Needed.{judged-kept, ops-kept, commit-kept, after-kept, kept-more, trim-kept}
use Rattle.certification.proofs.Verdicts.{verdicts_more, verdicts_less, verdicts_append}
use Rattle.certification.proofs.Passing.{passed-certified, passed-committed, passed-append-all}

-- where all is committed no commits are kept
none_kept : (order : List Event) (number : ℕ) (passed : FiniteMap nat_cmp PassedCommit) → passed ≡ empty
    → KeepsPassed order number number passed
none_kept order number passed none = record {
  kept = λ at item above within is. absurd (omega (arith, above, within));
  only = λ at has. absurd (true≢false (sym has ∙ ap (λ m. is_some (get m at)) none ∙ ap is_some (get-empty nat_cmp at)));
}

-- before the first event
pub certifies_none : (order : List Event) (c : ModelCertification) → c.state ≡ no_events → c.committed ≡ 0 → c.passed ≡ empty
    → c.verdicts ≡ [] → Certifies order 0 0 c
unfolding state_at no_events
certifies_none order c state to passed verdicts = record {
  within = omega arith;
  to = to;
  state = state;
  passed = none_kept order 0 c.passed passed;
  verdicts = verdicts;
}

-- from a trimmed state, up to which all is committed
pub certifies_installed : (order : List Event) (number : ℕ) (q : FoldState) (c : ModelCertification) → number ≤ length order
    → q ≡ trim (state_at order number) → c.state ≡ bare q → c.committed ≡ q.number → c.passed ≡ empty → c.verdicts ≡ []
    → Certifies order number number c
certifies_installed order number q c within trimmed state to passed verdicts =
    let s = state_at order number in
    let settled = settled_at order number in
    let own : s.number ≡ number = number-at order number within in
    record {
      within = within;
      to = to ∙ ap (λ (r : FoldState). r.number) trimmed ∙ own;
      state = state ∙ ap bare trimmed
          ∙ ap (λ low. purged low (bare s)) (let low = settled.floor in let least : s.floor ≡ min s.floor number = omega (arith, low, own) in least);
      passed = none_kept order number c.passed passed;
      verdicts = verdicts ∙ ap (judged_after order number) (let none : 0 ≡ number - number = omega arith in none);
    }

module _ (order : List Event) (committed certified : ℕ) (c : ModelCertification) (is : Certifies order committed certified c) where
  -- its number is what is certified
  pub number-is : c.state.number ≡ certified
  number-is = ap (λ (s : FoldState). s.number) is.state ∙ number-at order certified is.within

  -- trimmed it is the state of the order trimmed, without rows
  pub trimmed-is : trim c.state ≡ bare (trim (state_at order certified))
  trimmed-is = ap trim is.state ∙ trim-kept committed (state_at order certified)

  -- the commits that are kept are of earlier events
  pub all_before : AllBefore c.passed (c.state.number + 1)
  all_before earlier item there =
      let own = number-is in
      let kept = is.passed.only earlier (ap is_some there) in
      omega (arith, own, kept.1)

  -- the next event
  module _ (e : Event) (next : ModelCertification) (became : Judged) (p : PassedCommit) (stepped : FoldState) (fits : committed ≤ certified)
      (there : slice_get order certified ≡ Some e) (judged_is : became ≡ judged c.state e) (changes_is : p.changes ≡ ops_of c.state e)
      (way_is : p.dependency ≡ dependency_of c.state (commit_of c.state e))
      (stepped_is : stepped ≡ bare (after c.state e)) (number : stepped.number ≡ c.state.number + 1)
      (state : next.state ≡ purged (min stepped.floor c.committed) stepped) (to : next.committed ≡ c.committed)
      (passed : next.passed ≡ with_passed became c.passed stepped.number p)
      (verdicts : next.verdicts ≡ c.verdicts ++ became ∷ []) where
    abbrev s : FoldState
    s = state_at order certified

    judged_at : became ≡ judged s e
    judged_at = judged_is ∙ ap (λ q. judged q e) is.state ∙ judged-kept committed s e

    numbers : stepped.number ≡ certified + 1
    numbers = number ∙ ap (λ n. n + 1) number-is

    later : state_at order (certified + 1) ≡ after s e
    later = state_at-next order certified e there

    rises : s.floor ≤ (after s e).floor
    rises = subst (λ (q : FoldState). s.floor ≤ q.floor) later (floor_rises order certified (certified + 1) (omega arith))

    certifies : Certifies order committed (certified + 1) next
    certifies = record {
      within = let more = slice_get_within order certified e there in omega (arith, more);
      to = to ∙ is.to;
      state = state ∙ ap (λ (q : FoldState). purged (min q.floor c.committed) q) (stepped_is ∙ ap (λ q. bare (after q e)) is.state)
          ∙ ap (λ n. purged (min (after (kept committed s) e).floor n) (bare (after (kept committed s) e))) is.to
          ∙ after-kept committed s e rises ∙ ap (kept committed) (sym later);
      passed = subst (KeepsPassed order committed (certified + 1)) (sym (passed ∙ ap (λ n. with_passed became c.passed n p) numbers))
          (passed-certified order committed certified c.passed is.passed e there p fits
          (changes_is ∙ ap (λ q. ops_of q e) is.state ∙ ops-kept committed s e)
          (way_is ∙ ap (λ q. dependency_of q (commit_of q e)) is.state ∙ ap (dependency_of (kept committed s)) (commit-kept committed s e))
          became judged_at);
      verdicts = verdicts ∙ ap (λ js. js ++ became ∷ []) is.verdicts ∙ verdicts_more order committed certified fits e there became judged_at;
    }

    pub is_next : IsNext order committed certified e became next
    is_next = record { judged = judged_at; certifies = certifies }

  -- the next number is committed
  pub certifies_committed : (number : ℕ) → number ≡ committed + 1 → (next : ModelCertification) → next.committed ≡ number
      → next.state ≡ purged (min c.state.floor number) c.state → next.passed ≡ remove c.passed number
      → next.verdicts ≡ drop 1 c.verdicts → Certifies order number certified next
  certifies_committed number one next to state gone rest =
      subst (λ n. Certifies order n certified next) (sym one) (record {
        within = is.within;
        to = to ∙ one;
        state = state ∙ ap (λ n. purged (min c.state.floor n) c.state) one
            ∙ ap (λ (q : FoldState). purged (min q.floor (committed + 1)) q) is.state
            ∙ kept-more committed (state_at order certified) (committed + 1) (omega arith);
        passed = subst (KeepsPassed order (committed + 1) certified) (sym (gone ∙ ap (remove c.passed) one))
            (passed-committed order committed certified c.passed is.passed);
        verdicts = rest ∙ ap (drop 1) is.verdicts ∙ verdicts_less order committed certified;
      })

  -- the order goes on
  pub certifies_grow : (more : List Event) → Certifies (order ++ more) committed certified c
  certifies_grow more = record {
    within = let fits = is.within in let long = length-append order more in omega (arith, fits, long);
    to = is.to;
    state = is.state ∙ ap (kept committed) (sym (state_at-append order more certified is.within));
    passed = passed-append-all order committed certified c.passed is.passed more is.within;
    verdicts = is.verdicts ∙ sym (verdicts_append order more committed certified is.within);
  }
