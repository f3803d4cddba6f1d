-- What passed and is not committed: the answers are those of the order.
use Rattle.std.proofs.Common.{◌≡◌, ℕ, ◌≤◌, ◌<◌, Bool, true, false, cond, List, [], ◌∷◌, Option, None, Some, refl, sym, ap, subst, ◌∙◌, arith, true≢false, lt-ltb, eqb-true}
use Rattle.std.specs.Prelude.{nat_lt, min, ◌==◌, IsTrue, is_some}
use Rattle.std.specs.Option.{option_map}
use Rattle.std.proofs.lemmas.Option.{same_Some}
use Rattle.finite_map.specs.FiniteMap.{get}
use Rattle.wsrep_base.specs.declared.ids.TrxId.{TrxId}
use Rattle.key_sets.specs.Keys.{Keys}
use Rattle.order_event.specs.declared.event.Event.{Event}
use Rattle.cert_meaning.specs.declared.items.CommitItem.{CommitItem}
use Rattle.cert_meaning.specs.State.{FoldState, commit_numbered}
use Rattle.cert_meaning.specs.Verdict.{held_by}
use Rattle.cert_meaning.specs.Fold.{state_at}
use Rattle.cert_index.specs.Index.{only_above}
use Rattle.node_meaning.specs.Node.{ahead, passed_at}
use Rattle.node_meaning.specs.Facts.{commit_at}
use Rattle.node_meaning.specs.Units.{ops_at}
use Rattle.node_meaning.proofs.PassedLaws.{from_passed}
use Rattle.node_parts.specs.declared.passed.PassedCommit.{PassedCommit}
use Rattle.certification.specs.Certifies.{ModelCertification, Certifies, commits_above, commit_with, changes_with, holder_of, in_the_way}
use Rattle.certification.proofs.Needed.{above_both}

-- ---- a commit above a number is found among those above it
skipped : (committed number : ℕ) (c : CommitItem) (cs : List CommitItem) (a t : Bool) → nat_lt committed c.number ≡ a → (c.number == number) ≡ t
    → committed < number → commit_numbered number (commits_above committed cs) ≡ commit_numbered number cs
    → commit_numbered number (cond a (c ∷ commits_above committed cs) (commits_above committed cs))
    ≡ cond t (Some c) (commit_numbered number cs)
skipped committed number c cs true t above tie after rest =
    ap (λ b. cond b (Some c) (commit_numbered number (commits_above committed cs))) tie
    ∙ ap (cond t (Some c)) rest
skipped committed number c cs false false above tie after rest = rest
skipped committed number c cs false true above tie after rest =
    absurd (true≢false (sym (lt-ltb committed c.number (subst (λ m. committed < m) (sym (eqb-true c.number number tie)) after)) ∙ above))

numbered_above : (committed number : ℕ) (cs : List CommitItem) → committed < number
    → commit_numbered number (commits_above committed cs) ≡ commit_numbered number cs
numbered_above committed number [] after = refl
numbered_above committed number (c ∷ cs) after =
    skipped committed number c cs (nat_lt committed c.number) (c.number == number) refl refl after (numbered_above committed number cs after)

-- ---- the answers
some_item : (o : Option CommitItem) → IsTrue (is_some o) → (item : CommitItem) × (o ≡ Some item)
some_item None h = absurd cc
some_item (Some item) h = (item, refl)

module _ (order : List Event) (committed certified : ℕ) (c : ModelCertification) (is : Certifies order committed certified c) where
  ahead_is : commits_above committed c.state.commits ≡ ahead order committed certified
  ahead_is =
      let s = state_at order certified in
      ap (λ (q : FoldState). commits_above committed q.commits) is.state
      ∙ above_both (min s.floor committed) committed (omega arith) s.commits

  -- the passed commit with a number that is not committed
  pub commit-is : (number : ℕ) → committed < number → commit_with number c ≡ passed_at order committed certified number
  unfolding commit_with
  commit-is number above = sym (numbered_above committed number c.state.commits above) ∙ ap (commit_numbered number) ahead_is

  -- what it changes
  pub changes-is : (number : ℕ) → committed < number → number ≤ certified → IsTrue (is_some (commit_at order number))
      → changes_with number c ≡ Some (ops_at order number)
  unfolding changes_with
  changes-is number above within passed =
      let item = some_item (commit_at order number) passed in
      let kept = is.passed.kept number item.0 above within item.1 in
      ap (option_map (λ (p : PassedCommit). p.changes)) kept.1 ∙ ap Some kept.2.changes

  -- what is kept of it tells what is in its way
  pub way-is : (number : ℕ) (item : CommitItem) → passed_at order committed certified number ≡ Some item
      → (p : PassedCommit) × (get c.passed number ≡ Some p)
      × (only_above committed p.dependency ≡ in_the_way order committed certified number item.keys)
  way-is number item found =
      let at = from_passed order committed certified number item is.within found in
      let kept = is.passed.kept number item at.above at.within at.is_commit in
      (kept.0, kept.1, kept.2.way)

  pub way-some : (number : ℕ) (item : CommitItem) → passed_at order committed certified number ≡ Some item
      → (p : PassedCommit) → get c.passed number ≡ Some p
      → only_above c.committed p.dependency ≡ in_the_way order committed certified number item.keys
  way-some number item found p there =
      let way = way-is number item found in
      let same : p ≡ way.0 = same_Some p way.0 (sym there ∙ way.1) in
      ap (λ (q : PassedCommit). only_above c.committed q.dependency) same
      ∙ ap (λ n. only_above n way.0.dependency) is.to ∙ way.2

  pub way-none : (number : ℕ) (item : CommitItem) → passed_at order committed certified number ≡ Some item
      → get c.passed number ≡ None → ⊥
  way-none number item found there = let none = sym there ∙ (way-is number item found).1 in cc

  -- who holds keys in fragments
  pub holder-is : (trx : TrxId) (keys : Keys) → holder_of trx keys c ≡ held_by (state_at order certified) trx keys
  unfolding holder_of held_by
  holder-is trx keys = ap (λ s. held_by s trx keys) is.state
