-- what a node keeps of certification, and when it answers as an order says
use Rattle.std.specs.Prelude.{◌≡◌, ◌≤◌, ◌<◌, ℕ, zero, suc, ◌+◌, ◌-◌, ◌^◌, nat_lt, min, List, [], ◌∷◌, length, Option, Some, IsTrue}
use Rattle.std.specs.List.{filter}
use Rattle.std.specs.Option.{option_map}
use Rattle.std.specs.Ordering.{nat_cmp}
use Rattle.finite_map.specs.FiniteMap.{FiniteMap, empty, get, insert, contains_key}
use Rattle.wsrep_base.specs.declared.ids.TrxId.{TrxId}
use Rattle.wsrep_base.specs.declared.verdict.Judged.{Judged}
use Rattle.wsrep_base.specs.declared.verdict.Judged.TheVariants as became
use Rattle.wsrep_base.specs.Trx.{greatest}
use Rattle.key_sets.specs.Keys.{Keys}
use Rattle.row_model.specs.declared.ops.Op.{Op}
use Rattle.order_event.specs.declared.event.Event.{Event}
use Rattle.cert_meaning.specs.declared.items.CommitItem.{CommitItem}
use Rattle.cert_meaning.specs.State.{FoldState, commit_numbered}
use Rattle.cert_meaning.specs.Verdict.{held_by}
use Rattle.cert_meaning.specs.Fold.{state_at, judged}
use Rattle.cert_index.specs.Index.{only_above}
use Rattle.node_meaning.specs.Facts.{commit_at}
use Rattle.node_meaning.specs.Node.{ahead}
use Rattle.node_meaning.specs.Steps.{touching_before}
use Rattle.node_meaning.specs.Units.{ops_at, judged_at}
use Rattle.node_parts.specs.declared.passed.PassedCommit.{PassedCommit}

pub record ModelCertification : Type 0 where
  -- the state: of its commits those that are kept, and no rows
  pub state : FoldState
  -- all numbers up to this one are committed
  pub committed : ℕ
  -- each passed commit that is not committed, by its number
  pub passed : FiniteMap nat_cmp PassedCommit
  -- what became of each number that is certified and not committed, in their order
  pub verdicts : List Judged

-- the commits with greater numbers
abbrev pub commits_above : ℕ → List CommitItem → List CommitItem
commits_above number commits = filter (λ (commit : CommitItem). nat_lt number commit.number) commits

-- a state without the commits up to a number
abbrev pub purged : ℕ → FoldState → FoldState
purged to s = record s { commits = commits_above to s.commits }

-- a state without its rows
abbrev pub bare : FoldState → FoldState
bare s = record s { rows = empty }

-- what is kept of a state: of the commits those against which a write set may still be tested, or
-- that are not committed
abbrev pub kept : ℕ → FoldState → FoldState
kept committed s = purged (min s.floor committed) (bare s)

-- the greatest commit above what is committed that comes before a number and touches the keys
abbrev pub in_the_way : List Event → ℕ → ℕ → ℕ → Keys → Option ℕ
in_the_way order committed certified number keys =
    greatest (touching_before (ahead order committed certified) number keys)

-- what is kept of the passed commit with a number
pub record IsPassed (order : List Event) (committed certified number : ℕ) (item : CommitItem)
    (passed : PassedCommit) : Type 0 where
  pub changes : passed.changes ≡ ops_at order number
  pub way : only_above committed passed.dependency
      ≡ in_the_way order committed certified number item.keys

-- each passed commit that is certified and not committed
pub record KeepsPassed (order : List Event) (committed certified : ℕ)
    (passed : FiniteMap nat_cmp PassedCommit) : Type 0 where
  pub kept : (number : ℕ) (item : CommitItem) → committed < number → number ≤ certified
      → commit_at order number ≡ Some item
      → (p : PassedCommit) × (get passed number ≡ Some p)
      × IsPassed order committed certified number item p
  pub only : (number : ℕ) → IsTrue (contains_key passed number)
      → (committed < number) × (number ≤ certified)

-- what became of so many events after the one with a number
abbrev pub judged_after : List Event → ℕ → ℕ → List Judged
judged_after order number zero = []
judged_after order number (suc count) =
    judged_at order (suc number) ∷ judged_after order (suc number) count

-- what became of the events that are certified and not committed
abbrev pub judged_between : List Event → ℕ → ℕ → List Judged
judged_between order committed certified = judged_after order committed (certified - committed)

-- it stands for the state of the order, of which nothing is missing that is asked for
pub record Certifies (order : List Event) (committed certified : ℕ)
    (c : ModelCertification) : Type 0 where
  pub within : certified ≤ length order
  pub to : c.committed ≡ committed
  pub state : c.state ≡ kept committed (state_at order certified)
  pub passed : KeepsPassed order committed certified c.passed
  pub verdicts : c.verdicts ≡ judged_between order committed certified

-- there is such an order, and one more number
pub record CanCertify (c : ModelCertification) : Type 0 where
  pub order : List Event
  pub committed : ℕ
  pub certified : ℕ
  pub certifies : Certifies order committed certified c
  pub fits : certified + 1 < 2 ^ 64

-- the next event of the order is certified
pub record IsNext (order : List Event) (committed certified : ℕ) (e : Event) (became : Judged)
    (c : ModelCertification) : Type 0 where
  pub judged : became ≡ judged (state_at order certified) e
  pub certifies : Certifies order committed (certified + 1) c

-- ---- what it is asked
-- the passed commit with a number
unfoldable pub commit_with : ℕ → ModelCertification → Option CommitItem
commit_with number c = commit_numbered number c.state.commits

-- the changes of the passed commit with a number
unfoldable pub changes_with : ℕ → ModelCertification → Option (List Op)
changes_with number c = option_map (λ (p : PassedCommit). p.changes) (get c.passed number)

-- the greatest fragment of another open transaction whose keys touch
unfoldable pub holder_of : TrxId → Keys → ModelCertification → Option ℕ
holder_of trx keys c = held_by c.state trx keys

-- a commit is kept until it is committed
abbrev pub with_passed : Judged → FiniteMap nat_cmp PassedCommit → ℕ → PassedCommit
    → FiniteMap nat_cmp PassedCommit
with_passed became.View passed number commit = passed
with_passed became.Report passed number commit = passed
with_passed became.Commit passed number commit = insert passed number commit
with_passed became.Fragment passed number commit = passed
with_passed became.Rollback passed number commit = passed
with_passed (became.Fail verdict) passed number commit = passed
