-- the state that an order of events leads to
use Rattle.std.specs.Prelude.{ℕ, ◌<◌, ◌≤◌, ◌==◌, Bool, List, [], ◌∷◌, map, fold, flat_map, ◌++◌, Option, None, Some, is_some, unwrap_or, if◌then◌else◌}
use Rattle.std.specs.Option.{option_map_or}
use Rattle.std.specs.Ordering.{nat_cmp}
use Rattle.finite_map.specs.FiniteMap.{FiniteMap, empty, get, remove, values}
use Rattle.wsrep_base.specs.declared.ids.TrxId.{TrxId}
use Rattle.wsrep_base.specs.Trx.{trx_cmp}
use Rattle.key_sets.specs.Keys.{Keys, union}
use Rattle.row_model.specs.declared.ops.Op.{Op}
use Rattle.row_model.specs.Rows.{Rows}
pub use Rattle.cert_meaning.specs.declared.members.Standing.{Standing}
pub use Rattle.cert_meaning.specs.declared.items.CommitItem.{CommitItem}
pub use Rattle.cert_meaning.specs.declared.items.Fragment.{Fragment}

pub record FoldState : Type 0 where
  -- how many events it has seen
  pub number : ℕ
  -- the least report: a write set that saw less is stale
  pub floor : ℕ
  -- that of the last view
  pub version : ℕ
  pub members : FiniteMap nat_cmp Standing
  pub rows : Rows
  -- the passed commits, oldest first
  pub commits : List CommitItem
  -- the passed fragments of each open transaction, oldest first
  pub open_trx : FiniteMap trx_cmp (List Fragment)

-- before the first event
unfoldable pub no_events : FoldState
no_events = record {
  number = 0;
  floor = 0;
  version = 0;
  members = empty;
  rows = empty;
  commits = [];
  open_trx = empty;
}

-- the numbers of the commits strictly rise, above the one and up to the other
abbrev pub RiseWithin : ℕ → ℕ → List CommitItem → Type 0
RiseWithin above most [] = Unit {0}
RiseWithin above most (commit ∷ commits) =
    (above < commit.number) × (commit.number ≤ most) × RiseWithin commit.number most commits

-- the numbers of the commits rise
abbrev pub Rise : List CommitItem → Type 0
Rise commits = (most : ℕ) × RiseWithin 0 most commits

-- the commit with the number, if there is one
abbrev pub commit_numbered : ℕ → List CommitItem → Option CommitItem
commit_numbered n [] = None
commit_numbered n (commit ∷ commits) =
    if commit.number == n then Some commit else commit_numbered n commits

-- what the members last reported
abbrev pub reports : FoldState → List ℕ
reports s = map (λ (standing : Standing). standing.report) (values s.members)

-- whether the number is that of a member
abbrev pub is_member : FoldState → ℕ → Bool
is_member s member = is_some (get s.members member)

-- the serial of a member's last write set
abbrev pub serial_of : FoldState → ℕ → ℕ
serial_of s member =
    option_map_or (λ (standing : Standing). standing.serial) (get s.members member) 0

-- whether the transaction has passed a fragment and not ended since
abbrev pub is_open : FoldState → TrxId → Bool
is_open s trx = is_some (get s.open_trx trx)

-- the passed fragments of a transaction, none where it is not open
abbrev pub fragments_of : FoldState → TrxId → List Fragment
fragments_of s trx = unwrap_or (get s.open_trx trx) []

-- the fragments of all these transactions but one
abbrev pub fragments_but : FiniteMap trx_cmp (List Fragment) → TrxId → List Fragment
fragments_but open_trx trx = flat_map (λ entry. entry.1) (remove open_trx trx).entries

-- the fragments of all open transactions but one
abbrev pub other_fragments : FoldState → TrxId → List Fragment
other_fragments s trx = fragments_but s.open_trx trx

-- the last seen of the last fragment, 0 where there is none
abbrev pub last_seen_of : List Fragment → ℕ
last_seen_of fragments = fold (λ _ fragment. fragment.last_seen) 0 fragments

-- the keys of fragments
abbrev pub fragment_keys : List Fragment → Keys
fragment_keys fragments = fold (λ all fragment. union all fragment.keys) empty fragments

-- all keys of a transaction: of its fragments, and then of one more write set
abbrev pub whole_keys : List Fragment → Keys → Keys
whole_keys fragments keys = union (fragment_keys fragments) keys

-- all changes of a transaction, in order: of its fragments, and then of one more write set
abbrev pub whole_ops : List Fragment → List Op → List Op
whole_ops fragments ops = flat_map (λ fragment. fragment.ops) fragments ++ ops
