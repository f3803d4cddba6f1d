-- what holds of open transactions at every point of an order, and of the rows that they change
use Rattle.std.specs.Prelude.{◌≡◌, ◌≢◌, ◌≤◌, ℕ, false, Bool, List, [], ◌∷◌, slice_get, Option, Some, None, if◌then◌else◌}
use Rattle.std.specs.List.{list_any, AllByRecursion}
use Rattle.std.specs.Ordering.{eq_by_cmp}
use Rattle.finite_map.specs.FiniteMap.{get}
use Rattle.wsrep_base.specs.declared.ids.TrxId.{TrxId}
use Rattle.wsrep_base.specs.declared.verdict.Judged.TheVariants as became
use Rattle.key_sets.specs.Keys.{touches}
use Rattle.row_model.specs.declared.row.RowId.{RowId}
use Rattle.row_model.specs.declared.ops.Op.{Op}
use Rattle.row_model.specs.Rows.{row_cmp, id_of}
use Rattle.order_event.specs.declared.event.Event.{Event}
use Rattle.order_event.specs.declared.event.Event.TheVariants.{Write}
use Rattle.write_set.specs.declared.write_set.WriteSet.{WriteSet}
use Rattle.write_set.specs.Reading.{decoded}
use Rattle.cert_meaning.specs.declared.items.Fragment.{Fragment}
use Rattle.cert_meaning.specs.State.{FoldState, fragments_of, fragment_keys}
use Rattle.cert_meaning.specs.Verdict.{conflict_of, trx_of}
use Rattle.cert_meaning.specs.Fold.{state_at, judged}

-- what the fragment had seen was there, and no commit since then conflicts with it
pub record IsUnopposed (s : FoldState) (fragment : Fragment) : Type 0 where
  pub seen : fragment.last_seen ≤ s.number
  pub clear : conflict_of s fragment.last_seen fragment.keys ≡ None

-- the fragments of two open transactions do not touch, and no commit conflicts with an open
-- fragment since what that fragment had seen
pub record OpenAreUnopposed (s : FoldState) : Type 0 where
  pub apart : (one other : TrxId) → one ≢ other
      → touches (fragment_keys (fragments_of s one)) (fragment_keys (fragments_of s other)) ≡ false
  pub clear : (trx : TrxId) → AllByRecursion (IsUnopposed s) (fragments_of s trx)

-- so it is at every point of an order
abbrev pub OpenStayUnopposed : Type 0
OpenStayUnopposed = (order : List Event) (n : ℕ) → OpenAreUnopposed (state_at order n)

-- whether one of the changes is of the row
abbrev pub changes_row : RowId → List Op → Bool
changes_row id ops = list_any (λ op. eq_by_cmp row_cmp id (id_of op)) ops

-- what the first that changes the row had seen, among the fragments and then the write set
abbrev pub first_seen : RowId → List Fragment → WriteSet → Option ℕ
first_seen id [] w = if changes_row id w.ops then Some w.last_seen else None
first_seen id (f ∷ fragments) w =
    if changes_row id f.ops then Some f.last_seen else first_seen id fragments w

-- each row that a passed commit changes has before it the value that it had after what was seen by
-- the first of its transaction's fragments that changes the row, or else by its own write set
abbrev pub RowsAreAsSeen : Type 0
RowsAreAsSeen =
    (order : List Event) (n member : ℕ) (body : List ℕ) (w : WriteSet) (id : RowId) (seen : ℕ)
    → slice_get order n ≡ Some (Write member body) → decoded body ≡ Some w
    → judged (state_at order n) (Write member body) ≡ became.Commit
    → first_seen id (fragments_of (state_at order n) (trx_of w)) w ≡ Some seen
    → get (state_at order n).rows id ≡ get (state_at order seen).rows id
