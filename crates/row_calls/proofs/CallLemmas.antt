-- one call on rows with owners, by the contracts of the rows
use Rattle.std.proofs.Common.{zero, suc, length, take, get_or, arith, ◌≡◌, ℕ, ◌<◌, Bool, true, false, cond, List, [], ◌∷◌, Option, Some, None, refl, sym, ◌∙◌, ap}
use Rattle.finite_map.specs.FiniteMap.{get, get-retain_keys, same_map}
use Rattle.row_model.specs.Rows.{Rows}
use Rattle.row_model.specs.RowOrder.{row_total, row_exact}
use Rattle.row_model.specs.declared.row.RowId.{RowId}
use Rattle.row_model.specs.declared.ops.Op.{Op}
use Rattle.undo_rows.specs.RowTable.{RowTable, Change, Changes, is_owned_by, seen_of, seen, written, written_unless}
use Rattle.undo_rows.specs.UndoRows.{image_or}
use Rattle.undo_rows.proofs.UndoLemmas.{get-committed_under}
use Rattle.row_calls.specs.declared.calls.RowCall.{RowCall}
use Rattle.row_calls.specs.declared.calls.RowCall.TheVariants.{Write, RollBack, Keep, Reserve, Put, Committed, SeenBy, Walk}
use Rattle.row_calls.specs.Calls.{Standing, standing, table_of, only, kept, IsFree, AreFree, done_calls, puts_none}

pub standing_of : (r s : Rows) (m n : Changes) → r ≡ s → m ≡ n
    → ◌≡◌ {A = Standing} (record { committed = r; changes = m }) (record { committed = s; changes = n })
standing_of r s m n e f = λ i. record { committed = e i; changes = f i }

written_from : (o : Option ℕ) (t : RowTable) (owner : ℕ) (op : Op)
    → written_unless o t owner op ≡ written_unless o (table_of (standing t)) owner op
written_from None t owner op = refl
written_from (Some other) t owner op = refl

-- a write does not depend on the room
pub written-standing : (t : RowTable) (owner : ℕ) (op : Op) → written t owner op ≡ written (table_of (standing t)) owner op
written-standing t owner op = written_from _ t owner op

get-only : (m : Changes) (owner : ℕ) (q : RowId) → get (only m owner) q ≡ cond (is_owned_by owner (get m q)) (get m q) None
get-only m owner q = get-retain_keys m (λ id. is_owned_by owner (get m id)) q
    (λ x tied. ap (λ id. is_owned_by owner (get m id)) (sym (row_exact q x tied)))

kept_one : (owner : ℕ) (mq : Option Change) (rq : Option (List ℕ)) (b : Bool) → is_owned_by owner mq ≡ b
    → seen_of owner mq rq ≡ image_or (cond b mq None) rq
kept_one owner None rq true is = refl
kept_one owner None rq false is = refl
kept_one owner (Some change) rq true is = ap (λ b. cond b change.1 rq) is
kept_one owner (Some change) rq false is = ap (λ b. cond b change.1 rq) is

-- rows that are what the owner saw are those with its changes kept
pub kept-is : (after : Rows) (t : RowTable) (owner : ℕ) → ((q : RowId) → get after q ≡ seen t owner q)
    → after ≡ kept (standing t) owner
kept-is after t owner sees = same_map row_total row_exact _ _ (λ q.
    sees q
    ∙ kept_one owner (get t.changes q) (get t.committed q) (is_owned_by owner (get t.changes q)) refl
    ∙ ap (λ c. image_or c (get t.committed q)) (sym (get-only t.changes owner q))
    ∙ sym (get-committed_under t.committed (only t.changes owner) q))

free_first : (s : Standing) (call : RowCall) (calls : List RowCall) → puts_none (call ∷ calls) ≡ true
    → IsFree s call × (puts_none calls ≡ true)
free_first s (Put id row) calls none = cc
free_first s (Write owner op) calls none = (tt, none)
free_first s (RollBack owner) calls none = (tt, none)
free_first s (Keep owner) calls none = (tt, none)
free_first s (Reserve count) calls none = (tt, none)
free_first s (Committed id) calls none = (tt, none)
free_first s (SeenBy owner id) calls none = (tt, none)
free_first s Walk calls none = (tt, none)

free_at : (states : ℕ → Standing) (calls : List RowCall) → puts_none calls ≡ true
    → (k : ℕ) (d : RowCall) → k < length calls → IsFree (states k) (get_or calls k d)
free_at states [] none k d inside = absurd (omega arith)
free_at states (call ∷ calls) none zero d inside = (free_first (states 0) call calls none).0
free_at states (call ∷ calls) none (suc k) d inside =
    free_at (λ n. states (suc n)) calls (free_first (states 0) call calls none).1 k d (omega arith)

-- calls that put no row are free
pub free-without_puts : (s : Standing) (calls : List RowCall) → puts_none calls ≡ true → AreFree s calls
free-without_puts s calls none = free_at (λ k. (done_calls s (take k calls)).0) calls none
