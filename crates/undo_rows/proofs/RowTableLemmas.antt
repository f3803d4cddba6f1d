-- the changes of one owner, taken out one after another
use Rattle.std.proofs.Common.{◌≡◌, ℕ, Bool, true, false, cond, not, List, Option, Some, None, refl, sym, ◌∙◌, ap, eq-eqb}
use Rattle.std.specs.Ordering.{eq_by_cmp}
use Rattle.finite_map.specs.FiniteMap.{get, remove, get-insert, get-remove, get-retain_keys, same_map}
use Rattle.row_model.specs.Rows.{Rows, row_cmp, with_row}
use Rattle.row_model.specs.RowOrder.{row_total, row_exact, row_tied}
use Rattle.row_model.specs.declared.row.RowId.{RowId}
use Rattle.undo_rows.specs.RowTable.{Change, Changes, is_owned_by, seen_of, without}

pub get-with_row : (rows : Rows) (id : RowId) (row : Option (List ℕ)) (q : RowId)
    → get (with_row rows id row) q ≡ cond (eq_by_cmp row_cmp q id) row (get rows q)
get-with_row rows id None q = get-remove row_total rows id q
get-with_row rows id (Some row) q = get-insert row_total rows id row q

pub get-without : (m : Changes) (owner : ℕ) (q : RowId)
    → get (without m owner) q ≡ cond (not (is_owned_by owner (get m q))) (get m q) None
get-without m owner q = get-retain_keys m (λ id. not (is_owned_by owner (get m id))) q
    (λ x tied. ap (λ id. not (is_owned_by owner (get m id))) (sym (row_exact q x tied)))

owned : (owner : ℕ) (row : Option (List ℕ)) → is_owned_by owner (Some (owner, row)) ≡ true
owned owner row = eq-eqb owner owner refl

kept_out : (b : Bool) (c : Option Change) → b ≡ true → cond (not b) c None ≡ None
kept_out b c e = ap (λ t. cond (not t) c None) e

-- where an owner's change is taken out, the others stay what they are
left : (owner : ℕ) (mq : Option Change) (b : Bool) (c : Change) → (b ≡ true → mq ≡ Some c) → is_owned_by owner (Some c) ≡ true
    → cond (not (is_owned_by owner (cond b None mq))) (cond b None mq) None ≡ cond (not (is_owned_by owner mq)) mq None
left owner mq true c at own = sym (kept_out (is_owned_by owner mq) mq (ap (is_owned_by owner) (at refl) ∙ own))
left owner mq false c at own = refl

tied_at : (m : Changes) (id q : RowId) (c : Change) → get m id ≡ Some c → eq_by_cmp row_cmp q id ≡ true → get m q ≡ Some c
tied_at m id q c is e = ap (get m) (row_tied q id e) ∙ is

-- the changes of the others stay where one of the owner's is taken out
pub without-remove : (m : Changes) (owner : ℕ) (id : RowId) (row : Option (List ℕ)) → get m id ≡ Some (owner, row)
    → without (remove m id) owner ≡ without m owner
without-remove m owner id row is = same_map row_total row_exact _ _ (λ q.
    get-without (remove m id) owner q
    ∙ ap (λ c. cond (not (is_owned_by owner c)) c None) (get-remove row_total m id q)
    ∙ left owner (get m q) (eq_by_cmp row_cmp q id) (owner, row) (tied_at m id q (owner, row) is) (owned owner row)
    ∙ sym (get-without m owner q))

not_out : (b : Bool) (c : Option Change) → b ≡ false → cond (not b) c None ≡ c
not_out b c e = ap (λ t. cond (not t) c None) e

-- an owner without changes leaves all
pub without-none : (m : Changes) (owner : ℕ) → ((q : RowId) → is_owned_by owner (get m q) ≡ false) → m ≡ without m owner
without-none m owner none = same_map row_total row_exact _ _ (λ q.
    sym (get-without m owner q ∙ not_out (is_owned_by owner (get m q)) (get m q) (none q)))

sees_own : (owner : ℕ) (row committed : Option (List ℕ)) → seen_of owner (Some (owner, row)) committed ≡ row
sees_own owner row committed = ap (λ b. cond b row committed) (owned owner row)

moved_over : (owner : ℕ) (mq : Option Change) (row rq : Option (List ℕ)) (b : Bool) → (b ≡ true → mq ≡ Some (owner, row))
    → seen_of owner (cond b None mq) (cond b row rq) ≡ seen_of owner mq rq
moved_over owner mq row rq true at = sym (ap (λ c. seen_of owner c rq) (at refl) ∙ sees_own owner row rq)
moved_over owner mq row rq false at = refl

-- what an owner sees stays where one of its changes becomes the committed row
pub seen-kept : (m n : Changes) (rows after : Rows) (owner : ℕ) (id : RowId) (row : Option (List ℕ)) → get m id ≡ Some (owner, row)
    → n ≡ remove m id → after ≡ with_row rows id row
    → (q : RowId) → seen_of owner (get n q) (get after q) ≡ seen_of owner (get m q) (get rows q)
seen-kept m n rows after owner id row is left_is after_is q =
    ap (λ c. seen_of owner c (get after q)) (ap (λ (x : Changes). get x q) left_is ∙ get-remove row_total m id q)
    ∙ ap (seen_of owner (cond (eq_by_cmp row_cmp q id) None (get m q)))
    (ap (λ (x : Rows). get x q) after_is ∙ get-with_row rows id row q)
    ∙ moved_over owner (get m q) row (get rows q) (eq_by_cmp row_cmp q id) (tied_at m id q (owner, row) is)
