-- Results that are put one after another.
use Rattle.std.proofs.Common.{◌≡◌, ℕ, zero, suc, ◌+◌, ◌<◌, List, [], ◌∷◌, length, take, None, ap, sym, ◌∙◌, arith}
use Rattle.std.specs.Prelude.{slice_index_or}
use Rattle.std.proofs.lemmas.List.{take_all}
use Rattle.std.proofs.lemmas.List.Sums.{fold_more}
use Rattle.finite_map.specs.FiniteMap.{get}
use Rattle.row_model.specs.Rows.{Rows, with_row}
use Rattle.apply_unit.specs.Results.{Image, put_all}
use Rattle.undo_rows.specs.RowTable.{Changes}
use Rattle.node_core.specs.Advancing.{AreFree}

-- one more is put
pub put_more : (results : List Image) (i : ℕ) (e : Image) (rows now after : Rows) → i < length results → e ≡ slice_index_or results i e
    → now ≡ put_all (take i results) rows → after ≡ with_row now e.0 e.1 → after ≡ put_all (take (i + 1) results) rows
put_more results i e rows now after below is before step =
    step ∙ ap (λ r. with_row r e.0 e.1) before
    ∙ ap (λ (x : Image). with_row (put_all (take i results) rows) x.0 x.1) is
    ∙ sym (fold_more (λ (done : Rows) (image : Image). with_row done image.0 image.1) rows results i
    e below)

free_there : (changes : Changes) (results : List Image) (i : ℕ) (d : Image) → i < length results → AreFree changes results
    → get changes (slice_index_or results i d).0 ≡ None
free_there changes [] i d below free = absurd (omega (arith, below))
free_there changes (e ∷ es) zero d below free = free.0
free_there changes (e ∷ es) (suc i) d below free = free_there changes es i d (omega (arith, below)) free.1

-- each one is of a row that is free
pub free_at : (changes : Changes) (results : List Image) (i : ℕ) (e : Image) → i < length results → e ≡ slice_index_or results i e
    → AreFree changes results → get changes e.0 ≡ None
free_at changes results i e below is free = ap (λ (x : Image). get changes x.0) is ∙ free_there changes results i e below free

pub take_whole : (results : List Image) (i : ℕ) (rows : Rows) → length results ≡ i → put_all (take i results) rows ≡ put_all results rows
take_whole results i rows is = ap (λ l. put_all l rows) (take_all i results (omega (arith, is)))
