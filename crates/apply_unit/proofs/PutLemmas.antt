-- The results, put into the rows, are the rows after the changes.
use Rattle.std.proofs.Common.{◌≡◌, ℕ, Bool, true, false, cond, List, [], ◌∷◌, Option, refl, sym, ap, ◌∙◌}
use Rattle.std.specs.Prelude.{◌||◌, ◌&&◌}
use Rattle.std.specs.List.{list_any, list_all}
use Rattle.finite_map.specs.FiniteMap.{get, same_map}
use Rattle.row_model.specs.declared.row.RowId.{RowId}
use Rattle.row_model.specs.declared.ops.Op.{Op}
use Rattle.row_model.specs.Rows.{Rows, with_row, id_of, ops_on}
use Rattle.row_model.specs.RowOrder.{row_eq, row_total, row_exact, row_same}
use Rattle.apply_unit.specs.RowChanges.{names_row, row_after_ops}
use Rattle.apply_unit.proofs.RowLemmas.{get-with_row, get-ops_on, get-unnamed}
use Rattle.apply_unit.specs.Results.{Image, AreTaken, computed, put_all}
use Rattle.apply_unit.specs.Task.{AreImagesOf, has_image}
use Rattle.apply_unit.proofs.TaskLemmas.{keys-computed, row_symmetric}

-- one image more: where it stands, and elsewhere
put_at : (target : Rows) (image : Image) (before : Option (List ℕ)) (q : RowId) (later named : Bool)
    → image.1 ≡ get target image.0 → row_eq q image.0 ≡ named
    → cond later (get target q) (cond named image.1 before) ≡ cond (named || later) (get target q) before
put_at target image before q true true is e = refl
put_at target image before q false true is e = is ∙ ap (get target) (sym (row_same q image.0 e))
put_at target image before q true false is e = refl
put_at target image before q false false is e = refl

-- images of a target, put into rows: the target's rows where there is an image, and the others stay
pub get-put_all : (target : Rows) (images : List Image) (rows : Rows) (q : RowId) → AreTaken target images
    → get (put_all images rows) q ≡ cond (has_image images q) (get target q) (get rows q)
get-put_all target [] rows q taken = refl
get-put_all target (e ∷ es) rows q taken =
    get-put_all target es (with_row rows e.0 e.1) q taken.1
    ∙ ap (cond (has_image es q) (get target q))
    (get-with_row rows e.0 e.1 q ∙ ap (λ b. cond b e.1 (get rows q)) (row_symmetric e.0 q))
    ∙ put_at target e (get rows q) q (has_image es q) _ taken.0 refl

-- the results are what stands in the rows after the changes
pub results_taken : (ops : List Op) (images : List Image) (rows : Rows) → AreTaken rows images
    → AreTaken (ops_on ops rows) (computed ops images)
results_taken ops [] rows taken = tt
results_taken ops (e ∷ es) rows taken = (
  ap (row_after_ops e.0 ops) taken.0 ∙ sym (get-ops_on ops rows e.0),
  results_taken ops es rows taken.1,
)

both : (a b : Bool) → a && b ≡ true → (a ≡ true) × (b ≡ true)
both true true e = (refl, refl)
both true false e = absurd cc
both false b e = absurd cc

not_named : (images : List Image) (op : Op) (q : RowId) (b : Bool) → has_image images (id_of op) ≡ true
    → has_image images q ≡ false → names_row q op ≡ b → b ≡ false
not_named images op q true has none e =
    let same = ap (has_image images) (row_same (id_of op) q e) in cc
not_named images op q false has none e = refl

-- a row without an image is named by no change
none_named : (ops : List Op) (images : List Image) (q : RowId)
    → list_all (λ op. has_image images (id_of op)) ops ≡ true → has_image images q ≡ false
    → list_any (names_row q) ops ≡ false
none_named [] images q named none = refl
none_named (op ∷ ops) images q named none =
    let each = both (has_image images (id_of op)) (list_all (λ op. has_image images (id_of op)) ops) named in
    ap (λ b. b || list_any (names_row q) ops) (not_named images op q _ each.0 none refl)
    ∙ none_named ops images q each.1 none

elsewhere : (ops : List Op) (images : List Image) (rows : Rows) (q : RowId) (b : Bool)
    → list_all (λ op. has_image images (id_of op)) ops ≡ true → has_image images q ≡ b
    → cond b (get (ops_on ops rows) q) (get rows q) ≡ get (ops_on ops rows) q
elsewhere ops images rows q true named e = refl
elsewhere ops images rows q false named e = sym (get-unnamed ops rows q (none_named ops images q named e))

-- Where the images are those of rows, the results, put into them one after another, make of them
-- what the changes make.
pub put_all-computed : (ops : List Op) (images : List Image) (rows : Rows) → AreImagesOf ops images
    → AreTaken rows images → put_all (computed ops images) rows ≡ ops_on ops rows
put_all-computed ops images rows are taken =
    same_map row_total row_exact _ _ (λ q.
    get-put_all (ops_on ops rows) (computed ops images) rows q (results_taken ops images rows taken)
    ∙ ap (λ ks. cond (list_any (row_eq q) ks) (get (ops_on ops rows) q) (get rows q)) (keys-computed ops images)
    ∙ elsewhere ops images rows q _ are.named refl)
