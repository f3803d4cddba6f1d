-- The images that a unit needs: one for each row that its changes name.
use Rattle.std.proofs.Common.{◌≡◌, ℕ, ◌+◌, ◌<◌, Bool, true, false, cond, ◌||◌, ◌&&◌, List, [], ◌∷◌, ◌++◌, length, map, take, fold, get_or, Option, refl, sym, ap, subst, ◌∙◌}
use Rattle.std.specs.List.{list_any, list_all, IsDistinct}
use Rattle.std.specs.Map.{keys_of}
use Rattle.std.specs.Ordering.{eq_by_cmp}
use Rattle.std.specs.Cmp.{IsEquivalence, eq_by_cmp_equiv}
use Rattle.std.proofs.Math.Bool.{or-true}
use Rattle.std.proofs.lemmas.List.{map-append, length-map}
use Rattle.std.proofs.lemmas.List.Folds.{list_any-append}
use Rattle.std.proofs.lemmas.Map.Keys.{IsDistinct-push}
use Rattle.std.proofs.lemmas.List.Sums.{fold_more}
use Rattle.finite_map.specs.FiniteMap.{get}
use Rattle.row_model.specs.declared.row.RowId.{RowId}
use Rattle.row_model.specs.declared.ops.Op.{Op}
use Rattle.row_model.specs.Rows.{Rows, row_cmp, id_of, ops_on}
use Rattle.row_model.specs.RowOrder.{row_eq, row_total, row_ties, row_itself}
use Rattle.apply_unit.specs.Results.{Image, AreTaken, computed, put_all}
use Rattle.apply_unit.specs.Task.{AreImagesOf}
use Rattle.apply_unit.proofs.PutLemmas.{put_all-computed}
use Rattle.node_meaning.specs.Units.{with_id, named_rows, images_of}

any_ties : (id : RowId) (ids : List RowId) → list_any (row_eq id) ids ≡ list_any (eq_by_cmp row_cmp id) ids
any_ties id [] = refl
any_ties id (x ∷ xs) = λ i. row_ties id x i || any_ties id xs i

pub no_rows : [] ≡ named_rows []
unfolding named_rows
no_rows = refl

pub no_images : (rows : Rows) → [] ≡ images_of [] rows
no_images rows = ap (map {B = Image} (λ (id : RowId). (id, get rows id))) no_rows

named_more : (ops : List Op) (i : ℕ) (d : Op) → i < length ops → named_rows (take (i + 1) ops) ≡ with_id (named_rows (take i ops)) (id_of (get_or ops i d))
unfolding named_rows
named_more ops i d below = fold_more (λ (ids : List RowId) (change : Op). with_id ids (id_of change)) [] ops i d below

module _ (ops : List Op) (i : ℕ) (op : Op) (id : RowId) (named after : List RowId) (below : i < length ops) (is : op ≡ get_or ops i op)
    (own : id ≡ id_of op) (same : named ≡ named_rows (take i ops))
    (put : after ≡ cond (list_any (row_eq id) named) named (named ++ id ∷ [])) where
  next : with_id named id ≡ named_rows (take (i + 1) ops)
  next = ap (with_id named) (own ∙ ap id_of is) ∙ ap (λ ids. with_id ids (id_of (get_or ops i op))) same ∙ sym (named_more ops i op below)

  pub one_more_row : after ≡ named_rows (take (i + 1) ops)
  one_more_row = put ∙ ap (λ b. cond b named (named ++ id ∷ [])) (any_ties id named) ∙ next

  module _ (rows : Rows) where
    abbrev image_of : RowId → Image
    image_of x = (x, get rows x)

    abbrev imaged : List RowId → List Image
    imaged ids = map image_of ids

    grown : (b : Bool) → list_any (row_eq id) named ≡ b → cond b named (named ++ id ∷ []) ≡ named_rows (take (i + 1) ops)
    grown b there = ap (λ b. cond b named (named ++ id ∷ [])) (sym there ∙ any_ties id named) ∙ next

    -- the row was named before
    pub image_there : (images : List Image) → list_any (row_eq id) named ≡ true → images ≡ images_of (take i ops) rows
        → images ≡ images_of (take (i + 1) ops) rows
    image_there images there so_far = so_far ∙ ap imaged (sym same ∙ grown true there)

    -- the row is named for the first time
    pub image_new : (images more : List Image) (row : Option (List ℕ)) → list_any (row_eq id) named ≡ false
        → images ≡ images_of (take i ops) rows → row ≡ get rows id → more ≡ images ++ (id, row) ∷ []
        → more ≡ images_of (take (i + 1) ops) rows
    image_new images more row there so_far read pushed =
        pushed ∙ ap (λ (all : List Image). all ++ (id, row) ∷ []) so_far
        ∙ ap (λ (r : Option (List ℕ)). imaged (named_rows (take i ops)) ++ (id, r) ∷ []) read
        ∙ ap (λ ids. imaged ids ++ image_of id ∷ []) (sym same)
        ∙ sym (map-append image_of named (id ∷ []))
        ∙ ap imaged (grown false there)

-- ---- the images are those of a task
any_left : (q x : RowId) (ids : List RowId) → list_any (row_eq q) ids ≡ true
    → list_any (row_eq q) (ids ++ x ∷ []) ≡ true
any_left q x ids there =
    list_any-append (row_eq q) ids (x ∷ []) ∙ ap (λ b. b || list_any (row_eq q) (x ∷ [])) there

any_last : (q : RowId) (ids : List RowId) → list_any (row_eq q) (ids ++ q ∷ []) ≡ true
any_last q ids = list_any-append (row_eq q) ids (q ∷ [])
    ∙ ap (λ b. list_any (row_eq q) ids || (b || false)) (row_itself q)
    ∙ or-true (list_any (row_eq q) ids)

stays_by : (q x : RowId) (ids : List RowId) (b : Bool) → list_any (row_eq q) ids ≡ true → list_any (row_eq q) (cond b ids (ids ++ x ∷ [])) ≡ true
stays_by q x ids true there = there
stays_by q x ids false there = any_left q x ids there

enters_by : (q : RowId) (ids : List RowId) (b : Bool) → list_any (eq_by_cmp row_cmp q) ids ≡ b → list_any (row_eq q) (cond b ids (ids ++ q ∷ [])) ≡ true
enters_by q ids true there = any_ties q ids ∙ there
enters_by q ids false there = any_last q ids

abbrev gather : List RowId → List Op → List RowId
gather ids ops = fold (λ (ids : List RowId) (change : Op). with_id ids (id_of change)) ids ops

stays : (q : RowId) (ops : List Op) (ids : List RowId) → list_any (row_eq q) ids ≡ true → list_any (row_eq q) (gather ids ops) ≡ true
stays q [] ids there = there
stays q (op ∷ ops) ids there =
    stays q ops (with_id ids (id_of op)) (stays_by q (id_of op) ids (list_any (eq_by_cmp row_cmp (id_of op)) ids) there)

all_named : (ops : List Op) (ids : List RowId) → list_all (λ op. list_any (row_eq (id_of op)) (gather ids ops)) ops ≡ true
all_named [] ids = refl
all_named (op ∷ ops) ids =
    ap (λ b. b && list_all (λ o. list_any (row_eq (id_of o)) (gather (with_id ids (id_of op)) ops)) ops)
    (stays (id_of op) ops (with_id ids (id_of op)) (enters_by (id_of op) ids (list_any (eq_by_cmp row_cmp (id_of op)) ids) refl))
    ∙ all_named ops (with_id ids (id_of op))

row_equivalence : IsEquivalence row_eq
row_equivalence = subst IsEquivalence (λ i a b. sym (row_ties a b) i) (eq_by_cmp_equiv row_total)

distinct_by : (q : RowId) (ids : List RowId) (b : Bool) → list_any (eq_by_cmp row_cmp q) ids ≡ b → IsDistinct row_eq ids
    → IsDistinct row_eq (cond b ids (ids ++ q ∷ []))
distinct_by q ids true there apart = apart
distinct_by q ids false there apart =
    IsDistinct-push row_equivalence ids q apart (any_ties q ids ∙ there)

all_distinct : (ops : List Op) (ids : List RowId) → IsDistinct row_eq ids → IsDistinct row_eq (gather ids ops)
all_distinct [] ids apart = apart
all_distinct (op ∷ ops) ids apart =
    all_distinct ops (with_id ids (id_of op)) (distinct_by (id_of op) ids (list_any (eq_by_cmp row_cmp (id_of op)) ids) refl apart)

none_distinct : IsDistinct row_eq []
unfolding IsDistinct
none_distinct = tt

keys_imaged : (rows : Rows) (ids : List RowId) → keys_of (map {B = Image} (λ (id : RowId). (id, get rows id)) ids) ≡ ids
keys_imaged rows [] = refl
keys_imaged rows (id ∷ ids) = ap (λ rest. id ∷ rest) (keys_imaged rows ids)

images_are : (ops : List Op) (rows : Rows) → AreImagesOf ops (images_of ops rows)
unfolding named_rows
images_are ops rows = record {
  named = ap (λ ids. list_all (λ op. list_any (row_eq (id_of op)) ids) ops) (keys_imaged rows (gather [] ops)) ∙ all_named ops [];
  once = subst (IsDistinct row_eq) (sym (keys_imaged rows (gather [] ops))) (all_distinct ops [] none_distinct);
}

pub given_images : (ops : List Op) (rows : Rows) (images : List Image) → images ≡ images_of ops rows → AreImagesOf ops images
given_images ops rows images is = subst (AreImagesOf ops) (sym is) (images_are ops rows)

images_taken : (rows : Rows) (ids : List RowId) → AreTaken rows (map {B = Image} (λ (id : RowId). (id, get rows id)) ids)
images_taken rows [] = tt
images_taken rows (id ∷ ids) = (refl, images_taken rows ids)

-- the results over the images of rows, put into these
pub put_named : (ops : List Op) (rows : Rows) → put_all (computed ops (images_of ops rows)) rows ≡ ops_on ops rows
put_named ops rows =
    put_all-computed ops (images_of ops rows) rows (images_are ops rows) (images_taken rows (named_rows ops))

-- as many as rows are named
pub count_images : (ops : List Op) (rows : Rows) → length (images_of ops rows) ≡ length (named_rows ops)
count_images ops rows = length-map {B = Image} (named_rows ops) (λ id. (id, get rows id))
