-- One more change on the images, and one more row that is listed.
use Rattle.std.proofs.Common.{◌≡◌, ℕ, zero, suc, ◌+◌, ◌<◌, Bool, true, false, cond, List, [], ◌∷◌, ◌++◌, length, map, take, drop, get_or, Option, None, Some, refl, sym, ap, subst, ◌∙◌, arith, add-one, drop-cons}
use Rattle.std.specs.Prelude.{◌||◌}
use Rattle.std.specs.List.{IsDistinct, AllByRecursion, list_any, position}
use Rattle.std.proofs.Math.Seq.{take-suc}
use Rattle.std.proofs.lemmas.List.{take-append-drop, map-append}
use Rattle.std.proofs.lemmas.List.Quantifiers.{position-Some}
use Rattle.std.proofs.lemmas.Map.Entries.{length-keys_of}
use lib.ListN.{get_or-map}
use Rattle.std.specs.Map.{keys_of}
use Rattle.std.specs.Cmp.{eq_by_cmp_equiv}
use Rattle.std.proofs.Math.ListN.{set}
use Rattle.row_model.specs.declared.row.RowId.{RowId}
use Rattle.row_model.specs.declared.ops.Op.{Op}
use Rattle.row_model.specs.Rows.{id_of, row_after}
use Rattle.row_model.specs.RowOrder.{row_eq, row_total, row_ties, row_same}
use Rattle.apply_unit.specs.RowChanges.{names_row, row_after_ops}
use Rattle.apply_unit.proofs.RowLemmas.{row_after_ops-append}
use Rattle.apply_unit.specs.Results.{Image, computed}

-- the images after one change
abbrev pub done_on : Op → List Image → List Image
done_on op images = map (λ e. (e.0, cond (names_row e.0 op) (row_after e.1 op) e.1)) images

pub computed-none : (images : List Image) → computed [] images ≡ images
computed-none [] = refl
computed-none (e ∷ es) = ap (λ rest. e ∷ rest) (computed-none es)

pub computed-more : (ops : List Op) (op : Op) (images : List Image)
    → computed (ops ++ op ∷ []) images ≡ done_on op (computed ops images)
computed-more ops op [] = refl
computed-more ops op (e ∷ es) =
    ap (λ row. (e.0, row) ∷ computed (ops ++ op ∷ []) es) (row_after_ops-append ops (op ∷ []) e.0 e.1)
    ∙ ap (λ rest. (e.0, row_after_ops e.0 (op ∷ []) (row_after_ops e.0 ops e.1)) ∷ rest) (computed-more ops op es)

pub keys-computed : (ops : List Op) (images : List Image) → keys_of (computed ops images) ≡ keys_of images
keys-computed ops [] = refl
keys-computed ops (e ∷ es) = ap (λ rest. e.0 ∷ rest) (keys-computed ops es)

pub row_symmetric : (a b : RowId) → row_eq a b ≡ row_eq b a
row_symmetric a b = row_ties a b ∙ (eq_by_cmp_equiv row_total).symm a b ∙ sym (row_ties b a)

-- images of other rows stay
pub done_on-others : (op : Op) (images : List Image) → AllByRecursion (λ k. row_eq (id_of op) k ≡ false) (keys_of images)
    → done_on op images ≡ images
done_on-others op [] none = refl
done_on-others op (e ∷ es) none =
    ap (λ b. (e.0, cond b (row_after e.1 op) e.1) ∷ done_on op es) none.0
    ∙ ap (λ rest. e ∷ rest) (done_on-others op es none.1)

all_at : (P : RowId → Type 0) (images : List Image) (at : ℕ) (d : Image) → AllByRecursion P (keys_of images)
    → at < length images → P (get_or images at d).0
all_at P [] at d all below = absurd (omega arith)
all_at P (e ∷ es) zero d all below = all.0
all_at P (e ∷ es) (suc at) d all below = all_at P es at d all.1 (omega arith)

apart_from : (op : Op) (k q : RowId) (b : Bool) → row_eq (id_of op) k ≡ b → row_eq (id_of op) q ≡ true
    → row_eq k q ≡ false → b ≡ false
apart_from op k q true at_k at_q apart =
    let same : row_eq k q ≡ true = subst (λ x. row_eq x q ≡ true) (row_same (id_of op) k at_k) at_q in cc
apart_from op k q false at_k at_q apart = refl

-- the image of the row that the change names is the only one that it changes
pub set-done_on : (op : Op) (images : List Image) (at : ℕ) (d : Image) → at < length images
    → row_eq (id_of op) (get_or images at d).0 ≡ true → IsDistinct row_eq (keys_of images)
    → set images at ((get_or images at d).0, row_after (get_or images at d).1 op) ≡ done_on op images
unfolding IsDistinct
set-done_on op [] at d below found apart = absurd (omega arith)
set-done_on op (e ∷ es) zero d below found apart =
    ap (λ b. (e.0, cond b (row_after e.1 op) e.1) ∷ es) (sym found)
    ∙ ap (λ rest. (e.0, cond (names_row e.0 op) (row_after e.1 op) e.1) ∷ rest) (sym (done_on-others op es
    (subst (λ k. AllByRecursion (λ y. row_eq k y ≡ false) (keys_of es)) (sym (row_same (id_of op) e.0 found)) apart.0)))
set-done_on op (e ∷ es) (suc at) d below found apart =
    let other = apart_from op e.0 (get_or es at d).0 _ refl found
    (all_at (λ y. row_eq e.0 y ≡ false) es at d apart.0 (omega arith)) in
    ap (λ b. (e.0, cond b (row_after e.1 op) e.1) ∷ set es at ((get_or es at d).0, row_after (get_or es at d).1 op)) (sym other)
    ∙ ap (λ rest. (e.0, cond (names_row e.0 op) (row_after e.1 op) e.1) ∷ rest)
    (set-done_on op es at d (omega arith) found apart.1)

among : (k x : RowId) (xs rest : List RowId) → AllByRecursion (λ y. row_eq x y ≡ false) (xs ++ k ∷ rest)
    → row_eq x k ≡ false
among k x [] rest all = all.0
among k x (y ∷ ys) rest all = among k x ys rest all.1

-- a row behind the first ones is none of them
pub fresh : (ks : List RowId) (k : RowId) (rest : List RowId) → IsDistinct row_eq (ks ++ k ∷ rest)
    → list_any (row_eq k) ks ≡ false
unfolding IsDistinct
fresh [] k rest apart = refl
fresh (x ∷ xs) k rest apart =
    ap (λ b. b || list_any (row_eq k) xs) (row_symmetric k x ∙ among k x xs rest apart.0) ∙ fresh xs k rest apart.1

neither : (a b : Bool) → a || b ≡ false → (a ≡ false) × (b ≡ false)
neither true b e = absurd cc
neither false b e = (refl, e)

all_none : (p : RowId → Bool) (ks : List RowId) → list_any p ks ≡ false → AllByRecursion (λ k. p k ≡ false) ks
all_none p [] none = tt
all_none p (k ∷ ks) none = let each = neither (p k) (list_any p ks) none in (each.0, all_none p ks each.1)

one_more : (ops : List Op) (i : ℕ) (op : Op) (first images : List Image) → i < length ops → op ≡ get_or ops i op
    → images ≡ computed (take i ops) first → done_on op images ≡ computed (take (i + 1) ops) first
one_more ops i op first images below is kept =
    rw add-one (ap (done_on op) kept ∙ sym (computed-more (take i ops) op first)
    ∙ ap (λ l. computed l first) (ap (λ o. take i ops ++ o ∷ []) is ∙ sym (take-suc ops i op below)))

places_kept : (ops : List Op) (first images : List Image) (keys : List RowId) → keys ≡ keys_of first
    → images ≡ computed ops first → keys ≡ keys_of images
places_kept ops first images keys are kept = are ∙ sym (keys-computed ops first) ∙ ap keys_of (sym kept)

-- the image at the place of the change's row is changed
pub change_at : (ops : List Op) (i : ℕ) (op : Op) (first images : List Image) (keys : List RowId) (at : ℕ) (d : Image)
    → i < length ops → op ≡ get_or ops i op → keys ≡ keys_of first → IsDistinct row_eq (keys_of first)
    → images ≡ computed (take i ops) first → position (row_eq (id_of op)) keys ≡ Some at
    → set images at ((get_or images at d).0, row_after (get_or images at d).1 op) ≡ computed (take (i + 1) ops) first
change_at ops i op first images keys at d below is are apart kept found =
    let places = places_kept (take i ops) first images keys are kept in
    let place = position-Some (row_eq (id_of op)) (keys_of images) at d.0
    (ap (position (row_eq (id_of op))) (sym places) ∙ found) in
    let named : row_eq (id_of op) (get_or images at d).0 ≡ true =
    ap (row_eq (id_of op)) (sym (get_or-map (λ (e : Image). e.0) images at d)) ∙ place.1 in
    let long = length-keys_of images in
    set-done_on op images at d (omega (arith, place.0, long)) named (subst (IsDistinct row_eq) (sym are ∙ places) apart)
    ∙ one_more ops i op first images below is kept

-- a change of a row that has no image changes nothing
pub change_of_none : (ops : List Op) (i : ℕ) (op : Op) (first images : List Image) (keys : List RowId)
    → i < length ops → op ≡ get_or ops i op → keys ≡ keys_of first
    → images ≡ computed (take i ops) first → list_any (row_eq (id_of op)) keys ≡ false
    → images ≡ computed (take (i + 1) ops) first
change_of_none ops i op first images keys below is are kept none =
    let places = places_kept (take i ops) first images keys are kept in
    sym (done_on-others op images (all_none _ _ (ap (list_any (row_eq (id_of op))) (sym places) ∙ none)))
    ∙ one_more ops i op first images below is kept

-- one more row is listed behind the others
pub one_more_place : (images : List Image) (i : ℕ) (image : Image) (keys : List RowId) → i < length images
    → image ≡ get_or images i image → IsDistinct row_eq (keys_of images) → keys ≡ keys_of (take i images)
    → cond (list_any (row_eq image.0) keys) keys (keys ++ image.0 ∷ []) ≡ keys_of (take (i + 1) images)
one_more_place images i image keys below is apart kept =
    let split : images ≡ take i images ++ image ∷ drop (suc i) images =
    sym (take-append-drop i images) ∙ ap (λ l. take i images ++ l)
    (drop-cons images i image below ∙ ap (λ x. x ∷ drop (suc i) images) (sym is)) in
    let parts = ap keys_of split ∙ map-append (λ (e : Image). e.0) (take i images) (image ∷ drop (suc i) images) in
    let new = fresh (keys_of (take i images)) image.0 (keys_of (drop (suc i) images))
    (subst (IsDistinct row_eq) parts apart) in
    let grown : keys_of (take (suc i) images) ≡ keys_of (take i images) ++ image.0 ∷ [] =
    ap keys_of (take-suc images i image below ∙ ap (λ x. take i images ++ x ∷ []) (sym is))
    ∙ map-append (λ (e : Image). e.0) (take i images) (image ∷ []) in
    rw add-one (ap (λ ks. cond (list_any (row_eq image.0) ks) ks (ks ++ image.0 ∷ [])) kept
    ∙ ap (λ b. cond b (keys_of (take i images)) (keys_of (take i images) ++ image.0 ∷ [])) new ∙ sym grown)
