-- rows in place and their images, as committed rows and changes
use Rattle.std.proofs.Common.{◌≡◌, ℕ, ◌==◌, Bool, true, false, cond, not, List, [], ◌∷◌, map, Option, Some, None, refl, sym, ◌∙◌, ap}
use Rattle.std.proofs.Common.{eqb-true, eq-eqb, ne_eqb}
use Rattle.std.specs.Ordering.{eq_by_cmp}
use Rattle.std.specs.FinMap.Entries.{find}
use Rattle.finite_map.specs.FiniteMap.{get, insert, empty, get-entries, get-empty, get-from_entries, get-insert, same_map}
use Rattle.row_model.specs.Rows.{Rows, row_cmp, with_row}
use Rattle.row_model.specs.RowOrder.{row_total, row_exact, row_tied}
use Rattle.row_model.specs.declared.row.RowId.{RowId}
use Rattle.undo_rows.specs.RowTable.{Change, Changes, is_owned_by, other_owner, seen_of, without}
use Rattle.undo_rows.specs.UndoRows.{image_or, change_over, put_back, committed_under, owner_and_place, changes_over, imaged_unless, imaged}
use Rattle.undo_rows.proofs.RowTableLemmas.{get-with_row, get-without}

put_one : (b : Bool) (image : Change) (rest : Option Change) (place : Option (List ℕ))
    → cond b image.1 (image_or rest place) ≡ image_or (cond b (Some image) rest) place
put_one true image rest place = refl
put_one false image rest place = refl

get-put_back : (es : List (RowId × Change)) (place : Rows) (q : RowId) → get (put_back es place) q ≡ image_or (find row_cmp q es) (get place q)
get-put_back [] place q = refl
get-put_back (e ∷ es) place q =
    get-with_row (put_back es place) e.0 e.1.1 q
    ∙ ap (cond (eq_by_cmp row_cmp q e.0) e.1.1) (get-put_back es place q)
    ∙ put_one (eq_by_cmp row_cmp q e.0) e.1 (find row_cmp q es) (get place q)

pub get-committed_under : (place : Rows) (images : Changes) (q : RowId) → get (committed_under place images) q ≡ image_or (get images q) (get place q)
get-committed_under place images q =
    get-put_back images.entries place q ∙ ap (λ c. image_or c (get place q)) (sym (get-entries images q))

change_one : (place : Rows) (e : RowId × Change) (rest : Option Change) (q : RowId) (b : Bool) → eq_by_cmp row_cmp q e.0 ≡ b
    → cond b (Some (owner_and_place place e).1) (change_over rest (get place q)) ≡ change_over (cond b (Some e.1) rest) (get place q)
change_one place e rest q true is = ap (λ id. Some (e.1.0, get place id)) (sym (row_tied q e.0 is))
change_one place e rest q false is = refl

find-over : (es : List (RowId × Change)) (place : Rows) (q : RowId) → find row_cmp q (map (owner_and_place place) es) ≡ change_over (find row_cmp q es) (get place q)
find-over [] place q = refl
find-over (e ∷ es) place q =
    ap (cond (eq_by_cmp row_cmp q e.0) (Some (owner_and_place place e).1)) (find-over es place q)
    ∙ change_one place e (find row_cmp q es) q (eq_by_cmp row_cmp q e.0) refl

pub get-changes_over : (place : Rows) (images : Changes) (q : RowId) → get (changes_over place images) q ≡ change_over (get images q) (get place q)
get-changes_over place images q =
    get-from_entries row_total (map (owner_and_place place) images.entries) q
    ∙ find-over images.entries place q ∙ ap (λ c. change_over c (get place q)) (sym (get-entries images q))

-- the same committed rows, where they are the same at each row
module _ (place : Rows) (images : Changes) where
  pub committed-is : (rows : Rows) → ((q : RowId) → image_or (get images q) (get place q) ≡ get rows q) → committed_under place images ≡ rows
  committed-is rows is = same_map row_total row_exact _ _ (λ q. get-committed_under place images q ∙ is q)

  pub changes-is : (changes : Changes) → ((q : RowId) → change_over (get images q) (get place q) ≡ get changes q) → changes_over place images ≡ changes
  changes-is changes is = same_map row_total row_exact _ _ (λ q. get-changes_over place images q ∙ is q)

-- where an owner asks, the other owner of a row is that of its image
pub other-over : (owner : ℕ) (image : Option Change) (place : Option (List ℕ)) → other_owner owner (change_over image place) ≡ other_owner owner image
other-over owner None place = refl
other-over owner (Some image) place = refl

none_over : (image : Option Change) (place : Option (List ℕ)) → change_over image place ≡ None → image ≡ None
none_over None place is = refl
none_over (Some image) place is = cc

pub free-over : (place : Rows) (images : Changes) (id : RowId) → get (changes_over place images) id ≡ None → get images id ≡ None
free-over place images id is = none_over (get images id) (get place id) (sym (get-changes_over place images id) ∙ is)

seen_place : (owner : ℕ) (image : Change) (place : Option (List ℕ)) (b : Bool) → (image.0 == owner) ≡ b
    → cond b place image.1 ≡ seen_of owner (change_over (Some image) place) (image_or (Some image) place)
seen_place owner image place b is = sym (ap (λ c. cond c place image.1) is)

-- what the owner sees of a row
pub seen-over : (place : Rows) (images : Changes) (owner : ℕ) (id : RowId)
    → seen_of owner (get (changes_over place images) id) (get (committed_under place images) id)
    ≡ seen_of owner (change_over (get images id) (get place id)) (image_or (get images id) (get place id))
seen-over place images owner id =
    λ i. seen_of owner (get-changes_over place images id i) (get-committed_under place images id i)

-- a first change
module _ (place after : Rows) (images : Changes) (id : RowId) (owner : ℕ) (row : Option (List ℕ)) (after_is : after ≡ with_row place id row) where
  here : (q : RowId) → get after q ≡ cond (eq_by_cmp row_cmp q id) row (get place q)
  here q = ap (λ (x : Rows). get x q) after_is ∙ get-with_row place id row q

  tied : (q : RowId) (c : Option Change) → get images id ≡ c → eq_by_cmp row_cmp q id ≡ true → get images q ≡ c
  tied q c is e = ap (get images) (row_tied q id e) ∙ is

  imaged_at : (q : RowId) → get (insert images id (owner, get place id)) q ≡ cond (eq_by_cmp row_cmp q id) (Some (owner, get place id)) (get images q)
  imaged_at q = get-insert row_total images id (owner, get place id) q

  stays_first : (q : RowId) (b : Bool) (mq : Option Change) → (b ≡ true → mq ≡ None) → (b ≡ true → q ≡ id)
      → image_or (cond b (Some (owner, get place id)) mq) (cond b row (get place q)) ≡ image_or mq (get place q)
  stays_first q true mq none same = ap (get place) (sym (same refl)) ∙ sym (ap (λ c. image_or c (get place q)) (none refl))
  stays_first q false mq none same = refl

  stays_later : (q : RowId) (b : Bool) (mq : Option Change) (image : Change) → (b ≡ true → mq ≡ Some image)
      → image_or mq (cond b row (get place q)) ≡ image_or mq (get place q)
  stays_later q true mq image is = ap (λ c. image_or c row) (is refl) ∙ sym (ap (λ c. image_or c (get place q)) (is refl))
  stays_later q false mq image is = refl

  changed_first : (q : RowId) (b : Bool) (mq : Option Change)
      → change_over (cond b (Some (owner, get place id)) mq) (cond b row (get place q)) ≡ cond b (Some (owner, row)) (change_over mq (get place q))
  changed_first q true mq = refl
  changed_first q false mq = refl

  changed_later : (q : RowId) (b : Bool) (mq : Option Change) (image : Change) → (b ≡ true → mq ≡ Some image) → image.0 ≡ owner
      → change_over mq (cond b row (get place q)) ≡ cond b (Some (owner, row)) (change_over mq (get place q))
  changed_later q true mq image is own = ap (λ c. change_over c row) (is refl) ∙ ap (λ n. Some (n, row)) own
  changed_later q false mq image is own = refl

  committed_from : (w : Option Change) → get images id ≡ w → committed_under after (imaged_unless w place images id owner) ≡ committed_under place images
  committed_from None is = committed-is after (insert images id (owner, get place id)) _ (λ q.
      (λ i. image_or (imaged_at q i) (here q i))
      ∙ stays_first q (eq_by_cmp row_cmp q id) (get images q) (tied q None is) (row_tied q id)
      ∙ sym (get-committed_under place images q))
  committed_from (Some image) is = committed-is after images _ (λ q.
      ap (image_or (get images q)) (here q)
      ∙ stays_later q (eq_by_cmp row_cmp q id) (get images q) image (tied q (Some image) is)
      ∙ sym (get-committed_under place images q))

  inserted : (q : RowId) → get (insert (changes_over place images) id (owner, row)) q
      ≡ cond (eq_by_cmp row_cmp q id) (Some (owner, row)) (change_over (get images q) (get place q))
  inserted q = get-insert row_total (changes_over place images) id (owner, row) q
      ∙ ap (cond (eq_by_cmp row_cmp q id) (Some (owner, row))) (get-changes_over place images q)

  own_image : (image : Change) (b : Bool) → (image.0 == owner) ≡ b → cond b None (Some image.0) ≡ None → image.0 ≡ owner
  own_image image true e free = eqb-true image.0 owner e
  own_image image false e free = cc

  changes_from : (w : Option Change) → get images id ≡ w → other_owner owner w ≡ None
      → changes_over after (imaged_unless w place images id owner) ≡ insert (changes_over place images) id (owner, row)
  changes_from None is free = changes-is after (insert images id (owner, get place id)) _ (λ q.
      (λ i. change_over (imaged_at q i) (here q i))
      ∙ changed_first q (eq_by_cmp row_cmp q id) (get images q)
      ∙ sym (inserted q))
  changes_from (Some image) is free = changes-is after images _ (λ q.
      ap (change_over (get images q)) (here q)
      ∙ changed_later q (eq_by_cmp row_cmp q id) (get images q) image (tied q (Some image) is)
      (own_image image (image.0 == owner) refl free)
      ∙ sym (inserted q))

  -- a change in place leaves the committed rows
  pub committed-changed : committed_under after (imaged place images id owner) ≡ committed_under place images
  committed-changed = committed_from (get images id) refl

  -- and is the owner's
  pub changes-changed : other_owner owner (get images id) ≡ None
      → changes_over after (imaged place images id owner) ≡ insert (changes_over place images) id (owner, row)
  changes-changed free = changes_from (get images id) refl free

  put_here : (q : RowId) (b : Bool) (mq : Option Change) → (b ≡ true → mq ≡ None)
      → image_or mq (cond b row (get place q)) ≡ cond b row (image_or mq (get place q))
  put_here q true mq none = ap (λ c. image_or c row) (none refl)
  put_here q false mq none = refl

  not_over : (q : RowId) (b : Bool) (mq : Option Change) → (b ≡ true → mq ≡ None)
      → change_over mq (cond b row (get place q)) ≡ change_over mq (get place q)
  not_over q true mq none = ap (λ c. change_over c row) (none refl) ∙ sym (ap (λ c. change_over c (get place q)) (none refl))
  not_over q false mq none = refl

  -- a row that nobody has changed is put into the committed rows
  pub committed-put : get images id ≡ None → committed_under after images ≡ with_row (committed_under place images) id row
  committed-put free = committed-is after images _ (λ q.
      ap (image_or (get images q)) (here q)
      ∙ put_here q (eq_by_cmp row_cmp q id) (get images q) (tied q None free)
      ∙ ap (cond (eq_by_cmp row_cmp q id) row) (sym (get-committed_under place images q))
      ∙ sym (get-with_row (committed_under place images) id row q))

  pub changes-put : get images id ≡ None → changes_over after images ≡ changes_over place images
  changes-put free = changes-is after images _ (λ q.
      ap (change_over (get images q)) (here q)
      ∙ not_over q (eq_by_cmp row_cmp q id) (get images q) (tied q None free)
      ∙ sym (get-changes_over place images q))

-- an owner's images go
module _ (owner : ℕ) where
  back_one : (mq : Option Change) (place : Option (List ℕ)) (b : Bool) → is_owned_by owner mq ≡ b
      → image_or (cond (not b) mq None) (seen_of owner mq place) ≡ image_or mq place
  back_one None place b is = elim b as (λ x. image_or (cond (not x) None None) place ≡ place) [ true ↦ refl | false ↦ refl ]
  back_one (Some image) place true is = ap (λ x. cond x image.1 place) is
  back_one (Some image) place false is = refl

  gone_one : (mq : Option Change) (place : Option (List ℕ)) (b : Bool) → is_owned_by owner mq ≡ b
      → change_over (cond (not b) mq None) (seen_of owner mq place) ≡ cond (not b) (change_over mq place) None
  gone_one None place b is = elim b as (λ x. change_over (cond (not x) None None) place ≡ cond (not x) None None) [ true ↦ refl | false ↦ refl ]
  gone_one (Some image) place true is = refl
  gone_one (Some image) place false is = ap (λ x. Some (image.0, cond x image.1 place)) is

  kept_one : (mq : Option Change) (place : Option (List ℕ)) (b : Bool) → is_owned_by owner mq ≡ b
      → image_or (cond (not b) mq None) place ≡ seen_of owner (change_over mq place) (image_or mq place)
  kept_one None place b is = elim b as (λ x. image_or (cond (not x) None None) place ≡ place) [ true ↦ refl | false ↦ refl ]
  kept_one (Some image) place true is = sym (ap (λ x. cond x place image.1) is)
  kept_one (Some image) place false is = sym (ap (λ x. cond x place image.1) is)

  dropped_one : (mq : Option Change) (place : Option (List ℕ)) (b : Bool)
      → change_over (cond (not b) mq None) place ≡ cond (not b) (change_over mq place) None
  dropped_one mq place true = refl
  dropped_one mq place false = refl

  owned-over : (mq : Option Change) (place : Option (List ℕ)) → is_owned_by owner (change_over mq place) ≡ is_owned_by owner mq
  owned-over None place = refl
  owned-over (Some image) place = refl

  -- the changes of the others
  without-over : (place : Rows) (images : Changes) (q : RowId)
      → get (without (changes_over place images) owner) q
      ≡ cond (not (is_owned_by owner (get images q))) (change_over (get images q) (get place q)) None
  without-over place images q =
      get-without (changes_over place images) owner q
      ∙ ap (λ c. cond (not (is_owned_by owner c)) c None) (get-changes_over place images q)
      ∙ ap (λ b. cond (not b) (change_over (get images q) (get place q)) None) (owned-over (get images q) (get place q))

  module _ (place after : Rows) (images left : Changes) (left_is : left ≡ without images owner) where
    left_at : (q : RowId) → get left q ≡ cond (not (is_owned_by owner (get images q))) (get images q) None
    left_at q = ap (λ (x : Changes). get x q) left_is ∙ get-without images owner q

    module _ (back : (q : RowId) → get after q ≡ seen_of owner (get images q) (get place q)) where
      -- where its images are put back, the committed rows stay
      pub committed-back : committed_under after left ≡ committed_under place images
      committed-back = committed-is after left _ (λ q.
          (λ i. image_or (left_at q i) (back q i))
          ∙ back_one (get images q) (get place q) (is_owned_by owner (get images q)) refl
          ∙ sym (get-committed_under place images q))

      pub changes-back : changes_over after left ≡ without (changes_over place images) owner
      changes-back = changes-is after left _ (λ q.
          (λ i. change_over (left_at q i) (back q i))
          ∙ gone_one (get images q) (get place q) (is_owned_by owner (get images q)) refl
          ∙ sym (without-over place images q))

    -- where they are dropped, what the owner saw is committed
    pub committed-kept : (q : RowId) → get (committed_under place left) q
        ≡ seen_of owner (get (changes_over place images) q) (get (committed_under place images) q)
    committed-kept q =
        get-committed_under place left q
        ∙ ap (λ c. image_or c (get place q)) (left_at q)
        ∙ kept_one (get images q) (get place q) (is_owned_by owner (get images q)) refl
        ∙ sym (seen-over place images owner q)

    pub changes-kept : changes_over place left ≡ without (changes_over place images) owner
    changes-kept = changes-is place left _ (λ q.
        ap (λ c. change_over c (get place q)) (left_at q)
        ∙ dropped_one (get images q) (get place q) (is_owned_by owner (get images q))
        ∙ sym (without-over place images q))

-- nothing is there
pub committed-none : (place : Rows) (images : Changes) → place ≡ empty → images ≡ empty → committed_under place images ≡ empty
committed-none place images none no_image = committed-is place images empty (λ q.
    (λ i. image_or (get (no_image i) q) (get (none i) q))
    ∙ ap (λ c. image_or c (get (empty {R = row_cmp}) q)) (get-empty row_cmp q))

pub changes-none : (place : Rows) (images : Changes) → images ≡ empty → changes_over place images ≡ empty
changes-none place images no_image = changes-is place images empty (λ q.
    ap (λ c. change_over c (get place q)) (ap (λ (x : Changes). get x q) no_image ∙ get-empty row_cmp q)
    ∙ sym (get-empty row_cmp q))

-- an owner sees the row in place where the image is its own, and else the image
pub seen-own : (owner other : ℕ) (image place : Option (List ℕ)) → other ≡ owner
    → place ≡ seen_of owner (change_over (Some (other, image)) place) (image_or (Some (other, image)) place)
seen-own owner other image place own = sym (ap (λ b. cond b place image) (eq-eqb other owner own))

pub seen-others : (owner other : ℕ) (image place : Option (List ℕ)) → (other ≡ owner → ⊥)
    → image ≡ seen_of owner (change_over (Some (other, image)) place) (image_or (Some (other, image)) place)
seen-others owner other image place apart = sym (ap (λ b. cond b place image) (ne_eqb other owner apart))
