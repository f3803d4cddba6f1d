-- lists of rows from two tables, of which no row stands in both
use Rattle.std.proofs.Common.{◌≡◌, ℕ, Bool, true, false, cond, List, [], ◌∷◌, ◌++◌, map, Option, Some, None, refl, sym, ◌∙◌, ap, IsPermutation}
use Rattle.std.proofs.lemmas.List.{map-append}
use Rattle.std.specs.Option.{option_map}
use Rattle.std.specs.List.{IsDistinct, AllByRecursion}
use Rattle.std.specs.List.Sorted.{IsSortedByKey}
use Rattle.std.specs.Map.{keys_of, lookup}
use Rattle.finite_map.specs.FiniteMap.{get, same_map}
use Rattle.row_model.specs.Rows.{Rows, row_cmp}
use Rattle.row_model.specs.RowOrder.{row_eq, row_total, row_exact, row_same, row_itself}
use Rattle.row_model.specs.declared.row.RowId.{RowId}
use Rattle.row_model.specs.declared.row.RowItem.{RowItem}
use Rattle.undo_rows.specs.OwnedRows.{change_of, changes_in}
use Rattle.undo_rows.specs.Overlay.{rows_in}
use Rattle.undo_rows.specs.declared.owned_rows.OwnedRow.{OwnedRow}
use Rattle.undo_rows.specs.RowTable.{Change, Changes, item_of, row_items}
use Rattle.undo_rows.specs.RowLists.{row_of, unchanged_of, listed_by, listed, Appends}
use Rattle.undo_rows.specs.UndoRows.{image_or, committed_under}
use Rattle.undo_rows.proofs.OverlayLemmas.{get-rows_in}
use Rattle.undo_rows.proofs.OwnedRowsLemmas.{get-changes_in}
use Rattle.undo_rows.proofs.SortedLemmas.{sorted-items}
use Rattle.undo_rows.proofs.UndoLemmas.{get-committed_under}

abbrev Apart : RowId → List RowId → Type 0
Apart id ids = AllByRecursion (λ other. row_eq id other ≡ false) ids

abbrev Pairs : Type 0
Pairs = List (RowId × List ℕ)

module _ {X : Type 0} where
  apart_one : (id : RowId) (e : RowId × X) (es : List (RowId × X)) (b : Bool) → row_eq id e.0 ≡ b
      → cond b (Some e.1) (lookup (row_eq id) es) ≡ None → (row_eq id e.0 ≡ false) × (lookup (row_eq id) es ≡ None)
  apart_one id e es true is none = cc
  apart_one id e es false is none = (is, none)

  -- a row that no look-up finds is apart from all that stand there
  not_found : (id : RowId) (es : List (RowId × X)) → lookup (row_eq id) es ≡ None → Apart id (keys_of es)
  not_found id [] none = tt
  not_found id (e ∷ es) none =
      let one = apart_one id e es (row_eq id e.0) refl none in (one.0, not_found id es one.1)

  apart_none : (id : RowId) (es : List (RowId × X)) → Apart id (keys_of es) → lookup (row_eq id) es ≡ None
  apart_none id [] apart = refl
  apart_none id (e ∷ es) apart = ap (λ b. cond b (Some e.1) (lookup (row_eq id) es)) apart.0 ∙ apart_none id es apart.1

  module _ (f : RowId × X → Option (List ℕ)) where
    -- what f makes of the entry that is found
    abbrev made : RowId → Option X → Option (List ℕ)
    made id None = None
    made id (Some x) = f (id, x)

    listed_apart : (id : RowId) (es : List (RowId × X)) → Apart id (keys_of es) → Apart id (keys_of (listed f es))
    listed_apart id [] apart = tt
    listed_apart id (e ∷ es) apart =
        elim (f e) as (λ r. Apart id (keys_of (listed_by r e.0 (listed f es))))
        [ None ↦ listed_apart id es apart.1 | Some row ↦ (apart.0, listed_apart id es apart.1) ]

    pub listed_distinct : (es : List (RowId × X)) → IsDistinct row_eq (keys_of es) → IsDistinct row_eq (keys_of (listed f es))
    unfolding IsDistinct
    listed_distinct [] distinct = tt
    listed_distinct (e ∷ es) distinct =
        elim (f e) as (λ r. IsDistinct row_eq (keys_of (listed_by r e.0 (listed f es)))) [
          | None ↦ listed_distinct es distinct.1
          | Some row ↦ (listed_apart e.0 es distinct.0, listed_distinct es distinct.1)
        ]

    found_one : (id : RowId) (e : RowId × X) (es : List (RowId × X)) (r : Option (List ℕ)) (b : Bool) → row_eq id e.0 ≡ b → f e ≡ r
        → Apart e.0 (keys_of es) → lookup (row_eq id) (listed f es) ≡ made id (lookup (row_eq id) es)
        → lookup (row_eq id) (listed_by r e.0 (listed f es)) ≡ made id (cond b (Some e.1) (lookup (row_eq id) es))
    found_one id e es None true is gives apart rest =
        rest ∙ ap (made id) (ap (λ q. lookup (row_eq q) es) (row_same id e.0 is) ∙ apart_none e.0 es apart)
        ∙ sym gives ∙ ap (λ q. f (q, e.1)) (sym (row_same id e.0 is))
    found_one id e es (Some row) true is gives apart rest =
        ap (λ b. cond b (Some row) (lookup (row_eq id) (listed f es))) is
        ∙ sym gives ∙ ap (λ q. f (q, e.1)) (sym (row_same id e.0 is))
    found_one id e es None false is gives apart rest = rest
    found_one id e es (Some row) false is gives apart rest =
        ap (λ b. cond b (Some row) (lookup (row_eq id) (listed f es))) is ∙ rest

    pub lookup-listed : (id : RowId) (es : List (RowId × X)) → IsDistinct row_eq (keys_of es)
        → lookup (row_eq id) (listed f es) ≡ made id (lookup (row_eq id) es)
    unfolding IsDistinct
    lookup-listed id [] distinct = refl
    lookup-listed id (e ∷ es) distinct =
        found_one id e es (f e) (row_eq id e.0) refl refl distinct.0 (lookup-listed id es distinct.1)

    -- a loop that appends what f makes of each entry
    pub appended : (row_at : RowId → Option (List ℕ)) (es : List (RowId × X)) (before after : List RowItem)
        → IsDistinct row_eq (keys_of es) → after ≡ before ++ map item_of (listed f es)
        → ((id : RowId) → made id (lookup (row_eq id) es) ≡ row_at id) → Appends row_at before after
    appended row_at es before after distinct is finds = record {
      entries = listed f es;
      distinct = listed_distinct es distinct;
      items = is;
      finds = λ id. lookup-listed id es distinct ∙ finds id;
    }

-- the row that is kept for an owner
abbrev pub owned_row : RowId × OwnedRow → Option (List ℕ)
owned_row e = e.1.row

owned_found : (id : RowId) (o : Option OwnedRow) → made owned_row id o ≡ row_of (option_map change_of o)
owned_found id None = refl
owned_found id (Some entry) = refl

pub owned-finds : (es : List (RowId × OwnedRow)) (id : RowId) → made owned_row id (lookup (row_eq id) es) ≡ row_of (get (changes_in es) id)
owned-finds es id = owned_found id (lookup (row_eq id) es) ∙ ap row_of (sym (get-changes_in es id))

-- the row in place, unless it has an image
abbrev pub unchanged_row : Changes → RowId × List ℕ → Option (List ℕ)
unchanged_row images e = unchanged_of (get images e.0) (Some e.1)

no_row : (image : Option Change) → None ≡ unchanged_of image None
no_row None = refl
no_row (Some image) = refl

unchanged_found : (images : Changes) (id : RowId) (o : Option (List ℕ)) → made (unchanged_row images) id o ≡ unchanged_of (get images id) o
unchanged_found images id None = no_row (get images id)
unchanged_found images id (Some row) = refl

pub unchanged-finds : (images : Changes) (es : Pairs) (id : RowId)
    → made (unchanged_row images) id (lookup (row_eq id) es) ≡ unchanged_of (get images id) (get (rows_in es) id)
unchanged-finds images es id =
    unchanged_found images id (lookup (row_eq id) es) ∙ ap (unchanged_of (get images id)) (sym (get-rows_in es id))

abbrev either : Option (List ℕ) → Option (List ℕ) → Option (List ℕ)
either None second = second
either (Some row) second = Some row

kept_first : (b : Bool) (row : List ℕ) (first second : Option (List ℕ))
    → cond b (Some row) (either first second) ≡ either (cond b (Some row) first) second
kept_first true row first second = refl
kept_first false row first second = refl

lookup-append : (id : RowId) (es fs : Pairs)
    → lookup (row_eq id) (es ++ fs) ≡ either (lookup (row_eq id) es) (lookup (row_eq id) fs)
lookup-append id [] fs = refl
lookup-append id (e ∷ es) fs =
    ap (cond (row_eq id e.0) (Some e.1)) (lookup-append id es fs)
    ∙ kept_first (row_eq id e.0) e.1 (lookup (row_eq id) es) (lookup (row_eq id) fs)

-- no row stands in both
abbrev AreDisjoint : Pairs → Pairs → Type 0
AreDisjoint es fs = (id : RowId) (row : List ℕ) → lookup (row_eq id) es ≡ Some row → lookup (row_eq id) fs ≡ None

disjoint_one : (e : RowId × List ℕ) (es fs : Pairs) (id : RowId) (row : List ℕ) (b : Bool) → row_eq id e.0 ≡ b
    → AreDisjoint (e ∷ es) fs → lookup (row_eq id) es ≡ Some row → lookup (row_eq id) fs ≡ None
disjoint_one e es fs id row true is apart found =
    apart id e.1 (ap (λ b. cond b (Some e.1) (lookup (row_eq id) es)) is)
disjoint_one e es fs id row false is apart found =
    apart id row (ap (λ b. cond b (Some e.1) (lookup (row_eq id) es)) is ∙ found)

apart_append : (id : RowId) (es fs : Pairs) → Apart id (keys_of es) → Apart id (keys_of fs) → Apart id (keys_of (es ++ fs))
apart_append id [] fs first second = second
apart_append id (e ∷ es) fs first second = (first.0, apart_append id es fs first.1 second)

distinct_append : (es fs : Pairs) → IsDistinct row_eq (keys_of es) → IsDistinct row_eq (keys_of fs) → AreDisjoint es fs
    → IsDistinct row_eq (keys_of (es ++ fs))
unfolding IsDistinct
distinct_append [] fs first second apart = second
distinct_append (e ∷ es) fs first second apart =
    let here = ap (λ b. cond b (Some e.1) (lookup (row_eq e.0) es)) (row_itself e.0) in (
      apart_append e.0 es fs first.0 (not_found e.0 fs (apart e.0 e.1 here)),
      distinct_append es fs first.1 second (λ id row found. disjoint_one e es fs id row (row_eq id e.0) refl apart found),
    )

image_first : (image : Option Change) (place : Option (List ℕ))
    → either (unchanged_of image place) (row_of image) ≡ image_or image place
image_first None None = refl
image_first None (Some row) = refl
image_first (Some image) place = refl

never_both : (image : Option Change) (place : Option (List ℕ)) (row : List ℕ) → unchanged_of image place ≡ Some row → row_of image ≡ None
never_both None place row is = refl
never_both (Some image) place row is = cc

-- the unchanged rows and then the images, sorted, are the committed rows in order
pub both_listed : (place : Rows) (images : Changes) (none middle all sorted : List RowItem) → none ≡ []
    → Appends (λ id. unchanged_of (get images id) (get place id)) none middle
    → Appends (λ id. row_of (get images id)) middle all
    → IsPermutation all sorted → IsSortedByKey (λ (item : RowItem). item.id) row_cmp sorted
    → sorted ≡ row_items (committed_under place images)
both_listed place images none middle all sorted empty first second moved in_order =
    let es = first.entries ++ second.entries in
    let apart : AreDisjoint first.entries second.entries =
    λ id row found. second.finds id ∙ never_both (get images id) (get place id) row (sym (first.finds id) ∙ found) in
    let is : all ≡ map item_of es =
    second.items ∙ ap (λ l. l ++ map item_of second.entries) (first.items ∙ ap (λ l. l ++ map item_of first.entries) empty)
    ∙ sym (map-append item_of first.entries second.entries) in
    let same : rows_in es ≡ committed_under place images =
    same_map row_total row_exact _ _ (λ id.
    get-rows_in es id ∙ lookup-append id first.entries second.entries
    ∙ (λ i. either (first.finds id i) (second.finds id i))
    ∙ image_first (get images id) (get place id)
    ∙ sym (get-committed_under place images id)) in
    sorted-items es all sorted (distinct_append first.entries second.entries first.distinct second.distinct apart) is moved in_order
    ∙ ap row_items same
