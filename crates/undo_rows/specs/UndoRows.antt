-- rows in place, and of each row that an owner has changed the image that it had before
use Rattle.std.specs.Prelude.{ℕ, ◌-◌, ◌/◌, min, List, [], ◌∷◌, map, Option, Some, None}
use Rattle.finite_map.specs.FiniteMap.{get, insert, from_entries}
use Rattle.row_model.specs.Rows.{Rows, with_row}
use Rattle.row_model.specs.declared.row.RowId.{RowId}
use Rattle.undo_rows.specs.Overlay.{rows_in}
use Rattle.undo_rows.specs.OwnedRows.{Owned}
use Rattle.undo_rows.specs.RowTable.{Change, Changes}

-- the committed row is the image, and the row in place where there is none
abbrev pub image_or : Option Change → Option (List ℕ) → Option (List ℕ)
image_or None place = place
image_or (Some image) place = image.1

-- the change is the row in place, where the owner has an image
abbrev pub change_over : Option Change → Option (List ℕ) → Option Change
change_over None place = None
change_over (Some image) place = Some (image.0, place)

-- the rows in place with these images put back
abbrev pub put_back : List (RowId × Change) → Rows → Rows
put_back [] place = place
put_back (e ∷ es) place = with_row (put_back es place) e.0 e.1.1

abbrev pub committed_under : Rows → Changes → Rows
committed_under place images = put_back images.entries place

abbrev pub owner_and_place : Rows → RowId × Change → RowId × Change
owner_and_place place e = (e.0, (e.1.0, get place e.0))

abbrev pub changes_over : Rows → Changes → Changes
changes_over place images = from_entries (map (owner_and_place place) images.entries)

-- an owner's first change of a row keeps the row's image; a later one leaves it
abbrev pub imaged_unless : Option Change → Rows → Changes → RowId → ℕ → Changes
imaged_unless None place images id owner = insert images id (owner, get place id)
imaged_unless (Some image) place images id owner = images

abbrev pub imaged : Rows → Changes → RowId → ℕ → Changes
imaged place images id owner = imaged_unless (get images id) place images id owner

-- the committed rows over a hashed table of the rows in place
abbrev pub committed_in : List (RowId × List ℕ) → Owned → Rows
committed_in entries images = committed_under (rows_in entries) images.changes

-- the changes over a hashed table of the rows in place
abbrev pub changed_in : List (RowId × List ℕ) → Owned → Changes
changed_in entries images = changes_over (rows_in entries) images.changes

-- a first change may take room for the row, and for the image that is to be put back
abbrev pub spare_over : ℕ → Owned → ℕ
spare_over room images = min images.spare ((room - images.count) / 2)
