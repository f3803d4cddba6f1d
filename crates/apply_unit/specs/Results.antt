-- what changes make of images of rows
use Rattle.std.specs.Prelude.{◌≡◌, ℕ, List, map, fold, Option}
use Rattle.std.specs.List.{AllByRecursion}
use Rattle.finite_map.specs.FiniteMap.{get}
use Rattle.row_model.specs.declared.row.RowId.{RowId}
use Rattle.row_model.specs.declared.ops.Op.{Op}
use Rattle.row_model.specs.Rows.{Rows, with_row}
use Rattle.apply_unit.specs.RowChanges.{row_after_ops}

-- a row by where it stands, none where it is missing
abbrev pub Image : Type 0
Image = RowId × Option (List ℕ)

-- each image is what stands there in the rows
abbrev pub AreTaken : Rows → List Image → Type 0
AreTaken rows images = AllByRecursion (λ image. image.1 ≡ get rows image.0) images

-- each image after the changes that name its row
abbrev pub computed : List Op → List Image → List Image
computed ops images = map (λ image. (image.0, row_after_ops image.0 ops image.1)) images

-- the rows after images are put into them, one after another
abbrev pub put_all : List Image → Rows → Rows
put_all images rows = fold (λ done image. with_row done image.0 image.1) rows images
