-- a task: a write set's changes, and the images of the rows that they name
use Rattle.std.specs.Prelude.{◌≡◌, ℕ, Bool, List, IsTrue}
use Rattle.std.specs.List.{IsDistinct, list_all, list_any}
use Rattle.std.specs.Map.{keys_of}
use Rattle.row_model.specs.declared.row.RowId.{RowId}
use Rattle.row_model.specs.declared.ops.Op.{Op}
use Rattle.row_model.specs.Rows.{id_of}
use Rattle.row_model.specs.RowOrder.{row_eq}
use Rattle.apply_unit.specs.Results.{Image}

-- whether there is an image of the row
abbrev pub has_image : List Image → RowId → Bool
has_image images id = list_any (row_eq id) (keys_of images)

-- each row that a change names has an image, and no row has two
pub record AreImagesOf (ops : List Op) (images : List Image) : Type 0 where
  pub named : IsTrue (list_all (λ op. has_image images (id_of op)) ops)
  pub once : IsDistinct row_eq (keys_of images)

-- the number of the write set, its changes, and the images
pub record ModelTask : Type 0 where
  pub number : ℕ
  pub ops : List Op
  pub images : List Image

abbrev pub task : ℕ → List Op → List Image → ModelTask
task number ops images = record { number = number; ops = ops; images = images }

-- the rows of the images are listed, and what is to become the results is the images
pub record IsReady (ops : List Op) (images : List Image) (places : List RowId)
    (results : List Image) : Type 0 where
  pub images_are : AreImagesOf ops images
  pub places_are : places ≡ keys_of images
  pub results_are : results ≡ images
