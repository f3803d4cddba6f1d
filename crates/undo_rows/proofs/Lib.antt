pub mod OverlayLemmas
pub mod OwnedRowsLemmas
pub mod RowListLemmas
pub mod RowTableLemmas
pub mod SortedLemmas
pub mod UndoLemmas
