pub mod Overlay
pub mod OwnedRows
pub mod RowLists
pub mod RowTable
pub mod UndoRows
