pub mod Results
pub mod Task
pub mod RowChanges
