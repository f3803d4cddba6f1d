pub mod PutLemmas
pub mod TaskLemmas
pub mod RowLemmas
