pub mod Laws
pub mod MovedLemmas
pub mod WorkedTable
