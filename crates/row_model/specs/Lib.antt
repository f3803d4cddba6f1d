pub mod Hashing
pub mod Names
pub mod Padding
pub mod RowOrder
pub mod Rows
