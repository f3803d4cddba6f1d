pub mod FiniteMap
pub mod Hashed
pub mod Links
