pub mod Texts
pub mod Load
