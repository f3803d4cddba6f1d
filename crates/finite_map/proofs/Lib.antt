pub mod Edits
pub mod Tables
