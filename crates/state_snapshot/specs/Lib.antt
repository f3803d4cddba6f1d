pub mod Spelling
pub mod Reading
pub mod Rules
pub mod Laws
pub mod Orders
