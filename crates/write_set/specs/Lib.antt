pub mod Names
pub mod Spelling
pub mod Rules
pub mod Place
pub mod Reading
pub mod Laws
