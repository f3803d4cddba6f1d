pub mod Held
pub mod Copies
pub mod Laws
