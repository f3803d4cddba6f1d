pub mod Bytes
pub mod Place
pub mod Reading
pub mod StateId
pub mod Trx
