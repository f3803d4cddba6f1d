pub mod Certifies
pub mod Laws
pub mod Indexed
