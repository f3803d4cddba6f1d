pub mod Kinds
pub mod Parts
pub mod Keys
pub mod Places
pub mod Meeting
pub mod Laws
pub mod Probes
