pub mod Spots
pub mod HeldIndex
pub mod OpenSet
pub mod Following
