pub mod Pairs
pub mod Index
pub mod Table
pub mod Laws
pub mod Count
