pub mod Ordered
pub mod Courses
pub mod Laws
pub mod Places
pub mod Kept
pub mod RunLaws
