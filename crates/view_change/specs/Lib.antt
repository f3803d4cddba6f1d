pub mod Membership
pub mod Following
