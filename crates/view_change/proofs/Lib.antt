pub mod Examples
pub mod FloorLemmas
pub mod FollowingLaws
