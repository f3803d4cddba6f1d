pub mod KeyedOps
pub mod Live
pub mod Newest
