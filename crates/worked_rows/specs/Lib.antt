pub mod Words
pub mod Commits
pub mod Units
pub mod Streaming
pub mod Leaving
pub mod Joining
