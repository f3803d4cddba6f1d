mod Commits
mod Units
mod Streaming
mod Leaving
mod Joining
