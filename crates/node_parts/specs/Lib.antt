pub mod Kinds
pub mod Passed
pub mod Queue
pub mod Sessions
pub mod Slots
pub mod UnitEntries
pub mod Units
