pub mod History
pub mod Tickets
pub mod Seats
pub mod Views
pub mod Law
pub mod Plays
pub mod Calls
