pub mod Words
pub mod Fields
pub mod Grammar
pub mod Steps
pub mod Written
pub mod Load
pub mod LoadPlaces
