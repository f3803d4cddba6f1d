pub mod Again
pub mod Loop
pub mod Takes
