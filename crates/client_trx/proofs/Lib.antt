pub mod FitLemmas
pub mod NewestLemmas
pub mod PartLemmas
