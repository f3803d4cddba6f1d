mod ChangeLemmas
mod Examples
mod LoadExamples
mod LoadLemmas
pub mod LoadLaws
mod NumberLemmas
mod ValueLemmas
mod WordLemmas
pub mod FitLemmas
