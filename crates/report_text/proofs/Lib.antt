pub mod CountLemmas
mod Examples
mod LoadExamples
