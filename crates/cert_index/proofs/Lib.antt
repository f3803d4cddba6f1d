pub mod LatestLemmas
pub mod MeetLemmas
pub mod PairLemmas
pub mod TableLemmas
pub mod HoldLemmas
pub mod CountLemmas
pub mod Examples
