pub mod Askings
pub mod CommittedRows
pub mod Completeness
pub mod Endings
pub mod FirstLines
pub mod LineLaws
pub mod LineRanges
pub mod LoadRanges
pub mod LoadRuns
pub mod Moments
pub mod Openings
pub mod Readings
pub mod ReplicatedLines
pub mod Replicating
pub mod RightStatuses
pub mod ScheduleLaws
pub mod Sending
pub mod Sources
pub mod Statuses
pub mod Writes
mod WorkedRows
mod WordExamples
