pub mod CommitLaws
pub mod MapLaws
pub mod QueueLaws
pub mod RisingLaws
pub mod SearchLaws
pub mod SlotLaws
pub mod UnitLaws
