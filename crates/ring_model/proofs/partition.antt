-- the partition of the records, and the invariant as a whole
pub mod PartitionLemmas
pub mod PartitionChanges
pub mod PartitionSteps
pub mod NewRing
pub mod OneNewRing
pub mod RingsKept
pub mod UnreadRest
pub mod SettledRest
