pub mod Fronts
mod Used
pub mod LooseValues
pub mod PutRuns
pub mod ReadParts
pub mod LinePlaces
pub mod KeptLines
pub mod LeastFrom
