pub mod TakesMade
pub mod Value
pub mod Takes
pub mod Ledgers
