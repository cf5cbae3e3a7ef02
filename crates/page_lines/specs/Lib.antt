pub mod Found
pub mod Stating
pub mod Tallies
pub mod Sources
pub mod Spread
