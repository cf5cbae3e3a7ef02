pub mod Lines
pub mod Names
pub mod FirstBytes
pub mod Counters
