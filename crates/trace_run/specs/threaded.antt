pub mod Runs
pub mod Asked
pub mod Taking
pub mod Threads
pub mod Joining
