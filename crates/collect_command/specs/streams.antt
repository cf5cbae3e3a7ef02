pub mod Reading
pub mod Gathering
pub mod Runs
