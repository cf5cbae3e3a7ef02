pub mod Reading
pub mod Telling
pub mod Gathering
pub mod Lines
pub mod Runs
