pub mod Gaps
pub mod Pages
pub mod Live
pub mod Printing
pub mod Following
pub mod Readings
