pub mod Ends
pub mod Failing
pub mod Counting
pub mod Output
pub mod CommandRun
pub mod Written
