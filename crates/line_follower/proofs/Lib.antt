pub mod Orders
pub mod Fronts
pub mod Steps
pub mod Growing
pub mod Saying
pub mod Runs
pub mod InTime
pub mod Events
