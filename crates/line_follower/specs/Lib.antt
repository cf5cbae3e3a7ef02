pub mod Order
pub mod Known
pub mod Following
pub mod Runs
pub mod Inside
pub mod Events
