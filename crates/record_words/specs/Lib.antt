pub mod Puts
pub mod Next
pub mod Copies
