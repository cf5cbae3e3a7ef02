pub mod Dumps
pub mod ImageFaults
