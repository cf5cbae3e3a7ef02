pub mod Files
pub mod Losses
pub mod Captures
pub mod Inputs
pub mod Giving
pub mod FilesRead
