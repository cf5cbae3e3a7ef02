pub mod Restored
pub mod Walk
