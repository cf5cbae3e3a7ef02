pub mod Contents
pub mod Putting
pub mod Lending
pub mod Walk
pub mod Counting
pub mod Images
pub mod Plain
pub mod Slot
