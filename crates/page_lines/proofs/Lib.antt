pub mod OnePage
pub mod Missed
mod StatedLosses
mod Tallied
pub mod Passing
pub mod Values
mod Placed
pub mod Numbered
pub mod Whole
pub mod Listing
pub mod Plain
