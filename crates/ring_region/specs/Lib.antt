pub mod Headers
pub mod Numbered
pub mod Slots
pub mod Order
pub mod Regions
pub mod Answers
pub mod Agreement
