-- words, and the reading of a page's data
pub mod Lengths
pub mod FillLengths
pub mod LinkWords
pub mod OneWord
pub mod Unique
pub mod Appended
pub mod ReadBack
pub mod Overwritten
pub mod Places
pub mod Stepped
pub mod Walked
pub mod WordFaults
pub mod FirstFaults
