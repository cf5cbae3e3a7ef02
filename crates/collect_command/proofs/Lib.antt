mod PatternRows
mod Gathered
mod Captures
mod PagesOfAll
mod Printing
mod Sums
mod Given
mod OneOutput
pub mod Readings
pub mod Inputs
pub mod StreamsGathered
pub mod Endings
pub mod AllRead
pub mod Told
pub mod Adds
mod Followed
pub mod RawTexts
pub mod PagedWhole
mod PagedPrints
mod PagedParts
mod PagedGiven
mod RawCollected
