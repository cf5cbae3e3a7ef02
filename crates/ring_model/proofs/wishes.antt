-- the wish
pub mod Tails
pub mod WishSteps
pub mod WishedPages
