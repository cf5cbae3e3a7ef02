-- texts: what is written one after the other
pub mod Joined
pub mod OneAfterOne
-- steps: what is seen after one, and whether it exchanges links
pub mod Counted
pub mod Exchanging
pub mod LinksDiffer
-- changes: what is new
pub mod ChangesKnown
-- rings: the text of new ones
pub mod NewRingWritten
pub mod OneRingMore
-- the text of a step of a ring, and of the rings
pub mod Telling
pub mod OneStepsOutput
