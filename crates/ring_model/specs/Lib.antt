-- the invariant that every step of a ring keeps: of links, the stack, progress, history, pages, packing and
-- partition, and all of it
pub mod KeptLinks
pub mod KeptStack
pub mod KeptProgress
pub mod KeptHistory
pub mod KeptContents
pub mod KeptPacking
pub mod KeptPartition
pub mod RingKept
-- the states that steps reach, a run as a list of the ring's events, and the writer's private steps
pub mod Reached
pub mod RunsAsEvents
pub mod Seats
-- what each event appends to the history
pub mod Appended
-- the laws, by subject
pub mod RingLaws
pub mod WindowLaws
pub mod LinkLaws
pub mod HistoryLaws
pub mod PayloadLaws
pub mod AnswerLaws
pub mod SeatLaws
pub mod WishLaws
pub mod FrameOutcomes
pub mod SeenLinks
pub mod Ranks
pub mod WriterRanks
-- worked examples, and wrong steps
pub mod Examples
pub mod WrongSteps
