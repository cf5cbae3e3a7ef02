-- fills: their sizes, their records and where they are cut
pub mod FillCuts
pub mod FillFirsts
pub mod FillOfNumber
pub mod FillsJoined
pub mod FillSizes
pub mod PackedHistories
pub mod FullFills
pub mod OpenPages
