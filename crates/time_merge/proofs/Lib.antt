pub mod Ordered
pub mod Pairs
pub mod StretchWalks
pub mod Takes
pub mod Trees
pub mod Turns
pub mod ByNumber
pub mod Merging
pub mod Heads
pub mod SourceWalks
pub mod EachCpu
pub mod Ranked
pub mod ByTime
mod Counts
