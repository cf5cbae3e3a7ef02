-- single calls
pub mod FramePayloads
pub mod PushedFrames
pub mod TopCalls
-- lines
pub mod LineRuns
pub mod WrittenWhole
pub mod LinesMade
-- what the gate is asked
pub mod Passed
-- which lines are a CPU's
pub mod LineIndexesFound
pub mod PagesFound
pub mod TakesMore
mod LeastFaults
pub mod Flat
mod EqualRecords
pub mod Sums
mod Answered
mod Rising
pub mod Ends
pub mod Rows
pub mod LastStates
pub mod OneRuns
pub mod ReaderSteps
pub mod Completed
