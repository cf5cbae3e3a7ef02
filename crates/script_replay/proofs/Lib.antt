-- the replay: lanes by CPU; what a line leads to; what is answered
pub mod LanesByCpu
pub mod Placed
pub mod StepsTold
pub mod LinesObeyed
pub mod Answered
-- frames and pushes
pub mod FramePayloads
pub mod LaneValues
pub mod FrameRuns
pub mod FrameTops
pub mod PushedLanes
pub mod WrittenLines
pub mod WritesAlone
pub mod WritesAbove
-- what is reported
pub mod Reporting
-- a new lane, and takes
pub mod NewLanes
pub mod TakesNumbers
pub mod TakesLanes
pub mod TakesRuns
