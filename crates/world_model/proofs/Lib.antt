-- what a line has with a ring: a run of it, and one only; and the pages that it brings
pub mod LineRuns
pub mod LineIsOne
pub mod TakenPages
-- a payload for each frame
pub mod FramesMove
pub mod LanePayloads
-- worlds: what every line keeps
pub mod Lookups
pub mod KeptElements
pub mod WorldsKept
pub mod WorldsAt
pub mod DeliveredLines
pub mod OneWorld
pub mod RunEvents
pub mod LostFills
pub mod Cuts
pub mod GenuineWorlds
-- frames and takes end
pub mod LineEnds
-- runs and their text
pub mod OneRuns
