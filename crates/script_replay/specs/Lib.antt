-- What contracts cite. A lane is tied to one of `world_model` by `IsLane`. A call ensures `HasLine`, and a replay
-- `IsStateAfter`: some world has these lines (`WorldBehind`), and lanes, collectors and log are its. A loop over steps
-- stops at `MOST_STEPS`, which is more than the limits of `Ranks` for the most pages.
pub mod Value
pub mod Reports
pub mod RingCommands
pub mod Lanes
pub mod Frames
pub mod Takes
pub mod LanesByCpu
pub mod Collected
pub mod Replay
pub mod Known
pub mod Tells
pub mod log
