-- what a CPU's writer lines make of its ring
pub mod Obeying
-- what it asks the gate meanwhile
pub mod Asking
-- a writer with the payloads of its frames, and its calls
pub mod Distance
pub mod LineWriters
pub mod Runs
-- which lines are a CPU's
pub mod LineIndexes
