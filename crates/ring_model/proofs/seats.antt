-- the writer's seat and the reader's; how far a frame and a take are from their ends
pub mod SeatSteps
pub mod PrivateSteps
pub mod PrivateAlike
pub mod SeatPages
pub mod PrivateCommutes
pub mod FrameEnds
pub mod WriterEnds
pub mod TakeEnds
pub mod FewSteps
