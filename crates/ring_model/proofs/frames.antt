-- the stack of frames, what becomes of them, and their answers
pub mod StackSteps
pub mod TopSteps
pub mod FrameOutcomes
pub mod AnswersRight
pub mod RefusalsDue
