-- the step as a function; the head and the count of closed fills move by it
pub mod RunFunction
pub mod ProgressSteps
pub mod StepsGiven
pub mod StepsDetermined
pub mod CountMoves
