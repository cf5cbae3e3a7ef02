-- the steps of a ring case by case, and that they are those that the function makes
pub mod EventKinds
pub mod StepWords
pub mod StepCases
pub mod StepSound
pub mod StepIs
pub mod EventSteps
