-- the worked examples and the wrong steps
pub mod ExamplesRun
pub mod WrongStepsRefused
