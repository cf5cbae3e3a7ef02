-- the history of the frames, and the window
pub mod Histories
pub mod HistorySteps
pub mod WindowEvents
pub mod StepsAppend
pub mod WindowRuns
pub mod StepsAsEvents
