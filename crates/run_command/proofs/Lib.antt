mod RunHeadlines
pub mod Answered
pub mod OneRun
