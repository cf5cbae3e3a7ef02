pub mod CommandLine
pub mod FileWords
pub mod ListWords
pub mod Calls
pub mod Causes
pub mod CauseTexts
