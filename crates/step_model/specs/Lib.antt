pub mod Seen
pub mod Changes
pub mod StepTexts
pub mod RunTexts
pub mod StepCounts
pub mod StepLaws
