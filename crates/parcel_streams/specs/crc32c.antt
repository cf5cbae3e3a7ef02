pub mod Castagnoli
pub mod Changes
