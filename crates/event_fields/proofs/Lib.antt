pub mod Parts
pub mod TypeWords
pub mod NumberLists
pub mod PieceLemmas
pub mod LineParts
pub mod FieldNames
pub mod FieldLines
pub mod NoneBetween
