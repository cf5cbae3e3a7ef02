pub mod TaskLines
pub mod SymbolPlaces
pub mod SymbolText
pub mod SymbolLines
pub mod PartLemmas
pub mod EntryLemmas
pub mod TableLemmas
mod TableLists
mod CallStarts
