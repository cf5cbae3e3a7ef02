mod Texts
mod Plain
mod Runs
mod Commas
mod FieldLoops
mod PayloadsToo
mod NumberTexts
pub mod Damages
mod Places
mod Pieces
mod Events
mod SaidNumbers
mod Details
mod NameTables
mod NumberNames
mod LossSums
mod LeftOut
