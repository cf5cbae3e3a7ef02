pub mod Decoding
pub mod Kept
pub mod ScriptFaults
pub mod ScriptFields
pub mod ScriptTypes
pub mod UsualLines
pub mod Value
