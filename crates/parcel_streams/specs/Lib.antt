pub mod Pieces
pub mod Faults
pub mod Answers
pub mod crc32c
pub mod source
