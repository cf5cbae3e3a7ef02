pub mod Cpus
pub mod Runs
pub mod Printing
pub mod Listed
pub mod Pieces
pub mod Faults
pub mod Hidden
