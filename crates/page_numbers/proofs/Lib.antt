mod Readings
mod Answered
mod Writing
pub mod AsParcels
