mod Sums
pub mod Marks
pub mod Frames
pub mod Fitted
mod Bodies
pub mod Readings
pub mod OneFault
mod Answered
mod Sealing
pub mod Streams
mod Steps
pub mod Decided
mod Changed
pub mod Bits
pub mod Bytes
pub mod Changes
pub mod Entries
pub mod Checksums
pub mod Left
pub mod Given
pub mod Peeks
