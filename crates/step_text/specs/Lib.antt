pub mod Seen
pub mod Counting
pub mod FrameChanges
pub mod Exchanges
pub mod Known
pub mod Tells
pub mod Steps
