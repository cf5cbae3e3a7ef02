pub mod Collects
pub mod Feeds
pub mod Formats
pub mod Keeps
pub mod Messages
pub mod Watches
