pub mod Pages
pub mod Captures
pub mod Rings
pub mod Smaller
pub mod Reading
pub mod stamps
pub mod files
