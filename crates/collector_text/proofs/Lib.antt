pub mod Appended
pub mod OneText
mod Pieces
pub mod RunsBehind
pub mod Shown
