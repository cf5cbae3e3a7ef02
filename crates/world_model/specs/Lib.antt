pub mod Lanes
pub mod Log
pub mod World
pub mod RunEvents
pub mod GenuineWorlds
pub mod LineEnds
pub mod Printing
