pub mod words
pub mod images
pub mod histories
pub mod packing
pub mod collections
pub mod steps
-- fills and positions
pub mod Positions
