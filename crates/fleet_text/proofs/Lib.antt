pub mod CpuSets
pub mod CpusInOrder
pub mod RunsInOrder
pub mod Pieces
pub mod HiddenNotes
pub mod HiddenRuns
