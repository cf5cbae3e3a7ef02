-- links, and what a step makes of links, counts, frames and the reader
pub mod FramePhases
pub mod LinkFills
pub mod FrameChanges
pub mod WriterSteps
pub mod ReaderSteps
pub mod LinkSteps
pub mod Relinking
pub mod LinksFit
pub mod SeenLinks
