pub mod Lines
pub mod OneDump
pub mod ImageFaultLemmas
