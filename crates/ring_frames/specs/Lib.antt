-- What contracts cite. Frames are tied to the model by `AreFrames n size start frames state`, which says nothing of
-- what the reader stores. A call ensures of a private step `MakesPrivate`; of a step on a word one half is here:
-- `go_on`, `open_fill`, `release_fill`, `load_wish`, `head_seen`.
pub mod Value
pub mod PackedPhase
pub mod Inside
pub mod AreFrames
pub mod Answers
pub mod Lens
pub mod Phases
pub mod ReaderPhases
pub mod Steps
pub mod AtOnce
pub mod Above
pub mod Fills
pub mod Lending
pub mod FirstPages
pub mod Laws
