-- What contracts cite. A ring as a value is tied to the model by `IsCore n size start core state`. A call ensures
-- `MakesEvent`: for each state that the value shows, the model has a `Step` with this answer to one that it shows
-- afterwards (field `MakesStep`). A caller cites `calls_on_a_new_ring_are_a_run_from_the_start`, and then laws of
-- `ring_model`.
pub mod Value
pub mod Inside
pub mod IsCore
pub mod Answers
pub mod Steps
pub mod Heads
pub mod Taking
pub mod Runs
pub mod NewRing
pub mod Lending
pub mod AtOnce
pub mod Above
