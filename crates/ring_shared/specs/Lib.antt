-- What contracts cite. Each end is tied to the model by `IsWriter` or `IsReader`: its part is that of a state that
-- steps reach. Calls ensure `MakesSome`, `IsNearer` (by `rank_of`); `TakesSteps`, `IsTake`; `MakesAtMost` (how many
-- steps a call makes); `IsStopped`, `IsSettled`, `IsOneRun` (laws: `RunLaws`), `AreEndsOf` (names a settled ring's
-- parts). Clauses that several functions share are records of `Promises`.
--
-- A search of the prover doesn't open `IsWriter`: who needs its fields writes `unfolding`. A private call is noted
-- first, and then done by the frames (`write` is noted afterwards); a step on a word is one call of the seat and one of
-- the frames. A record frame turns the page by `turn_over`; if the reader took the head between two of its steps, or
-- another frame acted between two calls, one single step follows, and then the turn is tried again. A close frame, and
-- one that closes the tail for the wish, turn the page by single steps (`leave_top`).
pub mod Value
pub mod Calls
pub mod Rooms
pub mod Lending
pub mod Takes
pub mod NewReader
pub mod NewEnds
pub mod Receipts
pub mod Settling
pub mod Nearer
pub mod Finishing
pub mod FewSteps
pub mod Promises
pub mod Covering
pub mod WholeWrites
pub mod Laws
pub mod Turning
pub mod WholeLaws
pub mod TakenLaws
pub mod TailLaws
pub mod RunLaws
