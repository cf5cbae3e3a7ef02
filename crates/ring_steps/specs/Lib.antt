-- What contracts cite. The table and the seats are tied to the model by `Shows` (docs/MODEL.md, "The running ring"); a
-- step on a word ensures `IsWriterStep` or `IsReaderStep`.
--
-- A caller notes what it does in private (`src/noting.rt`), chooses the part that the writer has by then
-- (`ChosenPart`), and proves `Leads`. A step on a word continues from the noted part (`writing_in`), says the part
-- after it by what it found (`part`), and ensures an `IsWriterStep`, whose `Step` says which case it was. A proof that
-- goes a step further names the run by which the shown state is reached by `reached_on` (`proofs/Made.antt`); a `subst`
-- over all that is shown would hide it. The table asks of a step `Allows` of `atomic_table`, which
-- `proofs/Allowing.antt` reduces to the next state, an act on the slots, and that words and homes show that state. What
-- a proof chooses may depend only on the arguments of that one call, so `note`, `load` and `store` take `given`, which
-- no code reads.
pub mod Made
pub mod Receipts
pub mod Views
pub mod Words
pub mod Shown
pub mod Seats
pub mod Ends
pub mod NewRings
pub mod Paging
pub mod Linking
pub mod Moving
pub mod Notes
pub mod Taking
pub mod Swapping
