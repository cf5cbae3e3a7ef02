-- What contracts cite. A stack is tied to the model by `IsStack start history stack`, in which the history is free; a
-- call ensures that its events are appended to the history. Proofs of the functions cite `NextEvent` (the stack after
-- one more event), `FillCuts` (the fills after it), `PackedHistories` and `Committed` of `trace_model`. Clauses that
-- several functions share are records of `Promises`.
pub mod Stack
pub mod Inside
pub mod Lent
pub mod Calls
pub mod IsStack
pub mod Released
pub mod Unclosed
pub mod Allotted
pub mod Answered
pub mod Ends
pub mod Lending
pub mod TopFrame
pub mod OnTop
pub mod AtOnce
pub mod PlainTop
pub mod Runs
pub mod Kept
pub mod Next
pub mod Promises
