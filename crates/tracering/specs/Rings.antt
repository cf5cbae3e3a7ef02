-- The words of the contracts of `rings`.

-- new ends
pub use Rattle.trace_model.specs.Ring.{HasRingLimits}
pub use Rattle.trace_model.specs.declared.limits.TheConstants.{LINK_FILLS, START_FILL}
pub use Rattle.ring_steps.specs.declared.rule.Shape.{Shape}
pub use Rattle.ring_shared.specs.NewEnds.{AreNewEnds}
-- what is a writer's end, and a reader's, and that it stays that of one ring
pub use Rattle.ring_shared.specs.Value.{WriterValue, ReaderValue, SameWriter}
unfoldable pub use Rattle.ring_shared.specs.Calls.{IsWriter}
pub use Rattle.ring_shared.specs.Takes.{IsReader, SameRing}
-- what a writer's call does
pub use Rattle.trace_model.specs.Words.{slot_len}
pub use Rattle.nested_writer.specs.Calls.{IsTopSlot}
pub use Rattle.nested_writer.specs.Lent.{lent_bytes, with_bytes}
pub use Rattle.nested_writer.specs.Released.{IsRestingTail}
pub use Rattle.nested_writer.specs.Unclosed.{AreUnclosed}
pub use Rattle.nested_writer.specs.declared.fault.WriteFault.{WriteFault}
pub use Rattle.nested_writer.specs.declared.stack.leave.Ended.{Ended}
pub use Rattle.ring_frames.specs.Answers.{IsAnswerOf, EndsPayload, KeepsPayloads, top_bytes}
pub use Rattle.ring_frames.specs.Lending.{LendsSlot}
pub use Rattle.ring_frames.specs.Lens.{IsOneMore}
pub use Rattle.ring_frames.specs.declared.answer.Answer.{Answer}
pub use Rattle.ring_shared.specs.Calls.{IsCall, MakesSome, closes_first}
pub use Rattle.ring_shared.specs.Finishing.{Finishes}
pub use Rattle.ring_shared.specs.Lending.{FitsFrame, LendsTop, with_lent}
pub use Rattle.ring_shared.specs.Nearer.{IsNearer}
pub use Rattle.ring_shared.specs.Promises.{KeepsSlots, KeepsWriter}
pub use Rattle.ring_shared.specs.Rooms.{IsTopRoom, rooms}
pub use Rattle.ring_shared.specs.WholeWrites.{IsRefusedWrite, IsWritten}
-- what a take answers, and what a wish is
pub use Rattle.trace_model.specs.Steps.{wishes, wished_for}
pub use Rattle.ring_steps.specs.Seats.{IsReaderStep}
pub use Rattle.ring_shared.specs.declared.take.Take.{Take}
pub use Rattle.ring_shared.specs.Takes.{IsOfSize, IsTake, IsPageTaken, TakesNothing, TakesSteps, empty_of}
-- what a receipt has, and what a reader learns by it
pub use Rattle.ring_shared.specs.Receipts.{ReceiptValue, done_after}
pub use Rattle.ring_steps.specs.Views.{with_lesson}
-- what is left of two ends that are joined
pub use Rattle.ring_shared.specs.Settling.{AreEndsOf, IsSettled, unread_page}
