-- What a writer's calls promise, each in one word: a call and its rarer cases, which are functions of their own,
-- promise the same.
use Rattle.std.specs.Prelude.{◌≡◌, ◌≢◌, ℕ, List, [], ◌∷◌}
use Rattle.trace_model.specs.declared.numbers.RecordNo.{RecordNo}
use Rattle.trace_model.specs.Frames.{Frame}
use Rattle.ring_model.specs.FrameOutcomes.{IsLeaving}
use Rattle.nested_writer.specs.declared.fault.WriteFault.{WriteFault}
use Rattle.ring_frames.specs.declared.answer.Answer.{Answer}
use Rattle.ring_frames.specs.declared.answer.Answer.TheVariants.{Reserved, Gone, Refused}
use Rattle.ring_frames.specs.declared.phase.Phase.{Phase}
use Rattle.ring_frames.specs.declared.phase.Phase.TheVariants.{LookingNext, Marking}
use Rattle.ring_frames.specs.Answers.{KeepsPayloads, ZerosSlot}
use Rattle.ring_frames.specs.Lens.{IsOneMore, AreOthersLeft}
use Rattle.ring_shared.specs.Value.{WriterValue, SameWriter}
use Rattle.ring_shared.specs.Calls.{IsWriter}
use Rattle.ring_shared.specs.Rooms.{rooms}
use Rattle.ring_shared.specs.Finishing.{Leaves, IsGoneOrRefused}

-- a frame is on the stack of this writer
pub record HasFrame (v : WriterValue) : Type 0 where
  pub writer : IsWriter v
  pub top : v.frames.stack.frames ≢ []

-- the frame on its top moves the head on, to open this fill: it looks at the next link, or sets the HEADER there
abbrev pub MovesHead : Phase → ℕ → Type 0
MovesHead (LookingNext role noted page) fill = noted ≡ fill
MovesHead (Marking role noted page next) fill = noted ≡ fill
MovesHead _ fill = ⊥

-- the frame on its top is one that leaves
pub record HasLeavingTop (v : WriterValue) : Type 0 where
  pub writer : IsWriter v
  pub top : (frame : Frame) × (below : List Frame) × (v.part.frames ≡ frame ∷ below) × IsLeaving frame.kind frame.state

-- What an answer says of the slots: the payloads that aren't ended stay in theirs; the slot that this answer reserves
-- holds only zeros; each frame has the same room if the one on top has reserved; and the room of the top one is gone if
-- that is gone, or if it is refused and others are below it.
pub record KeepsSlots (old : WriterValue) (result : Answer) (new : WriterValue) : Type 0 where
  pub payloads : KeepsPayloads old.frames.stack new.frames.stack
  pub zeros : ZerosSlot old.frames.stack result new.frames.stack
  pub room : (number : RecordNo) → result ≡ Reserved number → rooms new ≡ rooms old
  pub gone : result ≡ Gone → IsOneMore (rooms old) (rooms new)
  pub refused : (fault : WriteFault) → result ≡ Refused fault → AreOthersLeft (rooms old) (rooms new)

-- the end stays the writer's of the same ring, and the payloads stay in their slots
pub record KeepsWriter (old new : WriterValue) : Type 0 where
  pub payloads : KeepsPayloads old.frames.stack new.frames.stack
  pub ring : SameWriter old new
  pub writer : IsWriter new

-- The frame on top makes steps until it is gone, and so it is answered, or the refusal that it met.
pub record LeavesTop (old : WriterValue) (result : Answer) (new : WriterValue) : Type 0 where
  pub leaves : (frame : Frame) (below : List Frame)
      → old.part.frames ≡ frame ∷ below
      → Leaves old.shape below old.part result new.part
  pub gone : IsGoneOrRefused result
  pub payloads : KeepsPayloads old.frames.stack new.frames.stack
  pub ring : SameWriter old new
  pub writer : IsWriter new
