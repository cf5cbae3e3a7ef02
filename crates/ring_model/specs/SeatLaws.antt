-- The laws of a ring's two seats, as statements: each is a clause of a function of src/laws/seats.rt.
use Rattle.std.specs.Prelude.{ℕ, List}
use Rattle.trace_model.specs.Ring.{Core}
use Rattle.trace_model.specs.Steps.{Event, Answer, Step, Exchange}
use Rattle.ring_model.specs.RingKept.{IsRingKept}
use Rattle.ring_model.specs.Seats.{IsOfReader, ReaderPart, seen_by, WriterPart, written_by, OpenPagesHold}
use Rattle.ring_model.specs.Seats.{OtherPagesHold, WriterStays, ReaderStays, IsPrivate, PrivateRun, WordsStay}

-- a step of the writer is the same whatever the reader's part is: it reads nothing of that
abbrev pub WriterReadsNoReader : Type 0
WriterReadsNoReader = (n size : ℕ) (c : Core) (event : Event) (answer : Answer) (after : Core) (part : ReaderPart)
    → (IsOfReader event → ⊥)
    → Step n size c event answer after
    → Step n size (seen_by part c) event answer (seen_by part after)

-- and it leaves that as it is
abbrev pub WriterLeavesReader : Type 0
WriterLeavesReader = (n size : ℕ) (c : Core) (event : Event) (answer : Answer) (after : Core)
    → (IsOfReader event → ⊥)
    → Step n size c event answer after
    → ReaderStays c after

-- a step of the reader leaves the writer's part, and the words that the writer alone stores, as they are
abbrev pub ReaderLeavesWriter : Type 0
ReaderLeavesWriter = (n size : ℕ) (c : Core) (event : Event) (answer : Answer) (after : Core)
    → IsOfReader event
    → Step n size c event answer after
    → WriterStays c after

-- a step of the reader is the same whatever the writer's part is
abbrev pub ReaderReadsNoWriter : Type 0
ReaderReadsNoWriter = (n size : ℕ) (c : Core) (event : Event) (answer : Answer) (after : Core) (part : WriterPart)
    → IsOfReader event
    → Step n size c event answer after
    → Step n size (written_by part c) event answer (written_by part after)

-- and it leaves the pages that the writer holds as they are
abbrev pub ReaderLeavesOpenPages : Type 0
ReaderLeavesOpenPages = (n size start : ℕ) (c : Core) (event : Event) (answer : Answer) (after : Core)
    → IsRingKept n size start c
    → IsOfReader event
    → Step n size c event answer after
    → OpenPagesHold c after

-- a private step touches no word
abbrev pub PrivateTouchesNoWord : Type 0
PrivateTouchesNoWord = (n size : ℕ) (c : Core) (event : Event) (answer : Answer) (after : Core)
    → IsPrivate c event
    → Step n size c event answer after
    → WordsStay c after

-- and no page but the writer's own
abbrev pub PrivateLeavesOtherPages : Type 0
PrivateLeavesOtherPages = (n size start : ℕ) (c : Core) (event : Event) (answer : Answer) (after : Core)
    → IsRingKept n size start c
    → IsPrivate c event
    → Step n size c event answer after
    → OtherPagesHold c after

-- Private steps and a step of the reader commute: from where both may be made, each leads on by the other's answers
-- to one and the same state.
abbrev pub PrivateCommutes : Type 0
PrivateCommutes = (n size start : ℕ) (c aside : Core) (exchanges : List Exchange)
    (event : Event) (answer : Answer) (after : Core)
    → IsRingKept n size start c
    → PrivateRun n size c exchanges aside
    → IsOfReader event
    → Step n size c event answer after
    → (both : Core) × PrivateRun n size after exchanges both × Step n size aside event answer both
