-- A frame that is alone on the stack: what it is refused, as statements. docs/formats/ring.md, "Writer frames".
use Rattle.std.specs.Prelude.{◌≡◌, ◌≢◌, ℕ, ◌+◌, ◌≤◌, ⊤, List, [], ◌∷◌, length}
use Rattle.trace_model.specs.declared.limits.TheConstants.{LINK_FILLS}
use Rattle.trace_model.specs.History.{reserved_records}
use Rattle.trace_model.specs.Frames.{Purpose, for_record, for_close, crowded, worn}
use Rattle.trace_model.specs.Ring.{Core}
use Rattle.trace_model.specs.Steps.{Event, pushes, pushes_close, Answer, pushed, refused, Step, Exchange}
use Rattle.ring_model.specs.AnswerLaws.{IsInNeed}
use Rattle.line_model.specs.WriterCalls.{LineWriting, IsWriterCall, TopCalls}

-- A frame is refused as crowded or as worn only if it is about to reserve and needs a page.
abbrev pub RefusedFramesNeedPages : Type 0
RefusedFramesNeedPages = (n size : ℕ) (c : Core) (event : Event) (answer : Answer) (after : Core)
    → Step n size c event answer after
    → (answer ≡ refused crowded → IsInNeed n size c)
    × (answer ≡ refused worn → IsInNeed n size c)

-- the push of a frame of this kind
abbrev pub push_of : Purpose → Event
push_of (for_record moment len) = pushes moment len
push_of for_close = pushes_close

-- After this number of records, a call isn't refused as crowded, and it is refused as worn only if the records have
-- taken the numbers of fills.
abbrev pub IsServed : (n start records : ℕ) → Exchange → Type 0
IsServed n start records x =
    (x.answer ≢ refused crowded)
    × (x.answer ≡ refused worn → LINK_FILLS ≤ start + records + n)

abbrev pub AreServed : (n start records : ℕ) → List Exchange → Type 0
AreServed n start records [] = ⊤
AreServed n start records (x ∷ calls) = IsServed n start records x × AreServed n start records calls

-- All calls for a frame that was pushed on an empty stack, and above which none is pushed, are served.
abbrev pub SingleFramesAreServed : Type 0
SingleFramesAreServed = (n size start : ℕ) (kind : Purpose) (payload : List ℕ) (s u : LineWriting)
    (calls : List Exchange) (t : LineWriting) (lefts : List (List ℕ))
    → s.frames ≡ []
    → IsWriterCall n size start s record { event = push_of kind; answer = pushed } u
    → TopCalls n size start 0 u (payload ∷ []) calls t lefts
    → AreServed n start (length (reserved_records s.history)) calls
