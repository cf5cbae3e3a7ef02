-- The laws of lines, as statements: the calls of a writer for a line make the line's part of the history.
use Rattle.std.specs.Prelude.{◌≡◌, ℕ, suc, ◌<◌, ◌≤◌, ◌⊎◌, ⊤, List, [], ◌∷◌, ◌++◌, length}
use Rattle.trace_model.specs.History.{push}
use Rattle.trace_model.specs.Frames.{for_record, Frame, WriteFault}
use Rattle.trace_model.specs.Window.{RingEvent, acts}
use Rattle.trace_model.specs.Steps.{Answer, pushes, pushes_close, pushed, refused, Exchange}
use Rattle.text_model.specs.Script.{Command, begin_frame, write, close}
use Rattle.world_model.specs.Lanes.{event_on_top, payloads_left}
use Rattle.line_model.specs.Lines.{LineState, first_state, FinishPart, LinePart, LineParts, FinishParts, IsMadeByLines}
use Rattle.line_model.specs.WriterCalls.{LineWriting, first_writer, IsWriterCall, TopCalls, FinishCalls, LineCalls}
use Rattle.line_model.specs.WriterCalls.{LinesCalls, RestCalls, IsReachedByLines}
use Rattle.line_model.specs.CallEvents.{Agrees}

-- ---- single calls

-- Calls for the top frame until it is popped are a part as of `f`.
abbrev pub CallsFinish : Type 0
CallsFinish = (n size start depth : ℕ) (s : LineWriting) (payloads : List (List ℕ)) (calls : List Exchange)
    (t : LineWriting) (lefts : List (List ℕ)) (p : LineState)
    → Agrees n p payloads s
    → length s.frames ≡ suc depth
    → TopCalls n size start depth s payloads calls t lefts
    → length t.frames < suc depth
    → (events : List RingEvent) × (behind : LineState) × FinishPart n size p events behind × Agrees n behind lefts t

-- A push that isn't refused is the part of a `b` line. If it is refused, there is no event, which is the part of a `b`
-- and of a `w` line.
abbrev pub PushMakes : (n size cpu moment : ℕ) → List ℕ → Answer → LineWriting → List (List ℕ) → LineState → Type 0
PushMakes n size cpu moment payload answer u payloads p =
    ((answer ≡ pushed)
    × (behind : LineState)
    × LinePart n size (begin_frame cpu moment payload) p (acts (push moment (length payload)) ∷ []) behind
    × Agrees n behind (payload ∷ payloads) u)
    ⊎ ((why : WriteFault)
    × (answer ≡ refused why)
    × LinePart n size (begin_frame cpu moment payload) p [] p
    × LinePart n size (write cpu moment payload) p [] p
    × Agrees n p payloads u)

-- What a push makes.
abbrev pub PushesMake : Type 0
PushesMake = (n size start cpu moment : ℕ) (payload : List ℕ) (answer : Answer) (s u : LineWriting)
    (payloads : List (List ℕ)) (p : LineState)
    → Agrees n p payloads s
    → IsWriterCall n size start s record { event = pushes moment (length payload); answer = answer } u
    → PushMakes n size cpu moment payload answer u payloads p

-- A push, and calls until its frame is popped, are the part of a `w` line.
abbrev pub WritesMake : Type 0
WritesMake = (n size start cpu moment : ℕ) (payload : List ℕ) (s u : LineWriting) (payloads : List (List ℕ))
    (calls : List Exchange) (t : LineWriting) (lefts : List (List ℕ)) (p : LineState)
    → Agrees n p payloads s
    → IsWriterCall n size start s record { event = pushes moment (length payload); answer = pushed } u
    → TopCalls n size start (length s.frames) u (payload ∷ payloads) calls t lefts
    → length t.frames ≤ length s.frames
    → (events : List RingEvent) × (behind : LineState)
    × LinePart n size (write cpu moment payload) p events behind
    × Agrees n behind lefts t

-- A close frame's push, and calls until it is popped, are the part of a `c` line; if it is refused, there is no event.
abbrev pub ClosesMake : Type 0
ClosesMake = (n size start cpu : ℕ) (answer : Answer) (s u : LineWriting) (payloads : List (List ℕ))
    (calls : List Exchange) (t : LineWriting) (lefts : List (List ℕ)) (p : LineState)
    → Agrees n p payloads s
    → IsWriterCall n size start s record { event = pushes_close; answer = answer } u
    → (answer ≡ pushed
    → TopCalls n size start (length s.frames) u ([] ∷ payloads) calls t lefts
    → length t.frames ≤ length s.frames
    → (events : List RingEvent) × (behind : LineState)
    × LinePart n size (close cpu) p events behind
    × Agrees n behind lefts t)
    × ((why : WriteFault) → answer ≡ refused why → LinePart n size (close cpu) p [] p × Agrees n p payloads u)

-- ---- lines

-- all frames are record frames
abbrev pub AreForRecords : List Frame → Type 0
AreForRecords [] = ⊤
AreForRecords (frame ∷ below) = ((moment : ℕ) × (len : ℕ) × (frame.kind ≡ for_record moment len)) × AreForRecords below

-- Between two lines the state is that of the writer, and no close frame is on the stack: `c` finishes its frame.
pub record IsBetweenLines (n : ℕ) (p : LineState) (payloads : List (List ℕ)) (s : LineWriting) : Type 0 where
  pub agrees : Agrees n p payloads s
  pub for_records : AreForRecords s.frames

-- The first state is that of a new ring.
abbrev pub StartIsBetweenLines : Type 0
StartIsBetweenLines = (n start : ℕ)
    → 1 ≤ n
    → IsBetweenLines n (first_state start) [] (first_writer start)

-- The calls of a line make its part.
abbrev pub LineCallsMake : Type 0
LineCallsMake = (n size start : ℕ) (line : Command) (s : LineWriting) (payloads : List (List ℕ)) (made : List Exchange)
    (t : LineWriting) (lefts : List (List ℕ)) (p : LineState)
    → IsBetweenLines n p payloads s
    → LineCalls n size start line s payloads made t lefts
    → (events : List RingEvent) × (q : LineState) × LinePart n size line p events q × IsBetweenLines n q lefts t

-- The calls of lines make their parts.
abbrev pub LinesCallsMake : Type 0
LinesCallsMake = (n size start : ℕ) (lines : List Command) (s : LineWriting) (payloads : List (List ℕ))
    (made : List Exchange) (t : LineWriting) (lefts : List (List ℕ)) (p : LineState)
    → IsBetweenLines n p payloads s
    → LinesCalls n size start lines s payloads made t lefts
    → (events : List RingEvent) × (q : LineState) × LineParts n size lines p events q × IsBetweenLines n q lefts t

-- The frames that are left at the end are finished by parts as of `f`.
abbrev pub RestCallsMake : Type 0
RestCallsMake = (n size start count : ℕ) (s : LineWriting) (payloads : List (List ℕ)) (made : List Exchange)
    (t : LineWriting) (lefts : List (List ℕ)) (p : LineState)
    → IsBetweenLines n p payloads s
    → RestCalls n size start count s payloads made t lefts
    → (events : List RingEvent) × (q : LineState) × FinishParts n size count p events q × IsBetweenLines n q lefts t

-- One more line after others.
abbrev pub PartsGoOn : Type 0
PartsGoOn = (n size : ℕ) (lines : List Command) (line : Command) (p q t : LineState) (events more : List RingEvent)
    → LineParts n size lines p events q
    → LinePart n size line q more t
    → LineParts n size (lines ++ line ∷ []) p (events ++ more) t

-- One more call for the top frame after others; one more line's calls; and one more frame that is finished at the end.
abbrev pub TopCallsGoOn : Type 0
TopCallsGoOn = (n size start depth : ℕ) (s : LineWriting) (payloads : List (List ℕ)) (calls : List Exchange)
    (t : LineWriting) (lefts : List (List ℕ)) (x : Exchange) (u : LineWriting)
    → TopCalls n size start depth s payloads calls t lefts
    → length t.frames ≡ suc depth
    → x.event ≡ event_on_top t.frames lefts
    → IsWriterCall n size start t x u
    → TopCalls n size start depth s payloads (calls ++ x ∷ []) u (payloads_left u.frames lefts)

abbrev pub LinesCallsGoOn : Type 0
LinesCallsGoOn = (n size start : ℕ) (lines : List Command) (line : Command) (s : LineWriting) (payloads : List (List ℕ))
    (made : List Exchange) (t : LineWriting) (lefts : List (List ℕ)) (more : List Exchange) (u : LineWriting)
    (others : List (List ℕ))
    → LinesCalls n size start lines s payloads made t lefts
    → LineCalls n size start line t lefts more u others
    → LinesCalls n size start (lines ++ line ∷ []) s payloads (made ++ more) u others

abbrev pub RestCallsGoOn : Type 0
RestCallsGoOn = (n size start count : ℕ) (s : LineWriting) (payloads : List (List ℕ)) (made : List Exchange)
    (t : LineWriting) (lefts : List (List ℕ)) (more : List Exchange) (u : LineWriting) (others : List (List ℕ))
    → RestCalls n size start count s payloads made t lefts
    → FinishCalls n size start t lefts more u others
    → RestCalls n size start (suc count) s payloads (made ++ more) u others

-- From a new ring, the calls of lines, and then calls that finish the frames which are left until the stack is empty,
-- make the history of these lines.
abbrev pub WriterMakesLines : Type 0
WriterMakesLines = (n size start : ℕ) (lines : List Command) (last : LineWriting)
    → 1 ≤ n
    → IsReachedByLines n size start lines last
    → last.frames ≡ []
    → IsMadeByLines n size start lines last.history
