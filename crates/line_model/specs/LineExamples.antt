-- Examples of lines and of the histories that they make.
use Rattle.std.specs.Prelude.{◌≡◌, ℕ, List, [], ◌∷◌, Some}
use Rattle.trace_model.specs.History.{push, reserve, leave}
use Rattle.text_model.specs.Script.{begin_frame, step_frame, finish_frame, write, close}
use Rattle.line_model.specs.Lines.{IsMadeByLines}
use Rattle.line_model.specs.WrittenRecords.{records_of_lines}

-- a `w` line: its push, its reservation, and its leave with the payload
abbrev pub OneWrite : Type 0
OneWrite = IsMadeByLines 2 32 0 (write 0 7 (1 ∷ 2 ∷ 3 ∷ 4 ∷ []) ∷ [])
    (push 7 4 ∷ reserve ∷ leave (Some (1 ∷ 2 ∷ 3 ∷ 4 ∷ [])) ∷ [])

-- a `b` line whose record is too long makes nothing
abbrev pub RefusedBegin : List ℕ → Type 0
RefusedBegin payload = IsMadeByLines 2 32 0 (begin_frame 0 7 payload ∷ []) []

-- two `b` lines, the second one nested in the first, and two `f` lines: the nested record is reserved first
abbrev pub NestedFrames : Type 0
NestedFrames = IsMadeByLines 2 32 0
    (begin_frame 0 7 (1 ∷ 2 ∷ 3 ∷ 4 ∷ []) ∷ begin_frame 0 9 (5 ∷ 6 ∷ 7 ∷ 8 ∷ []) ∷ finish_frame 0 ∷ finish_frame 0 ∷ [])
    (push 7 4 ∷ push 9 4
    ∷ reserve ∷ leave (Some (5 ∷ 6 ∷ 7 ∷ 8 ∷ []))
    ∷ reserve ∷ leave (Some (1 ∷ 2 ∷ 3 ∷ 4 ∷ [])) ∷ [])

-- a `w` line whose record is dropped isn't of this definition
abbrev pub DroppedWrite : Type 0
DroppedWrite = IsMadeByLines 2 32 0 (write 0 7 (1 ∷ 2 ∷ 3 ∷ 4 ∷ []) ∷ []) []

-- The records of three `w` lines, with a `c` line after the first: the second one's moment is raised, and the third one
-- is too long.
abbrev pub RecordsOfThree : List ℕ → Type 0
RecordsOfThree payload =
    records_of_lines 32 0 (write 0 7 (1 ∷ 2 ∷ 3 ∷ 4 ∷ []) ∷ close 0 ∷ write 0 5 (5 ∷ []) ∷ write 0 9 payload ∷ [])
    ≡ record { moment = 7; bytes = 1 ∷ 2 ∷ 3 ∷ 4 ∷ [] } ∷ record { moment = 7; bytes = 5 ∷ 0 ∷ 0 ∷ 0 ∷ [] } ∷ []

-- `b`, then `s 2`: both steps, the reservation and the leave
abbrev pub BeginAndSteps : Type 0
BeginAndSteps = IsMadeByLines 2 32 0 (begin_frame 0 7 (1 ∷ 2 ∷ 3 ∷ 4 ∷ []) ∷ step_frame 0 2 ∷ [])
    (push 7 4 ∷ reserve ∷ leave (Some (1 ∷ 2 ∷ 3 ∷ 4 ∷ [])) ∷ [])
