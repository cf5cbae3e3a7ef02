-- A frame that leaves the stack.
use Rattle.std.proofs.Common.{◌≡◌, ◌≢◌, ℕ, ◌+◌, ◌<◌, ◌≤◌, Bool, true, false, cond, eqb, List, [], ◌∷◌, ◌++◌, length}
use Rattle.std.proofs.Common.{map, Option, Some, None, refl, sym, ap, ◌∙◌, subst, arith}
use Rattle.trace_model.specs.History.{leave}
use Rattle.trace_model.specs.Frames.{left, releasing, wishing, noted_fill, Frame as ModelFrame}
use Rattle.trace_model.specs.Ring.{Core}
use Rattle.trace_model.specs.Steps as model
use Rattle.ring_model.proofs.links.FramePhases.{none_some}
use Rattle.nested_writer.specs.declared.frame.Purpose.{Purpose}
use Rattle.nested_writer.specs.declared.frame.Purpose.TheVariants.{Record, Close}
use Rattle.nested_writer.specs.declared.frame.Progress.TheVariants.{Left}
use Rattle.nested_writer.specs.declared.frame.Frame.{Frame}
use Rattle.nested_writer.specs.Stack.{Stack, opened, kind_of, state_of}
use Rattle.nested_writer.specs.Calls.{frames_after_leave, after_leave}
use Rattle.nested_writer.specs.IsStack.{IsStack}
use Rattle.ring_frames.specs.declared.phase.Phase.{Phase}
use Rattle.ring_frames.specs.declared.phase.Phase.TheVariants.{Releasing, Wishing}
use Rattle.ring_frames.specs.Phases.{closing_phase, phase_after_leave, below_after_leave, left_answer, with_left_phase}
use Rattle.ring_frames.specs.Value.{FramesValue, phase_of}
use Rattle.ring_frames.specs.AreFrames.{frames_in_phases, AreBelow, NotedAlike, AreNotedAlike, AreFrames}
use Rattle.ring_frames.specs.Answers.{IsAnswerOf}
use Rattle.ring_frames.proofs.Reshown.{reshown}

-- ---- the phase of a frame that has left

phase_by : (b : Bool) → phase_of (cond b Wishing Releasing) ≡ cond b wishing releasing
phase_by true = refl
phase_by false = refl

-- the model's phase of a frame that has left
pub closing_is : (s : Stack) (c : Core) → c.done ≡ s.done → c.opened ≡ opened s
    → phase_of (closing_phase s) ≡ model.closing_phase c
closing_is s c done begun =
    phase_by (eqb (s.done + 1) (opened s)) ∙ (λ i. cond (eqb (sym done i + 1) (sym begun i)) wishing releasing)

notes_by : (b : Bool) (o : ℕ) → noted_fill (phase_of (cond b Wishing Releasing)) ≡ Some o → ⊥
notes_by true o is = none_some is
notes_by false o is = none_some is

-- it has noted no fill
pub closing_notes : (s : Stack) (o : ℕ) → noted_fill (phase_of (closing_phase s)) ≡ Some o → ⊥
closing_notes s o is = notes_by (eqb (s.done + 1) (opened s)) o is

pub left_notes : (s : Stack) (purpose : Purpose) (noted : Option ℕ) → NotedAlike purpose (Left noted) (closing_phase s)
left_notes s (Record moment len) noted = λ o is. absurd (closing_notes s o is)
left_notes s Close noted = λ o is. absurd (closing_notes s o is)

-- ---- frames

pub top_is : (a b : ModelFrame) (xs ys : List ModelFrame) → a ∷ xs ≡ b ∷ ys → (a ≡ b) × (xs ≡ ys)
top_is a b xs ys e = (cc, cc)

-- the frame on top of the model's is that of the stack's
pub tops_are : (v : FramesValue) (c : Core) (n size start : ℕ) (top : Frame) (frames : List Frame) (frame : ModelFrame)
    (below : List ModelFrame) → AreFrames n size start v c → v.stack.frames ≡ top ∷ frames
    → c.frames ≡ frame ∷ below
    → (frame ≡ record { kind = kind_of top.purpose; state = state_of top.progress; phase = phase_of v.phase })
    × (below ≡ frames_in_phases frames v.below) × (length v.below ≡ length frames)
tops_are v c n size start top frames frame below k stack_is model_is =
    let both =
    top_is frame record { kind = kind_of top.purpose; state = state_of top.progress; phase = phase_of v.phase }
    below (frames_in_phases frames v.below)
    (sym model_is ∙ k.frames_are
    ∙ ap (λ (fs : List Frame). frames_in_phases fs (v.phase ∷ v.below)) stack_is) in
    (both.0, both.1, subst (λ (fs : List Frame). AreBelow fs v.below) stack_is k.below_are)

left_frames : (c : Core) (s : Stack) (frame : ModelFrame) (top : Frame) (frames : List Frame) (phases : List Phase)
    → frame.kind ≡ kind_of top.purpose → phase_of (closing_phase s) ≡ model.closing_phase c
    → length phases ≡ length frames
    → model.frames_after_leave c frame (frames_in_phases frames phases)
    ≡ frames_in_phases (frames_after_leave top frames) (phase_after_leave s phases ∷ below_after_leave phases)
left_frames c s frame top [] [] kind closing same =
    (λ i. let f : ModelFrame = record { kind = kind i; state = left; phase = sym closing i } in f ∷ [])
left_frames c s frame top [] (p ∷ phases) kind closing same = absurd (omega (arith, same))
left_frames c s frame top (g ∷ frames) [] kind closing same = absurd (omega (arith, same))
left_frames c s frame top (g ∷ frames) (p ∷ phases) kind closing same = refl

left_below : (top : Frame) (frames : List Frame) (phases : List Phase) → length phases ≡ length frames
    → AreBelow (frames_after_leave top frames) (below_after_leave phases)
left_below top [] [] same = refl
left_below top [] (p ∷ phases) same = absurd (omega (arith, same))
left_below top (g ∷ frames) [] same = absurd (omega (arith, same))
left_below top (g ∷ frames) (p ∷ phases) same = omega (arith, same)

left_noted : (s : Stack) (phase : Phase) (top : Frame) (frames : List Frame) (phases : List Phase)
    → length phases ≡ length frames → AreNotedAlike (top ∷ frames) (phase ∷ phases)
    → AreNotedAlike (frames_after_leave top frames) (phase_after_leave s phases ∷ below_after_leave phases)
left_noted s phase top [] [] same noted = (left_notes s top.purpose None, tt)
left_noted s phase top [] (p ∷ phases) same noted = absurd (omega (arith, same))
left_noted s phase top (g ∷ frames) [] same noted = absurd (omega (arith, same))
left_noted s phase top (g ∷ frames) (p ∷ phases) same noted = noted.1

answer_for : (size : ℕ) (frames : List Frame) (phases : List Phase) → length phases ≡ length frames
    → IsAnswerOf size (left_answer phases) (model.leave_answer (frames_in_phases frames phases))
answer_for size [] [] same = refl
answer_for size [] (p ∷ phases) same = absurd (omega (arith, same))
answer_for size (g ∷ frames) [] same = absurd (omega (arith, same))
answer_for size (g ∷ frames) (p ∷ phases) same = refl

-- what a leave answers
pub leave_reported : (size : ℕ) (frames : List Frame) (phases : List Phase) (below : List ModelFrame)
    → below ≡ frames_in_phases frames phases → length phases ≡ length frames
    → IsAnswerOf size (left_answer phases) (model.leave_answer below)
leave_reported size frames phases below is same =
    subst (λ (fs : List ModelFrame). IsAnswerOf size (left_answer phases) (model.leave_answer fs)) (sym is)
    (answer_for size frames phases same)

-- ---- the ring

-- what a leave makes of the value, if its stack is this one afterwards
abbrev pub left_value : FramesValue → Stack → FramesValue
left_value v stack = with_left_phase (record v { stack = stack })

pub left_shown : (n size start : ℕ) (v : FramesValue) (c : Core) (top : Frame) (frames : List Frame)
    (frame : ModelFrame) (below : List ModelFrame) (payload : Option (List ℕ)) → AreFrames n size start v c
    → v.stack.frames ≡ top ∷ frames → c.frames ≡ frame ∷ below
    → IsStack start (c.history ++ leave payload ∷ []) (after_leave v.stack top frames)
    → AreFrames n size start (left_value v (after_leave v.stack top frames)) (model.after_leave c frame below payload)
left_shown n size start v c top frames frame below payload k stack_is model_is kept =
    let (frame_is, below_is, same) = tops_are v c n size start top frames frame below k stack_is model_is in
    let s : Stack = after_leave v.stack top frames in
    reshown n size start v c s (phase_after_leave s v.below) (below_after_leave v.below)
    (model.frames_after_leave c frame below) (c.history ++ leave payload ∷ [])
    (map (model.held_with_payload (model.own_number frame.kind frame.state) payload) c.held) k record {
      pages_is = refl;
      size_is = refl;
      done_is = refl;
      opened_is = refl;
      stack_is = kept;
      frames_are = ap (model.frames_after_leave c frame) below_is
          ∙ left_frames c s frame top frames v.below (ap (λ (f : ModelFrame). f.kind) frame_is)
          (closing_is s c k.done_is k.opened_is) same;
      below_are = left_below top frames v.below same;
      noted =
          left_noted s v.phase top frames v.below same
          (subst (λ (fs : List Frame). AreNotedAlike fs (v.phase ∷ v.below)) stack_is k.noted);
    }

-- a frame without a record leaves
pub left_without : (n size start : ℕ) (v : FramesValue) (c : Core) (top : Frame) (frames : List Frame)
    (frame : ModelFrame) (below : List ModelFrame) (stack : Stack) → AreFrames n size start v c
    → v.stack.frames ≡ top ∷ frames → c.frames ≡ frame ∷ below
    → stack ≡ after_leave v.stack top frames
    → IsStack start (c.history ++ leave None ∷ []) stack
    → AreFrames n size start (left_value v stack) (model.after_leave c frame below None)
left_without n size start v c top frames frame below stack k stack_is model_is is kept =
    subst (λ (s : Stack). AreFrames n size start (left_value v s) (model.after_leave c frame below None)) (sym is)
    (left_shown n size start v c top frames frame below None k stack_is model_is
    (subst (IsStack start (c.history ++ leave None ∷ [])) is kept))

-- ---- a frame that is alone

-- no phase is kept below that of a frame that is alone
pub none_below : (frames : List Frame) (below : List Phase) → AreBelow frames below → length frames ≤ 1 → below ≡ []
none_below [] below same few = same
none_below (top ∷ frames) [] same few = refl
none_below (top ∷ frames) (p ∷ below) same few = absurd (omega (arith, same, few))

pub some_below : (frames : List Frame) (below : List Phase) → AreBelow frames below → 1 < length frames → below ≢ []
some_below [] below same many none = absurd (omega (arith, many))
some_below (top ∷ frames) below same many none = let e = ap (length {A = Phase}) none in
    absurd (omega (arith, same, many, e))

-- the value with this stack, whose bottom frame is the one that left
abbrev pub closing_value : FramesValue → Stack → FramesValue
closing_value v stack = record v { stack = stack; phase = closing_phase stack }

-- a frame that is alone stays
pub left_alone : (v : FramesValue) (stack : Stack) → v.below ≡ [] → left_value v stack ≡ closing_value v stack
left_alone v stack none =
    ap
    (λ (below : List Phase). let x : FramesValue =
    record { stack = stack; phase = phase_after_leave stack below; below = below_after_leave below } in
    x) none
    ∙ ap
    (λ (below : List Phase). let x : FramesValue =
    record { stack = stack; phase = closing_phase stack; below = below } in
    x) (sym none)
