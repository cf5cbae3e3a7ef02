-- The frame on top in another phase; and one that begins again.
use Rattle.std.proofs.Common.{◌≡◌, ℕ, List, [], ◌∷◌, Option, Some, refl, sym, ap, ◌∙◌, subst}
use Rattle.trace_model.specs.Frames.{for_record, for_close, waiting, left, Phase as ModelPhase, idle}
use Rattle.trace_model.specs.Frames.{Frame as ModelFrame}
use Rattle.trace_model.specs.Frames as frames_model
use Rattle.trace_model.specs.Ring.{Core}
use Rattle.trace_model.specs.Steps as model
use Rattle.ring_model.proofs.links.FramePhases.{none_some}
use Rattle.nested_writer.specs.declared.frame.Purpose.{Purpose}
use Rattle.nested_writer.specs.declared.frame.Purpose.TheVariants.{Record, Close}
use Rattle.nested_writer.specs.declared.frame.Progress.{Progress}
use Rattle.nested_writer.specs.declared.frame.Progress.TheVariants.{Waiting, Through, Reserved, Left}
use Rattle.nested_writer.specs.declared.frame.Frame.{Frame}
use Rattle.nested_writer.specs.Stack.{kind_of, state_of}
use Rattle.nested_writer.specs.Calls.{top_of}
use Rattle.ring_frames.specs.declared.answer.Answer.{Answer}
use Rattle.ring_frames.specs.declared.answer.Answer.TheVariants.{Going}
use Rattle.ring_frames.specs.declared.phase.Phase.{Phase}
use Rattle.ring_frames.specs.declared.phase.Phase.TheVariants.{Idle}
use Rattle.ring_frames.specs.Phases.{closing_phase}
use Rattle.ring_frames.specs.Value.{FramesValue, phase_of}
use Rattle.ring_frames.specs.AreFrames.{frames_in_phases, NotedAlike, AreNotedAlike, AreFrames}
use Rattle.ring_frames.specs.Answers.{IsAnswerOf}
use Rattle.ring_frames.specs.Steps.{LeavesWithout, BeginsAgain}
use Rattle.ring_frames.proofs.Reshown.{reshown}
use Rattle.ring_frames.proofs.Left.{tops_are, closing_is, left_notes}

-- the frame on top is in this phase, which is that of the model
pub rephased : (n size start : ℕ) (v : FramesValue) (c : Core) (top : Frame) (frames : List Frame) (frame : ModelFrame)
    (below : List ModelFrame) (phase : Phase) (in_model : ModelPhase) → AreFrames n size start v c
    → v.stack.frames ≡ top ∷ frames → c.frames ≡ frame ∷ below
    → phase_of phase ≡ in_model
    → NotedAlike top.purpose top.progress phase
    → AreFrames n size start (record v { phase = phase }) (model.in_phase c frame below in_model)
rephased n size start v c top frames frame below phase in_model k stack_is model_is phase_is alike =
    let (frame_is, below_is, same) = tops_are v c n size start top frames frame below k stack_is model_is in
    reshown n size start v c v.stack phase v.below (record frame { phase = in_model } ∷ below) c.history c.held k
    record {
      pages_is = refl;
      size_is = refl;
      done_is = refl;
      opened_is = refl;
      stack_is = k.stack_is;
      frames_are =
          (λ i. record (frame_is i) { phase = sym phase_is i } ∷ below_is i)
          ∙ ap (λ (fs : List Frame). frames_in_phases fs (phase ∷ v.below)) (sym stack_is);
      below_are = k.below_are;
      noted =
          subst (λ (fs : List Frame). AreNotedAlike fs (phase ∷ v.below)) (sym stack_is)
          (alike, (subst (λ (fs : List Frame). AreNotedAlike fs (v.phase ∷ v.below)) stack_is k.noted).1);
    }

-- ---- beginning again, by what the frame is

-- what beginning again makes of a frame
abbrev Again : (n size start : ℕ) (c : Core) (kind : frames_model.Purpose) (state : frames_model.Progress)
    (frame : ModelFrame) (below : List ModelFrame) → Answer → FramesValue → Type 0
Again n size start c kind state frame below result new =
    IsAnswerOf size result (model.begin_answer kind state below)
    × AreFrames n size start new (model.after_begin kind state c frame below)

again_left : (n size start : ℕ) (c : Core) (kind : frames_model.Purpose) (frame : ModelFrame) (below : List ModelFrame)
    (new : FramesValue) → AreFrames n size start new (model.in_phase c frame below (model.closing_phase c))
    → Again n size start c kind left frame below Going new
again_left n size start c (for_record moment len) frame below new k = (refl, k)
again_left n size start c for_close frame below new k = (refl, k)

again_idle : (n size start : ℕ) (c : Core) (purpose : Purpose) (progress : Progress) (frame : ModelFrame)
    (below : List ModelFrame) (new : FramesValue)
    → (((noted : Option ℕ) → purpose ≡ Close → progress ≡ Waiting noted → ⊥))
    → ((noted : Option ℕ) → progress ≡ Left noted → ⊥) → ((noted : ℕ) → progress ≡ Through noted → ⊥)
    → AreFrames n size start new (model.in_phase c frame below idle)
    → Again n size start c (kind_of purpose) (state_of progress) frame below Going new
again_idle n size start c (Record moment len) (Waiting noted) frame below new close gone through k = (refl, k)
again_idle n size start c Close (Waiting noted) frame below new close gone through k = absurd (close noted refl refl)
again_idle n size start c purpose (Through noted) frame below new close gone through k = absurd (through noted refl)
again_idle n size start c (Record moment len) (Reserved slot) frame below new close gone through k = (refl, k)
again_idle n size start c Close (Reserved slot) frame below new close gone through k = (refl, k)
again_idle n size start c purpose (Left noted) frame below new close gone through k = absurd (gone noted refl)

-- the frame of the model is what that of the stack is
reported_of : (n size start : ℕ) (v : FramesValue) (c : Core) (top : Frame) (frames : List Frame) (frame : ModelFrame)
    (below : List ModelFrame) (result : Answer) (new : FramesValue) → AreFrames n size start v c
    → v.stack.frames ≡ top ∷ frames → c.frames ≡ frame ∷ below
    → Again n size start c (kind_of top.purpose) (state_of top.progress) frame below result new
    → Again n size start c frame.kind frame.state frame below result new
reported_of n size start v c top frames frame below result new k stack_is model_is again =
    let (frame_is, below_is, same) = tops_are v c n size start top frames frame below k stack_is model_is in
    subst (λ (f : ModelFrame). Again n size start c f.kind f.state frame below result new) (sym frame_is) again

pub closes_again : (v : FramesValue) (top : Frame) (frames : List Frame) (noted : Option ℕ) (result : Answer)
    (new : FramesValue) → v.stack.frames ≡ top ∷ frames → top.purpose ≡ Close → top.progress ≡ Waiting noted
    → LeavesWithout v result new → BeginsAgain v result new
closes_again v top frames noted result new stack_is close waits leaves = λ n size start c frame below k model_is.
    reported_of n size start v c top frames frame below result new k stack_is model_is
    (subst (λ (p : Progress). Again n size start c (kind_of top.purpose) (state_of p) frame below result new)
    (sym waits)
    (subst (λ (p : Purpose). Again n size start c (kind_of p) waiting frame below result new) (sym close)
    (leaves n size start c frame below k model_is)))

pub leaver_again : (v : FramesValue) (top : Frame) (frames : List Frame) (noted : Option ℕ) (phase : Phase)
    → v.stack.frames ≡ top ∷ frames → top.progress ≡ Left noted → phase ≡ closing_phase v.stack
    → BeginsAgain v Going (record v { phase = phase })
leaver_again v top frames noted phase stack_is has phase_is = λ n size start c frame below k model_is.
    let alike : NotedAlike top.purpose top.progress phase =
    subst (λ (p : Progress). NotedAlike top.purpose p phase) (sym has)
    (subst (NotedAlike top.purpose (Left noted)) (sym phase_is) (left_notes v.stack top.purpose noted)) in
    reported_of n size start v c top frames frame below Going (record v { phase = phase }) k stack_is model_is
    (subst
    (λ (p : Progress).
    Again n size start c (kind_of top.purpose) (state_of p) frame below Going (record v { phase = phase }))
    (sym has)
    (again_left n size start c (kind_of top.purpose) frame below (record v { phase = phase })
    (rephased n size start v c top frames frame below phase (model.closing_phase c) k stack_is model_is
    (ap phase_of phase_is ∙ closing_is v.stack c k.done_is k.opened_is) alike)))

-- a frame that has noted nothing
rests : (purpose : Purpose) (progress : Progress) (phase : Phase) → NotedAlike purpose progress phase
    → ((noted : Option ℕ) → purpose ≡ Close → progress ≡ Waiting noted → ⊥) → NotedAlike purpose progress Idle
rests (Record moment len) (Waiting noted) phase alike close = λ o is. absurd (none_some is)
rests Close (Waiting noted) phase alike close = absurd (close noted refl refl)
rests (Record moment len) (Through noted) phase alike close = alike
rests Close (Through noted) phase alike close = alike
rests (Record moment len) (Reserved slot) phase alike close = refl
rests Close (Reserved slot) phase alike close = refl
rests (Record moment len) (Left noted) phase alike close = λ o is. absurd (none_some is)
rests Close (Left noted) phase alike close = λ o is. absurd (none_some is)

stays_not : (purpose : Purpose) (progress : Progress) (phase : Phase) → NotedAlike purpose progress phase → (noted : ℕ)
    → progress ≡ Through noted → ⊥
stays_not (Record moment len) progress phase alike noted is =
    subst (λ (p : Progress). NotedAlike (Record moment len) p phase) is alike
stays_not Close progress phase alike noted is = subst (λ (p : Progress). NotedAlike Close p phase) is alike

pub tries_again : (v : FramesValue) (top : Frame) (frames : List Frame) → v.stack.frames ≡ top ∷ frames
    → ((noted : Option ℕ) → top.purpose ≡ Close → top.progress ≡ Waiting noted → ⊥)
    → ((noted : Option ℕ) → top.progress ≡ Left noted → ⊥) → BeginsAgain v Going (record v { phase = Idle })
tries_again v top frames stack_is close gone = λ n size start c frame below k model_is.
    let alike = (subst (λ (fs : List Frame). AreNotedAlike fs (v.phase ∷ v.below)) stack_is k.noted).0 in
    reported_of n size start v c top frames frame below Going (record v { phase = Idle }) k stack_is model_is
    (again_idle n size start c top.purpose top.progress frame below (record v { phase = Idle }) close gone
    (stays_not top.purpose top.progress v.phase alike)
    (rephased n size start v c top frames frame below Idle idle k stack_is model_is refl
    (rests top.purpose top.progress v.phase alike close)))

-- ---- the frame on top, as the stack holds it

pub top_from : (frames : List Frame) (top : Frame) → Some top ≡ top_of frames
    → (below : List Frame) × (frames ≡ top ∷ below)
top_from [] top is = absurd (none_some (sym is))
top_from (f ∷ below) top is = (below, ap (λ (g : Frame). g ∷ below) (sym (same_frame top f is)))
  where
    same_frame : (one other : Frame) → Some one ≡ Some other → one ≡ other
    same_frame one other e = cc
