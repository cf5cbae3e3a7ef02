-- The phases of a ring's frames, as frames come and go.
use Rattle.std.specs.Prelude.{ℕ, ◌+◌, ◌==◌, nat_lt, if◌then◌else◌, List, [], ◌∷◌, length}
use Rattle.nested_writer.specs.Stack.{Stack, opened}
use Rattle.ring_frames.specs.declared.answer.Answer.{Answer}
use Rattle.ring_frames.specs.declared.answer.Answer.TheVariants.{Going, Gone}
use Rattle.ring_frames.specs.declared.phase.Phase.{Phase}
use Rattle.ring_frames.specs.declared.phase.Phase.TheVariants.{Idle, Releasing, Wishing}
use Rattle.ring_frames.specs.declared.phase.StepAnswer.{StepAnswer}
use Rattle.ring_frames.specs.declared.phase.StepAnswer.TheVariants as step_answer
use Rattle.ring_frames.specs.Value.{FramesValue}

-- a frame is pushed above those of these phases, the first of which is the top one's
abbrev pub below_after_push : ℕ → Phase → List Phase → List Phase
below_after_push depth top below = if nat_lt 1 depth then top ∷ below else below

abbrev pub with_pushed_phase : FramesValue → FramesValue
with_pushed_phase v = record v {
  phase = Idle;
  below = below_after_push (length v.stack.frames) v.phase v.below;
}

-- a frame that has left closes fills, or if none is left to close looks for a wish
abbrev pub closing_phase : Stack → Phase
closing_phase s = if (s.done + 1) == opened s then Wishing else Releasing

-- the frame on top has left, and the one below it is on top; if there was none below it, it stays
abbrev pub phase_after_leave : Stack → List Phase → Phase
phase_after_leave s [] = closing_phase s
phase_after_leave s (next ∷ below) = next

abbrev pub below_after_leave : List Phase → List Phase
below_after_leave [] = []
below_after_leave (next ∷ below) = below

abbrev pub left_answer : List Phase → Answer
left_answer [] = Going
left_answer (next ∷ below) = Gone

-- the frame on top, which the stack has let go, has left
abbrev pub with_left_phase : FramesValue → FramesValue
with_left_phase v = record v {
  phase = phase_after_leave v.stack v.below;
  below = below_after_leave v.below;
}

-- what a frame's step on a word, or its beginning again, answers, as the ring's answer
abbrev pub as_answer : StepAnswer → Answer
as_answer step_answer.Going = Going
as_answer step_answer.Gone = Gone
