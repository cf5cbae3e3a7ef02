-- What a push and an end make of the frames of a ring.
use Rattle.std.specs.Prelude.{None, Some, Option}
use Rattle.std.proofs.Common.{◌≡◌, ℕ, ◌⊎◌, List, [], ◌∷◌, length, refl, sym, ap, ◌∙◌, subst, inl, inr, arith}
use Rattle.trace_model.specs.Frames.{for_record, waiting, reserved, number_of, WriteFault, Frame}
use Rattle.trace_model.specs.Ring.{Core}
use Rattle.trace_model.specs.Steps.{pushes, ends, Answer, pushed, refused}
use Rattle.trace_model.specs.Steps.{frames_after_leave, end_answer}
use Rattle.trace_model.proofs.steps.StepCases.{StepCases, push_step, push_refused, close_step, close_refused}
use Rattle.trace_model.proofs.steps.StepCases.{frame_step, frame_lacks, end_step, end_lacks, end_early, read_step}
use Rattle.trace_model.proofs.steps.StepCases.{store_wish_step}
use Rattle.trace_model.proofs.steps.EventKinds.{IsEnds, IsPushes}

-- ---- a push

-- a frame for the record is on top of those that were on the stack
pub record IsPushed (moment len : ℕ) (answer : Answer) (before after : List Frame) : Type 0 where
  pub frame : Frame
  pub top : after ≡ frame ∷ before
  pub kind_is : frame.kind ≡ for_record moment len
  pub state_is : frame.state ≡ waiting
  pub answer_is : answer ≡ pushed

pub push_answers : (n size : ℕ) (c : Core) (moment len : ℕ) (answer : Answer) (after : Core)
    → StepCases n size c (pushes moment len) answer after
    → IsPushed moment len answer c.frames after.frames ⊎ ((why : WriteFault) × (answer ≡ refused why) × (after ≡ c))
push_answers n size c moment len answer after (push_step m l e few short early a is) =
    inl
    record {
      frame = _;
      top = ap (λ (d : Core). d.frames) is;
      kind_is =
          (let same : for_record m l ≡ for_record moment len =
          (let events : pushes moment len ≡ pushes m l = e in cc) in
          same);
      state_is = refl;
      answer_is = a;
    }
push_answers n size c moment len answer after (push_refused m l why e why_not a is) = inr (why, a, is)
push_answers n size c moment len answer after (close_step e few a is) = absurd (subst IsPushes e tt)
push_answers n size c moment len answer after (close_refused e many a is) = absurd (subst IsPushes e tt)
push_answers n size c moment len answer after (frame_step frame below e top step) = absurd (subst IsPushes e tt)
push_answers n size c moment len answer after (frame_lacks e none a is) = absurd (subst IsPushes e tt)
push_answers n size c moment len answer after (end_step payload frame below number m l e top at kind fits a is) =
    absurd (subst IsPushes e tt)
push_answers n size c moment len answer after (end_lacks payload e none a is) = absurd (subst IsPushes e tt)
push_answers n size c moment len answer after (end_early payload frame below e top none a is) =
    absurd (subst IsPushes e tt)
push_answers n size c moment len answer after (read_step e step) = absurd (subst IsPushes e tt)
push_answers n size c moment len answer after (store_wish_step e a is) = absurd (subst IsPushes e tt)

-- ---- an end

-- the frame leaves
pub record HasEnded (c : Core) (frame : Frame) (below : List Frame) (answer : Answer) (after : List Frame) : Type 0
  where
    pub answer_is : answer ≡ end_answer below
    pub frames_are : after ≡ frames_after_leave c frame below

abbrev first_of : Frame → List Frame → Frame
first_of frame [] = frame
first_of frame (first ∷ others) = first

abbrev others_of : List Frame → List Frame
others_of [] = []
others_of (first ∷ others) = others

module _ (n size : ℕ) (c : Core) (payload : List ℕ) (frame : Frame) (below : List Frame) (number : ℕ) (answer : Answer)
    (after : Core) (on_top : c.frames ≡ frame ∷ below) (has : frame.state ≡ reserved number) where
  same_end : (other : Frame) (others : List Frame) → c.frames ≡ other ∷ others → answer ≡ end_answer others
      → after.frames ≡ frames_after_leave c other others → HasEnded c frame below answer after.frames
  same_end other others top a is =
      let same : other ∷ others ≡ frame ∷ below = sym top ∙ on_top in record {
        answer_is = a ∙ ap (λ (fs : List Frame). end_answer (others_of fs)) same;
        frames_are = is ∙ ap (λ (fs : List Frame). frames_after_leave c (first_of frame fs) (others_of fs)) same;
      }

  pub end_answers : StepCases n size c (ends payload) answer after → HasEnded c frame below answer after.frames
  end_answers (push_step m l e few short early a is) = absurd (subst IsEnds e tt)
  end_answers (push_refused m l why e why_not a is) = absurd (subst IsEnds e tt)
  end_answers (close_step e few a is) = absurd (subst IsEnds e tt)
  end_answers (close_refused e many a is) = absurd (subst IsEnds e tt)
  end_answers (frame_step f b e top step) = absurd (subst IsEnds e tt)
  end_answers (frame_lacks e none a is) = absurd (subst IsEnds e tt)
  end_answers (end_step p f b k m l e top at kind fits a is) = same_end f b top a (ap (λ (d : Core). d.frames) is)
  end_answers (end_lacks p e none a is) = let z = ap (length {A = Frame}) (sym none ∙ on_top) in absurd (omega arith)
  end_answers (end_early p f b e top none a is) =
      let state : f.state ≡ frame.state = ap (λ (fs : List Frame). (first_of frame fs).state) (sym top ∙ on_top) in
      let numbered : ◌≡◌ {A = Option ℕ} None (Some number) = sym none ∙ ap number_of (state ∙ has) in absurd (cc)
  end_answers (read_step e step) = absurd (subst IsEnds e tt)
  end_answers (store_wish_step e a is) = absurd (subst IsEnds e tt)
