-- A push or an end that is refused changes nothing.
use Rattle.std.proofs.Common.{◌≡◌, ℕ, List, [], ◌∷◌, sym, ◌∙◌, subst}
use Rattle.trace_model.specs.Frames.{WriteFault, Frame}
use Rattle.trace_model.specs.Ring.{Core}
use Rattle.trace_model.specs.Steps as model
use Rattle.trace_model.specs.Steps.{end_answer}
use Rattle.trace_model.proofs.steps.StepCases.{StepCases, push_step, push_refused, close_step, close_refused}
use Rattle.trace_model.proofs.steps.StepCases.{frame_step, frame_lacks, end_step, end_lacks, end_early, read_step}
use Rattle.trace_model.proofs.steps.StepCases.{store_wish_step}

-- a push or an end: not a step of the frame on top, and not the reader's
abbrev pub IsPushOrEnd : model.Event → Type 0
IsPushOrEnd (model.pushes moment len) = Unit {0}
IsPushOrEnd model.pushes_close = Unit {0}
IsPushOrEnd model.steps = ⊥
IsPushOrEnd (model.ends payload) = Unit {0}
IsPushOrEnd model.reads = ⊥
IsPushOrEnd model.wishes = ⊥

end_accepts : (below : List Frame) (why : WriteFault) → end_answer below ≡ model.refused why → ⊥
end_accepts [] why e = let no : model.full ≡ model.refused why = e in cc
end_accepts (next ∷ below) why e = let no : model.pending ≡ model.refused why = e in cc

-- it changes nothing if it is refused
module _ (n size : ℕ) (c : Core) (event : model.Event) (answer : model.Answer) (after : Core) (may : IsPushOrEnd event)
    (why : WriteFault) (refuses : answer ≡ model.refused why) where
  accepted : answer ≡ model.pushed → ⊥
  accepted a = let no : model.pushed ≡ model.refused why = sym a ∙ refuses in cc

  pub same_refused : StepCases n size c event answer after → after ≡ c
  same_refused (push_step m l e few short early a is) = absurd (accepted a)
  same_refused (push_refused m l w e why_not a is) = is
  same_refused (close_step e few a is) = absurd (accepted a)
  same_refused (close_refused e many a is) = is
  same_refused (frame_step frame below e top step) = absurd (subst IsPushOrEnd e may)
  same_refused (frame_lacks e none a is) = is
  same_refused (end_step payload frame below number m l e top at kind fits a is) =
      absurd (end_accepts below why (sym a ∙ refuses))
  same_refused (end_lacks payload e none a is) = is
  same_refused (end_early payload frame below e top none a is) = is
  same_refused (read_step e step) = absurd (subst IsPushOrEnd e may)
  same_refused (store_wish_step e a is) = absurd (subst IsPushOrEnd e may)
