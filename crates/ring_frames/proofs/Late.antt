-- A frame that begins again since another one began a fill: a private step.
use Rattle.std.proofs.Common.{◌≡◌, ◌≢◌, ℕ, List, [], Some, refl, sym, ap, ◌∙◌, subst}
use Rattle.trace_model.specs.Frames.{owner, helper, Phase, idle, looking, claiming, looking_next, marking, clearing}
use Rattle.trace_model.specs.Frames.{opening, releasing, wishing, Frame, noted_fill}
use Rattle.trace_model.specs.Ring.{Core}
use Rattle.trace_model.specs.Steps as model
use Rattle.trace_model.proofs.steps.StepCases as cases
use Rattle.trace_model.proofs.steps.StepIs.{step_by}
use Rattle.ring_model.specs.Seats.{PhaseIsPrivate}
use Rattle.ring_model.proofs.links.FramePhases.{none_some}
use Rattle.nested_writer.specs.Stack.{opened}
use Rattle.ring_frames.specs.declared.answer.Answer.{Answer}
use Rattle.ring_frames.specs.Value.{FramesValue, phase_of}
use Rattle.ring_frames.specs.Steps.{MakesPrivate, BeginsAgain}
use Rattle.ring_frames.proofs.Privately.{privately, top_is_private}
use Rattle.ring_frames.proofs.Tops.{topped}

module _ (n size : ℕ) (c : Core) (frame : Frame) (below : List Frame) where
  abbrev answer_is : model.Answer
  answer_is = model.begin_answer frame.kind frame.state below

  abbrev after_is : Core
  after_is = model.after_begin frame.kind frame.state c frame below

  again : (noted : ℕ) → noted ≢ c.opened → cases.BeginsAgain c frame below noted answer_is after_is
  again noted passed = record { passed = passed; answer_is = refl; after_is = refl }

  late_in : (phase : Phase) (noted : ℕ) → noted_fill phase ≡ Some noted → PhaseIsPrivate phase c.opened
      → cases.FrameStep n size c frame below phase answer_is after_is
  late_in idle noted is own = absurd (none_some is)
  late_in (looking o) noted is own = cases.load_link_late (again o own)
  late_in (claiming o page) noted is own = cases.claim_late (again o own)
  late_in (looking_next owner o page) noted is own = absurd own
  late_in (looking_next helper o page) noted is own = cases.load_next_late refl (again o own)
  late_in (marking owner o page next) noted is own = absurd own
  late_in (marking helper o page next) noted is own = cases.mark_late refl (again o own)
  late_in (clearing o page) noted is own = absurd own
  late_in (opening o page) noted is own = cases.open_late (again o own)
  late_in releasing noted is own = absurd own
  late_in wishing noted is own = absurd own

-- a frame that may begin again in private makes a step by it
pub late_private : (v : FramesValue) (result : Answer) (new : FramesValue) (noted : ℕ) → v.stack.frames ≢ []
    → noted_fill (phase_of v.phase) ≡ Some noted → PhaseIsPrivate (phase_of v.phase) (opened v.stack)
    → BeginsAgain v result new → MakesPrivate v model.steps result new
late_private v result new noted some is own again = λ n size start c reached are.
    let top = topped n size start v c are some in
    let (reports, shows) = again n size start c top.frame top.below are top.is_top in
    let own_phase : PhaseIsPrivate top.frame.phase c.opened =
    subst (λ (o : ℕ). PhaseIsPrivate top.frame.phase o) (sym are.opened_is)
    (subst (λ (p : Phase). PhaseIsPrivate p (opened v.stack)) (sym top.phase_is) own) in
    privately n size start new c model.steps result (model.begin_answer top.frame.kind top.frame.state top.below)
    (model.after_begin top.frame.kind top.frame.state c top.frame top.below)
    (step_by (cases.frame_step top.frame top.below refl top.is_top
    (late_in n size c top.frame top.below top.frame.phase noted (ap noted_fill top.phase_is ∙ is) own_phase)))
    (top_is_private c top.frame top.below top.is_top own_phase) reports shows
