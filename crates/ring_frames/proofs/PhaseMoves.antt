-- The frame on top goes on in another phase, for the fill that it noted.
use Rattle.std.proofs.Common.{◌≡◌, ℕ, List, [], ◌∷◌, Some, refl, sym, ap, ◌∙◌}
use Rattle.trace_model.specs.Frames as model
use Rattle.trace_model.specs.Frames.{Frame, noted_fill}
use Rattle.ring_model.proofs.links.FramePhases.{none_some}
use Rattle.nested_writer.specs.declared.frame.Purpose.{Purpose}
use Rattle.nested_writer.specs.declared.frame.Purpose.TheVariants.{Record, Close}
use Rattle.nested_writer.specs.declared.frame.Progress.{Progress}
use Rattle.nested_writer.specs.declared.frame.Progress.TheVariants.{Waiting, Through, Reserved, Left}
use Rattle.nested_writer.specs.declared.frame.Frame as stack
use Rattle.ring_frames.specs.declared.phase.Phase.{Phase}
use Rattle.ring_frames.specs.Value.{FramesValue, phase_of}
use Rattle.ring_frames.specs.AreFrames.{frames_in_phases, NotedAlike, AreNotedAlike}
use Rattle.ring_frames.specs.Steps.{GoesOnIn, IsNotedIn}

abbrev in_place : model.Phase → List Frame → List Frame
in_place phase [] = []
in_place phase (frame ∷ below) = record frame { phase = phase } ∷ below

rephased : (frames : List stack.Frame) (from to : Phase) (below : List Phase)
    → in_place (phase_of to) (frames_in_phases frames (from ∷ below)) ≡ frames_in_phases frames (to ∷ below)
rephased [] from to below = refl
rephased (f ∷ frames) from to below = refl

-- what is noted stays alike
noted_so : (purpose : Purpose) (progress : Progress) (from to : Phase) (o : ℕ) → noted_fill (phase_of from) ≡ Some o
    → noted_fill (phase_of to) ≡ Some o → NotedAlike purpose progress from → NotedAlike purpose progress to
noted_so purpose (Through noted) from to o was is alike = alike
noted_so purpose (Reserved slot) from to o was is alike =
    absurd (none_some (sym (ap (λ (p : Phase). noted_fill (phase_of p)) alike) ∙ was))
noted_so (Record moment len) (Waiting noted) from to o was is alike = λ o' e. alike o' (was ∙ sym is ∙ e)
noted_so Close (Waiting noted) from to o was is alike = alike ∙ was ∙ sym is
noted_so purpose (Left noted) from to o was is alike = λ o' e. alike o' (was ∙ sym is ∙ e)

noted_alike : (frames : List stack.Frame) (from to : Phase) (below : List Phase) (o : ℕ)
    → noted_fill (phase_of from) ≡ Some o → noted_fill (phase_of to) ≡ Some o → AreNotedAlike frames (from ∷ below)
    → AreNotedAlike frames (to ∷ below)
noted_alike [] from to below o was is alike = tt
noted_alike (f ∷ frames) from to below o was is alike =
    (noted_so f.purpose f.progress from to o was is alike.0, alike.1)

pub goes_on : (v : FramesValue) (to : Phase) (noted : ℕ) → IsNotedIn v.phase to noted
    → GoesOnIn v to (record v { phase = to })
goes_on v to noted is = λ n size start c frame below k top. record {
  pages_is = k.pages_is;
  size_is = k.size_is;
  stack_is = k.stack_is;
  done_is = k.done_is;
  opened_is = k.opened_is;
  frames_are = ap (in_place (phase_of to)) (sym top ∙ k.frames_are) ∙ rephased v.stack.frames v.phase to v.below;
  below_are = k.below_are;
  noted = noted_alike v.stack.frames v.phase to v.below noted is.before is.behind k.noted;
}
