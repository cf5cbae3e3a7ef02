-- A frame that needs a page and gets none is refused.
use Rattle.std.proofs.Common.{◌≡◌, ℕ, ◌+◌, ◌≤◌, List, refl, subst, arith}
use Rattle.trace_model.specs.declared.limits.TheConstants.{LINK_FILLS}
use Rattle.trace_model.specs.Packing.{FitsBehind, tail_of}
use Rattle.trace_model.specs.Frames.{Progress, waiting, Phase, idle, Frame, crowded, worn}
use Rattle.trace_model.specs.Ring.{Core}
use Rattle.trace_model.specs.Steps.{steps, Answer, refused, NeedsPage, Step}
use Rattle.trace_model.proofs.steps.EventSteps.{top_step}
use Rattle.trace_model.proofs.steps.StepCases.{ReserveStep, reserves, finds_nothing, is_crowded, is_worn, notes}
use Rattle.trace_model.proofs.steps.StepCases.{IdleStep, FrameStep}
use Rattle.ring_model.specs.AnswerLaws.{IsInNeed}

abbrev pub Due : ℕ → Core → Answer → Type 0
Due n c answer =
    (c.opened ≡ c.done + n → answer ≡ refused crowded)
    × ((c.opened ≡ c.done + n → ⊥) → LINK_FILLS ≤ c.opened + n → answer ≡ refused worn)

due_reserve : (n size : ℕ) (c : Core) (frame : Frame) (below : List Frame) (answer : Answer) (after : Core)
    → NeedsPage size c frame.kind → ReserveStep n size c frame below answer after → Due n c answer
due_reserve n size c frame below answer after need (reserves moment len r kind r_is fits a is) =
    absurd (subst (NeedsPage size c) kind need (subst (FitsBehind size (tail_of c.history)) r_is fits))
due_reserve n size c frame below answer after need (finds_nothing kind none a is) =
    absurd (subst (NeedsPage size c) kind need none)
due_reserve n size c frame below answer after need (is_crowded needs full a is) = (λ _. a, λ room _. absurd (room full))
due_reserve n size c frame below answer after need (is_worn needs room last a is) =
    (λ full. absurd (room full), λ _ _. a)
due_reserve n size c frame below answer after need (notes needs room small a is) =
    (λ full. absurd (room full), λ _ last. absurd (omega arith))

due_frame : (n size : ℕ) (c : Core) (frame : Frame) (below : List Frame) (phase : Phase) (answer : Answer)
    (after : Core) → phase ≡ idle → frame.state ≡ waiting → NeedsPage size c frame.kind
    → FrameStep n size c frame below phase answer after → Due n c answer
due_frame n size c frame below phase answer after about waits need step =
    due_reserve n size c frame below answer after need
    (subst (λ (s : Progress). IdleStep n size c frame below s answer after) waits
    (subst (λ (p : Phase). FrameStep n size c frame below p answer after) about step))

pub refusals_due : (n size : ℕ) (c : Core) (answer : Answer) (after : Core) → Step n size c steps answer after
    → IsInNeed n size c → Due n c answer
refusals_due n size c answer after step need =
    due_frame n size c need.top need.below need.top.phase answer after need.about need.waits need.needs
    (top_step need.top need.below need.top.phase need.is_top refl step)
