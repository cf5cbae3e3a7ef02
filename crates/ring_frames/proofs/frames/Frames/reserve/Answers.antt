use Rattle.std.proofs.Common.{◌≡◌, ◌≢◌, List, [], ◌∷◌, refl, sym, ap, ◌∙◌, subst}
use Rattle.std.specs.Prelude.{Result, Ok, Err}
use Rattle.nested_writer.specs.declared.fault.WriteFault.{WriteFault}
use Rattle.nested_writer.specs.declared.stack.allot.Allot.{Allot}
use Rattle.nested_writer.specs.declared.frame.Slot.{Slot}
use Rattle.nested_writer.specs.declared.frame.Frame.{Frame}
use Rattle.nested_writer.specs.Calls.{LacksSlot}
use Rattle.nested_writer.specs.Allotted.{IsAllotted}
use Rattle.nested_writer.specs.Answered.{IsAllotAnswer}
use Rattle.ring_frames.specs.declared.phase.Phase.TheVariants.{Idle}
use Rattle.ring_frames.specs.Value.{FramesValue}
use Rattle.ring_frames.specs.Inside.{frames_in}
use Rattle.ring_frames.specs.AreFrames.{AreFrames, HasFrames}
use Rattle.ring_frames.specs.Steps.{IsFrames}
use Rattle.ring_frames.proofs.Closing.{through_may_end, has_no_events}
use Rattle.ring_frames.proofs.Reserves.{page_noted, refused, fits_slot, fits_close, nothing_found}
use Rattle.ring_frames.specs.Answers.{KeepsPayloads}
use Rattle.ring_frames.proofs.Payloads.{allotted_kept, ended_kept, kept_then, zeros_reserved}
use Rattle.nested_writer.specs.IsStack.{IsReachedStack}
use Rattle.ring_frames.proofs.frames.Frames.reserve.Goals as goal

-- there is a frame, and this one is on top
some_top : (frames : List Frame) → frames ≢ [] → (top : Frame) × (rest : List Frame) × (frames ≡ top ∷ rest)
some_top [] none = absurd (none refl)
some_top (top ∷ rest) none = (top, rest, refl)

not_both : (fault : WriteFault) (slot : Slot) → ◌≡◌ {A = Result Slot WriteFault} (Err fault) (Ok slot) → ⊥
not_both fault slot e = cc

pub returns-in-Ok-clause-step : goal.returns-in-Ok-clause-step
returns-in-Ok-clause-step c = λ n size start s reached now.
    let v : FramesValue = frames_in c.self.inside in
    let core : HasFrames n size start v s =
    record {
      reached = reached;
      are = subst (λ (x : FramesValue). AreFrames n size start x s) (sym c.self.view_is) now;
    } in
    let (top, rest, is) =
    some_top v.stack.frames
    (λ none. c.requires.top (ap (λ (x : FramesValue). x.stack.frames) (sym c.self.view_is) ∙ none)) in
    fits_slot n size start v s core (ap (λ (x : FramesValue). x.phase) c.self.view_is ∙ c.requires.phase) top rest is
    c.in-Ok-Fits.field-0-0 c.in-Ok-Fits.field-0-0 c.allot.new.self c.in-Ok.slot
    (subst (λ (a : Allot). IsAllotAnswer v.stack s.history v.stack.frames (Ok a)) c.in-Ok-Fits.field-0-is
    (c.in-Ok-Fits.ensures.answered start s.history core.are.stack_is))
    (subst (λ (a : Allot). IsAllotted v.stack v.stack.frames (Ok a) c.allot.new.self) c.in-Ok-Fits.field-0-is
    c.in-Ok-Fits.ensures.after)
    c.in-Ok.ensures.slot

pub end_close-requires : goal.end_close-requires
unfolding IsReachedStack
end_close-requires c =
    let v : FramesValue = frames_in c.self.inside in
    let (n, size, start, s, core) = subst IsFrames (sym c.self.view_is) c.requires.frames in
    let (top, rest, is) =
    some_top v.stack.frames
    (λ none. c.requires.top (ap (λ (x : FramesValue). x.stack.frames) (sym c.self.view_is) ∙ none)) in
    let closing =
    fits_close n size start v s core (ap (λ (x : FramesValue). x.phase) c.self.view_is ∙ c.requires.phase) top rest
    is c.in-Ok-Fits.field-0-0 c.allot.new.self
    (subst (λ (a : Allot). IsAllotAnswer v.stack s.history v.stack.frames (Ok a)) c.in-Ok-Fits.field-0-is
    (c.in-Ok-Fits.ensures.answered start s.history core.are.stack_is))
    (subst (λ (a : Allot). IsAllotted v.stack v.stack.frames (Ok a) c.allot.new.self) c.in-Ok-Fits.field-0-is
    c.in-Ok-Fits.ensures.after)
    (λ slot at. not_both c.in-Err-top_slot.field-0 slot (c.in-Err-top_slot.ensures.found slot at)) in
    record {
      stack = (
        start,
        s.history,
        has_no_events start s.history v.stack c.allot.new.self
            closing.through.1 core.are.stack_is,
      );
      through = through_may_end v.stack top rest _ c.allot.new.self closing.through.0;
    }

pub returns-in-Err-top_slot-clause-step : goal.returns-in-Err-top_slot-clause-step
returns-in-Err-top_slot-clause-step c = λ n size start s reached now.
    let v : FramesValue = frames_in c.self.inside in
    let core : HasFrames n size start v s =
    record {
      reached = reached;
      are = subst (λ (x : FramesValue). AreFrames n size start x s) (sym c.self.view_is) now;
    } in
    let resting : v.phase ≡ Idle = ap (λ (x : FramesValue). x.phase) c.self.view_is ∙ c.requires.phase in
    let (top, rest, is) =
    some_top v.stack.frames
    (λ none. c.requires.top (ap (λ (x : FramesValue). x.stack.frames) (sym c.self.view_is) ∙ none)) in
    let closing = fits_close n size start v s core resting top rest is c.in-Ok-Fits.field-0-0 c.allot.new.self
    (subst (λ (a : Allot). IsAllotAnswer v.stack s.history v.stack.frames (Ok a)) c.in-Ok-Fits.field-0-is
    (c.in-Ok-Fits.ensures.answered start s.history core.are.stack_is))
    (subst (λ (a : Allot). IsAllotted v.stack v.stack.frames (Ok a) c.allot.new.self) c.in-Ok-Fits.field-0-is
    c.in-Ok-Fits.ensures.after)
    (λ slot at. not_both c.in-Err-top_slot.field-0 slot (c.in-Err-top_slot.ensures.found slot at)) in
    rw (c.answer.ensures, c.end_close.ensures.answer, c.end_close.ensures.phase)
    (nothing_found n size start v s core resting top rest is c.allot.new.self c.end_close.new.self.stack closing
    c.end_close.ensures.left)

pub returns-in-Ok-NeedsPage-clause-step : goal.returns-in-Ok-NeedsPage-clause-step
returns-in-Ok-NeedsPage-clause-step c = λ n size start s reached now.
    let v : FramesValue = frames_in c.self.inside in
    let core : HasFrames n size start v s =
    record {
      reached = reached;
      are = subst (λ (x : FramesValue). AreFrames n size start x s) (sym c.self.view_is) now;
    } in
    let (top, rest, is) =
    some_top v.stack.frames
    (λ none. c.requires.top (ap (λ (x : FramesValue). x.stack.frames) (sym c.self.view_is) ∙ none)) in
    rw c.set.ensures
    (page_noted n size start v s core (ap (λ (x : FramesValue). x.phase) c.self.view_is ∙ c.requires.phase) top rest is
    c.allot.new.self c.opened-noted.result
    (subst (λ (a : Allot). IsAllotAnswer v.stack s.history v.stack.frames (Ok a)) c.in-Ok-NeedsPage.field-0-is
    (c.in-Ok-NeedsPage.ensures.answered start s.history core.are.stack_is))
    (subst (λ (a : Allot). IsAllotted v.stack v.stack.frames (Ok a) c.allot.new.self) c.in-Ok-NeedsPage.field-0-is
    c.in-Ok-NeedsPage.ensures.after)
    c.opened-noted.ensures.begun)

pub returns-in-Err-clause-step : goal.returns-in-Err-clause-step
returns-in-Err-clause-step c = λ n size start s reached now.
    let v : FramesValue = frames_in c.self.inside in
    let core : HasFrames n size start v s =
    record {
      reached = reached;
      are = subst (λ (x : FramesValue). AreFrames n size start x s) (sym c.self.view_is) now;
    } in
    let (top, rest, is) =
    some_top v.stack.frames
    (λ none. c.requires.top (ap (λ (x : FramesValue). x.stack.frames) (sym c.self.view_is) ∙ none)) in
    rw c.pop_phase.ensures.phase
    (refused n size start v s core (ap (λ (x : FramesValue). x.phase) c.self.view_is ∙ c.requires.phase) top rest is
    c.in-Err.fault c.allot.new.self (c.in-Err.ensures.answered start s.history core.are.stack_is)
    c.in-Err.ensures.after)

-- ---- payloads

pub returns-in-Ok-clause-payloads : goal.returns-in-Ok-clause-payloads
returns-in-Ok-clause-payloads c =
    let v : FramesValue = frames_in c.self.inside in
    let (n, size, start, s, core) = subst IsFrames (sym c.self.view_is) c.requires.frames in
    subst (λ (x : FramesValue). KeepsPayloads x.stack c.allot.new.self) c.self.view_is
    (allotted_kept start s.history v.stack c.allot.new.self _ core.are.stack_is
    (c.in-Ok-Fits.ensures.answered start s.history core.are.stack_is) c.in-Ok-Fits.ensures.after)

pub returns-in-Ok-NeedsPage-clause-payloads : goal.returns-in-Ok-NeedsPage-clause-payloads
returns-in-Ok-NeedsPage-clause-payloads c =
    let v : FramesValue = frames_in c.self.inside in
    let (n, size, start, s, core) = subst IsFrames (sym c.self.view_is) c.requires.frames in
    subst (λ (x : FramesValue). KeepsPayloads x.stack c.allot.new.self) c.self.view_is
    (allotted_kept start s.history v.stack c.allot.new.self _ core.are.stack_is
    (c.in-Ok-NeedsPage.ensures.answered start s.history core.are.stack_is) c.in-Ok-NeedsPage.ensures.after)

pub returns-in-Err-clause-payloads : goal.returns-in-Err-clause-payloads
returns-in-Err-clause-payloads c =
    let v : FramesValue = frames_in c.self.inside in
    let (n, size, start, s, core) = subst IsFrames (sym c.self.view_is) c.requires.frames in
    rw c.pop_phase.ensures.phase
    (subst (λ (x : FramesValue). KeepsPayloads x.stack c.allot.new.self) c.self.view_is
    (allotted_kept start s.history v.stack c.allot.new.self _ core.are.stack_is
    (c.in-Err.ensures.answered start s.history core.are.stack_is) c.in-Err.ensures.after))

pub returns-in-Ok-clause-zeros : goal.returns-in-Ok-clause-zeros
returns-in-Ok-clause-zeros c = λ number slot is lacks on_top.
    let v : FramesValue = frames_in c.self.inside in
    let (n, size, start, s, core) = subst IsFrames (sym c.self.view_is) c.requires.frames in
    zeros_reserved start s.history v.stack c.allot.new.self c.in-Ok-Fits.field-0-0 core.are.stack_is
    (subst (λ (a : Allot). IsAllotted v.stack v.stack.frames (Ok a) c.allot.new.self) c.in-Ok-Fits.field-0-is
    c.in-Ok-Fits.ensures.after)
    (subst (λ (x : FramesValue). LacksSlot x.stack.frames) (sym c.self.view_is) lacks) slot on_top

pub returns-in-Err-top_slot-clause-payloads : goal.returns-in-Err-top_slot-clause-payloads
returns-in-Err-top_slot-clause-payloads c =
    let v : FramesValue = frames_in c.self.inside in
    let (n, size, start, s, core) = subst IsFrames (sym c.self.view_is) c.requires.frames in
    subst (λ (x : FramesValue). KeepsPayloads x.stack c.end_close.new.self.stack) c.self.view_is
    (kept_then v.stack c.allot.new.self c.end_close.new.self.stack
    (allotted_kept start s.history v.stack c.allot.new.self _ core.are.stack_is
    (c.in-Ok-Fits.ensures.answered start s.history core.are.stack_is) c.in-Ok-Fits.ensures.after)
    (ended_kept c.allot.new.self c.end_close.new.self.stack c.end_close.ensures.left
    (λ slot at. not_both c.in-Err-top_slot.field-0 slot (c.in-Err-top_slot.ensures.found slot at))))
