use Rattle.std.proofs.Common.{◌≡◌, ◌≢◌, ℕ, Some, refl, sym, subst}
use Rattle.std.specs.Prelude.{Result, Ok, Err}
use Rattle.nested_writer.specs.declared.fault.WriteFault.{WriteFault}
use Rattle.nested_writer.specs.declared.stack.allot.Allot.{Allot}
use Rattle.nested_writer.specs.declared.stack.allot.Allot.TheVariants.{Fits}
use Rattle.nested_writer.specs.declared.frame.Purpose.TheVariants.{Close}
use Rattle.nested_writer.specs.declared.frame.Progress.TheVariants.{Waiting}
use Rattle.nested_writer.specs.Stack.{opened}
use Rattle.nested_writer.specs.IsStack.{IsReachedStack}
use Rattle.ring_frames.specs.Value.{FramesValue}
use Rattle.ring_frames.specs.Inside.{frames_in}
use Rattle.ring_frames.specs.Steps.{AreSomeFrames, LeavesWithout, IsCloseTop}
use Rattle.ring_frames.specs.Phases.{as_answer}
use Rattle.ring_frames.proofs.Closing.{top_fits, has_no_events, closed_shown}
use Rattle.ring_frames.specs.Answers.{KeepsPayloads}
use Rattle.ring_frames.proofs.Payloads.{allotted_kept, ended_kept, kept_then, through_lacks}
use Rattle.ring_frames.proofs.frames.Frames.leave_closed.Goals as goal

-- a close frame is on top that noted another number of begun fills than there are
abbrev HasPassed : FramesValue → Type 0
HasPassed v = (noted : ℕ) × IsCloseTop v noted × (noted ≢ opened v.stack)

pub end_close-requires-clause-stack : goal.end_close-requires-clause-stack
unfolding IsReachedStack
end_close-requires-clause-stack c =
    let v : FramesValue = frames_in c.self.inside in
    let (n, size, start, s, k) = subst AreSomeFrames (sym c.self.view_is) c.requires.shown in
    let (noted, top, ne) = subst HasPassed (sym c.self.view_is) c.requires.close in
    let (fits, through) =
    top_fits n size start v s noted _ c.allot.new.self k top ne c.in-Ok.ensures.answered c.in-Ok.ensures.after in
    (start, s.history, has_no_events start s.history v.stack c.allot.new.self through.1 k.stack_is)

pub returns-clause-without : goal.returns-clause-without
returns-clause-without c =
    let v : FramesValue = frames_in c.self.inside in
    let (noted, top, ne) = subst HasPassed (sym c.self.view_is) c.requires.close in
    subst (λ (x : FramesValue). LeavesWithout x (as_answer c.end_close.result) c.end_close.new.self) c.self.view_is
    (λ n size start s frame below k model_is.
    let (fits, through) =
    top_fits n size start v s noted _ c.allot.new.self k top ne c.in-Ok.ensures.answered c.in-Ok.ensures.after in
    rw (c.end_close.ensures.answer, c.end_close.ensures.phase)
    (closed_shown n size start v s _ top.0 frame below (Some noted) c.allot.new.self c.end_close.new.self.stack k top.1
    model_is refl through c.end_close.ensures.left))

pub unreachable-requires : goal.unreachable-requires
unreachable-requires c =
    let v : FramesValue = frames_in c.self.inside in
    let (n, size, start, s, k) = subst AreSomeFrames (sym c.self.view_is) c.requires.shown in
    let (noted, top, ne) = subst HasPassed (sym c.self.view_is) c.requires.close in
    let (fits, through) =
    top_fits n size start v s noted _ c.allot.new.self k top ne c.in-Err.ensures.answered c.in-Err.ensures.after in
    absurd (not_both c.in-Err.field-0 (Fits fits.0) fits.1)
  where
    not_both : (fault : WriteFault) (a : Allot) → ◌≡◌ {A = Result Allot WriteFault} (Err fault) (Ok a) → ⊥
    not_both fault a e = cc

pub returns-clause-payloads : goal.returns-clause-payloads
returns-clause-payloads c =
    let v : FramesValue = frames_in c.self.inside in
    let (n, size, start, s, k) = subst AreSomeFrames (sym c.self.view_is) c.requires.shown in
    let (noted, top, ne) = subst HasPassed (sym c.self.view_is) c.requires.close in
    let (fits, through) =
    top_fits n size start v s noted _ c.allot.new.self k top ne c.in-Ok.ensures.answered c.in-Ok.ensures.after in
    subst (λ (x : FramesValue). KeepsPayloads x.stack c.end_close.new.self.stack) c.self.view_is
    (kept_then v.stack c.allot.new.self c.end_close.new.self.stack
    (allotted_kept start s.history v.stack c.allot.new.self _ k.stack_is
    (c.in-Ok.ensures.answered start s.history k.stack_is) c.in-Ok.ensures.after)
    (ended_kept c.allot.new.self c.end_close.new.self.stack c.end_close.ensures.left
    (through_lacks v.stack c.allot.new.self record { purpose = Close; progress = Waiting (Some noted) } top.0 noted
    through.0)))
