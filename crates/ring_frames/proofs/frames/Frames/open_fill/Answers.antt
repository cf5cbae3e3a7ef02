use Rattle.std.proofs.Common.{◌≡◌, ◌≢◌, ℕ, [], sym, subst, arith}
use Rattle.trace_model.specs.Steps.{with_new_tail}
use Rattle.nested_writer.specs.Stack.{opened, next_number}
use Rattle.ring_frames.specs.declared.phase.Phase.TheVariants.{Opening}
use Rattle.ring_frames.specs.Value.{FramesValue}
use Rattle.ring_frames.specs.Inside.{frames_in}
use Rattle.ring_frames.specs.Steps.{IsFrames}
use Rattle.ring_frames.specs.Fills.{OpensFill}
use Rattle.ring_frames.specs.Phases.{as_answer}
use Rattle.ring_frames.proofs.Beginning.{noted_in, may_begin, begun, one_more}
use Rattle.ring_frames.specs.Answers.{KeepsPayloads}
use Rattle.ring_frames.proofs.Payloads.{added_kept, kept_then}
use Rattle.ring_frames.proofs.frames.Frames.open_fill.Goals as goal

-- the frame on top is about to begin the next fill
abbrev IsOpening : FramesValue → Type 0
IsOpening v = (page : ℕ) × (v.phase ≡ Opening (opened v.stack) page)

pub add_page-requires-clause-room : goal.add_page-requires-clause-room
add_page-requires-clause-room c =
    let (page, is) = subst IsOpening (sym c.self.view_is) c.requires.phase in
    (may_begin (frames_in c.self.inside) page (subst IsFrames (sym c.self.view_is) c.requires.frames)
    (subst (λ (x : FramesValue). x.stack.frames ≢ []) (sym c.self.view_is) c.requires.top) is).0

pub add_page-requires-clause-fills : goal.add_page-requires-clause-fills
add_page-requires-clause-fills c =
    let (page, is) = subst IsOpening (sym c.self.view_is) c.requires.phase in
    (may_begin (frames_in c.self.inside) page (subst IsFrames (sym c.self.view_is) c.requires.frames)
    (subst (λ (x : FramesValue). x.stack.frames ≢ []) (sym c.self.view_is) c.requires.top) is).1

pub begin_again-requires-clause-shown : goal.begin_again-requires-clause-shown
begin_again-requires-clause-shown c =
    let v : FramesValue = frames_in c.self.inside in
    let (n, size, start, m, core) = subst IsFrames (sym c.self.view_is) c.requires.frames in (
      n,
      size,
      start,
      with_new_tail m 0,
      begun n size start v m 0 c.add_page.new.self (next_number v.stack) core.are c.add_page.ensures.page
          c.add_page.ensures.stack,
    )

pub begin_again-requires-clause-passed : goal.begin_again-requires-clause-passed
begin_again-requires-clause-passed c =
    let v : FramesValue = frames_in c.self.inside in
    let (page, is) = subst IsOpening (sym c.self.view_is) c.requires.phase in
    let more = one_more v c.add_page.new.self (next_number v.stack) c.add_page.ensures.page in
    (opened v.stack, noted_in v.phase (opened v.stack) page is, λ e. omega arith)

pub returns-clause-opens : goal.returns-clause-opens
returns-clause-opens c =
    let v : FramesValue = frames_in c.self.inside in
    subst (λ (x : FramesValue). OpensFill x (as_answer c.begin_again.result) c.begin_again.new.self) c.self.view_is
    (λ n size start page m frame below are top.
    c.begin_again.ensures.again n size start (with_new_tail m page) frame below
    (begun n size start v m page c.add_page.new.self (next_number v.stack) are c.add_page.ensures.page
    c.add_page.ensures.stack) top)

pub returns-clause-payloads : goal.returns-clause-payloads
returns-clause-payloads c =
    let v : FramesValue = frames_in c.self.inside in
    let (n, size, start, m, core) = subst IsFrames (sym c.self.view_is) c.requires.frames in
    subst (λ (x : FramesValue). KeepsPayloads x.stack c.begin_again.new.self.stack) c.self.view_is
    (kept_then v.stack c.add_page.new.self c.begin_again.new.self.stack
    (added_kept start m.history v.stack core.are.stack_is c.add_page.new.self c.add_page.ensures.page)
    c.begin_again.ensures.payloads)
