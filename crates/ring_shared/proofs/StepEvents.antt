-- What one step of a frame appends to the history, as it goes on, leaves, or has left.
use Rattle.std.proofs.Common.{◌≡◌, ◌≢◌, ℕ, ◌⊎◌, List, [], ◌∷◌, ◌++◌, length, fold, None, refl, sym, ap, ◌∙◌, subst, inl}
use Rattle.std.proofs.Common.{inr, arith, append_assoc, append-nil}
use Rattle.trace_model.specs.History.{HistoryEvent, push, push_close, open_fill, reserve, leave, wished, PushedFrame}
use Rattle.trace_model.specs.History.{close_frame, WriterState, after_event, writer_after}
use Rattle.trace_model.specs.Frames.{Purpose, for_record, for_close, Progress, waiting, reserved, left, Phase, Frame}
use Rattle.trace_model.specs.Frames.{pushed_onto, pushed_frames}
use Rattle.trace_model.specs.Frames as frames_model
use Rattle.trace_model.specs.Ring.{Core}
use Rattle.trace_model.specs.Steps as model
use Rattle.trace_model.proofs.histories.HistoryPrefixes.{writer-append}
use Rattle.ring_model.specs.Appended.{IsRefusedPage, record_reserved, record_refused, record_opens, record_goes_on}
use Rattle.ring_model.specs.Appended.{close_refused, close_opens, close_leaves, close_goes_on, left_opens, left_grants}
use Rattle.ring_model.specs.Appended.{left_stays, FrameAppends, TopAppends}
use Rattle.ring_model.specs.FrameOutcomes.{IsReserving, IsLeaving, Reserving, reserves_on, has_reserved, is_refused}
use Rattle.ring_model.specs.FrameOutcomes.{Leaving, leaves_on, is_gone}
use Rattle.ring_model.proofs.partition.RingsKept.{reached_kept, reached_further}
use Rattle.nested_writer.specs.declared.fault.WriteFault.{WriteFault}
use Rattle.ring_frames.specs.declared.answer.Answer.{Answer}
use Rattle.ring_frames.specs.declared.answer.Answer.TheVariants.{Going, Refused}
use Rattle.ring_frames.specs.Answers.{IsAnswerOf, refusal_of}
use Rattle.ring_steps.specs.declared.rule.Shape.{Shape}
use Rattle.ring_steps.specs.Views.{Writing}
use Rattle.ring_shared.specs.Calls.{IsCall}
use Rattle.ring_shared.specs.Laws.{IsAppended, events_of_refusal}
use Rattle.ring_shared.specs.WholeLaws.{AreFills, AreForReader}
use Rattle.ring_shared.proofs.CallsAppend.{calls_append, refusals_append}
use Rattle.ring_shared.proofs.Finishes.{frames_after, reserving_step, leaving_step}

-- ---- lists of events

-- what events make of a writer's state
abbrev pub has_events : WriterState → List HistoryEvent → WriterState
has_events w events = fold (λ v a. after_event v.stack v.records a) w events

pub fills_then : (w : WriterState) (fills others : List HistoryEvent) → AreFills fills
    → has_events w (fills ++ others) ≡ has_events w others
fills_then w [] others are = refl
fills_then w (push moment len ∷ fills) others are = absurd are
fills_then w (push_close ∷ fills) others are = absurd are
fills_then w (open_fill ∷ fills) others are = fills_then w fills others are
fills_then w (reserve ∷ fills) others are = absurd are
fills_then w (leave payload ∷ fills) others are = absurd are
fills_then w (wished ∷ fills) others are = absurd are

pub fills_keep : (w : WriterState) (fills : List HistoryEvent) → AreFills fills → has_events w fills ≡ w
fills_keep w fills are = ap (has_events w) (sym (append-nil fills)) ∙ fills_then w fills [] are

pub reader_keeps : (w : WriterState) (events : List HistoryEvent) → AreForReader events → has_events w events ≡ w
reader_keeps w [] are = refl
reader_keeps w (push moment len ∷ events) are = absurd are
reader_keeps w (push_close ∷ events) are = absurd are
reader_keeps w (open_fill ∷ events) are = reader_keeps w events are
reader_keeps w (reserve ∷ events) are = absurd are
reader_keeps w (leave payload ∷ events) are = absurd are
reader_keeps w (wished ∷ events) are = reader_keeps w events are

pub fills_joined : (fills more : List HistoryEvent) → AreFills fills → AreFills more → AreFills (fills ++ more)
fills_joined [] more are and = and
fills_joined (push moment len ∷ fills) more are and = absurd are
fills_joined (push_close ∷ fills) more are and = absurd are
fills_joined (open_fill ∷ fills) more are and = fills_joined fills more are and
fills_joined (reserve ∷ fills) more are and = absurd are
fills_joined (leave payload ∷ fills) more are and = absurd are
fills_joined (wished ∷ fills) more are and = absurd are

pub reader_joined : (events more : List HistoryEvent) → AreForReader events → AreForReader more
    → AreForReader (events ++ more)
reader_joined [] more are and = and
reader_joined (push moment len ∷ events) more are and = absurd are
reader_joined (push_close ∷ events) more are and = absurd are
reader_joined (open_fill ∷ events) more are and = reader_joined events more are and
reader_joined (reserve ∷ events) more are and = absurd are
reader_joined (leave payload ∷ events) more are and = absurd are
reader_joined (wished ∷ events) more are and = reader_joined events more are and

-- one list of events after another
pub history_then : (history between after one two : List HistoryEvent) → between ≡ history ++ one
    → after ≡ between ++ two → after ≡ history ++ (one ++ two)
history_then history between after one two is more =
    more ∙ ap (λ (h : List HistoryEvent). h ++ two) is ∙ append_assoc history one two

-- ---- frames

-- a frame that leaves has left, or is a close frame that waits
pub how_leaving : (kind : Purpose) (state : Progress) → IsLeaving kind state
    → (state ≡ left) ⊎ ((kind ≡ for_close) × (state ≡ waiting))
how_leaving (for_record moment len) waiting is = absurd is
how_leaving for_close waiting is = inr (refl, refl)
how_leaving (for_record moment len) (reserved number) is = absurd is
how_leaving for_close (reserved number) is = absurd is
how_leaving (for_record moment len) left is = inl refl
how_leaving for_close left is = inl refl

pub reserving_waits : (kind : Purpose) (state : Progress) → IsReserving kind state → state ≡ waiting
reserving_waits (for_record moment len) waiting is = refl
reserving_waits for_close waiting is = absurd is
reserving_waits (for_record moment len) (reserved number) is = absurd is
reserving_waits for_close (reserved number) is = absurd is
reserving_waits (for_record moment len) left is = absurd is
reserving_waits for_close left is = absurd is

-- no list is longer than itself
not_longer : (f : PushedFrame) (stack : List PushedFrame) → stack ≡ f ∷ stack → ⊥
not_longer f stack e = let same = ap (length {A = PushedFrame}) e in omega arith

-- a frame that has left is none of the pushed ones
left_pushed : (kind : Purpose) (state : Progress) (stack : List PushedFrame) → state ≡ left
    → pushed_onto kind state stack ≡ stack
left_pushed kind state stack e = ap (λ (s : Progress). pushed_onto kind s stack) e

close_pushed : (kind : Purpose) (state : Progress) (stack : List PushedFrame) → kind ≡ for_close → state ≡ waiting
    → pushed_onto kind state stack ≡ close_frame ∷ stack
close_pushed kind state stack k s =
    ap (λ (x : Progress). pushed_onto kind x stack) s ∙ ap (λ (x : Purpose). pushed_onto x waiting stack) k

-- ---- one step

page_not_going : (answer : model.Answer) → answer ≡ model.going → IsRefusedPage answer → ⊥
page_not_going answer reported (inl a) = cc
page_not_going answer reported (inr a) = cc

module _ (n : ℕ) (c : Core) (below : List Frame) (answer : model.Answer) (events : List HistoryEvent) where
  record_going : (kind : Purpose) (state : Progress) (phase : Phase) → IsReserving kind state → answer ≡ model.going
      → FrameAppends n c kind state phase below answer events → AreFills events
  record_going (for_record moment len) waiting phase is reported (record_reserved a e) = absurd (cc)
  record_going (for_record moment len) waiting phase is reported (record_refused a e) =
      absurd (page_not_going answer reported a)
  record_going (for_record moment len) waiting phase is reported (record_opens fill a e) = subst AreFills (sym e) tt
  record_going (for_record moment len) waiting phase is reported (record_goes_on none a e) = subst AreFills (sym e) tt
  record_going for_close waiting phase is reported appends = absurd is
  record_going kind (reserved number) phase is reported appends = absurd is
  record_going kind left phase is reported appends = absurd is

  left_acts : (kind : Purpose) (state : Progress) (phase : Phase) → state ≡ left
      → FrameAppends n c kind state phase below answer events → AreForReader events
  left_acts (for_record moment len) waiting phase s appends = absurd (cc)
  left_acts for_close waiting phase s appends = absurd (cc)
  left_acts kind (reserved number) phase s appends = absurd (cc)
  left_acts kind left phase s (left_opens fill a e) = subst AreForReader (sym e) tt
  left_acts kind left phase s (left_grants wish a e) = subst AreForReader (sym e) tt
  left_acts kind left phase s (left_stays none denied a e) = subst AreForReader (sym e) tt

  close_acts : (kind : Purpose) (state : Progress) (phase : Phase) → kind ≡ for_close → state ≡ waiting
      → FrameAppends n c kind state phase below answer events
      → (events ≡ []) ⊎ ((fills : List HistoryEvent) × AreFills fills × (events ≡ fills ++ leave None ∷ []))
  close_acts (for_record moment len) state phase k s appends = absurd (cc)
  close_acts for_close waiting phase k s (close_refused a e) = inr ([], tt, e)
  close_acts for_close waiting phase k s (close_opens fill a e) = inr (open_fill ∷ [], tt, e)
  close_acts for_close waiting phase k s (close_leaves has a e) = inr ([], tt, e)
  close_acts for_close waiting phase k s (close_goes_on none wants a e) = inl e
  close_acts for_close (reserved number) phase k s appends = absurd (cc)
  close_acts for_close left phase k s appends = absurd (cc)

-- what a step leaves of a frame: it has left and is still there, or is gone
pub data LeftOrGone (below : List Frame) (result : Answer) (after : List Frame) : Type 0 where
  has_left : (next : Frame) → after ≡ next ∷ below → next.state ≡ left → LeftOrGone below result after
  has_gone : result ≢ Going → after ≡ below → LeftOrGone below result after

-- what a step leaves of a close frame: it waits on, and nothing is appended; or it leaves
pub data CloseStep (below : List Frame) (before : Writing) (result : Answer) (after : Writing) : Type 0 where
  waits_on : (next : Frame)
      → after.frames ≡ next ∷ below
      → next.kind ≡ for_close
      → next.state ≡ waiting
      → after.history ≡ before.history
      → CloseStep below before result after
  closes : (fills : List HistoryEvent)
      → AreFills fills
      → after.history ≡ before.history ++ (fills ++ leave None ∷ [])
      → LeftOrGone below result after.frames
      → CloseStep below before result after

module _ (shape : Shape) (before after : Writing) (result : Answer) (frame : Frame) (below : List Frame)
    (top : before.frames ≡ frame ∷ below) (call : IsCall shape before model.steps result after) where
  reported : IsAppended shape before model.steps result after
  reported = calls_append shape before model.steps result after call

  appends : FrameAppends shape.pages reported.core frame.kind frame.state frame.phase below reported.answer
      reported.history_events
  appends =
      subst (λ (fs : List Frame). TopAppends shape.pages reported.core fs reported.answer reported.history_events)
      (ap (λ (w : Writing). w.frames) reported.before_is ∙ top) reported.appends

  stack_before : (writer_after before.history).stack ≡ pushed_onto frame.kind frame.state (pushed_frames below)
  stack_before =
      ap (λ (w : Writing). (writer_after w.history).stack) (sym call.before_is)
      ∙ (reached_kept shape.pages shape.size shape.start call.core call.reached).history.stack
      ∙ ap (λ (w : Writing). pushed_frames w.frames) call.before_is
      ∙ ap pushed_frames top

  stack_after : (writer_after after.history).stack ≡ pushed_frames after.frames
  stack_after =
      ap (λ (w : Writing). (writer_after w.history).stack) (sym call.after_is)
      ∙ (reached_kept shape.pages shape.size shape.start call.next
      (reached_further shape.pages shape.size shape.start call.core model.steps call.answer call.next call.reached
      call.step)).history.stack
      ∙ ap (λ (w : Writing). pushed_frames w.frames) call.after_is

  stack_moved : (writer_after after.history).stack
      ≡ (has_events (writer_after before.history) reported.history_events).stack
  stack_moved =
      ap (λ (h : List HistoryEvent). (writer_after h).stack) reported.history_is
      ∙ ap (λ (w : WriterState). w.stack)
      (writer-append record { stack = []; records = [] } before.history reported.history_events)

  -- a record frame that goes on begins fills at most
  pub going_fills : IsReserving frame.kind frame.state → result ≡ Going
      → (fills : List HistoryEvent) × AreFills fills × (after.history ≡ before.history ++ fills)
  going_fills is going = (
    reported.history_events,
    record_going shape.pages reported.core below reported.answer reported.history_events frame.kind frame.state
        frame.phase is
        (subst (λ (x : Answer). IsAnswerOf shape.size x reported.answer) going reported.reports) appends,
    reported.history_is,
  )

  gone_not_going : (call.answer ≡ model.gone) ⊎ ((why : frames_model.WriteFault) × (call.answer ≡ model.refused why))
      → call.answer ≡ model.going → ⊥
  gone_not_going (inl a) reported = let both : model.gone ≡ model.going = sym a ∙ reported in cc
  gone_not_going (inr (why, a)) reported = let both : model.refused why ≡ model.going = sym a ∙ reported in cc

  -- the frames after it, if the pushed ones are those below
  popped : pushed_frames after.frames ≡ pushed_frames below → Leaving below call.answer call.next.frames
      → LeftOrGone below result after.frames
  popped same (leaves_on next a at leaves) = still (how_leaving next.kind next.state leaves)
    where
      above : after.frames ≡ next ∷ below
      above = frames_after shape before after result call (next ∷ below) at

      still : (next.state ≡ left) ⊎ ((next.kind ≡ for_close) × (next.state ≡ waiting))
          → LeftOrGone below result after.frames
      still (inl s) = has_left next above s
      still (inr (k, s)) =
          absurd (not_longer close_frame (pushed_frames below)
          (sym same ∙ ap pushed_frames above ∙ close_pushed next.kind next.state (pushed_frames below) k s))
  popped same (is_gone a at) =
      has_gone (λ e. gone_not_going a (subst (λ (x : Answer). IsAnswerOf shape.size x call.answer) e call.reports))
      (frames_after shape before after result call below at)

  -- a frame that has left acts for the reader
  pub left_step : frame.state ≡ left
      → (events : List HistoryEvent) × AreForReader events × (after.history ≡ before.history ++ events)
      × LeftOrGone below result after.frames
  left_step s =
      let are : AreForReader reported.history_events =
      left_acts shape.pages reported.core below reported.answer reported.history_events frame.kind frame.state
      frame.phase s appends in
      let same : pushed_frames after.frames ≡ pushed_frames below =
      sym stack_after ∙ stack_moved
      ∙ ap (λ (w : WriterState). w.stack) (reader_keeps (writer_after before.history) reported.history_events are)
      ∙ stack_before ∙ left_pushed frame.kind frame.state (pushed_frames below) s in (
        reported.history_events,
        are,
        reported.history_is,
        popped same
            (leaving_step shape before after result call frame below top (left_leaves frame.kind frame.state s)),
      )
    where
      left_leaves : (kind : Purpose) (state : Progress) → state ≡ left → IsLeaving kind state
      left_leaves (for_record moment len) state e = subst (IsLeaving (for_record moment len)) (sym e) tt
      left_leaves for_close state e = subst (IsLeaving for_close) (sym e) tt

  -- a close frame waits on, or leaves
  pub close_step : frame.kind ≡ for_close → frame.state ≡ waiting → CloseStep below before result after
  close_step k s =
      by (close_acts shape.pages reported.core below reported.answer reported.history_events frame.kind frame.state
      frame.phase k s appends)
    where
      stood : (writer_after before.history).stack ≡ close_frame ∷ pushed_frames below
      stood = stack_before ∙ close_pushed frame.kind frame.state (pushed_frames below) k s

      leaving : Leaving below call.answer call.next.frames
      leaving = leaving_step shape before after result call frame below top
          (subst (IsLeaving frame.kind) (sym s) (subst (λ (x : Purpose). IsLeaving x waiting) (sym k) tt))

      on : after.history ≡ before.history → pushed_frames after.frames ≡ close_frame ∷ pushed_frames below
          → Leaving below call.answer call.next.frames → CloseStep below before result after
      on h same (leaves_on next a at leaves) = still (how_leaving next.kind next.state leaves)
        where
          above : after.frames ≡ next ∷ below
          above = frames_after shape before after result call (next ∷ below) at

          still : (next.state ≡ left) ⊎ ((next.kind ≡ for_close) × (next.state ≡ waiting))
              → CloseStep below before result after
          still (inl t) =
              absurd (not_longer close_frame (pushed_frames below)
              (sym (left_pushed next.kind next.state (pushed_frames below) t) ∙ sym (ap pushed_frames above)
              ∙ same))
          still (inr (nk, ns)) = waits_on next above nk ns h
      on h same (is_gone a at) =
          absurd (not_longer close_frame (pushed_frames below)
          (sym (ap pushed_frames (frames_after shape before after result call below at)) ∙ same))

      popping : (w : WriterState) (fills : List HistoryEvent) → AreFills fills
          → w.stack ≡ close_frame ∷ pushed_frames below
          → (has_events w (fills ++ leave None ∷ [])).stack ≡ pushed_frames below
      popping w fills are e =
          ap (λ (v : WriterState). v.stack) (fills_then w fills (leave None ∷ []) are)
          ∙ ap (λ (stack : List PushedFrame). (after_event stack w.records (leave None)).stack) e

      by : (reported.history_events ≡ [])
          ⊎ ((fills : List HistoryEvent) × AreFills fills × (reported.history_events ≡ fills ++ leave None ∷ []))
          → CloseStep below before result after
      by (inl none) =
          on (reported.history_is ∙ ap (λ (events : List HistoryEvent). before.history ++ events) none
          ∙ append-nil before.history)
          (sym stack_after ∙ stack_moved
          ∙ ap (λ (events : List HistoryEvent). (has_events (writer_after before.history) events).stack) none ∙ stood)
          leaving
      by (inr (fills, are, is)) =
          closes fills are (reported.history_is ∙ ap (λ (events : List HistoryEvent). before.history ++ events) is)
          (popped
          (sym stack_after ∙ stack_moved
          ∙ ap (λ (events : List HistoryEvent). (has_events (writer_after before.history) events).stack) is
          ∙ popping (writer_after before.history) fills are stood) leaving)

module _ (shape : Shape) (before after : Writing) (fault : WriteFault) (frame : Frame) (below : List Frame)
    (top : before.frames ≡ frame ∷ below) (call : IsCall shape before model.steps (Refused fault) after) where
  refused_history : after.history ≡ before.history ++ leave None ∷ []
  refused_history =
      refusals_append shape before model.steps fault after call
      ∙ ap (λ (fs : List Frame). before.history ++ events_of_refusal model.steps fs) top

  refused_pops : frame.state ≡ waiting → pushed_frames after.frames ≡ pushed_frames below
  refused_pops s =
      sym (stack_after shape before after (Refused fault) frame below top call)
      ∙ ap (λ (h : List HistoryEvent). (writer_after h).stack) refused_history
      ∙ ap (λ (w : WriterState). w.stack)
      (writer-append record { stack = []; records = [] } before.history (leave None ∷ []))
      ∙ ap (λ (stack : List PushedFrame). (after_event stack (writer_after before.history).records (leave None)).stack)
      (stack_before shape before after (Refused fault) frame below top call
      ∙ ap (λ (x : Progress). pushed_onto frame.kind x (pushed_frames below)) s)

  -- a record frame that is refused has left, or is gone
  pub refused_step : IsReserving frame.kind frame.state → LeftOrGone below (Refused fault) after.frames
  refused_step is = by (reserving_step shape before after (Refused fault) call frame below top is)
    where
      by : Reserving frame below call.answer call.next.frames → LeftOrGone below (Refused fault) after.frames
      by (reserves_on next a at kind state) =
          absurd (let both : model.refused (refusal_of fault) ≡ model.going = sym call.reports ∙ a in cc)
      by (has_reserved next number a at kind state) =
          absurd (let both : model.refused (refusal_of fault) ≡ model.reserved_as number = sym call.reports ∙ a in cc)
      by (is_refused why a leaving) =
          popped shape before after (Refused fault) frame below top call
          (refused_pops (reserving_waits frame.kind frame.state is)) leaving
