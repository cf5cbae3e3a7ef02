-- A record that is written whole: the calls that this is made of are those of its line.
use Rattle.std.specs.Prelude.{Result, Ok, Err, None}
use Rattle.std.proofs.Common.{◌≡◌, ℕ, ◌-◌, ◌⊎◌, inl, inr, false, List, [], ◌∷◌, ◌++◌, length, map, reverse, take, drop}
use Rattle.std.proofs.Common.{refl, sym, ap, ◌∙◌, subst, arith, Bor, append_assoc, append-nil}
use Rattle.trace_model.specs.Words.{padded}
use Rattle.trace_model.specs.Frames.{Purpose, for_record, Progress, waiting, reserved, left, Frame}
use Rattle.trace_model.specs.Steps.{Event, pushes, steps, ends, Exchange}
use Rattle.trace_model.specs.Steps as model
use Rattle.ring_model.specs.FrameOutcomes.{IsReserving, IsLeaving}
use Rattle.world_model.specs.Lanes.{FitFrames, event_in, event_on_top, payloads_left}
use Rattle.world_model.proofs.LanePayloads.{as_many}
use Rattle.line_model.specs.WriterCalls.{IsWriterCall, TopCalls, finishes_top, writes_frame}
use Rattle.line_model.proofs.PartsJoined.{top_calls_go_on}
use Rattle.nested_writer.specs.declared.fault.WriteFault.{WriteFault}
use Rattle.nested_writer.specs.declared.stack.leave.Ended.{Ended as How}
use Rattle.nested_writer.specs.declared.stack.leave.Ended.TheVariants.{Pending, Full}
use Rattle.ring_frames.specs.declared.answer.Answer.{Answer}
use Rattle.ring_frames.specs.declared.answer.Answer.TheVariants.{Pushed, Going, Reserved, Ended, Refused}
use Rattle.ring_steps.specs.declared.rule.Shape.{Shape}
use Rattle.ring_steps.specs.Views.{Writing}
use Rattle.ring_shared.specs.Value.{WriterValue, SameWriter}
use Rattle.ring_shared.specs.Calls.{IsWriter, IsCall}
use Rattle.ring_shared.specs.Finishing.{MakesSteps, at_once, one_more, Leaves, is_gone, was_refused}
use Rattle.ring_shared.specs.WholeWrites.{GoesAway, IsWritten, IsRefusedPartWay, IsRefusedWrite}
use Rattle.ring_shared.proofs.Finishes.{IsStillReserving, reserving_first, reserving_on, IsStillLeaving, leaving_first}
use Rattle.ring_shared.proofs.Finishes.{leaving_going}
use Rattle.ring_shared.proofs.WholeWrites.{HasBegun, has_begun, HasTopRecord, reserved_so, left_full, leaves_below}
use Rattle.ring_shared.proofs.WholeAppends.{refused_writes_keep_frames}
use Rattle.trace_run.specs.declared.writers.writer.LineWriter.{LineWriter}
use Rattle.trace_run.specs.writers.LineWriters.{writer_in, made_in, payloads_of, IsLineWriter, WritesWhole}
use Rattle.trace_run.proofs.PushedFrames.{call_of, logged, record_answered, refused_push}
use Rattle.trace_run.proofs.LineRuns.{not_written}

-- ---- a frame whose record isn't reserved makes a step

other_steps : (IsSo : Progress → Type 0) (state : Progress) (payloads : List (List ℕ))
    → ((number : ℕ) → IsSo (reserved number) → ⊥)
    → IsSo state
    → steps ≡ event_in state payloads
other_steps IsSo waiting payloads never is = refl
other_steps IsSo (reserved number) payloads never is = absurd (never number is)
other_steps IsSo left payloads never is = refl

left_leaves : (kind : Purpose) (state : Progress) → state ≡ left → IsLeaving kind state
left_leaves kind state e = subst (IsLeaving kind) (sym e) (any kind)
  where
    any : (kind : Purpose) → IsLeaving kind left
    any (for_record moment len) = tt
    any Rattle.trace_model.specs.Frames.for_close = tt

-- ---- the calls for the frame that was pushed above these, which have these payloads

module _ (shape : Shape) (below : List Frame) (payload : List ℕ) (payloads : List (List ℕ))
    (many : length payloads ≡ length below) where
  abbrev Calls : Writing → List Exchange → Writing → List (List ℕ) → Type 0
  Calls from calls now lefts =
      TopCalls shape.pages shape.size shape.start (length below) (writer_in from) (payload ∷ payloads) calls
      (writer_in now) lefts

  -- it is on the stack
  record IsOnStack (from now : Writing) : Type 0 where
    calls : List Exchange
    run : Calls from calls now (payload ∷ payloads)
    has_made : made_in now ≡ made_in from ++ calls

  -- it is popped
  pub record IsPopped (from now : Writing) : Type 0 where
    pub calls : List Exchange
    pub run : Calls from calls now payloads
    pub has_made : made_in now ≡ made_in from ++ calls

  stands_first : (from : Writing) → IsOnStack from from
  stands_first from = record { calls = []; run = (refl, refl); has_made = sym (append-nil (made_in from)) }

  -- one call more
  module _ (from now next : Writing) (event : Event) (result : Answer) (frame : Frame) (s : IsOnStack from now)
      (top : now.frames ≡ frame ∷ below) (event_is : event ≡ event_in frame.state (payload ∷ payloads))
      (call : IsCall shape now event result next) where
    abbrev more : List Exchange
    more = s.calls ++ record { event = event; answer = call.answer } ∷ []

    goes_on : Calls from more next (payloads_left next.frames (payload ∷ payloads))
    goes_on =
        top_calls_go_on shape.pages shape.size shape.start (length below) (writer_in from) (payload ∷ payloads)
        s.calls (writer_in now) (payload ∷ payloads) record { event = event; answer = call.answer } (writer_in next)
        s.run (ap (λ (l : List Frame). length l) top)
        (event_is ∙ ap (λ (l : List Frame). event_on_top l (payload ∷ payloads)) (sym top))
        (call_of shape now event result next call)

    log : made_in next ≡ made_in from ++ more
    log =
        logged shape now event result next call
        ∙ ap (λ (l : List Exchange). l ++ record { event = event; answer = call.answer } ∷ []) s.has_made
        ∙ append_assoc (made_in from) s.calls (record { event = event; answer = call.answer } ∷ [])

    lefts_are : (gone : ℕ) (lefts : List (List ℕ))
        → length (payload ∷ payloads) - length next.frames ≡ gone
        → drop gone (payload ∷ payloads) ≡ lefts
        → Calls from more next lefts
    lefts_are gone lefts e is =
        subst (λ (l : List (List ℕ)). Calls from more next l)
        (ap (λ (k : ℕ). drop k (payload ∷ payloads)) e ∙ is) goes_on

    stands_then : (other : Frame) → next.frames ≡ other ∷ below → IsOnStack from next
    stands_then other there =
        let long = ap (λ (l : List Frame). length l) there in
        record { calls = more; run = lefts_are 0 (payload ∷ payloads) (omega (arith, long, many)) refl; has_made = log }

    popped_then : next.frames ≡ below → IsPopped from next
    popped_then there =
        let long = ap (λ (l : List Frame). length l) there in
        record { calls = more; run = lefts_are 1 payloads (omega (arith, long, many)) refl; has_made = log }

  -- ---- until its record is reserved

  reserving : (frame : Frame) (from now : Writing)
      → from.frames ≡ frame ∷ below
      → IsReserving frame.kind frame.state
      → MakesSteps shape from now
      → IsStillReserving shape frame.kind below from now × IsOnStack from now
  reserving frame from _ top is at_once = (reserving_first shape frame below from top is, stands_first from)
  reserving frame from _ top is (one_more between after goes call) =
      let (a, s) = reserving frame from between top is goes in
      let b = reserving_on shape frame.kind below from between after Going a call refl in (
        b,
        stands_then from between after steps Going a.frame s a.top
            (other_steps (IsReserving a.frame.kind) a.frame.state (payload ∷ payloads) (λ number is. is) a.reserves)
            call b.frame b.top,
      )

  -- ---- until it is popped

  leaving : (frame : Frame) (from start now : Writing)
      → IsOnStack from start
      → start.frames ≡ frame ∷ below
      → IsLeaving frame.kind frame.state
      → MakesSteps shape start now
      → IsStillLeaving shape below start None now × IsOnStack from now
  leaving frame from start _ s top is at_once = (leaving_first shape frame below start top is, s)
  leaving frame from start _ s top is (one_more between after goes call) =
      let (a, t) = leaving frame from start between s top is goes in
      let b = leaving_going shape below start None between after Going a call refl in (
        b,
        stands_then from between after steps Going a.frame t a.top
            (other_steps (IsLeaving a.frame.kind) a.frame.state (payload ∷ payloads) (λ number is. is) a.leaves) call
            b.frame b.top,
      )

  leaves : (from start : Writing) (answer : Answer) (after : Writing) (frame : Frame)
      → IsOnStack from start
      → start.frames ≡ frame ∷ below
      → IsLeaving frame.kind frame.state
      → Leaves shape below start answer after
      → IsPopped from after
  leaves from start answer after frame s top is (is_gone first mid end last goes call at) =
      let (a, t) = leaving frame from start mid s top is goes in
      popped_then from mid after steps answer a.frame t a.top
      (other_steps (IsLeaving a.frame.kind) a.frame.state (payload ∷ payloads) (λ number is. is) a.leaves) call at
  leaves from start answer after frame s top is
      (was_refused first mid next end other fault last goes call above is_leaving rest) =
      let (a, t) = leaving frame from start mid s top is goes in
      leaves from next last after other
      (stands_then from mid next steps (Refused fault) a.frame t a.top
      (other_steps (IsLeaving a.frame.kind) a.frame.state (payload ∷ payloads) (λ number is. is) a.leaves) call other
      above)
      above is_leaving rest

-- ---- a whole write

module _ (shape : Shape) (before : Writing) (moment : ℕ) (payload : List ℕ) (after : Writing)
    (payloads : List (List ℕ)) (many : length payloads ≡ length before.frames) where
  abbrev Popped : Writing → Writing → Type 0
  Popped from now = IsPopped shape before.frames payload payloads many from now

  begun : (pushed : Writing)
      → IsCall shape before (pushes moment (length payload)) Pushed pushed
      → HasBegun moment (length payload) before pushed
  begun pushed push = (has_begun shape before pushed moment (length payload) Pushed push (λ (fault, e). cc)).0

  -- its record is ended
  ended_then : (from reserved_as ended : Writing) (how : How)
      → IsOnStack shape before.frames payload payloads many from reserved_as
      → HasTopRecord (for_record moment (length payload)) before.frames reserved_as.frames
      → IsCall shape reserved_as (ends (padded payload)) (Ended how) ended
      → GoesAway shape ended how after
      → after.frames ≡ before.frames
      → Popped from after
  ended_then from reserved_as ended Pending s t call same frames =
      subst (Popped from) (sym same)
      (popped_then shape before.frames payload payloads many from reserved_as ended (ends (padded payload))
      (Ended Pending) t.next s t.top
      (sym (ap (λ (x : Progress). event_in x (payload ∷ payloads)) t.state_is)) call
      (ap (λ (w : Writing). w.frames) (sym same) ∙ frames))
  ended_then from reserved_as ended Full s t call (answer, all) frames =
      let none : before.frames ≡ [] = sym frames ∙ leaves_below shape [] ended answer after all in
      let (frame, top, is) = left_full shape reserved_as ended (padded payload) (Ended Full) call
      record { frame = t.next; below = before.frames; number = t.number; top = t.top; state_is = t.state_is } refl in
      let there : ended.frames ≡ frame ∷ before.frames =
      top ∙ ap (λ (l : List Frame). frame ∷ l) (sym none) in
      leaves shape before.frames payload payloads many from ended answer after frame
      (stands_then shape before.frames payload payloads many from reserved_as ended (ends (padded payload)) (Ended Full)
      t.next s t.top (sym (ap (λ (x : Progress). event_in x (payload ∷ payloads)) t.state_is)) call frame there)
      there (left_leaves frame.kind frame.state is)
      (subst (λ (l : List Frame). Leaves shape l ended answer after) (sym none) all)

  written_calls : (w : IsWritten shape before moment payload after) → Popped w.pushed after
  written_calls w =
      let b = begun w.pushed w.push in
      let (a, s) = reserving shape before.frames payload payloads many b.frame w.pushed w.reserve.between b.top
      b.reserves w.reserve.goes in
      let t : HasTopRecord (for_record moment (length payload)) before.frames w.reserved.frames =
      (reserved_so (for_record moment (length payload)) before.frames (Reserved w.number) w.reserved.frames
      w.reserve.ends (λ (fault, e). cc)).0 in
      ended_then w.pushed w.reserved w.ended w.how
      (stands_then shape before.frames payload payloads many w.pushed w.reserve.between w.reserved steps
      (Reserved w.number) a.frame s a.top
      (other_steps (IsReserving a.frame.kind) a.frame.state (payload ∷ payloads) (λ number is. is) a.reserves)
      w.reserve.last t.next t.top)
      t w.end w.goes w.frames

  refused_calls : (fault : WriteFault) (r : IsRefusedPartWay shape before moment (length payload) fault after)
      → Popped r.pushed after
  refused_calls fault r =
      let b = begun r.pushed r.push in
      let (a, s) = reserving shape before.frames payload payloads many b.frame r.pushed r.reserve.between b.top
      b.reserves r.reserve.goes in
      rest a s r.goes
    where
      rest : IsStillReserving shape (begun r.pushed r.push).frame.kind before.frames r.pushed r.reserve.between
          → IsOnStack shape before.frames payload payloads many r.pushed r.reserve.between
          → (after ≡ r.refused)
          ⊎ ((frame : Frame)
          × (answer : Answer)
          × (r.refused.frames ≡ frame ∷ before.frames)
          × IsLeaving frame.kind frame.state
          × Leaves shape before.frames r.refused answer after)
          → Popped r.pushed after
      rest a s (inl same) =
          subst (Popped r.pushed) (sym same)
          (popped_then shape before.frames payload payloads many r.pushed r.reserve.between r.refused steps
          (Refused fault) a.frame s a.top
          (other_steps (IsReserving a.frame.kind) a.frame.state (payload ∷ payloads) (λ number is. is) a.reserves)
          r.reserve.last
          (ap (λ (w : Writing). w.frames) (sym same) ∙ r.frames))
      rest a s (inr (frame, answer, top, is, all)) =
          leaves shape before.frames payload payloads many r.pushed r.refused answer after frame
          (stands_then shape before.frames payload payloads many r.pushed r.reserve.between r.refused steps
          (Refused fault) a.frame s a.top
          (other_steps (IsReserving a.frame.kind) a.frame.state (payload ∷ payloads) (λ number is. is) a.reserves)
          r.reserve.last frame top)
          top is all

-- ---- the line

module _ (old : LineWriter) (is : IsLineWriter old) (v : WriterValue) (moment : ℕ) (payload : List ℕ)
    (same : SameWriter old.writer v) (writer : IsWriter v) where
  abbrev s : Shape
  s = old.writer.shape

  abbrev before : Writing
  before = old.writer.part

  abbrev new : LineWriter
  new = record { writer = v; payloads = old.payloads }

  many : length (payloads_of old) ≡ length before.frames
  many = as_many before.frames (payloads_of old) is.fit

  made : (pushed : Writing)
      → IsCall s before (pushes moment (length payload)) Pushed pushed
      → v.part.frames ≡ before.frames
      → IsPopped s before.frames payload (payloads_of old) many pushed v.part
      → WritesWhole moment payload old new
  made pushed push frames popped =
      let lefts : payloads_of new ≡ payloads_of old =
      ap (λ (l : List Frame). reverse (map (λ (b : Bor (List ℕ)). b.now) (take (length l) old.payloads))) frames in
      let b : HasBegun moment (length payload) before pushed =
      begun s before moment payload v.part (payloads_of old) many pushed push in
      let x : Exchange = record { event = pushes moment (length payload); answer = model.pushed } in
      record {
        is = record {
          writer = writer;
          room = is.room;
          fit = subst (λ (l : List (List ℕ)). FitFrames v.part.frames l) (sym lefts)
              (subst (λ (l : List Frame). FitFrames l (payloads_of old)) (sym frames) is.fit);
        };
        same = same;
        exchanges = x ∷ popped.calls;
        has_made = popped.has_made
            ∙ ap (λ (l : List Exchange). l ++ popped.calls) (subst (λ (a : model.Answer). made_in pushed
            ≡ made_in before ++ record { event = pushes moment (length payload); answer = a } ∷ []) push.reports
            (logged s before (pushes moment (length payload)) Pushed pushed push))
            ∙ append_assoc (made_in before) (x ∷ []) popped.calls;
        made = writes_frame (writer_in pushed) popped.calls refl
            (subst (λ (a : model.Answer). IsWriterCall s.pages s.size s.start (writer_in before)
            record { event = pushes moment (length payload); answer = a } (writer_in pushed)) push.reports
            (call_of s before (pushes moment (length payload)) Pushed pushed push))
            (finishes_top (length before.frames) (ap (λ (l : List Frame). length l) b.top)
            (subst (λ (l : List (List ℕ)). TopCalls s.pages s.size s.start (length before.frames) (writer_in pushed)
            (payload ∷ payloads_of old) popped.calls (writer_in v.part) l) (sym lefts) popped.run)
            (let low = ap (λ (l : List Frame). length l) frames in omega arith));
      }

  refused : (fault : WriteFault)
      → IsRefusedWrite s before moment (length payload) fault v.part
      → WritesWhole moment payload old new
  refused fault (inl push) =
      not_written (pushes moment (length payload)) payload old new new false
      (refused_push old is v (pushes moment (length payload)) payload (Refused fault)
      record { shape_is = same.0; table_is = same.1; call = push; writer = writer }
      (record_answered s before (Refused fault) v.part moment payload push) (λ e. cc)) refl
  refused fault (inr r) =
      made r.pushed r.push
      (refused_writes_keep_frames s before moment (length payload) fault v.part (inr r))
      (refused_calls s before moment payload v.part (payloads_of old) many fault r)

  pub written_whole : (result : Result Unit WriteFault)
      → (result ≡ Ok tt → IsWritten s before moment payload v.part)
      → ((fault : WriteFault) → result ≡ Err fault → IsRefusedWrite s before moment (length payload) fault v.part)
      → WritesWhole moment payload old new
  written_whole (Ok tt) ok err =
      let w = ok refl in
      made w.pushed w.push w.frames (written_calls s before moment payload v.part (payloads_of old) many w)
  written_whole (Err fault) ok err = refused fault (err fault refl)
