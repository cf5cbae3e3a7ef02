-- A call makes few steps: those of the frame on top are consecutive.
use Rattle.std.specs.Prelude.{Result, Ok, Err}
use Rattle.std.proofs.Common.{◌≡◌, ℕ, suc, ◌+◌, ◌≤◌, ◌⊎◌, true, List, [], ◌∷◌, ◌++◌, length, None, refl, sym, ap}
use Rattle.std.proofs.Common.{◌∙◌, subst, arith, inl, inr, length-append}
use Rattle.std.specs.Prelude.{◌&&◌, ◌==◌}
use Rattle.std.proofs.lemmas.Bool.{cond-true, eq-eqb}
use Rattle.trace_model.specs.Words.{padded}
use Rattle.trace_model.specs.Frames.{Purpose, for_record, for_close, Progress, waiting, reserved, left, Frame}
use Rattle.trace_model.specs.Ring.{Core}
use Rattle.trace_model.specs.Steps as model
use Rattle.trace_model.proofs.steps.StepSound.{cases_of}
use Rattle.ring_model.specs.FrameOutcomes.{IsReserving, IsLeaving}
use Rattle.ring_model.specs.Ranks.{frame_limit}
use Rattle.ring_model.proofs.seats.SeatSteps.{reader_leaves_writer}
use Rattle.nested_writer.specs.declared.fault.WriteFault.{WriteFault}
use Rattle.nested_writer.specs.declared.stack.leave.Ended.{Ended as How}
use Rattle.nested_writer.specs.declared.stack.leave.Ended.TheVariants.{Pending, Full}
use Rattle.ring_frames.specs.declared.answer.Answer.{Answer}
use Rattle.ring_frames.specs.declared.answer.Answer.TheVariants.{Pushed, Going, Ended, Refused}
use Rattle.ring_frames.proofs.Reported.{IsRefusal}
use Rattle.ring_steps.specs.declared.rule.Shape.{Shape}
use Rattle.ring_steps.specs.Made.{WriterMade, writer_made, trace_of, is_by_writer, kept_if, made_by}
use Rattle.ring_steps.specs.Views.{Writing, writing_made}
use Rattle.ring_steps.specs.Paging.{IsWriterReached}
use Rattle.ring_shared.specs.Calls.{IsCall}
use Rattle.ring_shared.specs.Finishing.{MakesSteps, at_once, one_more, Reserves, Leaves, is_gone, was_refused}
use Rattle.ring_shared.specs.Finishing.{FinishesFrame, FinishesTop, Finishes}
use Rattle.ring_shared.specs.WholeWrites.{GoesAway, IsWritten, IsRefusedPartWay, IsRefusedWrite}
use Rattle.ring_shared.specs.FewSteps.{brings_on, brings_top_on, row_after, row_from, steps_in_a_row, MakesAtMost}
use Rattle.ring_shared.specs.FewSteps.{most_to_finish, most_to_write}
use Rattle.ring_shared.proofs.CallsAppend.{calls_append}
use Rattle.ring_shared.proofs.FewSteps.{frames_make_few_steps}
use Rattle.ring_shared.proofs.Finishes.{IsStillReserving, reserving_first, reserving_on, reserving_stands}
use Rattle.ring_shared.proofs.Finishes.{IsStillLeaving, leaving_first, leaving_going}
use Rattle.ring_shared.proofs.WholeWrites.{finishes_top, finished_reserving, finished_leaving, leaves_below, HasBegun}
use Rattle.ring_shared.proofs.WholeWrites.{has_begun}
use Rattle.ring_shared.proofs.WholeWrites.{HasReservedTop, alone_leaves, top_kind}

-- ---- the frames after the last of some steps

abbrev last_frames : List Frame → List WriterMade → List Frame
last_frames frames [] = frames
last_frames frames (one ∷ made) = last_frames one.frames made

row_then : (frames : List Frame) (row : ℕ) (made : List WriterMade) (one : WriterMade)
    → row_from frames row (made ++ one ∷ []) ≡ row_after (last_frames frames made) (row_from frames row made) one
row_then frames row [] one = refl
row_then frames row (first ∷ made) one = row_then first.frames (row_after frames row first) made one

one_last : (n size : ℕ) (c : Core) (event : model.Event) (answer : model.Answer) (between : Core)
    → model.Step n size c event answer between → (rest : List WriterMade)
    → last_frames c.frames (kept_if (is_by_writer event) (writer_made record { event = event; answer = answer } between)
    rest)
    ≡ last_frames between.frames rest
one_last n size c (model.pushes moment len) answer between step rest = refl
one_last n size c model.pushes_close answer between step rest = refl
one_last n size c model.steps answer between step rest = refl
one_last n size c (model.ends payload) answer between step rest = refl
one_last n size c model.reads answer between step rest =
    ap (λ (f : List Frame). last_frames f rest)
    (sym (reader_leaves_writer n size c model.reads answer between tt (cases_of step)).frames)
one_last n size c model.wishes answer between step rest =
    ap (λ (f : List Frame). last_frames f rest)
    (sym (reader_leaves_writer n size c model.wishes answer between tt (cases_of step)).frames)

run_last : (n size : ℕ) (c : Core) (exchanges : List model.Exchange) (last : Core)
    → (run : model.Run n size c exchanges last)
    → last_frames c.frames (made_by is_by_writer writer_made (trace_of n size c exchanges last run)) ≡ last.frames
run_last n size c [] last run = ap (λ (d : Core). d.frames) run
run_last n size c (x ∷ exchanges) last (between, step, run) =
    one_last n size c x.event x.answer between step
    (made_by is_by_writer writer_made (trace_of n size between exchanges last run))
    ∙ run_last n size between exchanges last run

-- they are those of the writer's part
reached_last : (shape : Shape) (w : Writing) → IsWriterReached shape w → last_frames [] w.made ≡ w.frames
reached_last shape w r =
    let made : List WriterMade =
    made_by is_by_writer writer_made
    (trace_of shape.pages shape.size r.reached.from r.reached.exchanges r.core r.reached.run) in
    subst (λ (v : Writing). last_frames [] v.made ≡ v.frames) r.is
    (subst (λ (f : List Frame). last_frames f made ≡ r.core.frames) r.reached.is_new.frames
    (run_last shape.pages shape.size r.reached.from r.reached.exchanges r.core r.reached.run))

-- ---- one call

-- all that was made from the first part to the second is consecutive
abbrev InARow : Writing → Writing → Type 0
InARow before after = length after.made + steps_in_a_row before.made ≤ length before.made + steps_in_a_row after.made

bounded : (shape : Shape) (before after : Writing) → IsWriterReached shape after → InARow before after
    → length after.made ≤ length before.made + frame_limit shape.pages
bounded shape before after reached row = let few = frames_make_few_steps shape after reached in omega arith

module _ (shape : Shape) (before : Writing) (event : model.Event) (result : Answer) (after : Writing)
    (call : IsCall shape before event result after) where
  reached_before : IsWriterReached shape before
  reached_before = record { core = call.core; reached = call.reached; is = call.before_is }

  one_longer : length after.made ≡ length before.made + 1
  one_longer =
      let r = calls_append shape before event result after call in
      let one : WriterMade = writing_made record { event = event; answer = r.answer } after in
      ap (length {A = WriterMade}) r.made_is ∙ length-append before.made (one ∷ [])

  -- a call is one step
  pub one_step : MakesAtMost 1 before after
  one_step = let one = one_longer in omega arith

  in_a_row : brings_top_on event before.frames ≡ true → length after.frames ≡ length before.frames
      → InARow before after
  in_a_row brings stays =
      let r = calls_append shape before event result after call in
      let one : WriterMade = writing_made record { event = event; answer = r.answer } after in
      let row : ℕ = steps_in_a_row before.made in
      let same : (length after.frames == length before.frames) ≡ true =
      eq-eqb (length after.frames) (length before.frames) stays in
      let both : (brings_top_on event before.frames && (length after.frames == length before.frames)) ≡ true =
      λ i. brings i && same i in
      let more : steps_in_a_row after.made ≡ suc row =
      ap steps_in_a_row r.made_is ∙ row_then [] 0 before.made one
      ∙ ap (λ (f : List Frame). row_after f row one) (reached_last shape before reached_before)
      ∙ cond-true (brings_top_on event before.frames && (length after.frames == length before.frames)) (suc row) 0
      both in
      let longer = one_longer in omega arith

-- ---- the steps of a frame

reserving_brings : (kind : Purpose) (state : Progress) → IsReserving kind state → brings_on model.steps state ≡ true
reserving_brings kind waiting is = refl
reserving_brings kind (reserved number) is = absurd is
reserving_brings kind left is = refl

leaving_brings : (kind : Purpose) (state : Progress) → IsLeaving kind state → brings_on model.steps state ≡ true
leaving_brings kind waiting is = refl
leaving_brings kind (reserved number) is = absurd is
leaving_brings kind left is = refl

top_brings : (event : model.Event) (frames : List Frame) (frame : Frame) (below : List Frame) → frames ≡ frame ∷ below
    → brings_on event frame.state ≡ true → brings_top_on event frames ≡ true
top_brings event frames frame below top brings = ap (brings_top_on event) top ∙ brings

same_depth : (some others : List Frame) (one two : Frame) (below : List Frame) → some ≡ one ∷ below
    → others ≡ two ∷ below → length some ≡ length others
same_depth some others one two below first second =
    ap (length {A = Frame}) first ∙ sym (ap (length {A = Frame}) second)

module _ (shape : Shape) (frame : Frame) (below : List Frame) (before : Writing)
    (top : before.frames ≡ frame ∷ below) where
  -- to a record
  reserving_row : IsReserving frame.kind frame.state → (between : Writing) → MakesSteps shape before between
      → InARow before between × IsStillReserving shape frame.kind below before between
  reserving_row is _ at_once = (omega arith, reserving_first shape frame below before top is)
  reserving_row is _ (one_more between after goes call) =
      let (row, still) = reserving_row is between goes in
      let one =
      in_a_row shape between model.steps Going after call
      (top_brings model.steps between.frames still.frame below still.top
      (reserving_brings still.frame.kind still.frame.state still.reserves))
      (reserving_stands shape frame.kind below before between after Going still call refl) in
      (omega arith, reserving_on shape frame.kind below before between after Going still call refl)

  module _ (is : IsReserving frame.kind frame.state) (result : Answer) (after : Writing)
      (r : Reserves shape frame.kind below before result after) where
    reserves_few : MakesAtMost (most_to_finish shape) before after
    reserves_few =
        let (row, still) = reserving_row is r.between r.goes in
        let few =
        bounded shape before r.between (reached_before shape r.between model.steps result after r.last) row in
        let one = one_longer shape r.between model.steps result after r.last in
        omega arith

    -- after which it is still on the stack
    reserves_row : (next : Frame) → after.frames ≡ next ∷ below → InARow before after
    reserves_row next above =
        let (row, still) = reserving_row is r.between r.goes in
        let one =
        in_a_row shape r.between model.steps result after r.last
        (top_brings model.steps r.between.frames still.frame below still.top
        (reserving_brings still.frame.kind still.frame.state still.reserves))
        (same_depth after.frames r.between.frames next still.frame below above still.top) in
        omega arith

  -- to its end
  leaving_row : IsLeaving frame.kind frame.state → (between : Writing) → MakesSteps shape before between
      → InARow before between × IsStillLeaving shape below before None between
  leaving_row is _ at_once = (omega arith, leaving_first shape frame below before top is)
  leaving_row is _ (one_more between after goes call) =
      let (row, still) = leaving_row is between goes in
      let next = leaving_going shape below before None between after Going still call refl in
      let one =
      in_a_row shape between model.steps Going after call
      (top_brings model.steps between.frames still.frame below still.top
      (leaving_brings still.frame.kind still.frame.state still.leaves))
      (same_depth after.frames between.frames next.frame still.frame below next.top still.top) in
      (omega arith, next)

-- all of a frame's steps but the last, by which it is gone
record NearlyGone (shape : Shape) (before after : Writing) : Type 0 where
  last : Writing
  reached : IsWriterReached shape last
  row : InARow before last
  one : length after.made ≡ length last.made + 1

leaves_row : (shape : Shape) (below : List Frame) (before : Writing) (answer : Answer) (after : Writing) (frame : Frame)
    → before.frames ≡ frame ∷ below → IsLeaving frame.kind frame.state → Leaves shape below before answer after
    → NearlyGone shape before after
leaves_row shape below before answer after frame top is (is_gone from between end last goes call at) =
    let (row, still) = leaving_row shape frame below before top is between goes in
    record {
      last = between;
      reached = reached_before shape between model.steps answer after call;
      row = row;
      one = one_longer shape between model.steps answer after call;
    }
leaves_row shape below before answer after frame top is
    (was_refused from between next end other fault last goes call above leaves rest) =
    let (row, still) = leaving_row shape frame below before top is between goes in
    let one =
    in_a_row shape between model.steps (Refused fault) next call
    (top_brings model.steps between.frames still.frame below still.top
    (leaving_brings still.frame.kind still.frame.state still.leaves))
    (same_depth next.frames between.frames other still.frame below above still.top) in
    let g = leaves_row shape below next last after other above leaves rest in
    record { last = g.last; reached = g.reached; row = let more = g.row in omega arith; one = g.one }

gone_few : (shape : Shape) (before after : Writing) → NearlyGone shape before after
    → MakesAtMost (most_to_finish shape) before after
gone_few shape before after g = let few = bounded shape before g.last g.reached g.row in
    let one = g.one in
    omega arith

-- ---- `finish_top`

how_stands : (kind : Purpose) (state : Progress)
    → IsReserving kind state ⊎ (IsLeaving kind state ⊎ ((number : ℕ) × (state ≡ reserved number)))
how_stands (for_record moment len) waiting = inl tt
how_stands for_close waiting = inr (inl tt)
how_stands kind (reserved number) = inr (inr (number, refl))
how_stands (for_record moment len) left = inr (inl tt)
how_stands for_close left = inr (inl tt)

module _ (shape : Shape) (before : Writing) (result : Answer) (after : Writing)
    (f : Finishes shape before result after) where
  number_again : (kind : Purpose) (number : ℕ) (below : List Frame)
      → FinishesFrame shape kind (reserved number) below before result after
      → IsCall shape before model.steps result after
  number_again (for_record moment len) number below call = call
  number_again for_close number below call = call

  frame_few : (frame : Frame) (below : List Frame) → before.frames ≡ frame ∷ below
      → IsReserving frame.kind frame.state
      ⊎ (IsLeaving frame.kind frame.state ⊎ ((number : ℕ) × (frame.state ≡ reserved number)))
      → MakesAtMost (most_to_finish shape) before after
  frame_few frame below top (inl is) =
      reserves_few shape frame below before top is result after
      (finished_reserving shape before result after frame below top f is)
  frame_few frame below top (inr (inl is)) =
      gone_few shape before after
      (leaves_row shape below before result after frame top is
      (finished_leaving shape before result after frame below top f is))
  frame_few frame below top (inr (inr (number, at))) =
      let one =
      one_step shape before model.steps result after
      (number_again frame.kind number below
      (subst (λ (s : Progress). FinishesFrame shape frame.kind s below before result after) at
      (finishes_top shape before result after frame below top f))) in
      omega arith

  none_few : before.frames ≡ [] → MakesAtMost (most_to_finish shape) before after
  none_few none =
      let one =
      one_step shape before model.steps result after
      (subst (λ (frames : List Frame). FinishesTop shape frames before result after) none f) in
      omega arith

  pub finishes_few : MakesAtMost (most_to_finish shape) before after
  finishes_few = by before.frames refl
    where
      by : (frames : List Frame) → before.frames ≡ frames → MakesAtMost (most_to_finish shape) before after
      by [] none = none_few none
      by (frame ∷ below) top = frame_few frame below top (how_stands frame.kind frame.state)

-- ---- `write`

pushed_not_refused : IsRefusal Pushed → ⊥
pushed_not_refused (fault, e) = cc

module _ (shape : Shape) (before after : Writing) (moment : ℕ) where
  -- the frame that was pushed, up to its last step
  module _ (pushed : Writing) (len : ℕ) (push : IsCall shape before (model.pushes moment len) Pushed pushed)
    where
      abbrev begun : HasBegun moment len before pushed
      begun = (has_begun shape before pushed moment len Pushed push pushed_not_refused).0

      abbrev Reserving : Answer → Writing → Type 0
      Reserving result next = Reserves shape (for_record moment len) before.frames pushed result next

      by_kind : (result : Answer) (next : Writing) → Reserving result next
          → Reserves shape begun.frame.kind before.frames pushed result next
      by_kind result next r =
          subst (λ (k : Purpose). Reserves shape k before.frames pushed result next) (sym begun.kind_is) r

      pushed_row : (result : Answer) (next : Writing) (frame : Frame) → Reserving result next
          → next.frames ≡ frame ∷ before.frames → InARow pushed next
      pushed_row result next frame r above =
          reserves_row shape begun.frame before.frames pushed begun.top begun.reserves result next
          (by_kind result next r) frame above

      pushed_few : (result : Answer) (next : Writing) → Reserving result next
          → MakesAtMost (most_to_finish shape) pushed next
      pushed_few result next r =
          reserves_few shape begun.frame before.frames pushed begun.top begun.reserves result next
          (by_kind result next r)

      -- all but its push are at most what `finish_top` makes
      with_push : MakesAtMost (most_to_finish shape) pushed after → MakesAtMost (most_to_write shape) before after
      with_push few = let one = one_longer shape before (model.pushes moment len) Pushed pushed push in omega arith

  -- a frame whose record is reserved ends, and goes away
  ends_few : (start held ended : Writing) (payload : List ℕ) (how : How) (t : HasReservedTop held.frames)
      → InARow start held → IsCall shape held (model.ends payload) (Ended how) ended
      → GoesAway shape ended how after → t.below ≡ after.frames → MakesAtMost (most_to_finish shape) start after
  ends_few start held ended payload Pending t row call goes under =
      let few =
      bounded shape start held (reached_before shape held (model.ends payload) (Ended Pending) ended call) row in
      let one = one_longer shape held (model.ends payload) (Ended Pending) ended call in
      let same = ap (λ (w : Writing). length w.made) goes in
      omega arith
  ends_few start held ended payload Full t row call (answer, leaves) under =
      let (frame, above, is) = alone_leaves shape held ended payload (Ended Full) call t refl in
      let none = leaves_below shape [] ended answer after leaves in
      let one =
      in_a_row shape held (model.ends payload) (Ended Full) ended call
      (top_brings (model.ends payload) held.frames t.frame t.below t.top
      (ap (brings_on (model.ends payload)) t.state_is))
      (same_depth ended.frames held.frames frame t.frame [] above
      (t.top ∙ ap (λ (fs : List Frame). t.frame ∷ fs) (under ∙ none))) in
      let g = leaves_row shape [] ended answer after frame above is leaves in
      gone_few shape start after
      record { last = g.last; reached = g.reached; row = let more = g.row in omega arith; one = g.one }

  pub written_few : (payload : List ℕ) → IsWritten shape before moment payload after
      → MakesAtMost (most_to_write shape) before after
  written_few payload w =
      let len : ℕ = length payload in
      let top = top_kind (for_record moment len) before.frames w.number w.reserved.frames w.reserve.ends in
      with_push w.pushed len w.push
      (ends_few w.pushed w.reserved w.ended (padded payload) w.how
      record {
        frame = top.next;
        below = before.frames;
        number = top.number;
        top = top.top;
        state_is = top.state_is;
      }
      (pushed_row w.pushed len w.push _ w.reserved top.next w.reserve top.top) w.end w.goes (sym w.frames))

  part_way_few : (len : ℕ) (fault : WriteFault) → IsRefusedPartWay shape before moment len fault after
      → MakesAtMost (most_to_write shape) before after
  part_way_few len fault p = with_push p.pushed len p.push (by p.goes)
    where
      by : (after ≡ p.refused)
          ⊎ ((frame : Frame)
          × (answer : Answer)
          × (p.refused.frames ≡ frame ∷ before.frames)
          × IsLeaving frame.kind frame.state
          × Leaves shape before.frames p.refused answer after)
          → MakesAtMost (most_to_finish shape) p.pushed after
      by (inl same) =
          subst (MakesAtMost (most_to_finish shape) p.pushed) (sym same)
          (pushed_few p.pushed len p.push (Refused fault) p.refused p.reserve)
      by (inr (frame, answer, above, is, leaves)) =
          let row = pushed_row p.pushed len p.push (Refused fault) p.refused frame p.reserve above in
          let g = leaves_row shape before.frames p.refused answer after frame above is leaves in
          gone_few shape p.pushed after
          record { last = g.last; reached = g.reached; row = let more = g.row in omega arith; one = g.one }

  pub refused_few : (len : ℕ) (fault : WriteFault) → IsRefusedWrite shape before moment len fault after
      → MakesAtMost (most_to_write shape) before after
  refused_few len fault (inl push) =
      let one = one_step shape before (model.pushes moment len) (Refused fault) after push in
      omega arith
  refused_few len fault (inr part) = part_way_few len fault part

  pub write_few : (payload : List ℕ) (result : Result (Unit {0}) WriteFault)
      → (result ≡ Ok tt → IsWritten shape before moment payload after)
      → ((fault : WriteFault) → result ≡ Err fault → IsRefusedWrite shape before moment (length payload) fault after)
      → MakesAtMost (most_to_write shape) before after
  write_few payload (Ok done) written refused = written_few payload (written refl)
  write_few payload (Err fault) written refused = refused_few (length payload) fault (refused fault refl)
