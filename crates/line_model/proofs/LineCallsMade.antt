-- The calls of lines are the parts of these lines.
use Rattle.std.proofs.Common.{◌≡◌, ℕ, zero, suc, ◌≤◌, ◌⊎◌, List, [], ◌∷◌, ◌++◌, length, refl, sym, ap, ◌∙◌, subst, inl}
use Rattle.std.proofs.Common.{inr, arith}
use Rattle.trace_model.specs.History.{push}
use Rattle.trace_model.specs.Window.{RingEvent, acts}
use Rattle.trace_model.specs.Frames.{for_close, waiting, idle, Frame, WriteFault}
use Rattle.trace_model.specs.Steps.{pushes, pushes_close, pushed, refused, Exchange}
use Rattle.text_model.specs.Script.{Command, begin_frame, step_frame, finish_frame, write, close, step_reader}
use Rattle.text_model.specs.Script.{take_page, wish, deliver}
use Rattle.world_model.specs.Lanes.{payloads_left}
use Rattle.world_model.proofs.FramesMove.{Moves, stays, changes, pops}
use Rattle.line_model.specs.Lines.{LineState, OpenFrame, first_state, frame_count, with_top_stepped, ReservesFirst}
use Rattle.line_model.specs.Lines.{stays_on, TopPart, FinishPart, IsQuiet, LinePart}
use Rattle.line_model.specs.WriterCalls.{LineWriting, first_writer, IsWriterCall, TopCalls, StepsCalls, none_to_step}
use Rattle.line_model.specs.WriterCalls.{steps_top, FinishCalls, none_to_finish, finishes_top, BeginCalls, begins_frame}
use Rattle.line_model.specs.WriterCalls.{begins_none, WholeCalls, writes_frame, writes_none, LineCalls}
use Rattle.line_model.specs.CallEvents.{AreOpenFrames, Agrees}
use Rattle.line_model.specs.LineParts.{PushMakes, AreForRecords, IsBetweenLines, LineCallsMake, LinesCallsMake}
use Rattle.line_model.specs.LineParts.{RestCallsMake, WriterMakesLines}
use Rattle.line_model.proofs.EventsMade.{count_frames}
use Rattle.line_model.proofs.CallParts.{moved_records, call_moves, calls_step, calls_finish}
use Rattle.line_model.proofs.PushParts.{Pushing, pushing_of, pushes_make, writes_make}
use Rattle.line_model.proofs.CloseParts.{Closing, closing_of, closes_make}
use Rattle.line_model.proofs.PartsJoined.{start_between}

-- ---- the kinds of frames, until the top frame is popped

-- all frames are record frames, but perhaps the one that has depth frames below it
abbrev pub AreRecordsBelow : ℕ → List Frame → Type 0
AreRecordsBelow depth frames =
    AreForRecords frames
    ⊎ ((top : Frame) × (below : List Frame)
    × (frames ≡ top ∷ below)
    × (length below ≡ depth)
    × AreForRecords below)

abbrev others_of : List Frame → List Frame
others_of [] = []
others_of (first ∷ others) = others

pub moved_below : (depth : ℕ) (frames after : List Frame)
    → Moves frames after
    → AreRecordsBelow depth frames
    → AreRecordsBelow depth after
moved_below depth frames after moves (inl are) = inl (moved_records frames after moves are)
moved_below depth frames after (stays is) (inr (top, below, e, deep, are)) = inr (top, below, is ∙ e, deep, are)
moved_below depth frames after (changes frame next rest at kind is) (inr (top, below, e, deep, are)) =
    let same : rest ≡ below = ap others_of (sym at ∙ e) in
    inr (next, below, is ∙ ap (λ (l : List Frame). next ∷ l) same, deep, are)
moved_below depth frames after (pops frame rest at is) (inr (top, below, e, deep, are)) =
    let same : rest ≡ below = ap others_of (sym at ∙ e) in inl (subst AreForRecords (sym (is ∙ same)) are)

module _ (n size start depth : ℕ) where
  calls_below : (s : LineWriting) (payloads : List (List ℕ)) (calls : List Exchange) (t : LineWriting)
      (lefts : List (List ℕ))
      → TopCalls n size start depth s payloads calls t lefts
      → AreRecordsBelow depth s.frames
      → AreRecordsBelow depth t.frames
  calls_below s payloads [] t lefts (same, lasts) are =
      subst (λ (v : LineWriting). AreRecordsBelow depth v.frames) same are
  calls_below s payloads (x ∷ calls) t lefts (some, e, u, call, rest) are =
      calls_below u (payloads_left u.frames payloads) calls t lefts rest
      (moved_below depth s.frames u.frames (call_moves n size start s x u payloads e call) are)

  calls_records : (s : LineWriting) (payloads : List (List ℕ)) (calls : List Exchange) (t : LineWriting)
      (lefts : List (List ℕ))
      → TopCalls n size start depth s payloads calls t lefts
      → AreForRecords s.frames
      → AreForRecords t.frames
  calls_records s payloads [] t lefts (same, lasts) are = subst (λ (v : LineWriting). AreForRecords v.frames) same are
  calls_records s payloads (x ∷ calls) t lefts (some, e, u, call, rest) are =
      calls_records u (payloads_left u.frames payloads) calls t lefts rest
      (moved_records s.frames u.frames (call_moves n size start s x u payloads e call) are)

  -- it is popped, so the others are left
  pub popped_records : (frames : List Frame) → length frames ≤ depth → AreRecordsBelow depth frames
      → AreForRecords frames
  popped_records frames low (inl are) = are
  popped_records frames low (inr (top, below, e, deep, are)) =
      absurd (let long = ap (λ (l : List Frame). length l) e in omega arith)

-- ---- `f` and `s` without a frame

module _ (n size : ℕ) (p : LineState) (payloads : List (List ℕ)) (s : LineWriting) (agrees : Agrees n p payloads s)
    (none : s.frames ≡ []) where
  no_frames : p.frames ≡ []
  no_frames = in_frames s.frames none agrees.frames
    where
      in_frames : (frames : List Frame)
          → frames ≡ []
          → AreOpenFrames frames payloads p.frames p.finishing
          → p.frames ≡ []
      in_frames [] e (no_payloads, open_none, not_finishing) = open_none
      in_frames (frame ∷ below) e are = absurd (let z = ap (λ (l : List Frame). length l) e in omega arith)

  pub none_counted : frame_count p ≡ 0
  none_counted = count_frames s.frames payloads p.frames p.finishing agrees.frames
      ∙ ap (λ (l : List Frame). length l) none

  none_part : TopPart n size p [] p
  none_part = record {
    first = subst (λ (xs : List OpenFrame). ReservesFirst size p xs []) (sym no_frames) tt;
    reached = p;
    run = ap (λ (xs : List OpenFrame). let q : LineState = record p { frames = xs } in q)
        (ap with_top_stepped no_frames ∙ sym no_frames);
    goes = stays_on refl;
  }

-- ---- the line

module _ (n size start : ℕ) (s : LineWriting) (payloads : List (List ℕ)) (made : List Exchange) (t : LineWriting)
    (lefts : List (List ℕ)) (p : LineState) (between : IsBetweenLines n p payloads s) where
  -- what a line has made
  abbrev MadePart : (LineState → List RingEvent → LineState → Type 0) → Type 0
  MadePart Part = (events : List RingEvent) × (q : LineState) × Part p events q × IsBetweenLines n q lefts t

  -- nothing is changed
  between_same : t ≡ s → lefts ≡ payloads → IsBetweenLines n p lefts t
  between_same same all =
      subst (λ (v : LineWriting). IsBetweenLines n p lefts v) (sym same)
      (subst (λ (l : List (List ℕ)). IsBetweenLines n p l s) (sym all) between)

  quiet : t ≡ s → lefts ≡ payloads → MadePart (IsQuiet n)
  quiet same all = ([], p, record { acts_none = refl; window = refl; after_is = refl }, between_same same all)

  by_steps : (count cpu : ℕ)
      → StepsCalls n size start count s payloads made t lefts
      → MadePart (LinePart n size (step_frame cpu count))
  by_steps count cpu (none_to_step none empty same all) = (
    [],
    p,
    record { top = none_part n size p payloads s between.agrees none; few = omega arith },
    between_same same all,
  )
  by_steps count cpu (steps_top depth x calls is some called few stop) =
      let (events, q, part, agrees) =
      calls_step n size start depth count s payloads x calls t lefts p between.agrees between.for_records some
      called few in (
        events,
        q,
        part,
        record {
          agrees = agrees;
          for_records = calls_records n size start depth s payloads (x ∷ calls) t lefts called between.for_records;
        },
      )

  by_finish : FinishCalls n size start s payloads made t lefts → MadePart (FinishPart n size)
  by_finish (none_to_finish none empty same all) =
      let count = none_counted n size p payloads s between.agrees none in (
        [],
        p,
        record { top = none_part n size p payloads s between.agrees none; is_gone = omega arith },
        between_same same all,
      )
  by_finish (finishes_top depth some called low) =
      let (events, q, part, agrees) =
      calls_finish n size start depth s payloads made t lefts p between.agrees some called (omega arith) in (
        events,
        q,
        part,
        record {
          agrees = agrees;
          for_records = calls_records n size start depth s payloads made t lefts called between.for_records;
        },
      )

  -- a push that is refused: the part of a `b` and of a `w` line
  refused_push : (cpu moment : ℕ) (payload : List ℕ) (why : WriteFault)
      → IsWriterCall n size start s record { event = pushes moment (length payload); answer = refused why } t
      → LinePart n size (begin_frame cpu moment payload) p [] p
      × LinePart n size (write cpu moment payload) p [] p
      × (t ≡ s)
  refused_push cpu moment payload why call =
      refused_part (pushing_of n size start moment (length payload) (refused why) s t call)
      (pushes_make n size start cpu moment payload (refused why) s t payloads p between.agrees call)
    where
      refused_part : Pushing size s moment (length payload) (refused why) t
          → PushMakes n size cpu moment payload (refused why) t payloads p
          → LinePart n size (begin_frame cpu moment payload) p [] p
          × LinePart n size (write cpu moment payload) p [] p
          × (t ≡ s)
      refused_part (inr (w, e, because, is)) (inr (v, f, part, whole, agrees)) = (part, whole, is)
      refused_part (inr (w, e, because, is)) (inl (e2, behind, part, agrees)) =
          absurd (let both : refused why ≡ pushed = e2 in cc)
      refused_part (inl (e, may, is)) made = absurd (let both : refused why ≡ pushed = e in cc)

  by_begin : (cpu moment : ℕ) (payload : List ℕ)
      → BeginCalls n size start (pushes moment (length payload)) payload s payloads made t lefts
      → MadePart (LinePart n size (begin_frame cpu moment payload))
  by_begin cpu moment payload (begins_frame is_one call all) =
      pushed_part (pushing_of n size start moment (length payload) pushed s t call)
      (pushes_make n size start cpu moment payload pushed s t payloads p between.agrees call)
    where
      pushed_part : Pushing size s moment (length payload) pushed t
          → PushMakes n size cpu moment payload pushed t payloads p
          → MadePart (LinePart n size (begin_frame cpu moment payload))
      pushed_part (inl (a, may, is)) (inl (b, behind, part, agrees)) = (
        acts (push moment (length payload)) ∷ [],
        behind,
        part,
        record {
          agrees = subst (λ (l : List (List ℕ)). Agrees n behind l t) (sym all) agrees;
          for_records =
              subst (λ (v : LineWriting). AreForRecords v.frames) (sym is)
              ((moment, length payload, refl), between.for_records);
        },
      )
      pushed_part (inl (a, may, is)) (inr (why, e, part, whole, agrees)) =
          absurd (let both : pushed ≡ refused why = e in cc)
      pushed_part (inr (why, e, because, is)) made = absurd (let both : pushed ≡ refused why = e in cc)
  by_begin cpu moment payload (begins_none why is_one call all) =
      let (part, whole, same) = refused_push cpu moment payload why call in ([], p, part, between_same same all)

  by_write : (cpu moment : ℕ) (payload : List ℕ)
      → WholeCalls n size start (pushes moment (length payload)) payload s payloads made t lefts
      → MadePart (LinePart n size (write cpu moment payload))
  by_write cpu moment payload (writes_frame u calls cut call (none_to_finish none empty same all)) =
      absurd (no_push (pushing_of n size start moment (length payload) pushed s u call))
    where
      no_push : Pushing size s moment (length payload) pushed u → ⊥
      no_push (inl (a, may, is)) = let z =
          ap (λ (l : List Frame). length l) (sym none ∙ ap (λ (v : LineWriting). v.frames) is) in omega arith
      no_push (inr (why, e, because, is)) = absurd (let both : pushed ≡ refused why = e in cc)
  by_write cpu moment payload (writes_frame u calls cut call (finishes_top depth some called low)) =
      by_push (pushing_of n size start moment (length payload) pushed s u call)
    where
      by_push : Pushing size s moment (length payload) pushed u → MadePart (LinePart n size (write cpu moment payload))
      by_push (inl (a, may, is)) =
          let long : length u.frames ≡ suc (length s.frames) = ap (λ (v : LineWriting). length v.frames) is in
          let deep : depth ≡ length s.frames = omega arith in
          let calls_at = subst (λ (d : ℕ). TopCalls n size start d u (payload ∷ payloads) calls t lefts) deep called in
          let (events, q, part, agrees) =
          writes_make n size start cpu moment payload s u payloads calls t lefts p between.agrees call calls_at
          (omega arith) in (
            events,
            q,
            part,
            record {
              agrees = agrees;
              for_records = calls_records n size start depth u (payload ∷ payloads) calls t lefts called
                  (subst (λ (v : LineWriting). AreForRecords v.frames) (sym is)
                  ((moment, length payload, refl), between.for_records));
            },
          )
      by_push (inr (why, e, because, is)) = absurd (let both : pushed ≡ refused why = e in cc)
  by_write cpu moment payload (writes_none why is_one call all) =
      let (part, whole, same) = refused_push cpu moment payload why call in ([], p, whole, between_same same all)

  by_close : (cpu : ℕ)
      → WholeCalls n size start pushes_close [] s payloads made t lefts
      → MadePart (LinePart n size (close cpu))
  by_close cpu (writes_frame u calls cut call (none_to_finish none empty same all)) =
      absurd (no_push (closing_of n size start pushed s u call))
    where
      no_push : Closing s pushed u → ⊥
      no_push (inl (a, few, is)) = let z =
          ap (λ (l : List Frame). length l) (sym none ∙ ap (λ (v : LineWriting). v.frames) is) in omega arith
      no_push (inr (why, e, because, is)) = absurd (let both : pushed ≡ refused why = e in cc)
  by_close cpu (writes_frame u calls cut call (finishes_top depth some called low)) =
      by_push (closing_of n size start pushed s u call)
    where
      by_push : Closing s pushed u → MadePart (LinePart n size (close cpu))
      by_push (inl (a, few, is)) =
          let long : length u.frames ≡ suc (length s.frames) = ap (λ (v : LineWriting). length v.frames) is in
          let deep : depth ≡ length s.frames = omega arith in
          let calls_at = subst (λ (d : ℕ). TopCalls n size start d u ([] ∷ payloads) calls t lefts) deep called in
          let (events, q, part, agrees) =
          (closes_make n size start cpu pushed s u payloads calls t lefts p between.agrees call).0 refl calls_at
          (omega arith) in (
            events,
            q,
            part,
            record {
              agrees = agrees;
              for_records =
                  popped_records n size start depth t.frames low
                  (calls_below n size start depth u ([] ∷ payloads) calls t lefts called
                  (subst (λ (v : LineWriting). AreRecordsBelow depth v.frames) (sym is)
                  (inr (
                    record { kind = for_close; state = waiting; phase = idle },
                    s.frames,
                    refl,
                    sym deep,
                    between.for_records,
                  ))));
            },
          )
      by_push (inr (why, e, because, is)) = absurd (let both : pushed ≡ refused why = e in cc)
  by_close cpu (writes_none why is_one call all) = by_refusal (closing_of n size start (refused why) s t call)
    where
      by_refusal : Closing s (refused why) t → MadePart (LinePart n size (close cpu))
      by_refusal (inl (e, few, is)) = absurd (let both : refused why ≡ pushed = e in cc)
      by_refusal (inr (w, e, because, is)) = (
        [],
        p,
        ((closes_make n size start cpu (refused why) s t payloads [] t lefts p between.agrees call).1 why
            refl).0,
        between_same is all,
      )

  by_line : (line : Command) → LineCalls n size start line s payloads made t lefts → MadePart (LinePart n size line)
  by_line (begin_frame cpu moment payload) calls = by_begin cpu moment payload calls
  by_line (step_frame cpu count) calls = by_steps count cpu calls
  by_line (finish_frame cpu) calls = by_finish calls
  by_line (write cpu moment payload) calls = by_write cpu moment payload calls
  by_line (close cpu) calls = by_close cpu calls
  by_line (step_reader cpu count) calls = quiet calls.1 calls.2
  by_line (take_page cpu) calls = quiet calls.1 calls.2
  by_line (wish cpu) calls = quiet calls.1 calls.2
  by_line (deliver collector cpu fill) calls = quiet calls.1 calls.2

pub line_calls_make : LineCallsMake
line_calls_make n size start line s payloads made t lefts p between calls =
    by_line n size start s payloads made t lefts p between line calls

-- ---- lines

pub lines_calls_make : LinesCallsMake
lines_calls_make n size start [] s payloads made t lefts p between (none, same, all) =
    ([], p, (refl, refl), between_same n size start s payloads made t lefts p between same all)
lines_calls_make n size start (line ∷ lines) s payloads made t lefts p between
    (own, others, cut, u, middle, calls, more) =
    let (front, q, part, here) = line_calls_make n size start line s payloads own u middle p between calls in
    let (behind, r, parts, there) = lines_calls_make n size start lines u middle others t lefts q here more in
    (front ++ behind, r, (front, behind, q, refl, part, parts), there)

pub rest_calls_make : RestCallsMake
rest_calls_make n size start zero s payloads made t lefts p between (none, same, all) =
    ([], p, (refl, refl), between_same n size start s payloads made t lefts p between same all)
rest_calls_make n size start (suc count) s payloads made t lefts p between
    (own, others, cut, u, middle, calls, more) =
    let (front, q, part, here) = by_finish n size start s payloads own u middle p between calls in
    let (behind, r, parts, there) = rest_calls_make n size start count u middle others t lefts q here more in
    (front ++ behind, r, (front, behind, q, refl, part, parts), there)

pub writer_makes_lines : WriterMakesLines
writer_makes_lines n size start lines t some r none =
    let (by_lines, behind, parts, here) =
    lines_calls_make n size start lines (first_writer start) [] r.by_lines r.behind r.payloads (first_state start)
    (start_between n start some) r.calls in
    let (by_rest, last, finishes, there) =
    rest_calls_make n size start r.count r.behind r.payloads r.by_rest t r.lefts behind here r.rest in
    record {
      by_lines = by_lines;
      behind = behind;
      parts = parts;
      count = r.count;
      by_rest = by_rest;
      last = last;
      rest = finishes;
      none_left = none_counted n size last r.lefts t there.agrees none;
      history_is = sym there.agrees.history;
    }
