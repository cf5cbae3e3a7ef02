-- The histories that writers make are well-formed, so whole lines commit their records.
use Rattle.std.proofs.Common.{◌≡◌, ℕ, zero, suc, ◌≤◌, ◌<◌, List, [], ◌∷◌, ◌++◌, length, sym, ap, subst, arith}
use Rattle.std.specs.Prelude.{slice_index_or}
use Rattle.trace_model.specs.History.{HistoryEvent, open_fill, reserve}
use Rattle.trace_model.specs.Packing.{fill_len}
use Rattle.trace_model.specs.Steps.{Exchange}
use Rattle.text_model.specs.Script.{Command, begin_frame, step_frame, finish_frame, write, close, step_reader}
use Rattle.text_model.specs.Script.{take_page, wish, deliver}
use Rattle.ring_model.proofs.contents.PackedRuns.{runs_packed}
use Rattle.ring_model.proofs.partition.RingsKept.{reached_kept, reached_further}
use Rattle.world_model.specs.Lanes.{payloads_left}
use Rattle.line_model.specs.Lines.{first_state}
use Rattle.line_model.specs.WriterCalls.{LineWriting, first_writer, IsWriterCall, TopCalls, StepsCalls, none_to_step}
use Rattle.line_model.specs.WriterCalls.{steps_top, FinishCalls, none_to_finish, finishes_top, begins_frame}
use Rattle.line_model.specs.WriterCalls.{begins_none, writes_frame, writes_none, LineCalls, LinesCalls, RestCalls}
use Rattle.line_model.specs.WriterHistories.{IsWellFormed, WritersFormHistories, WritersCommitWholeLines}
use Rattle.line_model.proofs.LineCallsMade.{lines_calls_make}
use Rattle.line_model.proofs.PartsJoined.{start_between}
use Rattle.line_model.proofs.WrittenLines.{whole_lines_have_committed}

-- ---- no history

none_at : (front behind : List HistoryEvent) (a : HistoryEvent) → [] ≡ front ++ a ∷ behind → ⊥
none_at [] behind a e = let z = ap (λ (l : List HistoryEvent). length l) e in omega arith
none_at (b ∷ front) behind a e = let z = ap (λ (l : List HistoryEvent). length l) e in omega arith

pub none_formed : (size : ℕ) → IsWellFormed size []
none_formed size = (
  λ front behind a e. absurd (none_at front behind a e),
  record {
    rooms = λ k low. first_room k low;
    reserves = λ front behind r e wanted. absurd (none_at front behind reserve e);
    begins = λ front behind e. absurd (none_at front behind open_fill e);
    needed = λ front behind r e wanted. absurd (none_at front behind open_fill e);
    asked = λ front behind e wanted. absurd (none_at front behind open_fill e);
  },
)
  where
    first_room : (k : ℕ) → k < 1 → fill_len (slice_index_or ([] ∷ []) k []) ≤ size
    first_room zero low = omega arith
    first_room (suc k) low = absurd (omega arith)

-- ---- calls

module _ (n size start : ℕ) where
  abbrev Formed : LineWriting → Type 0
  Formed s = IsWellFormed size s.history

  same_formed : (s t : LineWriting) → t ≡ s → Formed s → Formed t
  same_formed s t same formed = subst Formed (sym same) formed

  call_formed : (s : LineWriting) (x : Exchange) (t : LineWriting) → IsWriterCall n size start s x t → Formed t
  call_formed s x t call =
      let reached = reached_further n size start call.core x.event x.answer call.next call.reached call.step in
      let kept = reached_kept n size start call.next reached in
      subst Formed call.after_is (kept.history.allowed, runs_packed n size start call.next kept)

  top_formed : (depth : ℕ) (s : LineWriting) (payloads : List (List ℕ)) (calls : List Exchange) (t : LineWriting)
      (lefts : List (List ℕ))
      → TopCalls n size start depth s payloads calls t lefts
      → Formed s
      → Formed t
  top_formed depth s payloads [] t lefts (same, all) formed = subst Formed same formed
  top_formed depth s payloads (x ∷ calls) t lefts (count, e, u, call, rest) formed =
      top_formed depth u (payloads_left u.frames payloads) calls t lefts rest (call_formed s x u call)

  finish_formed : (s : LineWriting) (payloads : List (List ℕ)) (made : List Exchange) (t : LineWriting)
      (lefts : List (List ℕ))
      → FinishCalls n size start s payloads made t lefts
      → Formed s
      → Formed t
  finish_formed s payloads made t lefts (none_to_finish none empty same all) formed = same_formed s t same formed
  finish_formed s payloads made t lefts (finishes_top depth some called low) formed =
      top_formed depth s payloads made t lefts called formed

  module _ (s : LineWriting) (payloads : List (List ℕ)) (made : List Exchange) (t : LineWriting)
      (lefts : List (List ℕ)) where
    steps_formed : (count : ℕ) → StepsCalls n size start count s payloads made t lefts → Formed s → Formed t
    steps_formed count (none_to_step none empty same all) formed = same_formed s t same formed
    steps_formed count (steps_top depth x calls is some called few stop) formed =
        top_formed depth s payloads (x ∷ calls) t lefts called formed

    line_formed : (line : Command) → LineCalls n size start line s payloads made t lefts → Formed s → Formed t
    line_formed (begin_frame cpu moment payload) (begins_frame is call all) formed = call_formed s _ t call
    line_formed (begin_frame cpu moment payload) (begins_none why is call all) formed = call_formed s _ t call
    line_formed (step_frame cpu count) calls formed = steps_formed count calls formed
    line_formed (finish_frame cpu) calls formed = finish_formed s payloads made t lefts calls formed
    line_formed (write cpu moment payload) (writes_none why is call all) formed = call_formed s _ t call
    line_formed (close cpu) (writes_none why is call all) formed = call_formed s _ t call
    line_formed (step_reader cpu count) (none, same, all) formed = same_formed s t same formed
    line_formed (take_page cpu) (none, same, all) formed = same_formed s t same formed
    line_formed (wish cpu) (none, same, all) formed = same_formed s t same formed
    line_formed (deliver collector cpu fill) (none, same, all) formed = same_formed s t same formed
    line_formed (write cpu moment payload) (writes_frame u finishing cut call f) formed =
        finish_formed u (payload ∷ payloads) finishing t lefts f (call_formed s _ u call)
    line_formed (close cpu) (writes_frame u finishing cut call f) formed =
        finish_formed u ([] ∷ payloads) finishing t lefts f (call_formed s _ u call)

  lines_formed : (lines : List Command) (s : LineWriting) (payloads : List (List ℕ)) (made : List Exchange)
      (t : LineWriting) (lefts : List (List ℕ))
      → LinesCalls n size start lines s payloads made t lefts
      → Formed s
      → Formed t
  lines_formed [] s payloads made t lefts (none, same, all) formed = same_formed s t same formed
  lines_formed (line ∷ lines) s payloads made t lefts (own, others, cut, u, middle, calls, rest) formed =
      lines_formed lines u middle others t lefts rest (line_formed s payloads own u middle line calls formed)

  rest_formed : (count : ℕ) (s : LineWriting) (payloads : List (List ℕ)) (made : List Exchange) (t : LineWriting)
      (lefts : List (List ℕ))
      → RestCalls n size start count s payloads made t lefts
      → Formed s
      → Formed t
  rest_formed zero s payloads made t lefts (none, same, all) formed = same_formed s t same formed
  rest_formed (suc count) s payloads made t lefts (own, others, cut, u, middle, calls, rest) formed =
      rest_formed count u middle others t lefts rest (finish_formed s payloads own u middle calls formed)

pub writers_form_histories : WritersFormHistories
writers_form_histories n size start count lines made s payloads more t lefts calls rest =
    let formed = lines_formed n size start lines (first_writer start) [] made s payloads calls (none_formed size) in
    (formed, rest_formed n size start count s payloads more t lefts rest formed)

pub writers_commit_whole_lines : WritersCommitWholeLines
writers_commit_whole_lines n size start lines made s payloads two whole room calls =
    let (is_history, packed) =
    lines_formed n size start lines (first_writer start) [] made s payloads calls (none_formed size) in
    let (events, q, parts, there) =
    lines_calls_make n size start lines (first_writer start) [] made s payloads (first_state start)
    (start_between n start (omega arith)) calls in
    whole_lines_have_committed n size start lines s.history two whole room is_history packed
    record { events = events; after = q; parts = parts; history_is = sym there.agrees.history }
