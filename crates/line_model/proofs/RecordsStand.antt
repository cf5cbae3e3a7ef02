-- Between two lines all frames on the stack are record frames.
use Rattle.std.proofs.Common.{◌≡◌, ℕ, suc, ◌≤◌, List, [], ◌∷◌, length, refl, sym, ap, ◌∙◌, subst, inr, arith}
use Rattle.trace_model.specs.History.{HistoryEvent}
use Rattle.trace_model.specs.Frames.{Purpose, for_record, Frame}
use Rattle.trace_model.specs.Ring.{Core}
use Rattle.trace_model.specs.Steps.{reads, wishes, Answer, Exchange}
use Rattle.trace_model.proofs.steps.StepSound.{cases_of}
use Rattle.text_model.specs.Script.{Command, begin_frame, step_frame, finish_frame, write, close, step_reader}
use Rattle.text_model.specs.Script.{take_page, wish, deliver}
use Rattle.world_model.specs.Lanes.{Lane, lane_behind, FrameRun, StepsFrame, lacks_to_step, steps_on, FinishesFrame}
use Rattle.world_model.specs.Lanes.{lacks_to_finish, finishes, FinishesPushed, ReaderRun, LineRun}
use Rattle.world_model.proofs.FramesMove.{Moves, PushesNone, step_moves}
use Rattle.world_model.proofs.LanePayloads.{pushes_none}
use Rattle.line_model.specs.LineParts.{AreForRecords}
use Rattle.line_model.proofs.CallParts.{moved_records}
use Rattle.line_model.proofs.PushCases.{PushCases, is_pushed, is_refused, record_push, close_push}
use Rattle.line_model.proofs.LineCallsMade.{AreRecordsBelow, moved_below, popped_records}

abbrev pub HasRecords : Lane → Type 0
HasRecords lane = AreForRecords lane.core.frames

-- all frames are record frames, but perhaps the one that has depth frames below it
abbrev HasRecordsBelow : ℕ → Lane → Type 0
HasRecordsBelow depth lane = AreRecordsBelow depth lane.core.frames

-- what each step of the frame on top keeps, if it pushes none
module _ (n size : ℕ) (P : List Frame → Type 0)
    (moved : (frames after : List Frame) → Moves frames after → P frames → P after) where
  frames_keep : (depth : ℕ) (before after : Lane) (xs : List Exchange)
      → FrameRun n size depth before xs after
      → P before.core.frames
      → P after.core.frames
  frames_keep depth before after [] same holds = subst (λ (l : Lane). P l.core.frames) same holds
  frames_keep depth before after (x ∷ xs) (count, event, core, step, run) holds =
      frames_keep depth (lane_behind before core) after xs run
      (moved before.core.frames core.frames
      (step_moves n size before.core x.event x.answer core
      (subst PushesNone (sym event) (pushes_none before.core.frames before.payloads)) (cases_of step)) holds)

module _ (n size : ℕ) where
  abbrev Keeps : Lane → Lane → Type 0
  Keeps before after = HasRecords before → HasRecords after

  steps_keep : (count : ℕ) (before after : Lane) (xs : List Exchange)
      → StepsFrame n size count before xs after
      → Keeps before after
  steps_keep count before after xs (lacks_to_step h) are = subst HasRecords (sym h.stays) are
  steps_keep count before after xs (steps_on some run stop) are =
      frames_keep n size AreForRecords moved_records _ before after xs run are

  finish_keeps : (before after : Lane) (xs : List Exchange) → FinishesFrame n size before xs after → Keeps before after
  finish_keeps before after xs (lacks_to_finish h) are = subst HasRecords (sym h.stays) are
  finish_keeps before after xs (finishes some run ended) are =
      frames_keep n size AreForRecords moved_records _ before after xs run are

  -- a frame that was pushed is finished
  abbrev Below : Lane → Type 0
  Below lane = (depth : ℕ) × (length lane.core.frames ≤ suc depth) × HasRecordsBelow depth lane

  finish_below : (before after : Lane) (xs : List Exchange)
      → FinishesFrame n size before xs after
      → Below before
      → HasRecords after
  finish_below before after xs (lacks_to_finish h) (depth, low, are) =
      subst HasRecords (sym h.stays) (subst AreForRecords (sym h.none) tt)
  finish_below before after xs (finishes some run ended) (depth, low, are) =
      popped_records n size 0 depth after.core.frames (omega (arith, low, ended))
      (frames_keep n size (AreRecordsBelow depth) (moved_below depth) _ before after xs run are)

  -- a push, after which the frame that was pushed is finished, or nothing is done
  pushed_keeps : (kind : Purpose) (before between after : Lane) (Refused : Type 0) (event : HistoryEvent)
      (answer : Answer)
      (core : Core) (xs : List Exchange)
      → between.core ≡ core
      → PushCases Refused kind event before.core answer core
      → FinishesPushed n size answer between xs after
      → Keeps before after
  pushed_keeps kind before between after Refused event answer core xs same (is_pushed a may is) rest are =
      let frames = ap (λ (c : Core). c.frames) same ∙ ap (λ (c : Core). c.frames) is in
      let long = ap (λ (l : List Frame). length l) frames in
      finish_below between after xs (subst (λ (b : Answer). FinishesPushed n size b between xs after) a rest) (
        length before.core.frames,
        omega (arith, long),
        inr (_, before.core.frames, frames, refl, are),
      )
  pushed_keeps kind before between after Refused event answer core xs same (is_refused why a because is) rest are =
      let stays = (subst (λ (b : Answer). FinishesPushed n size b between xs after) a rest).1 in
      subst HasRecords (sym stays)
      (subst (λ (c : Core). AreForRecords c.frames) (sym (same ∙ is)) are)

  begin_keeps : (moment len : ℕ) (before after : Lane) (Refused : Type 0) (event : HistoryEvent) (answer : Answer)
      (core : Core)
      → after.core ≡ core
      → PushCases Refused (for_record moment len) event before.core answer core
      → Keeps before after
  begin_keeps moment len before after Refused event answer core same (is_pushed a may is) are =
      subst AreForRecords (sym (ap (λ (c : Core). c.frames) (same ∙ is))) ((moment, len, refl), are)
  begin_keeps moment len before after Refused event answer core same (is_refused why a because is) are =
      subst AreForRecords (sym (ap (λ (c : Core). c.frames) (same ∙ is))) are

  -- a step that changes no frame
  reader_keeps : (before after : Lane) (xs : List Exchange) → ReaderRun n size before xs after → Keeps before after
  reader_keeps before after [] same are = subst HasRecords same are
  reader_keeps before after (x ∷ xs) (event, more, core, step, run) are =
      reader_keeps (lane_behind before core) after xs run
      (moved_records before.core.frames core.frames
      (step_moves n size before.core reads x.answer core tt (cases_of step)) are)

  pub line_records : (command : Command) (before after : Lane) (xs : List Exchange)
      → LineRun n size command before xs after
      → Keeps before after
  line_records (begin_frame cpu moment payload) before after xs (x, is, p) are =
      begin_keeps moment (length payload) before after _ _ x.answer p.core (ap (λ (l : Lane). l.core) p.after_is)
      (record_push n size before.core moment (length payload) x.answer p.core (cases_of p.step)) are
  line_records (step_frame cpu count) before after xs run are = steps_keep count before after xs run are
  line_records (finish_frame cpu) before after xs run are = finish_keeps before after xs run are
  line_records (write cpu moment payload) before after xs w are =
      pushed_keeps _ before w.between after _ _ w.push.answer w.pushes.core w.rest
      (ap (λ (l : Lane). l.core) w.pushes.after_is)
      (record_push n size before.core moment (length payload) w.push.answer w.pushes.core (cases_of w.pushes.step))
      w.finishes are
  line_records (close cpu) before after xs w are =
      pushed_keeps _ before w.between after _ _ w.push.answer w.pushes.core w.rest
      (ap (λ (l : Lane). l.core) w.pushes.after_is)
      (close_push n size before.core w.push.answer w.pushes.core (cases_of w.pushes.step)) w.finishes are
  line_records (step_reader cpu count) before after xs run are = reader_keeps before after xs run.0 are
  line_records (take_page cpu) before after xs run are = reader_keeps before after xs run.0 are
  line_records (wish cpu) before after xs w are =
      subst HasRecords (sym w.after_is)
      (moved_records before.core.frames w.core.frames
      (step_moves n size before.core wishes w.answer w.core tt (cases_of w.step)) are)
  line_records (deliver collector cpu fill) before after xs run are = subst HasRecords (sym run.1) are
