-- A record that is put in the tail at once, as three private steps: its frame is pushed, reserves and ends.
use Rattle.std.proofs.Common.{◌≡◌, ℕ, ◌<◌, List, [], ◌∷◌, ◌++◌, length, Some, refl, sym, ap, ◌∙◌, subst}
use Rattle.std.proofs.Common.{arith, append_assoc}
use Rattle.trace_model.specs.declared.limits.TheConstants.{MAX_FRAMES}
use Rattle.trace_model.specs.Words.{slot_len, padded}
use Rattle.trace_model.specs.History.{HistoryEvent, push, reserve, leave, record_frame, writer_after, reserved_records}
use Rattle.trace_model.specs.Packing.{tail_of, FitsBehind}
use Rattle.trace_model.specs.Frames.{for_record, waiting, reserved, idle, pushed_of, Frame as ModelFrame}
use Rattle.trace_model.specs.Ring.{Core}
use Rattle.trace_model.specs.Steps as model
use Rattle.trace_model.proofs.steps.StepCases as cases
use Rattle.trace_model.proofs.words.Lengths.{length-padded, slot_len-slot_len}
use Rattle.trace_model.proofs.histories.NextEvent.{reserved_stack}
use Rattle.trace_model.proofs.steps.StepIs.{step_by}
use Rattle.nested_writer.specs.declared.frame.Purpose.TheVariants.{Record}
use Rattle.nested_writer.specs.Stack.{Stack, next_number, model_frames}
use Rattle.nested_writer.specs.Calls.{with_frame}
use Rattle.nested_writer.specs.IsStack.{IsStack}
use Rattle.nested_writer.specs.AtOnce.{FitsInTail}
use Rattle.nested_writer.specs.Allotted.{HasEvents}
use Rattle.nested_writer.proofs.Pushing.{pushed_record}
use Rattle.nested_writer.proofs.Answering.{number_counts, record_fits}
use Rattle.nested_writer.proofs.AtOnce.{padded_twice, left_alike, fits_page}
use Rattle.ring_frames.specs.Value.{FramesValue}
use Rattle.ring_frames.specs.AreFrames.{AreFrames}
use Rattle.ring_frames.proofs.Pushed.{new_frame, has_room}

module _ (n size start : ℕ) (v : FramesValue) (c : Core) (k : AreFrames n size start v c) (moment : ℕ)
    (payload : List ℕ) (few : length v.stack.frames < MAX_FRAMES)
    (fits : FitsInTail v.stack moment (length payload)) (below : List ModelFrame) (is_below : c.frames ≡ below) where
  abbrev len : ℕ
  len = length payload

  -- ---- the states on the way

  -- its frame as it is pushed, and once it has reserved
  abbrev pub waits : ModelFrame
  waits = record { kind = for_record moment len; state = waiting; phase = idle }

  abbrev pub holds : ℕ → ModelFrame
  holds number = record { kind = for_record moment len; state = reserved number; phase = idle }

  abbrev pub pushed : Core
  pushed = model.with_history_event (model.with_frame c (for_record moment len)) (push moment len)

  abbrev number : ℕ
  number = length (reserved_records pushed.history)

  abbrev pub with_its_record : Core
  with_its_record =
      model.in_reserved (model.with_reservation pushed (model.new_reservation pushed moment len)) waits below number

  abbrev pub after : Core
  after = model.after_leave with_its_record (holds number) below (Some (padded payload))

  -- ---- the steps

  pub push_is : model.Step n size c (model.pushes moment len) model.pushed pushed
  push_is = step_by (cases.push_step moment len refl (has_room n size start v c k few)
      (subst (λ (s : ℕ). model.IsTooLong s len → ⊥) k.size_is fits.0.0) fits.0.1 refl refl)

  pub pushed_frames : pushed.frames ≡ waits ∷ below
  pushed_frames = ap (λ (fs : List ModelFrame). waits ∷ fs) is_below

  abbrev pushed_stack : Stack
  pushed_stack = with_frame v.stack (new_frame (Record moment len))

  is_pushed : IsStack start pushed.history pushed_stack
  is_pushed =
      pushed_record start c.history v.stack moment len (fits_page v.stack.size len fits.0.0) fits.0.1 k.stack_is

  numbered : next_number v.stack ≡ number
  numbered = number_counts start pushed.history pushed_stack is_pushed

  pub reserve_is : model.Step n size pushed model.steps (model.reserved_as (next_number v.stack)) with_its_record
  reserve_is =
      let room = fits.1 in
      let tail = record_fits start pushed.history pushed_stack is_pushed moment len (λ past. omega arith) in
      step_by (cases.frame_step waits below refl pushed_frames
      (cases.reserves moment len (model.new_reservation pushed moment len) refl refl
      (subst (λ (s : ℕ). FitsBehind s (tail_of pushed.history) (model.new_reservation pushed moment len)) k.size_is
      tail) (ap model.reserved_as numbered) refl))

  pub has_slot : with_its_record.frames ≡ holds (next_number v.stack) ∷ below
  has_slot = ap (λ (k : ℕ). holds k ∷ below) (sym numbered)

  same_slot : slot_len (length (padded payload)) ≡ slot_len len
  same_slot = ap slot_len (length-padded payload) ∙ slot_len-slot_len len

  pub end_is : model.Step n size with_its_record (model.ends (padded payload)) (model.end_answer below) after
  end_is =
      step_by
      (cases.end_step (padded payload) (holds number) below number moment len refl refl refl refl same_slot refl refl)

  -- ---- the stack after them

  reserved_above : (writer_after (pushed.history ++ reserve ∷ [])).stack
      ≡ record_frame moment len (Some number) ∷ pushed_of (model_frames v.stack.frames)
  reserved_above =
      reserved_stack pushed.history moment len (pushed_of (model_frames v.stack.frames)) is_pushed.stack_is

  pub kept : (stack : Stack) → HasEvents v.stack (push moment len ∷ reserve ∷ leave (Some payload) ∷ []) stack
      → IsStack start after.history stack
  kept stack has_events =
      let turns =
      append_assoc pushed.history (reserve ∷ []) (leave (Some payload) ∷ [])
      ∙ append_assoc c.history (push moment len ∷ []) (reserve ∷ leave (Some payload) ∷ []) in
      left_alike start (pushed.history ++ reserve ∷ []) stack moment len number
      (pushed_of (model_frames v.stack.frames)) (padded payload) payload (padded_twice payload) reserved_above same_slot
      (subst (λ (h : List HistoryEvent). IsStack start h stack) (sym turns) (has_events start c.history k.stack_is))
