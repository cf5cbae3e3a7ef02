-- A push of a script's line, case by case: a frame is pushed, or it is refused.
use Rattle.std.proofs.Common.{◌≡◌, ℕ, ◌+◌, ◌<◌, ◌≤◌, ◌⊎◌, true, length, sym, ap, subst, inl, inr, arith}
use Rattle.std.specs.Prelude.{nat_le, if◌then◌else◌}
use Rattle.trace_model.specs.declared.limits.TheConstants.{MAX_FRAMES, MOMENT_LIMIT}
use Rattle.trace_model.specs.Words.{slot_len, encoded_len}
use Rattle.trace_model.specs.History.{HistoryEvent, push, push_close}
use Rattle.trace_model.specs.Frames.{Purpose, for_record, for_close, WriteFault}
use Rattle.trace_model.specs.Ring.{Core}
use Rattle.trace_model.specs.Steps.{pushes, pushes_close, Answer, pushed, refused}
use Rattle.trace_model.specs.Steps.{with_history_event, with_frame, IsTooLong}
use Rattle.trace_model.proofs.words.Lengths.{slot_len_ge}
use Rattle.trace_model.proofs.steps.StepCases.{StepCases, PushRefused, all_stand, has_no_room, comes_late, push_step}
use Rattle.trace_model.proofs.steps.StepCases.{push_refused, close_step, close_refused, frame_step, frame_lacks}
use Rattle.trace_model.proofs.steps.StepCases.{end_step, end_lacks, end_early, read_step, store_wish_step}
use Rattle.trace_model.proofs.steps.EventKinds.{IsPushes, IsPushesClose, pushed_of}

-- The push isn't refused, and makes this of the ring; or it is, and the ring stays.
pub data PushCases (Refused : Type 0) (kind : Purpose) (event : HistoryEvent) (c : Core) (answer : Answer)
    (after : Core)
    : Type 0 where
  is_pushed : answer ≡ pushed
      → (Refused → ⊥)
      → after ≡ with_history_event (with_frame c kind) event
      → PushCases Refused kind event c answer after
  is_refused : (why : WriteFault)
      → answer ≡ refused why
      → Refused
      → after ≡ c
      → PushCases Refused kind event c answer after

-- why a record frame is refused, if `many` frames are on the stack
abbrev pub Refuses : (size moment len many : ℕ) → Type 0
Refuses size moment len many = (MAX_FRAMES ≤ many) ⊎ (size < encoded_len len 0 true) ⊎ (MOMENT_LIMIT ≤ moment)

no_room : (size len : ℕ) → IsTooLong size len → size < encoded_len len 0 true
no_room size len (inl more) = behind (if nat_le (slot_len len) 112 then 4 else 8) (slot_len len) (slot_len_ge len)
  where
    behind : (header slot : ℕ) → len ≤ slot → size < 0 + header + slot
    behind header slot low = omega (arith, more, low)
no_room size len (inr more) = more

module _ (n size : ℕ) (c : Core) (moment len : ℕ) (answer : Answer) (after : Core) where
  abbrev Here : (m l : ℕ) → Type 0
  Here m l = PushCases (Refuses size m l (length c.frames)) (for_record m l) (push m l) c answer after

  refuses : (m l : ℕ) (why : WriteFault) → PushRefused size c m l why → Refuses size m l (length c.frames)
  refuses m l why (all_stand many) = inl many
  refuses m l why (has_no_room few long) = inr (inl (no_room size l long))
  refuses m l why (comes_late few short tardy) = inr (inr tardy)

  refuses_none : (m l : ℕ)
      → length c.frames < MAX_FRAMES
      → (IsTooLong size l → ⊥)
      → m < MOMENT_LIMIT
      → Refuses size m l (length c.frames)
      → ⊥
  refuses_none m l few short early (inl many) = omega (arith, few, many)
  refuses_none m l few short early (inr (inl long)) = short (inr long)
  refuses_none m l few short early (inr (inr tardy)) = omega (arith, early, tardy)

  pub record_push : StepCases n size c (pushes moment len) answer after → Here moment len
  record_push (push_step m l e few short early a is) =
      subst (λ (p : ℕ × ℕ). Here p.0 p.1) (sym (ap pushed_of e))
      (is_pushed a (refuses_none m l few short early) is)
  record_push (push_refused m l why e denied a is) =
      subst (λ (p : ℕ × ℕ). Here p.0 p.1) (sym (ap pushed_of e)) (is_refused why a (refuses m l why denied) is)
  record_push (close_step e few a is) = absurd (subst IsPushes e tt)
  record_push (close_refused e many a is) = absurd (subst IsPushes e tt)
  record_push (frame_step frame below e top made) = absurd (subst IsPushes e tt)
  record_push (frame_lacks e none a is) = absurd (subst IsPushes e tt)
  record_push (end_step paid frame below num m l e top state k slot a is) = absurd (subst IsPushes e tt)
  record_push (end_lacks paid e none a is) = absurd (subst IsPushes e tt)
  record_push (end_early paid frame below e top early a is) = absurd (subst IsPushes e tt)
  record_push (read_step e made) = absurd (subst IsPushes e tt)
  record_push (store_wish_step e a is) = absurd (subst IsPushes e tt)

pub close_push : (n size : ℕ) (c : Core) (answer : Answer) (after : Core)
    → StepCases n size c pushes_close answer after
    → PushCases (MAX_FRAMES ≤ length c.frames) for_close push_close c answer after
close_push n size c answer after (push_step m l e few short early a is) = absurd (subst IsPushesClose e tt)
close_push n size c answer after (push_refused m l why e denied a is) = absurd (subst IsPushesClose e tt)
close_push n size c answer after (close_step e few a is) = is_pushed a (λ many. omega (arith, few, many)) is
close_push n size c answer after (close_refused e many a is) = is_refused _ a many is
close_push n size c answer after (frame_step frame below e top made) = absurd (subst IsPushesClose e tt)
close_push n size c answer after (frame_lacks e none a is) = absurd (subst IsPushesClose e tt)
close_push n size c answer after (end_step paid frame below num m l e top state k slot a is) =
    absurd (subst IsPushesClose e tt)
close_push n size c answer after (end_lacks paid e none a is) = absurd (subst IsPushesClose e tt)
close_push n size c answer after (end_early paid frame below e top early a is) = absurd (subst IsPushesClose e tt)
close_push n size c answer after (read_step e made) = absurd (subst IsPushesClose e tt)
close_push n size c answer after (store_wish_step e a is) = absurd (subst IsPushesClose e tt)
