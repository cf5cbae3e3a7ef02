-- What a call makes of the rooms of a writer's frames.
use Rattle.std.specs.Prelude.{None, Some, Option, Result, Ok, Err}
use Rattle.std.proofs.Common.{◌≡◌, ℕ, List, [], ◌∷◌, length, refl, sym, ap, ◌∙◌, subst, inl, inr, arith}
use Rattle.trace_model.specs.declared.numbers.RecordNo.{RecordNo}
use Rattle.trace_model.specs.Words.{slot_len}
use Rattle.trace_model.proofs.collections.Elements.{some_is}
use Rattle.trace_model.specs.Frames.{Purpose, for_record, for_close, Progress, waiting, reserved, left, Frame}
use Rattle.trace_model.specs.Ring.{Core}
use Rattle.trace_model.specs.Steps as model
use Rattle.trace_model.proofs.steps.StepSound.{cases_of}
use Rattle.ring_model.specs.KeptStack.{MayBeIn, IsForRecord}
use Rattle.ring_model.proofs.frames.StackSteps.{top_agrees}
use Rattle.nested_writer.specs.declared.frame.Slot.{Slot}
use Rattle.nested_writer.specs.Calls.{IsTopSlot}
use Rattle.nested_writer.specs.declared.fault.WriteFault.{WriteFault}
use Rattle.nested_writer.specs.declared.stack.leave.Ended.TheVariants.{Pending}
use Rattle.ring_frames.specs.declared.answer.Answer.{Answer}
use Rattle.ring_frames.specs.declared.answer.Answer.TheVariants.{Pushed, Going, Reserved, Ended, Gone, Refused}
use Rattle.ring_frames.specs.Answers.{IsAnswerOf, refusal_of}
use Rattle.ring_frames.specs.Lens.{IsOneMore, AreOthersLeft}
use Rattle.ring_frames.proofs.Refused.{IsPushOrEnd, same_refused}
use Rattle.ring_frames.proofs.PushedKinds.{kinds_of, KeepsKinds, map_kinds, same_mapped, more_mapped, fewer_mapped}
use Rattle.ring_frames.proofs.PushedKinds.{others_mapped, pushed_kinds, closing_kinds, ended_kinds, stepped_kinds}
use Rattle.ring_frames.proofs.Reported.{IsRefusal}
use Rattle.ring_steps.specs.declared.rule.Shape.{Shape}
use Rattle.ring_steps.specs.Views.{Writing}
use Rattle.ring_shared.specs.Value.{WriterValue}
use Rattle.ring_shared.specs.Calls.{AreWriterFields, IsCall}
use Rattle.ring_shared.specs.Lending.{FitsFrame}
use Rattle.ring_shared.specs.WholeWrites.{IsWritten, IsRefusedWrite}
use Rattle.ring_shared.specs.Finishing.{MakesSteps, at_once, one_more, Leaves, is_gone, was_refused, FinishesFrame}
use Rattle.ring_shared.specs.Finishing.{FinishesTop, Finishes}
use Rattle.ring_shared.specs.Rooms.{room_of, rooms_of, rooms, IsTopRoom}
use Rattle.ring_shared.proofs.Depths.{depth_is}
use Rattle.ring_shared.proofs.Standing.{kept_now}
use Rattle.ring_shared.proofs.WholeWrites.{reserved_top}

-- ---- of the writer's part

rooms_by : (frames : List Frame) → rooms_of frames ≡ map_kinds room_of (kinds_of frames)
rooms_by [] = refl
rooms_by (frame ∷ below) = ap (λ (others : List (Option ℕ)). room_of frame.kind ∷ others) (rooms_by below)

module _ (shape : Shape) (before : Writing) (event : model.Event) (result : Answer) (after : Writing)
    (call : IsCall shape before event result after) where
  old_is : rooms_of before.frames ≡ map_kinds room_of (kinds_of call.core.frames)
  old_is = sym (ap (λ (p : Writing). rooms_of p.frames) call.before_is) ∙ rooms_by call.core.frames

  new_is : rooms_of after.frames ≡ map_kinds room_of (kinds_of call.next.frames)
  new_is = sym (ap (λ (p : Writing). rooms_of p.frames) call.after_is) ∙ rooms_by call.next.frames

  reports_so : (to : Answer) → result ≡ to → IsAnswerOf shape.size to call.answer
  reports_so to e = subst (λ (r : Answer). IsAnswerOf shape.size r call.answer) e call.reports

  -- a push or an end that is refused keeps the rooms
  refused_call : IsPushOrEnd event → (fault : WriteFault) → result ≡ Refused fault
      → rooms_of after.frames ≡ rooms_of before.frames
  refused_call may fault e =
      same_mapped room_of (kinds_of call.core.frames) (kinds_of call.next.frames) (rooms_of before.frames)
      (rooms_of after.frames) old_is new_is
      (ap (λ (c : Core). kinds_of c.frames)
      (same_refused shape.pages shape.size call.core event call.answer call.next may (refusal_of fault)
      (reports_so (Refused fault) e) (cases_of call.step)))

module _ (shape : Shape) (before : Writing) (result : Answer) (after : Writing) where
  -- a frame that is pushed has the room of its record
  pub push_rooms : (moment len : ℕ) → IsCall shape before (model.pushes moment len) result after → result ≡ Pushed
      → rooms_of after.frames ≡ Some (slot_len len) ∷ rooms_of before.frames
  push_rooms moment len call e =
      let event = model.pushes moment len in
      more_mapped room_of (kinds_of call.core.frames) (kinds_of call.next.frames) (rooms_of before.frames)
      (rooms_of after.frames) (old_is shape before event result after call)
      (new_is shape before event result after call) (for_record moment len)
      (pushed_kinds shape.pages shape.size call.core call.answer call.next moment len call.step
      (reports_so shape before event result after call Pushed e))

  -- and one that closes has none
  pub close_rooms : IsCall shape before model.pushes_close result after → result ≡ Pushed
      → rooms_of after.frames ≡ None ∷ rooms_of before.frames
  close_rooms call e =
      let event = model.pushes_close in
      more_mapped room_of (kinds_of call.core.frames) (kinds_of call.next.frames) (rooms_of before.frames)
      (rooms_of after.frames) (old_is shape before event result after call)
      (new_is shape before event result after call) for_close
      (closing_kinds shape.pages shape.size call.core call.answer call.next call.step
      (reports_so shape before event result after call Pushed e))

  -- one that ends above others leaves them
  pub end_rooms : (payload : List ℕ) → IsCall shape before (model.ends payload) result after → result ≡ Ended Pending
      → IsOneMore (rooms_of before.frames) (rooms_of after.frames)
  end_rooms payload call e =
      let event = model.ends payload in
      fewer_mapped room_of (kinds_of call.core.frames) (kinds_of call.next.frames) (rooms_of before.frames)
      (rooms_of after.frames) (old_is shape before event result after call)
      (new_is shape before event result after call)
      (ended_kinds shape.pages shape.size call.core call.answer call.next payload call.step
      (reports_so shape before event result after call (Ended Pending) e))

  -- what is refused keeps them
  pub push_refused_rooms : (moment len : ℕ) → IsCall shape before (model.pushes moment len) result after
      → (fault : WriteFault) → result ≡ Refused fault → rooms_of after.frames ≡ rooms_of before.frames
  push_refused_rooms moment len call fault e =
      refused_call shape before (model.pushes moment len) result after call tt fault e

  pub close_refused_rooms : IsCall shape before model.pushes_close result after → (fault : WriteFault)
      → result ≡ Refused fault → rooms_of after.frames ≡ rooms_of before.frames
  close_refused_rooms call fault e = refused_call shape before model.pushes_close result after call tt fault e

  pub end_refused_rooms : (payload : List ℕ) → IsCall shape before (model.ends payload) result after
      → (fault : WriteFault) → result ≡ Refused fault → rooms_of after.frames ≡ rooms_of before.frames
  end_refused_rooms payload call fault e = refused_call shape before (model.ends payload) result after call tt fault e

  module _ (call : IsCall shape before model.steps result after) where
    steps_kinds : (to : Answer) (reported : model.Answer) → result ≡ to
        → (IsAnswerOf shape.size to call.answer → call.answer ≡ reported)
        → KeepsKinds reported (kinds_of call.core.frames) (kinds_of call.next.frames)
    steps_kinds to reported e so =
        stepped_kinds shape.pages shape.size call.core call.answer call.next call.step reported
        (so (reports_so shape before model.steps result after call to e))

    before_is : rooms_of before.frames ≡ map_kinds room_of (kinds_of call.core.frames)
    before_is = old_is shape before model.steps result after call

    after_is : rooms_of after.frames ≡ map_kinds room_of (kinds_of call.next.frames)
    after_is = new_is shape before model.steps result after call

    -- one that continues or reserves has the same room
    pub going_rooms : result ≡ Going → rooms_of after.frames ≡ rooms_of before.frames
    going_rooms e =
        same_mapped room_of (kinds_of call.core.frames) (kinds_of call.next.frames) (rooms_of before.frames)
        (rooms_of after.frames) before_is after_is (steps_kinds Going model.going e (λ t. t))

    pub reserved_rooms : (number : RecordNo) → result ≡ Reserved number → rooms_of after.frames ≡ rooms_of before.frames
    reserved_rooms number e =
        same_mapped room_of (kinds_of call.core.frames) (kinds_of call.next.frames) (rooms_of before.frames)
        (rooms_of after.frames) before_is after_is
        (steps_kinds (Reserved number) (model.reserved_as number.0) e (λ t. t))

    -- one that is gone leaves those below it
    pub gone_rooms : result ≡ Gone → IsOneMore (rooms_of before.frames) (rooms_of after.frames)
    gone_rooms e =
        fewer_mapped room_of (kinds_of call.core.frames) (kinds_of call.next.frames) (rooms_of before.frames)
        (rooms_of after.frames) before_is after_is (steps_kinds Gone model.gone e (λ t. t))

    -- and so one that is refused, if there are others
    pub refused_rooms : (fault : WriteFault) → result ≡ Refused fault
        → AreOthersLeft (rooms_of before.frames) (rooms_of after.frames)
    refused_rooms fault e =
        others_mapped room_of (kinds_of call.core.frames) (kinds_of call.next.frames) (rooms_of before.frames)
        (rooms_of after.frames) before_is after_is
        (steps_kinds (Refused fault) (model.refused (refusal_of fault)) e (λ t. t))

-- ---- of a frame that is stepped as far as it gets

-- steps that go on change no room
goes_rooms : (shape : Shape) (before after : Writing) → MakesSteps shape before after
    → rooms_of after.frames ≡ rooms_of before.frames
goes_rooms shape before _ at_once = refl
goes_rooms shape before _ (one_more between after goes call) =
    going_rooms shape between Going after call refl ∙ goes_rooms shape before between goes

-- the last step, and those before it
record HasLast (shape : Shape) (before : Writing) (result : Answer) (after : Writing) : Type 0 where
  pub between : Writing
  pub goes : MakesSteps shape before between
  pub last : IsCall shape between model.steps result after

module _ (shape : Shape) (result : Answer) (after : Writing) (goes_on : IsRefusal result → ⊥) where
  leaves_last : (below : List Frame) (before : Writing) (answer : Answer) → answer ≡ result
      → Leaves shape below before answer after → HasLast shape before result after
  leaves_last below _ _ e (is_gone before between last answer goes call top) =
      record {
        between = between;
        goes = goes;
        last = subst (λ (x : Answer). IsCall shape between model.steps x after) e call;
      }
  leaves_last below _ _ e (was_refused before between next last frame fault answer goes call top is l) =
      absurd (goes_on (fault, sym e))

  frame_last : (kind : Purpose) (state : Progress) (below : List Frame) (before : Writing)
      → FinishesFrame shape kind state below before result after → HasLast shape before result after
  frame_last (for_record moment len) waiting below before r =
      record { between = r.between; goes = r.goes; last = r.last }
  frame_last for_close waiting below before l = leaves_last below before result refl l
  frame_last (for_record moment len) (reserved number) below before call =
      record { between = before; goes = at_once; last = call }
  frame_last for_close (reserved number) below before call = record { between = before; goes = at_once; last = call }
  frame_last (for_record moment len) left below before l = leaves_last below before result refl l
  frame_last for_close left below before l = leaves_last below before result refl l

  top_last : (frames : List Frame) (before : Writing) → FinishesTop shape frames before result after
      → HasLast shape before result after
  top_last [] before call = record { between = before; goes = at_once; last = call }
  top_last (frame ∷ below) before f = frame_last frame.kind frame.state below before f

module _ (shape : Shape) (before : Writing) (result : Answer) (after : Writing)
    (finishes : Finishes shape before result after) where
  -- one whose record is reserved has the same room
  pub finished_rooms : (number : RecordNo) → result ≡ Reserved number → rooms_of after.frames ≡ rooms_of before.frames
  finished_rooms number e =
      let h =
      top_last shape result after (λ (fault, f). let both : Reserved number ≡ Refused fault = sym e ∙ f in cc)
      before.frames before finishes in
      reserved_rooms shape h.between result after h.last number e ∙ goes_rooms shape before h.between h.goes

  -- and one that is gone leaves those below it
  pub finished_gone : result ≡ Gone → IsOneMore (rooms_of before.frames) (rooms_of after.frames)
  finished_gone e =
      let h =
      top_last shape result after (λ (fault, f). let both : Gone ≡ Refused fault = sym e ∙ f in cc) before.frames
      before finishes in
      let (room, is) = gone_rooms shape h.between result after h.last e in
      (room, sym (goes_rooms shape before h.between h.goes) ∙ is)

-- ---- of one that is refused as it is stepped

-- one that leaves is gone at last
left_frames : (shape : Shape) (below : List Frame) (before : Writing) (answer : Answer) (after : Writing)
    → Leaves shape below before answer after → after.frames ≡ below
left_frames shape below _ _ _ (is_gone before between after answer goes call top) = top
left_frames shape below _ _ _ (was_refused before between next after frame fault answer goes call top is l) =
    left_frames shape below next answer after l

same_others : (one : Option ℕ) (below : List (Option ℕ)) (top next : Option ℕ) (others : List (Option ℕ))
    → one ∷ below ≡ top ∷ next ∷ others → below ≡ next ∷ others
same_others one below top next others is = cc

module _ (shape : Shape) (fault : WriteFault) (after : Writing) where
  refused_last : (before between : Writing) (result : Answer) → result ≡ Refused fault → MakesSteps shape before between
      → IsCall shape between model.steps result after → AreOthersLeft (rooms_of before.frames) (rooms_of after.frames)
  refused_last before between result reported goes call top next others is =
      refused_rooms shape between result after call fault reported top next others
      (goes_rooms shape before between goes ∙ is)

  refused_leaving : (frame : Frame) (below : List Frame) (before : Writing) (answer : Answer)
      → before.frames ≡ frame ∷ below → Leaves shape below before answer after
      → AreOthersLeft (rooms_of before.frames) (rooms_of after.frames)
  refused_leaving frame below before answer at l top next others is =
      ap rooms_of (left_frames shape below before answer after l)
      ∙ same_others (room_of frame.kind) (rooms_of below) top next others (sym (ap rooms_of at) ∙ is)

  refused_frame : (kind : Purpose) (state : Progress) (frame : Frame) (below : List Frame) (before : Writing)
      (result : Answer) → result ≡ Refused fault → before.frames ≡ frame ∷ below
      → FinishesFrame shape kind state below before result after
      → AreOthersLeft (rooms_of before.frames) (rooms_of after.frames)
  refused_frame (for_record moment len) waiting frame below before result reported at r =
      refused_last before r.between result reported r.goes r.last
  refused_frame for_close waiting frame below before result reported at l =
      refused_leaving frame below before result at l
  refused_frame (for_record moment len) (reserved number) frame below before result reported at call =
      refused_last before before result reported at_once call
  refused_frame for_close (reserved number) frame below before result reported at call =
      refused_last before before result reported at_once call
  refused_frame (for_record moment len) left frame below before result reported at l =
      refused_leaving frame below before result at l
  refused_frame for_close left frame below before result reported at l = refused_leaving frame below before result at l

  refused_top : (frames : List Frame) (before : Writing) (result : Answer) → result ≡ Refused fault
      → before.frames ≡ frames → FinishesTop shape frames before result after
      → AreOthersLeft (rooms_of before.frames) (rooms_of after.frames)
  refused_top [] before result reported at call = refused_last before before result reported at_once call
  refused_top (frame ∷ below) before result reported at f =
      refused_frame frame.kind frame.state frame below before result reported at f

-- above others, one that is refused leaves exactly them
pub finished_refused : (shape : Shape) (before : Writing) (result : Answer) (after : Writing)
    → Finishes shape before result after → (fault : WriteFault) → result ≡ Refused fault
    → AreOthersLeft (rooms_of before.frames) (rooms_of after.frames)
finished_refused shape before result after finishes fault reported =
    refused_top shape fault after before.frames before result reported refl finishes

-- with no frame there is no room
pub no_rooms : (v : WriterValue) → AreWriterFields v → v.frames.stack.frames ≡ [] → rooms v ≡ []
no_rooms v w none = of_none v.part.frames (let deep = depth_is v w in let zero = ap length none in omega arith)
  where
    of_none : (frames : List Frame) → length frames ≡ 0 → rooms_of frames ≡ []
    of_none [] e = refl
    of_none (frame ∷ below) e = absurd (omega (arith, e))

-- ---- of a record that is written whole

module _ (shape : Shape) (before after : Writing) (moment len : ℕ) where
  refused_write : (fault : WriteFault) → IsRefusedWrite shape before moment len fault after
      → rooms_of after.frames ≡ rooms_of before.frames
  refused_write fault (inl push) = push_refused_rooms shape before (Refused fault) after moment len push fault refl
  refused_write fault (inr part_way) = ap rooms_of part_way.frames

-- a write keeps the frames on the stack, and so their rooms
pub write_rooms : (shape : Shape) (before after : Writing) (moment : ℕ) (payload : List ℕ)
    (result : Result Unit WriteFault)
    → (result ≡ Ok tt → IsWritten shape before moment payload after)
    → ((fault : WriteFault) → result ≡ Err fault → IsRefusedWrite shape before moment (length payload) fault after)
    → rooms_of after.frames ≡ rooms_of before.frames
write_rooms shape before after moment payload (Ok tt) written refused = ap rooms_of (written refl).frames
write_rooms shape before after moment payload (Err fault) written refused =
    refused_write shape before after moment (length payload) fault (refused fault refl)

-- ---- of the slot on top

room_of_record : (kind : Purpose) (bytes : ℕ) → IsForRecord kind
    → ((moment len : ℕ) → kind ≡ for_record moment len → bytes ≡ slot_len len) → room_of kind ≡ Some bytes
room_of_record (for_record moment len) bytes is fits = ap (λ (n : ℕ). Some n) (sym (fits moment len refl))
room_of_record for_close bytes is fits = absurd is

-- the slot of the frame on top takes its room
pub top_room : (v : WriterValue) (w : AreWriterFields v) (slot : Slot) → IsTopSlot v.frames.stack.frames slot
    → FitsFrame v slot → IsTopRoom v slot.place.len
top_room v w slot on_top fits =
    let t = reserved_top v w slot on_top in
    let at : w.core.frames ≡ t.frame ∷ t.below = ap (λ (p : Writing). p.frames) w.part_is ∙ t.top in
    let agree = top_agrees w.core t.frame t.below at (kept_now v w).stack in
    let record_is : IsForRecord t.frame.kind =
    (subst (λ (s : Progress). MayBeIn t.frame.kind s t.frame.phase) t.state_is agree.0).0 in (
      rooms_of t.below,
      ap rooms_of t.top
          ∙ ap (λ (room : Option ℕ). room ∷ rooms_of t.below)
          (room_of_record t.frame.kind slot.place.len record_is
          (λ moment len is. fits t.frame t.below moment len t.top is)),
    )

-- it is the first of the rooms
pub same_room : (bytes : ℕ) (below : List (Option ℕ)) (v : WriterValue) → rooms v ≡ Some bytes ∷ below → (long : ℕ)
    → IsTopRoom v long → long ≡ bytes
same_room bytes below v is long (others, top) =
    let both : ◌≡◌ {A = List (Option ℕ)} (Some long ∷ others) (Some bytes ∷ below) = sym top ∙ is in
    let heads : ◌≡◌ {A = Option ℕ} (Some long) (Some bytes) = cc in
    some_is long bytes heads
