-- What the calls of C make of a ring's ends.
use Rattle.std.specs.Prelude.{◌≡◌, ◌≢◌, ◌↔◌, ◌+◌, ◌<◌, ◌≤◌, ℕ, ℤ, ◌++◌, List, [], ◌∷◌, take, drop, length, Option}
use Rattle.std.specs.Prelude.{Some, None}
use Rattle.trace_model.specs.declared.numbers.FillNo.{FillNo}
use Rattle.trace_model.specs.Steps as model
use Rattle.trace_model.specs.Parcel.{Parcel}
use Rattle.trace_model.specs.ParcelBytes.{DecodesParcel}
use Rattle.nested_writer.specs.declared.fault.WriteFault.{WriteFault}
use Rattle.nested_writer.specs.declared.frame.Slot.{Slot}
use Rattle.nested_writer.specs.Calls.{LacksSlot, IsTopSlot}
use Rattle.nested_writer.specs.Lent.{Lent, lent_bytes, with_bytes}
use Rattle.nested_writer.specs.Lending.{IsLent}
use Rattle.ring_frames.specs.declared.answer.Answer.{Answer}
use Rattle.ring_frames.specs.declared.answer.Answer.TheVariants.{Pushed, Ended, Refused}
use Rattle.nested_writer.specs.declared.stack.leave.Ended.TheVariants.{Pending}
use Rattle.ring_frames.specs.Answers.{top_bytes, KeepsPayloads, EndsPayload}
use Rattle.ring_frames.specs.Lens.{IsOneMore}
use Rattle.page_image.specs.Contents.{Contents}
use Rattle.library_values.specs.Fronts.{HasAtFront}
use Rattle.library_values.specs.Used.{used_size, used_page}
use Rattle.page_numbers.specs.Written.{bytes_of_page}
use Rattle.page_numbers.specs.Parcels.{parcel_of_page}
use Rattle.trace_model.specs.declared.limits.TheConstants.{MAX_CPUS}
use Rattle.trace_model.specs.Ring.{HasRingLimits}
use Rattle.ring_steps.specs.Views.{reading_after}
use Rattle.ring_shared.specs.Value.{WriterValue}
use Rattle.ring_shared.specs.Rooms.{rooms}
use Rattle.ring_shared.specs.Promises.{KeepsSlots}
use Rattle.ring_shared.specs.declared.take.Take.TheVariants.{Page, Empty, Moving}
use Rattle.ring_shared.specs.Lending.{with_lent}
use Rattle.ring_shared.specs.Calls.{MakesSome}
use Rattle.ring_shared.specs.Finishing.{Finishes}
use Rattle.ring_shared.specs.WholeWrites.{IsWritten, IsRefusedWrite}
use Rattle.ring_shared.specs.Takes.{IsPageTaken, IsEmptyFound, IsMovingFound, AnswersTake}
use Rattle.ring_shared.specs.Settling.{IsSettled, unread_page}
use Rattle.ring_shared.specs.declared.settling.Settled.{Settled}
use Rattle.tracering_c.specs.declared.codes.TheConstants.{DONE, TOO_LONG, NO_FRAME, NOT_RESERVED, NO_MEMORY, BAD_SIZE}
use Rattle.tracering_c.specs.declared.codes.TheConstants.{BAD_CPU, EMPTY, MOVING, NO_ROOM, NOT_AT_REST, UNREAD}
use Rattle.tracering_c.specs.declared.ends.HeldReader.{HeldReader}
use Rattle.tracering_c.specs.declared.ends.Next.{Next}
use Rattle.tracering_c.specs.declared.ends.Next.TheVariants.{Page as NextPage, Empty as NoneUnread}
use Rattle.tracering_c.specs.declared.ends.Next.TheVariants.{Moving as StillMoving}
use Rattle.tracering_c.specs.Ends.{IsUnadded, IsHeldReader}
use Rattle.tracering_c.specs.declared.taken.Taken.{Taken}
use Rattle.tracering_c.specs.Codes.{fault_code, answer_code, finish_code}

-- ---- the writer

-- The record is written whole, and the answer is DONE; or it is refused, and the answer is the refusal's number. The
-- payloads that aren't ended stay in their slots, which have the same room.
pub record WritesSo (old : WriterValue) (moment : ℕ) (payload : List ℕ) (code : ℤ) (new : WriterValue) : Type 0 where
  pub refusal : Option WriteFault
  pub written : refusal ≡ None → (code ≡ DONE) × IsWritten old.shape old.part moment payload new.part
  pub refused : (fault : WriteFault)
      → refusal ≡ Some fault
      → (code ≡ fault_code fault) × IsRefusedWrite old.shape old.part moment (length payload) fault new.part
  pub payloads : KeepsPayloads old.frames.stack new.frames.stack
  pub rooms_are : rooms new ≡ rooms old

-- A frame with this room is pushed, or refused. The payloads that aren't ended stay in their slots.
pub record BeginsSo (old : WriterValue) (event : model.Event) (room : Option ℕ) (code : ℤ) (new : WriterValue)
    : Type 0 where
  pub answer : Answer
  pub makes : MakesSome old event answer new
  pub code_is : code ≡ answer_code answer
  pub payloads : KeepsPayloads old.frames.stack new.frames.stack
  pub room_is : answer ≡ Pushed → rooms new ≡ room ∷ rooms old
  pub refused : (fault : WriteFault) → answer ≡ Refused fault → rooms new ≡ rooms old

-- The frame on top is stepped as far as it gets, and the number is that of its answer, or says that it is a close that
-- closed nothing. The payloads that aren't ended stay in their slots, and a slot that is reserved holds only zeros.
pub record FinishesSo (old : WriterValue) (code : ℤ) (new : WriterValue) : Type 0 where
  pub answer : Answer
  pub finishes : Finishes old.shape old.part answer new.part
  pub code_is : code ≡ finish_code old answer new
  pub slots : KeepsSlots old answer new

-- The frame on top ends with the payload in its slot; the payloads of the others stay in theirs.
pub record EndsSo (old : WriterValue) (code : ℤ) (new : WriterValue) : Type 0 where
  pub answer : Answer
  pub makes : MakesSome old (model.ends (top_bytes old.frames.stack old.frames.stack.frames)) answer new
  pub code_is : code ≡ answer_code answer
  pub payloads : EndsPayload old.frames.stack new.frames.stack
  pub room_is : answer ≡ Ended Pending → IsOneMore (rooms old) (rooms new)
  pub refused : (fault : WriteFault) → answer ≡ Refused fault → rooms new ≡ rooms old

-- The bytes are put to the front of the slot of the record on top, and nothing else of the writer changes.
pub record IsPut (old : WriterValue) (bytes : List ℕ) (new : WriterValue) : Type 0 where
  pub lent : Lent
  pub is_lent : IsLent old.frames.stack lent
  pub new_is : new ≡ with_lent old (with_bytes lent (bytes ++ drop (length bytes) (lent_bytes lent)))

-- How many bytes the slot of the record on top has.
abbrev pub top_room : WriterValue → ℕ
top_room writer = length (top_bytes writer.frames.stack writer.frames.stack.frames)

-- The bytes are put to the slot of the record on top, or refused, each number for its own reason.
pub record PutsSo (old : WriterValue) (bytes : List ℕ) (code : ℤ) (new : WriterValue) : Type 0 where
  -- they are put
  pub put : code ≡ DONE → IsPut old bytes new
  -- they are longer than the slot
  pub long : code ≡ TOO_LONG → top_room old < length bytes
  -- if there is a slot, they are put exactly if they aren't longer than it
  pub fits : (slot : Slot) → IsTopSlot old.frames.stack.frames slot → length bytes ≤ top_room old → code ≡ DONE
  pub too_long : (slot : Slot)
      → IsTopSlot old.frames.stack.frames slot
      → top_room old < length bytes
      → code ≡ TOO_LONG
  -- nothing is begun
  pub no_frame : code ≡ NO_FRAME ↔ old.frames.stack.frames ≡ []
  -- what was begun last has reserved no record
  pub not_reserved : code ≡ NOT_RESERVED ↔ LacksSlot old.frames.stack.frames
  -- whatever the reason, nothing changes
  pub refused : code ≢ DONE → new ≡ old

-- ---- the reader

-- these are the numbers of the page, and `len` is how many bytes its parcel has
pub record AreNumbersOf (page : Contents) (missed len : ℕ) (taken : Taken) : Type 0 where
  pub fill : taken.fill ≡ page.fill
  pub first : taken.first ≡ page.first
  pub missed_is : taken.missed ≡ missed
  pub count : taken.count ≡ page.count
  pub len_is : taken.len ≡ len

-- The page is given as parcel bytes, at the front of the buffer, with its numbers. The bytes that `len` counts are
-- those of its parcel without the room that isn't used.
pub record IsGiven (cpu : ℕ) (page : Contents) (missed : ℕ) (out left : List ℕ) (reported : Taken) : Type 0 where
  pub bytes : HasAtFront out (bytes_of_page cpu page missed) left
  pub numbers : AreNumbersOf page missed (48 + used_size page missed) reported
  pub used : take reported.len left ≡ bytes_of_page cpu (used_page page missed) missed

-- The bytes that a page is given as read as this parcel, and so do those of them that are used.
pub record ReadsAs (cpu : ℕ) (page : Contents) (missed : ℕ) (parcel : Parcel) : Type 0 where
  pub whole : DecodesParcel (bytes_of_page cpu page missed) parcel
  pub used : DecodesParcel (bytes_of_page cpu (used_page page missed) missed) parcel

-- The page that is next, and how many records are missing before it: the one that a collector didn't add, if there is
-- such a page; else the oldest one that is closed and unread, which is taken.
pub data IsNext (old : HeldReader) (page : Contents) (missed : ℕ) (new : HeldReader) : Type 0 where
  was_unadded : old.unadded ≡ Some record { page = page; missed = missed }
      → new.reader ≡ old.reader
      → IsNext old page missed new
  is_taken : old.unadded ≡ None
      → IsPageTaken old.reader.shape old.reader.part page missed new.reader.part
      → AnswersTake old.reader (Page page missed) new.reader
      → IsNext old page missed new

-- No page is next: no closed page is unread, and the answer is EMPTY; or a move of the head isn't finished, or the take
-- has made as many steps as it may, and the answer is MOVING.
pub data HasNoNext (old : HeldReader) (code : ℤ) (new : HeldReader) : Type 0 where
  is_empty : (done : ℕ)
      → (back : List ℕ)
      → code ≡ EMPTY
      → old.unadded ≡ None
      → IsEmptyFound old.reader.shape old.reader.part done new.reader.part
      → AnswersTake old.reader (Empty done back) new.reader
      → HasNoNext old code new
  is_moving : (fill : FillNo)
      → (back : List ℕ)
      → code ≡ MOVING
      → old.unadded ≡ None
      → IsMovingFound old.reader.shape old.reader.part fill.0 new.reader.part
      → AnswersTake old.reader (Moving fill back) new.reader
      → HasNoNext old code new

-- what the reader gives next, and what it is then
abbrev pub GivesNext : HeldReader → Next → HeldReader → Type 0
GivesNext old (NextPage page missed) new =
    IsNext old page missed new × IsUnadded new.reader record { page = page; missed = missed }
GivesNext old NoneUnread new = HasNoNext old EMPTY new × IsHeldReader new
GivesNext old StillMoving new = HasNoNext old MOVING new × IsHeldReader new

-- The next page is given, and the answer is DONE; or nothing is given: no page is next, or the buffer is shorter than a
-- parcel of the ring.
pub data TakesSo (old : HeldReader) (out : List ℕ) (was : Taken) (code : ℤ) (left : List ℕ) (reported : Taken)
    (new : HeldReader) : Type 0 where
  is_page : (page : Contents) (missed : ℕ)
      → code ≡ DONE
      → IsNext old page missed new
      → new.unadded ≡ None
      → IsGiven old.cpu.0 page missed out left reported
      → ReadsAs old.cpu.0 page missed (parcel_of_page old.cpu.0 page missed)
      → TakesSo old out was code left reported new
  is_none : HasNoNext old code new
      → new.unadded ≡ None
      → left ≡ out
      → reported ≡ was
      → TakesSo old out was code left reported new
  has_no_room : code ≡ NO_ROOM
      → length out < 48 + old.reader.shape.size
      → new ≡ old
      → left ≡ out
      → reported ≡ was
      → TakesSo old out was code left reported new

-- The wish is for the first fill that the reader doesn't know to be closed, and is one step more that the end made;
-- nothing else of it changes. The answer is DONE.
pub record WishesSo (old : HeldReader) (code : ℤ) (new : HeldReader) : Type 0 where
  pub code_is : code ≡ DONE
  pub new_is :
      new
      ≡ record old {
        reader = record old.reader {
          part = reading_after old.reader.part.made
              record { event = model.wishes; answer = model.wished_for old.reader.part.reader.seen }
              (record old.reader.part { wish = old.reader.part.reader.seen + 1 });
        };
      }

-- ---- both

-- nothing is reported
abbrev pub nothing_reported : Taken
nothing_reported = record { fill = 0; first = 0; missed = 0; count = 0; len = 0 }

-- The page that no take has answered is given, if there is one, with nothing missing before it.
abbrev pub IsLastGiven : ℕ → Option Contents → (out left : List ℕ) → Taken → Type 0
IsLastGiven cpu None out left reported = (left ≡ out) × (reported ≡ nothing_reported)
IsLastGiven cpu (Some page) out left reported = IsGiven cpu page 0 out left reported

-- The two ends are joined, and what no take has answered is given.
pub record SettlesSo (writer : WriterValue) (end : HeldReader) (out left : List ℕ) (reported : Taken) : Type 0 where
  pub settled : Settled
  pub is : IsSettled writer.shape writer.part end.reader.part settled
  pub given : IsLastGiven end.cpu.0 (unread_page settled) out left reported

-- Why two ends are settled into a buffer of this room, or aren't: the first of these that holds is answered.
pub data AnswersSettle (writer : WriterValue) (end : HeldReader) (room : ℕ) (code : ℤ) : Type 0 where
  frames_left : code ≡ NOT_AT_REST → writer.part.frames ≢ [] → AnswersSettle writer end room code
  unread : code ≡ UNREAD
      → writer.part.frames ≡ []
      → end.reader.empty_at ≢ Some writer.part.done
      → AnswersSettle writer end room code
  no_room : code ≡ NO_ROOM
      → writer.part.frames ≡ []
      → end.reader.empty_at ≡ Some writer.part.done
      → room < 48 + end.reader.shape.size
      → AnswersSettle writer end room code
  settles : code ≡ DONE
      → writer.part.frames ≡ []
      → end.reader.empty_at ≡ Some writer.part.done
      → 48 + end.reader.shape.size ≤ room
      → AnswersSettle writer end room code

-- ---- a new ring

-- Why two handles that have nothing get a ring of this CPU and size, or don't: the first of these that holds is
-- answered.
pub data AnswersNew (cpu pages size : ℕ) (code : ℤ) : Type 0 where
  bad_cpu : code ≡ BAD_CPU → MAX_CPUS ≤ cpu → AnswersNew cpu pages size code
  bad_size : code ≡ BAD_SIZE → cpu < MAX_CPUS → (HasRingLimits pages size → ⊥) → AnswersNew cpu pages size code
  no_memory : code ≡ NO_MEMORY → cpu < MAX_CPUS → HasRingLimits pages size → AnswersNew cpu pages size code
  made : code ≡ DONE → cpu < MAX_CPUS → HasRingLimits pages size → AnswersNew cpu pages size code
