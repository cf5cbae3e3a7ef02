-- What a peek gives of the page that is written.
use Rattle.std.specs.Prelude.{◌≡◌, ◌≢◌, ◌+◌, ◌<◌, ◌≤◌, ℕ, ℤ, List, [], drop}
use Rattle.trace_model.specs.Record.{Record}
use Rattle.trace_model.specs.History.{committed_records}
use Rattle.trace_model.specs.Packing.{first_of_fill}
use Rattle.trace_model.specs.Ring.{fill_of}
use Rattle.trace_model.specs.Parcel.{Parcel}
use Rattle.page_image.specs.Contents.{Contents}
use Rattle.nested_writer.specs.Released.{IsRestingTail}
use Rattle.ring_shared.specs.Value.{WriterValue}
use Rattle.tracering_c.specs.declared.codes.TheConstants.{DONE, EMPTY, NO_ROOM, NOT_AT_REST}
use Rattle.tracering_c.specs.declared.taken.Taken.{Taken}
use Rattle.tracering_c.specs.Calls.{IsGiven, ReadsAs}

-- The number of the first record that is in no closed fill.
abbrev pub first_newest : WriterValue → ℕ
first_newest writer = first_of_fill writer.part.history writer.shape.start writer.part.done

-- The newest records: all that are committed and in no closed fill.
abbrev pub newest_records : WriterValue → List Record
newest_records writer = drop (first_newest writer) (committed_records writer.part.history)

-- The parcel of the newest records, under the number of the fill that isn't closed; nothing is missing before them.
abbrev pub newest_parcel : ℕ → WriterValue → Parcel
newest_parcel cpu writer = record {
  cpu = cpu;
  fill = writer.part.done;
  first = first_newest writer;
  missed = 0;
  records = newest_records writer;
}

-- The tail page of this writer, which has no frame: it holds the records of the fill that isn't closed, all committed.
abbrev pub IsTailOf : WriterValue → Contents → Type 0
IsTailOf writer page =
    IsRestingTail writer.shape.size writer.part.done (fill_of writer.part.history writer.shape.start writer.part.done)
    writer.part.history page

-- The tail page is given as parcel bytes, at the front of the buffer, with its numbers; they read as the parcel of the
-- newest records.
pub record IsPeeked (cpu : ℕ) (writer : WriterValue) (out left : List ℕ) (reported : Taken) : Type 0 where
  pub page : Contents
  pub tail : IsTailOf writer page
  pub given : IsGiven cpu page 0 out left reported
  pub reads : ReadsAs cpu page 0 (newest_parcel cpu writer)

-- Why a writer's newest records are given in a buffer of this room, or aren't: the first of these that holds is
-- answered.
pub data AnswersPeek (writer : WriterValue) (room : ℕ) (code : ℤ) : Type 0 where
  not_at_rest : code ≡ NOT_AT_REST → writer.part.frames ≢ [] → AnswersPeek writer room code
  no_room : code ≡ NO_ROOM
      → writer.part.frames ≡ []
      → room < 48 + writer.shape.size
      → AnswersPeek writer room code
  empty : code ≡ EMPTY
      → writer.part.frames ≡ []
      → 48 + writer.shape.size ≤ room
      → newest_records writer ≡ []
      → AnswersPeek writer room code
  peeks : code ≡ DONE
      → writer.part.frames ≡ []
      → 48 + writer.shape.size ≤ room
      → newest_records writer ≢ []
      → AnswersPeek writer room code
