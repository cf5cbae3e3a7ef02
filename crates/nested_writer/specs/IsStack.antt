-- What ties a writer's stack to the history of its frames, which no field keeps.
use Rattle.std.specs.Prelude.{◌≡◌, ℕ, ◌+◌, ◌-◌, ◌<◌, ◌≤◌, Bool, List, [], ◌∷◌, length, Option, Some, None, IfSome}
use Rattle.std.specs.Prelude.{slice_index_or}
use Rattle.std.specs.List.{slice_get}
use Rattle.trace_model.specs.declared.limits.TheConstants.{MOMENT_LIMIT, MAX_SIZE}
use Rattle.trace_model.specs.Words.{slot_len}
use Rattle.trace_model.specs.Overwriting.{IsPlaceOf}
use Rattle.trace_model.specs.History.{HistoryEvent, Reservation, last_moment, writer_after, reserved_records, IsHistory}
use Rattle.trace_model.specs.Packing.{opens_of, cut_from, is_wished}
use Rattle.trace_model.specs.Fitting.{IsRising, HaveRoom, AreFit, FitsPage, NeedsFill}
use Rattle.trace_model.specs.Frames.{Purpose, for_record, for_close, waiting, left, number_of, pushed_of}
use Rattle.trace_model.specs.OpenPages.{HoldsRecords}
use Rattle.page_image.specs.Contents.{Contents, IsPage}
use Rattle.nested_writer.specs.declared.frame.Slot.{Slot}
use Rattle.nested_writer.specs.declared.frame.Progress.{Progress}
use Rattle.nested_writer.specs.declared.frame.Progress.TheVariants.{Waiting, Through, Reserved, Left}
use Rattle.nested_writer.specs.declared.frame.Frame.{Frame}
use Rattle.nested_writer.specs.Stack.{Stack, tail_fill, opened, kind_of, state_of, model_frames}

-- ---- pages

-- The page is that of this fill of the records, which are cut so: the first fill is the one of index 0.
pub record IsPageOf (size fill : ℕ) (cuts : List ℕ) (records : List Reservation) (index : ℕ) (page : Contents)
    : Type 0 where
  pub page_reads : IsPage page
  pub size_is : page.size ≡ size
  pub fill_is : page.fill ≡ fill
  pub first_is : page.first ≡ slice_index_or (0 ∷ cuts) index 0
  pub holds : HoldsRecords page.time page.bytes (slice_index_or (cut_from 0 cuts records) index [])

-- the page of an open fill: the tail, or an older one; the fills below done are closed
pub data IsOpenPage (done : ℕ) (older : List Contents) (tail : Contents) (fill : ℕ) (page : Contents) : Type 0 where
  is_tail : fill ≡ done + length older → page ≡ tail → IsOpenPage done older tail fill page
  is_older : (k : ℕ) → fill ≡ done + k → slice_get older k ≡ Some page → IsOpenPage done older tail fill page

-- ---- frames

-- A reserved record is in the page of an open fill, and its bytes aren't known yet.
pub record IsUnwritten (done : ℕ) (older : List Contents) (tail : Contents) (records : List Reservation)
    (len : ℕ) (slot : Slot)
    : Type 0 where
  pub page : Contents
  pub open_page : IsOpenPage done older tail slot.fill page
  pub first_le : page.first ≤ slot.number
  pub place : IsPlaceOf page.bytes (slot.number - page.first) slot.place.start slot.place.len
  pub fills_slot : slot.place.len ≡ slot_len len
  pub reservation : Reservation
  pub at : slice_get records slot.number ≡ Some reservation
  pub len_is : reservation.len ≡ slot_len len
  pub unwritten : reservation.bytes ≡ None

-- the number of begun fills that a frame noted is no later one than is true
abbrev pub IsNoted : ℕ → Option ℕ → Type 0
IsNoted opened noted = IfSome noted (λ o. o ≤ opened)

-- What holds of a frame with this progress: what it noted is true; and if that is the number of begun fills, it still
-- needs the next one. A close frame reserves nothing, and a reserved record is in an open page.
abbrev pub StandsAt : (size done : ℕ) → List Contents → Contents → List ℕ → List Reservation → (found : Bool) → Purpose
    → Progress
    → Type 0
StandsAt size done older tail cuts records found kind (Waiting noted) =
    IsNoted (done + length older + 1) noted
    × (noted ≡ Some (done + length older + 1) → NeedsFill size cuts records found kind waiting)
StandsAt size done older tail cuts records found kind (Through noted) =
    (kind ≡ for_close) × (noted ≤ done + length older + 1)
StandsAt size done older tail cuts records found kind (Reserved slot) =
    (moment len : ℕ) × (kind ≡ for_record moment len) × IsUnwritten done older tail records len slot
StandsAt size done older tail cuts records found kind (Left noted) =
    IsNoted (done + length older + 1) noted
    × (noted ≡ Some (done + length older + 1) → NeedsFill size cuts records found kind left)

-- a record that a frame is pushed for has room in a page, and its moment is one that can be written
abbrev pub MayBePushed : ℕ → Purpose → Type 0
MayBePushed size (for_record moment len) = FitsPage size (for_record moment len) × (moment < MOMENT_LIMIT)
MayBePushed size for_close = Unit {0}

-- none of these frames has a record of this number or a later one
abbrev pub AreBefore : ℕ → List Frame → Type 0
AreBefore number [] = Unit {0}
AreBefore number (f ∷ below) =
    IfSome (number_of (state_of f.progress)) (λ earlier. earlier < number) × AreBefore number below

-- Of these frames, the top first, each could be pushed, and meets the condition above; they reserved in the order of
-- their places on the stack; and none has left but the one at the bottom.
abbrev pub FramesStand : (size done : ℕ) → List Contents → Contents → List ℕ → List Reservation → (found : Bool)
    → List Frame
    → Type 0
FramesStand size done older tail cuts records found [] = Unit {0}
FramesStand size done older tail cuts records found (f ∷ below) =
    MayBePushed size (kind_of f.purpose)
    × StandsAt size done older tail cuts records found (kind_of f.purpose) f.progress
    × IfSome (number_of (state_of f.progress)) (λ number. AreBefore number below)
    × (state_of f.progress ≡ left → below ≡ [])
    × FramesStand size done older tail cuts records found below

-- ---- the stack

-- The stack over these records, cut in fills so, of which the first has the number start: its open pages hold the last
-- fills, and its frames are as above.
pub record IsStackOf (start : ℕ) (cuts : List ℕ) (records : List Reservation) (found : Bool) (s : Stack) : Type 0 where
  pub begun : opened s ≡ start + 1 + length cuts
  pub from_start : start ≤ s.done
  pub rising : IsRising 0 cuts (length records)
  pub room : HaveRoom s.size cuts records
  pub last_is : s.last_moment ≡ last_moment records
  pub in_time : s.last_moment < MOMENT_LIMIT
  pub large : s.size ≤ MAX_SIZE
  pub older_are : (k : ℕ) (page : Contents)
      → slice_get s.older k ≡ Some page
      → IsPageOf s.size (s.done + k) cuts records (s.done - start + k) page
  pub tail_is : IsPageOf s.size (tail_fill s) cuts records (length cuts) s.tail
  pub frames_are : FramesStand s.size s.done s.older s.tail cuts records found s.frames

-- The stack is what this history leaves, in a ring whose first fill has the number start: the history keeps the
-- discipline of frames, those that haven't left are the stack's, each event was fit, and the open pages hold the last
-- fills of its reserved records.
pub record IsStack (start : ℕ) (history : List HistoryEvent) (s : Stack) : Type 0 where
  pub keeps : IsHistory history
  pub stack_is : (writer_after history).stack ≡ pushed_of (model_frames s.frames)
  pub fit : AreFit s.size history
  pub holds : IsStackOf start (opens_of history) (reserved_records history) (is_wished history) s

-- The stack is what some history leaves, in a ring with some first fill.
unfoldable pub IsReachedStack : Stack → Type 0
IsReachedStack s = (start : ℕ) × (history : List HistoryEvent) × IsStack start history s
