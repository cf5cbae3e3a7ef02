-- What a record that is written at once makes of a writer's stack.
use Rattle.std.specs.Prelude.{◌≡◌, ◌≢◌, ℕ, ◌+◌, ◌-◌, ◌<◌, ◌≤◌, max, false, if◌then◌else◌, List, [], ◌∷◌, ◌++◌, length}
use Rattle.std.specs.Prelude.{None}
use Rattle.trace_model.specs.declared.limits.TheConstants.{MAX_FRAMES, MOMENT_LIMIT}
use Rattle.record_words.specs.declared.format.TheConstants.{EXTEND_FROM, SHORT_LIMIT}
use Rattle.trace_model.specs.Words.{padded, encoding}
use Rattle.trace_model.specs.Steps.{IsTooLong}
use Rattle.page_image.specs.Contents.{Contents, is_blank}
use Rattle.nested_writer.specs.declared.frame.Purpose.TheVariants.{Record}
use Rattle.nested_writer.specs.declared.frame.Progress.TheVariants.{Left}
use Rattle.nested_writer.specs.Stack.{Stack}
use Rattle.nested_writer.specs.Calls.{HasRecordRoom}

-- A record of this moment, for a payload of len bytes, may be written, so its frame may be on the stack.
abbrev pub MayStand : Stack → (moment len : ℕ) → Type 0
MayStand s moment len = (IsTooLong s.size len → ⊥) × (moment < MOMENT_LIMIT)

-- A record of this moment, for a payload of len bytes, may be written and has room in the tail.
abbrev pub FitsInTail : Stack → (moment len : ℕ) → Type 0
FitsInTail s moment len = MayStand s moment len × HasRecordRoom s moment len

-- The stack is empty, and a record of this moment, for a payload of len bytes, may be written and has room in the tail.
abbrev pub FitsAtOnce : Stack → (moment len : ℕ) → Type 0
FitsAtOnce s moment len = (s.frames ≡ []) × FitsInTail s moment len

-- A frame is on the stack, and there is room for one more.
abbrev pub MayCover : Stack → Type 0
MayCover s = (s.frames ≢ []) × (length s.frames < MAX_FRAMES)

-- A frame is on the stack, and one may be pushed above it for a record of this moment, for a payload of len bytes, that
-- has room in the tail.
abbrev pub FitsAbove : Stack → (moment len : ℕ) → Type 0
FitsAbove s moment len = MayCover s × FitsInTail s moment len

-- the page with a record of this moment after the others, of which the last has the moment prev, and zeros up to the
-- end of its slot
abbrev pub page_with : Contents → (prev moment : ℕ) → List ℕ → Contents
page_with page prev moment payload = record page {
  time = if is_blank page.bytes then moment else page.time;
  count = page.count + 1;
  bytes = page.bytes ++ encoding (moment - prev) (is_blank page.bytes) (padded payload);
}

-- the stack with a record in its tail, and with the frames of before; the moment is raised to the last record's
abbrev pub with_written : Stack → (moment : ℕ) → List ℕ → Stack
with_written s moment payload = record s {
  tail = page_with s.tail s.last_moment (max moment s.last_moment) payload;
  last_moment = max moment s.last_moment;
}

-- the stack with one frame, that of a record of this moment, for a payload of len bytes, which has left
abbrev pub with_left : Stack → (moment len : ℕ) → Stack
with_left s moment len = record s {
  frames = record { purpose = Record moment len; progress = Left None } ∷ [];
}

-- the stack with a record in its tail, whose frame has left and stays at the bottom
abbrev pub with_record : Stack → (moment : ℕ) → List ℕ → Stack
with_record s moment payload = with_left (with_written s moment payload) moment (length payload)

-- The record is short: docs/GLOSSARY.md.
pub record IsShortNext (s : Stack) (moment len : ℕ) : Type 0 where
  pub some : 1 ≤ len
  pub short : len ≤ SHORT_LIMIT
  pub behind : is_blank s.tail.bytes ≡ false
  pub in_order : s.last_moment ≤ moment
  pub near : moment - s.last_moment < EXTEND_FROM
  pub in_time : moment < MOMENT_LIMIT

-- The stack is empty, and the record is short.
abbrev pub IsShortAlone : Stack → (moment len : ℕ) → Type 0
IsShortAlone s moment len = (s.frames ≡ []) × IsShortNext s moment len
