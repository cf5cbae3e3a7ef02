-- What a run of a command does with its two ends, and which exit status it gives.
use Rattle.std.specs.Prelude.{◌≡◌, ℕ, ◌+◌, ◌<◌, ◌≤◌, ◌⊎◌, Bool, true, false, List, length, take, Option}
use Rattle.std.specs.Io.KnownBytes.{Appends, Consumes, IsAtEnd, Keeps}
use Rattle.trace_model.specs.declared.limits.TheConstants.{MAX_INPUT}
use Rattle.command_io.specs.declared.command.TheConstants.{MEMORY_LINE}
use Rattle.command_io.specs.declared.input.TheConstants.{READ_CHUNK}
use Rattle.command_io.specs.declared.status.TheConstants.{DONE, REFUSED, USAGE, NO_MEMORY, END_FAILED}

-- In what follows the source has `unread` before the run and `left` after it, and the sink `contents` before it and
-- `contents_after` after it. An end whose bytes aren't known has `None`, and then nothing is said of them. Of known
-- bytes std's words say: `Consumes unread left bytes`, that `unread` is `bytes` and then `left`; `IsAtEnd left`, that
-- none is left; `Appends contents contents_after bytes`, that `contents_after` is `contents` and then `bytes`;
-- `Keeps contents contents_after`, that they are the same.

-- more than n bytes were taken from the source
abbrev pub TakesMoreThan : ℕ → (unread left : Option (List ℕ)) (count_after : ℕ) → Type 0
TakesMoreThan n unread left count = (bytes : List ℕ) × Consumes unread left bytes × (n < length bytes) × (n < count)

-- at most n bytes were taken from the source
abbrev pub TakesAtMost : ℕ → (unread left : Option (List ℕ)) → Type 0
TakesAtMost n unread left = (bytes : List ℕ) × Consumes unread left bytes × (length bytes ≤ n)

-- a beginning of the bytes was written to the sink, and not all of them
abbrev pub AppendsPrefix : (contents contents_after : Option (List ℕ)) (bytes : List ℕ) → Type 0
AppendsPrefix contents after bytes = (count : ℕ) × (count < length bytes) × Appends contents after (take count bytes)

-- In what follows `gives text bytes status` says that a command may print these bytes for a text, with this
-- exit status.

-- the whole source was read, it isn't too long, and these bytes with this status are an output for it
abbrev pub IsOutput : (List ℕ → List ℕ → ℕ → Type 0) → (unread left : Option (List ℕ)) → List ℕ → ℕ → Type 0
IsOutput gives unread left bytes status =
    (text : List ℕ) × Consumes unread left text × IsAtEnd left × (length text ≤ MAX_INPUT) × gives text bytes status

-- an output for the whole source was written, all of it
abbrev pub WritesOutput : (List ℕ → List ℕ → ℕ → Type 0) → (unread left contents after : Option (List ℕ)) → ℕ → Type 0
WritesOutput gives unread left contents after status =
    (bytes : List ℕ) × IsOutput gives unread left bytes status × Appends contents after bytes

-- ---- the two ends

-- What a run does with its source: `unread` are the bytes that it had to give before the run, and `left` those that it
-- has after it; `count` and `count_after` say how many it had given; and whether a read has failed.
pub record SourceRun : Type 0 where
  pub unread : Option (List ℕ)
  pub left : Option (List ℕ)
  pub count : ℕ
  pub count_after : ℕ
  pub failed : Bool

-- What a run does with its sink: the bytes that it had taken before the run and after it, and whether a write has
-- failed.
pub record SinkRun : Type 0 where
  pub contents : Option (List ℕ)
  pub contents_after : Option (List ℕ)
  pub failed : Bool

-- a source and a sink, by what is seen of them before the run and after it
abbrev pub source_run : {S : Type 0} → (S → Option (List ℕ)) → (S → ℕ) → (S → Bool) → (before after : S) → SourceRun
source_run bytes count failed old new =
    record { unread = bytes old; left = bytes new; count = count old; count_after = count new; failed = failed new }

abbrev pub sink_run : {S : Type 0} → (S → Option (List ℕ)) → (S → Bool) → (before after : S) → SinkRun
sink_run bytes failed old new = record { contents = bytes old; contents_after = bytes new; failed = failed new }

-- These bytes were to be written: an output for the whole source; or the line that reports the refusal of memory, if at
-- most MAX_INPUT bytes were read.
abbrev pub WasToWrite : (List ℕ → List ℕ → ℕ → Type 0) → SourceRun → List ℕ → Type 0
WasToWrite gives source bytes = ((status : ℕ) × IsOutput gives source.unread source.left bytes status)
    ⊎ (TakesAtMost MAX_INPUT source.unread source.left × (bytes ≡ MEMORY_LINE))

-- nothing was written, and no write was tried that failed
abbrev pub WritesNothing : SinkRun → Type 0
WritesNothing sink = Keeps sink.contents sink.contents_after × (sink.failed ≡ false)

-- more than MAX_INPUT bytes were read, and nothing was written
abbrev pub IsInputTooLong : SourceRun → SinkRun → Type 0
IsInputTooLong source sink = TakesMoreThan MAX_INPUT source.unread source.left source.count_after × WritesNothing sink

-- Neither end had failed before the run.
pub record IsCommandRun (gives : List ℕ → List ℕ → ℕ → Type 0) (source : SourceRun) (sink : SinkRun) (status : ℕ)
    : Type 0 where
  -- of the source at most the limit and one chunk are read
  pub bounded : source.count_after ≤ source.count + MAX_INPUT + READ_CHUNK
  -- there is no other exit status
  pub one_of : (status ≡ DONE) ⊎ (status ≡ REFUSED) ⊎ (status ≡ NO_MEMORY) ⊎ (status ≡ END_FAILED)
  -- 0 and 1: all of the source was read and all of an output for it was written, which has this status
  pub finished : (status ≡ DONE) ⊎ (status ≡ REFUSED)
      → WritesOutput gives source.unread source.left sink.contents sink.contents_after status
  -- 3, for refused memory: at most the limit was read, and nothing but the line for that was written
  pub no_memory : status ≡ NO_MEMORY
      → TakesAtMost MAX_INPUT source.unread source.left × Appends sink.contents sink.contents_after MEMORY_LINE
  -- 4 if a read failed, and then nothing was written
  pub read_fault : source.failed ≡ true → (status ≡ END_FAILED) × WritesNothing sink
  -- and if a write failed, and then a beginning of what was to be written is there, and not all
  pub write_fault : sink.failed ≡ true → (status ≡ END_FAILED)
      × ((bytes : List ℕ) × WasToWrite gives source bytes × AppendsPrefix sink.contents sink.contents_after bytes)
  -- and if more was read than may be, of a source that had given nothing before, and then nothing was written
  pub long_fault : source.count ≡ 0 → MAX_INPUT < source.count_after
      → (status ≡ END_FAILED) × IsInputTooLong source sink
  -- else 4 only if an output for the source has it, and then all of that was written
  pub end_fault : status ≡ END_FAILED → (source.failed ≡ true) ⊎ (sink.failed ≡ true) ⊎ IsInputTooLong source sink
      ⊎ WritesOutput gives source.unread source.left sink.contents sink.contents_after status

-- ---- calls that are refused

-- nothing is read or written, and the status is that of usage
pub record OnlyUsage (source : SourceRun) (sink : SinkRun) (status : ℕ) : Type 0 where
  pub not_read : source.left ≡ source.unread
  pub not_counted : source.count_after ≡ source.count
  pub not_written : sink.contents_after ≡ sink.contents
  pub read_sound : source.failed ≡ false
  pub write_sound : sink.failed ≡ false
  pub status_is : status ≡ USAGE

-- The line that reports the refusal of memory is all that is written; if a write fails, a beginning of it.
pub record OnlyMemoryLine (sink : SinkRun) (status : ℕ) : Type 0 where
  pub written : sink.failed ≡ false
      → (status ≡ NO_MEMORY) × Appends sink.contents sink.contents_after MEMORY_LINE
  pub fault : sink.failed ≡ true
      → (status ≡ END_FAILED) × AppendsPrefix sink.contents sink.contents_after MEMORY_LINE

-- A call whose words are refused: they are no command line that is carried out, or memory was refused to them.
pub record IsRefusedCall (usage no_memory : Type 0) (source : SourceRun) (sink : SinkRun) (status : ℕ) : Type 0 where
  pub only_usage : usage → OnlyUsage source sink status
  pub only_line : no_memory → OnlyMemoryLine sink status
