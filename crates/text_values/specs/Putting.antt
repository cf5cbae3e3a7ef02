-- What was put into a writer with a buffer before it.
use Rattle.std.specs.Prelude.{◌≡◌, ℕ, ◌++◌, Bool, List, Option}
use Rattle.command_io.specs.declared.ends.Sink.{Ghosts}
use Rattle.text_values.specs.declared.output.Out.{Out}
use Rattle.text_values.specs.Waiting.{HasSent}

-- Where a text begins: what the writer had taken before it, and which writer it is, by the name of its borrow.
pub record Start : Type 0 where
  pub contents : Option (List ℕ)
  pub writer : ℕ

module _ {W : Type 0} {g : Ghosts W} where
  -- the writer
  abbrev pub writer_of : Out W g → W
  writer_of out = out.writer.now

  -- what the writer has taken, and whether a write has failed
  abbrev pub contents_of : Out W g → Option (List ℕ)
  contents_of out = g.contents out.writer.now

  abbrev pub has_failed : Out W g → Bool
  has_failed out = g.failed out.writer.now

  -- a text that is put from here on
  abbrev pub start_of : Out W g → Start
  start_of out = record { contents = contents_of out; writer = out.writer.ghost_name }

  -- it has the writer of this start
  abbrev pub HasWriter : Start → Out W g → Type 0
  HasWriter start out = out.writer.ghost_name ≡ start.writer

  -- The text was put since `start`. As long as no write has failed, a first part of it is written, and the rest waits;
  -- once one has, a beginning of it is written, and not all.
  pub record HasPut (start : Start) (text : List ℕ) (out : Out W g) : Type 0 where
    pub writer_is : HasWriter start out
    pub sent : HasSent start.contents (contents_of out) (has_failed out) text out.buffer.now

  -- these bytes were put after whatever was put before
  abbrev pub Puts : List ℕ → (old new : Out W g) → Type 0
  Puts bytes old new = (start : Start) (text : List ℕ) → HasPut start text old → HasPut start (text ++ bytes) new

  -- the writer is still that of the text's start
  abbrev pub KeepsWriter : (old new : Out W g) → Type 0
  KeepsWriter old new = (start : Start) (text : List ℕ) → HasPut start text old → HasWriter start new
