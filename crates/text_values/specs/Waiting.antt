-- What waits in a buffer, and what was sent through it.
use Rattle.std.specs.Prelude.{◌≡◌, ℕ, ◌++◌, Bool, true, false, List, take, Option}
use Rattle.std.specs.Io.KnownBytes.{Appends}
use Rattle.command_io.specs.CommandRun.{AppendsPrefix}
use Rattle.text_values.specs.declared.buffer.TextBuffer.{TextBuffer}

-- what is in the buffer
abbrev pub waiting : TextBuffer → List ℕ
waiting buffer = take buffer.filled buffer.bytes.items

-- whether a write has failed
abbrev pub has_failed : TextBuffer → Bool
has_failed buffer = buffer.failed

-- The text was sent since the writer's contents were `start`; now they are `contents`, and a write of it has failed or
-- not. If not, a first part of the text is written, and the rest is in the buffer. If one has, a beginning of the text
-- is written, and not all.
pub record HasSent (start contents : Option (List ℕ)) (failed : Bool) (text : List ℕ) (buffer : TextBuffer)
    : Type 0 where
  pub going_on : failed ≡ false → (sent : List ℕ) × (text ≡ sent ++ waiting buffer) × Appends start contents sent
  pub cut_off : failed ≡ true → AppendsPrefix start contents text
