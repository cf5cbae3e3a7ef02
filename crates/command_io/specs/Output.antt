-- What is printed of a command's output, and the exit status that goes with it.
use Rattle.std.specs.Prelude.{ℕ, List}
use Rattle.command_io.specs.declared.output.Output.{Output}
use Rattle.command_io.specs.declared.output.Output.TheVariants.{Done, Refused, NoThread}
use Rattle.command_io.specs.declared.output.TheConstants.{THREAD_LINE}
use Rattle.command_io.specs.declared.status.TheConstants.{DONE, REFUSED, END_FAILED}

-- the bytes that are printed
abbrev pub bytes_of : Output → List ℕ
bytes_of (Done bytes) = bytes.items
bytes_of (Refused line) = line.items
bytes_of NoThread = THREAD_LINE.now

-- the exit status: 0 for work that is done, 1 for an input that is refused, 4 for a thread that could not be started
abbrev pub status_of : Output → ℕ
status_of (Done bytes) = DONE
status_of (Refused line) = REFUSED
status_of NoThread = END_FAILED
