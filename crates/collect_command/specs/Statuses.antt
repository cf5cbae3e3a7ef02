-- The exit statuses of the commands that list.
use Rattle.std.specs.Prelude.{ℕ, Bool, ◌==◌, ◌&&◌, ◌||◌, nat_lt, if◌then◌else◌, length}
use Rattle.command_io.specs.declared.status.TheConstants.{DONE, REFUSED, NO_MEMORY, END_FAILED}
use Rattle.collect_command.specs.declared.ending.Listed.{Listed}
use Rattle.collect_command.specs.declared.ending.Collected.{Collected}
use Rattle.collect_command.specs.declared.ending.Outcome.{Outcome}
use Rattle.collect_command.specs.declared.follow.LiveCollected.{LiveCollected}
use Rattle.collect_command.specs.declared.ending.Ending.{Ending}
use Rattle.collect_command.specs.declared.ending.Ending.TheVariants.{Done, Damaged, Hidden, MalformedFile, Malformed}
use Rattle.collect_command.specs.declared.ending.Ending.TheVariants.{Numbers, NoMemory, NotRead, Changed, TooLong}
use Rattle.collect_command.specs.declared.ending.Ending.TheVariants.{NotWritten}

-- 0 if all is listed; 1 for something damaged or hidden, a malformed input or numbers that don't fit; 3 and 4 as for
-- the other commands
abbrev pub status_for : Ending → ℕ
status_for Done = DONE
status_for Damaged = REFUSED
status_for Hidden = REFUSED
status_for (MalformedFile input fault) = REFUSED
status_for (Malformed input) = REFUSED
status_for Numbers = REFUSED
status_for NoMemory = NO_MEMORY
status_for (NotRead input) = END_FAILED
status_for (Changed input) = END_FAILED
status_for (TooLong input) = END_FAILED
status_for NotWritten = END_FAILED

-- a line has a field without a value, a format is malformed, or a pattern names no event
abbrev pub lacks_some : Listed → Bool
lacks_some listed = nat_lt 0 listed.cut || (nat_lt 0 (length listed.malformed.items) || listed.is_unnamed)

-- 1 if all is listed but something that was asked for, and else that of the ending
abbrev pub status_of_listing : Listed → ℕ
status_of_listing listed =
    if status_for listed.ending == DONE && lacks_some listed then REFUSED else status_for listed.ending

-- 1 if all is listed but an instance that no file has, and else that of the listing
abbrev pub status_of_collect : Collected → ℕ
status_of_collect collected =
    if status_of_listing collected.listed == DONE && collected.is_missing then REFUSED
    else status_of_listing collected.listed

-- 4 if new pieces couldn't be kept
abbrev pub status_of_run : Outcome → ℕ
status_of_run outcome = if outcome.is_kept then status_for outcome.ending else END_FAILED

-- 1 if all is listed but some lines were late, and else that of the listing
abbrev pub status_of_live : LiveCollected → ℕ
status_of_live collected =
    if status_of_listing collected.listed == DONE && nat_lt 0 collected.late then REFUSED
    else status_of_listing collected.listed
