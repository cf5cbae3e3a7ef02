use Rattle.std.proofs.Common.{◌≡◌, map, take}
use Rattle.trace_dat.specs.Contents.{format_seen}
use Rattle.host_commands.specs.Formats.{format_read}
use Rattle.host_commands.proofs.captures.lent.Given as goal

abbrev pub invariant-loop-format : goal.invariant-loop-format
invariant-loop-format l = map format_seen l.formats.items ≡ map format_read (take l.format-index l.texts)
