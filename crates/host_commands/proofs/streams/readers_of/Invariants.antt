use Rattle.std.proofs.Common.{◌≡◌, false, All}
use Rattle.command_io.specs.Ends.{has_failed}
use Rattle.parcel_streams.specs.source.Readers.{peeked_reader, source_of}
use Rattle.collect_command.specs.streams.Reading.{IsFresh}
use Rattle.host_commands.proofs.streams.readers_of.Given as goal

abbrev pub invariant-loop-input : goal.invariant-loop-input
invariant-loop-input l = record {
  sound : All (λ reader. has_failed (peeked_reader (source_of reader)) ≡ false) l.readers.items;
  fresh : All (λ reader. IsFresh reader) l.readers.items;
}
