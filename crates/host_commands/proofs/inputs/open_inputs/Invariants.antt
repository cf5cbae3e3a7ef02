use Rattle.std.proofs.Common.{◌≡◌, false, map, take, All}
use Rattle.command_io.specs.Ends.{has_failed}
use Rattle.parcel_streams.specs.source.Readers.{peeked_reader}
use Rattle.host_commands.proofs.inputs.open_inputs.Given as goal

abbrev pub invariant-loop-file : goal.invariant-loop-file
invariant-loop-file l = record {
  cpus : map (λ input. input.cpu) l.inputs.items ≡ map (λ file. file.cpu) (take l.file-index l.files);
  sound : All (λ input. has_failed (peeked_reader input.reader) ≡ false) l.inputs.items;
}
