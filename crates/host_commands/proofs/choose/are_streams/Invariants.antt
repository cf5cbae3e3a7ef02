use Rattle.std.proofs.Common.{◌≡◌, ◌⊎◌, length}
use Rattle.parcel_streams.specs.source.Reading.{BeginsStream}
use Rattle.parcel_streams.specs.source.Readers.{peeked_unread}
use Rattle.host_commands.proofs.Each.{AllBefore}
use Rattle.host_commands.proofs.choose.are_streams.Given as goal

abbrev pub invariant-loop-input : goal.invariant-loop-input
invariant-loop-input l =
    AllBefore (λ input. BeginsStream (peeked_unread input.reader) ⊎ (length (peeked_unread input.reader) ≡ 0)) l.inputs
    l.input-index
