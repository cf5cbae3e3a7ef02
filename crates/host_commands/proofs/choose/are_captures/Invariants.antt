use Rattle.parcel_streams.specs.source.Reading.{BeginsStream}
use Rattle.parcel_streams.specs.source.Readers.{peeked_unread}
use Rattle.host_commands.proofs.Each.{AllBefore}
use Rattle.host_commands.proofs.choose.are_captures.Given as goal

abbrev pub invariant-loop-input : goal.invariant-loop-input
invariant-loop-input l = AllBefore (λ input. BeginsStream (peeked_unread input.reader) → ⊥) l.inputs l.input-index
