use Rattle.std.proofs.Common.{take, sym, subst, arith}
use Rattle.std.specs.Io.KnownBytes.{Consumes, prepend_known}
use Rattle.parcel_streams.specs.source.Readers.{peeked_unread}
use Rattle.parcel_streams.proofs.Left.{takes}
use Rattle.parcel_streams.proofs.source.peeked.PeekedSource.read.Goals as goal

pub returns-then-self-clause-bytes : goal.returns-then-self-clause-bytes
returns-then-self-clause-bytes g c =
    let remaining = g.R.Source.remaining in
    let given = c.give-count.ensures in (
      subst (λ r. Consumes (prepend_known (peeked_unread c.args.self.now) (remaining c.args.self.now.reader))
          (prepend_known (peeked_unread c.give-count.new.self) (remaining r))
          (take c.give-count.result c.give-count.new.buf))
          (sym given.reader) (takes (peeked_unread c.args.self.now) (peeked_unread c.give-count.new.self)
          (take c.give-count.result c.give-count.new.buf) (remaining c.args.self.now.reader) given.taken),
      λ none some. let empty = given.some c.if-self.true none in absurd (omega arith),
    )
