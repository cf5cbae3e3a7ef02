-- What is seen of a reader of pieces, and of a source whose first bytes were looked at.
use Rattle.std.specs.Prelude.{ℕ, List, take, drop, Option}
use Rattle.std.specs.Io.KnownBytes.{prepend_known}
use Rattle.parcel_streams.specs.declared.source.peeked.Peeked.{Peeked}
use Rattle.parcel_streams.specs.declared.source.reader.PieceReader.{PieceReader}
use Rattle.parcel_streams.specs.source.Held.{held_unread, held_given}

-- the source of a reader
abbrev pub source_of : {R : Type 0} → PieceReader R → R
source_of reader = reader.source

-- What is left of a stream: what was read and not yet given, and what the source has yet to give, as `remaining` says.
abbrev pub left_of : {R : Type 0} → (R → Option (List ℕ)) → PieceReader R → Option (List ℕ)
left_of remaining reader = prepend_known (held_unread reader.window) (remaining reader.source)

-- the bytes of the piece that was given last
abbrev pub given_of : {R : Type 0} → PieceReader R → List ℕ
given_of reader = held_given reader.window

-- how many pieces were given, and how many bytes they take; the numbers stop at 2^64 - 1
abbrev pub index_of : {R : Type 0} → PieceReader R → ℕ
index_of reader = reader.index

abbrev pub at_of : {R : Type 0} → PieceReader R → ℕ
at_of reader = reader.at

-- the reader whose first bytes were looked at, and those of them that it hasn't given again
abbrev pub peeked_reader : {R : Type 0} → Peeked R → R
peeked_reader peeked = peeked.reader

abbrev pub peeked_unread : {R : Type 0} → Peeked R → List ℕ
peeked_unread peeked = drop peeked.given (take peeked.len peeked.first)

-- what it has yet to give
abbrev pub peeked_left : {R : Type 0} → (R → Option (List ℕ)) → Peeked R → Option (List ℕ)
peeked_left remaining peeked = prepend_known (peeked_unread peeked) (remaining peeked.reader)

-- how many bytes it has given
abbrev pub peeked_count : {R : Type 0} → Peeked R → ℕ
peeked_count peeked = peeked.count
