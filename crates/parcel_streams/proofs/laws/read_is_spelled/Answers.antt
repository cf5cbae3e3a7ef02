use Rattle.std.proofs.Common.{sym, ap, refl, ◌∙◌, length, take}
use Rattle.std.proofs.lemmas.List.{take_at}
use Rattle.parcel_streams.specs.Pieces.{bytes_of_piece}
use Rattle.parcel_streams.proofs.laws.read_is_spelled.Goals as goal

pub returns-clause-piece : goal.returns-clause-piece
returns-clause-piece c = λ bytes piece b.
    ap (take (length (bytes_of_piece piece))) b.whole
    ∙ take_at (bytes_of_piece piece) b.rest (length (bytes_of_piece piece)) refl

pub returns-clause-stream : goal.returns-clause-stream
returns-clause-stream c = λ bytes other pieces own that. own.whole ∙ sym that.whole
