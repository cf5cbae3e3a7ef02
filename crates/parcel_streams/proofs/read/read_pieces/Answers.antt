use Rattle.std.proofs.Common.{ℕ, List, subst, arith}
use Rattle.std.proofs.lemmas.List.{take_rest}
use Rattle.parcel_streams.specs.Answers.{PutsPiece}
use Rattle.parcel_streams.proofs.Steps.{stands_next}
use Rattle.parcel_streams.proofs.Streams.{piece_len}
use Rattle.parcel_streams.specs.Answers.{piece_seen}
use Rattle.parcel_streams.proofs.read.read_pieces.Goals as goal

pub loop-at-smaller : goal.loop-at-smaller
loop-at-smaller c =
    let put = c.in-Ok.ensures.piece in
    let len_is = put.len_is in
    let least = piece_len (piece_seen put.piece) in
    let more = c.loop-at-test.true in
    omega arith

pub loop-at-preserved : goal.loop-at-preserved
loop-at-preserved c =
    let bytes = c.args.bytes.now in
    let at = c.loop-at.at in
    stands_next bytes c.loop-at.pieces.items c.put_piece.new.pieces.items at c.in-Ok.len c.loop-at.invariant
    (subst (λ (b : List ℕ). PutsPiece b c.loop-at.pieces.items c.put_piece.new.pieces.items c.in-Ok.len)
    (take_rest bytes at) c.in-Ok.ensures.piece)
