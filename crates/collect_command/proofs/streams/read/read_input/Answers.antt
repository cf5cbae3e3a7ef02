use Rattle.std.proofs.Common.{◌≡◌, ◌+◌, ◌-◌, ◌^◌, inl, inr, Ok, Err, Option, refl, sym, ap, ◌∙◌, subst, arith}
use Rattle.std.specs.Prelude.{IfSome, min}
use Rattle.parcel_streams.specs.Answers.{piece_seen}
use Rattle.parcel_streams.specs.declared.piece.Piece.{Piece}
use Rattle.parcel_streams.specs.declared.source.fault.ReadPieceFault.TheVariants.{Piece as PieceIs}
use Rattle.parcel_streams.specs.source.Reading.{GivesPiece}
use Rattle.parcel_streams.specs.source.Readers.{left_of, index_of, at_of}
use Rattle.collect_command.specs.streams.Reading.{piece_length}
use Rattle.collect_command.proofs.Readings.{read_none, read_more}
use Rattle.collect_command.proofs.streams.read.read_input.Goals as goal

pub returns-in-Ok-None-clause-taken : goal.returns-in-Ok-None-clause-taken
returns-in-Ok-None-clause-taken g c =
    let so_far = c.pieces.invariant.so_far in
    record {
      pieces = so_far.pieces;
      whole = record {
        left = left_of g.R.Source.remaining c.pieces.reader;
        gives = so_far.gives;
        end = c.in-Ok-None.ensures.end (ap Ok c.in-Ok-None.field-0-is);
        sound = c.in-Ok-None.ensures.sound;
      };
      taken = so_far.taken;
    }

pub returns-in-Err-Read-clause-stopped : goal.returns-in-Err-Read-clause-stopped
returns-in-Err-Read-clause-stopped g c =
    let so_far = c.pieces.invariant.so_far in
    record {
      pieces = so_far.pieces;
      left = left_of g.R.Source.remaining c.pieces.reader;
      gives = so_far.gives;
      between = (c.pieces.taker, c.pieces.writer);
      taken = so_far.taken;
      why = (refl, inl (c.in-Err-Read.ensures.read_fault.1 (ap Err c.in-Err-Read.field-0-is)));
    }

pub returns-in-Err-Piece-clause-stopped : goal.returns-in-Err-Piece-clause-stopped
returns-in-Err-Piece-clause-stopped g c =
    let so_far = c.pieces.invariant.so_far in
    let at = c.in-Err-Piece in
    record {
      pieces = so_far.pieces;
      left = left_of g.R.Source.remaining c.pieces.reader;
      gives = so_far.gives;
      between = (c.pieces.taker, c.pieces.writer);
      taken = so_far.taken;
      why = (
        c.index-index.ensures ∙ so_far.index_is,
        c.at-at.ensures ∙ so_far.at_is,
        (
          refl,
          record {
            is_fault = λ cause is. at.ensures.fault cause (ap Err (at.field-0-is ∙ ap PieceIs (sym at.fault-is ∙ is)));
            no_memory = λ is. at.ensures.no_memory (ap Err (at.field-0-is ∙ ap PieceIs (sym at.fault-is ∙ is)));
          },
        ),
      );
    }

pub returns-in-Err-clause-stopped : goal.returns-in-Err-clause-stopped
returns-in-Err-clause-stopped g c =
    let so_far = c.pieces.invariant.so_far in
    let now = left_of g.R.Source.remaining c.pieces.reader in
    let next = left_of g.R.Source.remaining c.next.new.self in
    record {
      pieces = so_far.pieces;
      left = now;
      gives = so_far.gives;
      between = (c.pieces.taker, c.pieces.writer);
      taken = so_far.taken;
      why = (
        c.index-index.ensures ∙ so_far.index_is,
        c.at-at.ensures ∙ so_far.at_is,
        (
          c.in-Ok-Some.piece,
          c.origin_of.ensures,
          subst (λ (n : Option Piece). IfSome n (λ (piece : Piece). GivesPiece now next (piece_seen piece)))
              c.in-Ok-Some.field-0-is c.in-Ok-Some.ensures.piece,
          c.in-Err.ensures.refused,
        ),
      );
    }

pub pieces-preserved : goal.pieces-preserved
pieces-preserved g c =
    let so_far = c.pieces.invariant.so_far in
    let now = left_of g.R.Source.remaining c.pieces.reader in
    let next = left_of g.R.Source.remaining c.next.new.self in
    let some = c.in-Ok-Some in
    record {
      sound = some.ensures.sound;
      so_far = read_more g.R.Source.remaining g.T.TakesPieces.takes c.args.input c.args.reader.now c.pieces.reader
          c.next.new.self (c.args.taker.now, c.args.writer.now) (c.pieces.taker, c.pieces.writer)
          (c.take.new.self, c.take.new.writer) some.piece c.at-at.result so_far
          (subst (λ (n : Option Piece). IfSome n (λ (piece : Piece). GivesPiece now next (piece_seen piece)))
          some.field-0-is some.ensures.piece)
          (subst (λ (n : Option Piece). IfSome n (λ (piece : Piece).
          index_of c.next.new.self ≡ min (index_of c.pieces.reader + 1) (2 ^ 64 - 1))) some.field-0-is
          some.ensures.index)
          (subst (λ (n : Option Piece). IfSome n (λ (piece : Piece).
          at_of c.next.new.self ≡ min (at_of c.pieces.reader + piece_length piece) (2 ^ 64 - 1))) some.field-0-is
          some.ensures.at)
          c.at-at.ensures c.in_default.ensures.taken;
    }

pub returns-clause-stopped : goal.returns-clause-stopped
returns-clause-stopped g c =
    let so_far = c.pieces.invariant.so_far in
    record {
      pieces = so_far.pieces;
      left = left_of g.R.Source.remaining c.pieces.reader;
      gives = so_far.gives;
      between = (c.pieces.taker, c.pieces.writer);
      taken = so_far.taken;
      why = (refl, inr (omega (arith, c.pieces-test.false, c.index.ensures, so_far.index_is)));
    }

pub pieces-init : goal.pieces-init
pieces-init g c = record {
  sound = c.requires.sound;
  so_far = read_none g.R.Source.remaining g.T.TakesPieces.takes c.args.input c.args.reader.now
      (c.args.taker.now, c.args.writer.now) c.requires.fresh;
}
