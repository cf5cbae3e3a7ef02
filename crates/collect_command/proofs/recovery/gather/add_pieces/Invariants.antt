use Rattle.std.proofs.Common.{take}
use Rattle.collect_command.specs.recovery.Gathering.{gathering_of, AddsAll, AreCounted}
use Rattle.collect_command.proofs.recovery.gather.add_pieces.Given as goal

abbrev pub invariant-loop-piece : goal.invariant-loop-piece
invariant-loop-piece g l = record {
  added : AddsAll (take l.piece-index l.pieces) (gathering_of l.fn.fleet l.fn.out)
      (gathering_of l.fleet l.out);
  counted : AreCounted (take l.piece-index l.pieces) l.index l.at;
}
