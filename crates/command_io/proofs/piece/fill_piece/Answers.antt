use Rattle.std.proofs.Common.{◌-◌, ◌≤◌, List, ℕ, length, sym, subst, arith}
use Rattle.std.specs.Io.KnownBytes.{Consumes}
use Rattle.std.proofs.KnownBytes.{Consumes-trans}
use Rattle.command_io.proofs.Filled.{filled-more, length-filled}
use Rattle.command_io.proofs.piece.fill_piece.Goals as goal

pub loop-filled-preserved : goal.loop-filled-preserved
loop-filled-preserved g c =
    let at = c.loop-filled.filled in
    let count = c.in_ok-count.count in
    let part : List ℕ = c.read.new.buf in
    let bound : count ≤ length part = c.in_ok-count.ensures.bound.0 in
    record {
      taken =
          subst (Consumes _ _)
          (sym (filled-more c.loop-filled.piece part at _ count c.loop-filled.invariant.within bound))
          (Consumes-trans _ _ _ _ _ c.loop-filled.invariant.taken c.in_ok-count.ensures.bytes.0);
      within =
          omega (
            arith,
            bound,
            length-filled c.loop-filled.piece part at (length c.loop-filled.piece - at)
                c.loop-filled.invariant.within,
          );
      sound = c.in_ok-count.ensures.fails;
    }
