use Rattle.std.proofs.Common.{arith}
use Rattle.line_follower.proofs.Steps.{one_more_waits}
use Rattle.line_follower.proofs.follower.wait_all.Goals as goal

pub loop-line-preserved : goal.loop-line-preserved
loop-line-preserved g c = record {
  room =
      omega (arith, c.in-Ok.ensures.len, c.in-Ok.ensures.capacity, c.in-Some.ensures.cases, c.loop-line.invariant.room);
  heap = c.in-Ok.ensures.heap_order c.loop-line.invariant.heap;
  moved =
      one_more_waits _ c.loop-line.lines.items c.pop.new.self.items c.in-Some.line _ _ c.in-Some.ensures.items
      c.in-Ok.ensures.permutation c.loop-line.invariant.moved;
}
