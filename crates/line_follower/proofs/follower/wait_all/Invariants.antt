use Rattle.std.proofs.Common.{◌+◌, ◌≤◌, ◌++◌, map, vec_len, IsPermutation}
use Rattle.std.specs.BinaryHeap.{IsHeap, heap_items, heap_len, heap_capacity}
use Rattle.line_follower.specs.Inside.{waiting_order, waiting_of}
use Rattle.line_follower.proofs.follower.wait_all.Given as goal

abbrev pub invariant-loop-line : goal.invariant-loop-line
invariant-loop-line g l = record {
  room : heap_len l.waiting + vec_len l.lines ≤ heap_capacity l.waiting;
  heap : IsHeap waiting_order (heap_items l.waiting);
  moved : IsPermutation (map waiting_of l.fn.lines.items ++ heap_items l.fn.waiting)
      (map waiting_of l.lines.items ++ heap_items l.waiting);
}

abbrev pub decreases-loop-line : goal.decreases-loop-line
decreases-loop-line g l = goal.left-loop-line g l
