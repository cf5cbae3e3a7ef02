use Rattle.std.proofs.Common.{None, sym, subst}
use Rattle.collector.proofs.CpuWalks.{Leaves, next_there, next_done, all_done}
use Rattle.stream_collector.specs.Frontier.{IsNotAfter, by_marks}
use Rattle.stream_collector.proofs.MarkWalks.{HasMarks, all_marked, done_otherwise}
use Rattle.stream_collector.proofs.Frontiers.{not_after, one_of_either, held_there, held_not_after}
use Rattle.stream_collector.proofs.stream.StreamCollector.least_of_marked.Goals as goal

pub loop-cpu-init : goal.loop-cpu-init
loop-cpu-init c = record {
  walk = subst (Leaves (HasMarks c.args.self.now.marks) (IsNotAfter c.args.self.now None))
      (sym c.into_iter-cpu-iterator.ensures.into_iter_gives)
      (all_marked (IsNotAfter c.args.self.now None) c.args.self.now.marks c.marked_cpus-cpu-items.result
      c.marked_cpus-cpu-items.ensures);
  of_one = tt;
}

pub loop-cpu-preserved : goal.loop-cpu-preserved
loop-cpu-preserved c =
    let s = c.args.self.now in
    let cpu = c.in-Some.cpu.0 in
    let old = c.loop-cpu.least in
    let held = c.held_at.result in
    let new = c.earlier-least.result in
    let there = next_there (HasMarks s.marks) (IsNotAfter s old) c.loop-cpu.cpu-iterator c.next.new.self cpu
    c.in-Some.ensures.steps c.loop-cpu.invariant.walk in
    record {
      walk = next_done (HasMarks s.marks) (IsNotAfter s new) c.loop-cpu.cpu-iterator c.next.new.self cpu
          c.in-Some.ensures.steps
          (not_after s held new cpu c.earlier-least.ensures.other
          (held_not_after s cpu held c.held_at.ensures.complete c.held_at.ensures.held))
          (done_otherwise (HasMarks s.marks) (IsNotAfter s old) (IsNotAfter s new) c.loop-cpu.cpu-iterator
          (λ q was. not_after s old new q c.earlier-least.ensures.own was) c.loop-cpu.invariant.walk);
      of_one = one_of_either s old held new c.earlier-least.ensures.of_them c.loop-cpu.invariant.of_one
          (held_there s cpu held (by_marks there) c.held_at.ensures.complete c.held_at.ensures.held);
    }

pub returns-clause-least : goal.returns-clause-least
returns-clause-least c = all_done (HasMarks c.args.self.now.marks) (IsNotAfter c.args.self.now c.loop-cpu.least)
    c.loop-cpu.cpu-iterator c.in-None.ensures.steps.0 c.loop-cpu.invariant.walk
