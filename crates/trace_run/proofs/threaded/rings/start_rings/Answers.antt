use Rattle.std.proofs.Common.{sym, ◌∙◌, arith}
use Rattle.trace_run.proofs.Rows.{running_pushed}
use Rattle.trace_run.proofs.threaded.rings.start_rings.Goals as goal

pub loop-cpu-preserved : goal.loop-cpu-preserved
loop-cpu-preserved g c =
    let was = c.loop-cpu.invariant in
    let pushed = c.push_reserved.ensures in
    let started = c.in_ok-running.ensures in
    let job = c.args.job.now in record {
      count = omega (arith, was.count, pushed.len);
      room = omega (arith, was.room, pushed.capacity);
      running = running_pushed job.script.now job.gate.now c.loop-cpu.cpu c.loop-cpu.threads.items
          c.push_reserved.new.self.items c.in_ok-running.running was.running (sym was.count ∙ c.loop-cpu.threads.ok.0)
          (started.cpu, started.script, started.gate) pushed.items;
    }
