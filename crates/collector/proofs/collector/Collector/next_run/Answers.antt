use Rattle.collector.proofs.RunsLeft.{run_forward}
use Rattle.collector.proofs.collector.Collector.next_run.Goals as goal

pub returns-in-Some-clause-run : goal.returns-in-Some-clause-run
returns-in-Some-clause-run c =
    let found = c.in-Some.ensures in
    let run = c.end_of_run-stop in
    record {
      after = found.from;
      forward = run_forward c.args.kind c.args.self.now c.args.cpu.0 c.in-Some.first run.result c.args.end.0
          run.ensures.from found.below found.there run.ensures.stop;
      up_to = run.ensures.up_to;
      skipped = found.first;
      run = run.ensures.run;
      stops = run.ensures.stop;
    }
