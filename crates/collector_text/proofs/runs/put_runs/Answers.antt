use Rattle.text_values.proofs.Behind.{behind_behind}
use Rattle.collector_text.proofs.RunsBehind.{put_none, put_more, put_all}
use Rattle.collector_text.proofs.runs.put_runs.Goals as goal

pub loop-cpu-init : goal.loop-cpu-init
loop-cpu-init c = put_none c.args.collector.now c.args.out.now.items

pub loop-cpu-preserved : goal.loop-cpu-preserved
loop-cpu-preserved c =
    let put = c.in_ok-put_runs_of.ensures.text in
    put_more c.args.collector.now c.loop-cpu.cpu c.args.out.now.items c.loop-cpu.out.items c.put_runs_of.new.out.items
    put.0 c.loop-cpu.invariant put.1 put.2

pub returns-in_err-put_runs_of-clause-behind : goal.returns-in_err-put_runs_of-clause-behind
returns-in_err-put_runs_of-clause-behind c = behind_behind c.args.out.now.items c.loop-cpu.out.items
    c.put_runs_of.new.out.items (_, c.loop-cpu.invariant.text) c.put_runs_of.ensures.behind

pub returns-clause-behind : goal.returns-clause-behind
returns-clause-behind c = (_, c.loop-cpu.invariant.text)

pub returns-clause-text : goal.returns-clause-text
returns-clause-text c =
    let put = c.loop-cpu.invariant in (
      put.runs,
      put_all c.args.collector.now c.args.out.now.items c.loop-cpu.out.items c.loop-cpu.cpu
          c.parcels-parcels.ensures.sound c.loop-cpu-test.false put,
      put.text,
    )
