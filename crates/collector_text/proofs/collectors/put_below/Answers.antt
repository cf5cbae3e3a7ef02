use Rattle.std.proofs.lemmas.Result.{on_ok_weaker}
use Rattle.text_values.proofs.Behind.{behind_behind}
use Rattle.collector_text.proofs.Shown.{reported_again, reported_below}
use Rattle.collector_text.proofs.collectors.put_below.Goals as goal

pub returns-then-same-clause-text : goal.returns-then-same-clause-text
returns-then-same-clause-text c =
    let stands = rw c.in-Some.is at c.requires in
    on_ok_weaker c.put_again.result
    (reported_again c.in-Some.other.now c.args.collector.now c.args.out.now.items c.put_again.new.out.items
    c.args.span.start
    c.args.span.end (c.same.ensures.0 c.if-same.true) stands)
    c.put_again.ensures.text

pub returns-clause-behind : goal.returns-clause-behind
returns-clause-behind c = behind_behind c.args.out.now.items c.put_lines.new.out.items c.put_runs.new.out.items
    c.put_lines.ensures.behind c.put_runs.ensures.behind

pub returns-clause-text : goal.returns-clause-text
returns-clause-text c =
    let lines = c.in_ok-put_lines.ensures.text in
    on_ok_weaker c.put_runs.result
    (reported_below c.args.collector.now c.args.out.now.items c.put_lines.new.out.items c.put_runs.new.out.items lines.0
    lines.1 lines.2)
    c.put_runs.ensures.text
