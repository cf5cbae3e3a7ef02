use Rattle.std.proofs.Common.{rules, ◌∙◌, []}
use Rattle.text_values.specs.Putting.{start_of, contents_of, has_failed}
use Rattle.collect_command.specs.streams.Runs.{TellsStop}
use Rattle.collect_command.proofs.streams.collect.write_stop.Goals as goal

pub returns : goal.returns
returns g c =
    let start = start_of c.new-out.result in
    let last = c.tell_stop.new.out in
    let name = c.tell_stop.ensures.writer start [] c.new-out.ensures.empty ∙ c.new-out.ensures.same_writer in
    let told : TellsStop c.args.stopped.input c.args.stopped.stop start.contents (contents_of last) (has_failed last) []
    c.tell_stop.result =
    c.tell_stop.ensures.told start [] c.new-out.ensures.empty in
    search rules
