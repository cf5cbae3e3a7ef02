use Rattle.std.proofs.Common.{rules, ◌∙◌, []}
use Rattle.text_values.specs.Putting.{start_of, contents_of, has_failed}
use Rattle.collect_command.specs.recovery.Runs.{TellsUnread}
use Rattle.collect_command.proofs.recovery.print.write_unread.Goals as goal

pub returns : goal.returns
returns g c =
    let start = start_of c.new-out.result in
    let last = c.tell_unread.new.out in
    let name = c.tell_unread.ensures.writer start [] c.new-out.ensures.empty ∙ c.new-out.ensures.same_writer in
    let told : TellsUnread c.args.stopped.input c.args.stopped.why start.contents (contents_of last) (has_failed last)
    c.tell_unread.result =
    c.tell_unread.ensures.told start c.new-out.ensures.empty in
    search rules
