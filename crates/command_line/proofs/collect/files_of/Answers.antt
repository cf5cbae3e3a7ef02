use Rattle.std.proofs.Common.{ap, sym, ◌∙◌, ◌+◌}
use Rattle.std.specs.Prelude.{option_map}
use Rattle.command_line.specs.Calls.{file_seen}
use Rattle.command_line.proofs.FileLists.{one_more, no_more}
use Rattle.command_line.proofs.collect.files_of.Goals as goal

pub returns-in_default-clause-unread : goal.returns-in_default-clause-unread
returns-in_default-clause-unread c = λ _.
    no_more c.args.words.now c.loop-word.word-index c.loop-word.position _ c.loop-word.files.items c.loop-word-test.true
    c.loop-word.invariant.1
    (sym (ap (option_map file_seen) c.in_default.is) ∙ c.cpu_file.ensures)

pub loop-word-preserved : goal.loop-word-preserved
loop-word-preserved c =
    let more =
    one_more c.args.words.now c.loop-word.word-index c.loop-word.position _ c.loop-word.files.items
    c.loop-word-test.true c.loop-word.invariant.1
    c.in-Some.file (sym (ap (option_map file_seen) c.in-Some.is) ∙ c.cpu_file.ensures) in
    (ap (λ n. n + 1) c.loop-word.invariant.0, rw c.in_ok-push.ensures.items more)
