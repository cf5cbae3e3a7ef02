use Rattle.std.proofs.Common.{rules, ◌⊎◌, ◌∙◌, []}
use Rattle.text_values.specs.Putting.{start_of, contents_of, has_failed}
use Rattle.collect_command.specs.streams.Runs.{IsListed, IsMemoryLine}
use Rattle.collect_command.proofs.streams.collect.write_fleet.Goals as goal

pub returns : goal.returns
returns g c = λ pieces taken.
    let start = start_of c.new-out.result in
    let last = c.list_or_tell.new.out in
    let name = c.list_or_tell.ensures.writer start [] c.new-out.ensures.empty ∙ c.new-out.ensures.same_writer in
    let listed : IsListed c.args.form pieces c.args.gatherer.now.fleet start.contents (contents_of last)
    (has_failed last) c.list_or_tell.result
    ⊎ IsMemoryLine start.contents (contents_of last) (has_failed last) [] c.list_or_tell.result =
    c.list_or_tell.ensures.listed start pieces c.new-out.ensures.empty taken in
    search rules
