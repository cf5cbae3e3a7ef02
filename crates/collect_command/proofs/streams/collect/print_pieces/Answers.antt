use Rattle.std.proofs.Common.{rules, inl, inr, ◌∙◌}
use Rattle.text_values.specs.Putting.{start_of, contents_of, has_failed}
use Rattle.collect_command.specs.streams.Runs.{IsPrintRun}
use Rattle.collect_command.proofs.streams.collect.print_pieces.Goals as goal

pub returns : goal.returns
returns g c =
    let start = start_of c.new-out.result in
    let last = c.put_pieces.new.out in
    let name = c.put_pieces.ensures.writer start c.new-out.ensures.empty ∙ c.new-out.ensures.same_writer in
    let run : IsPrintRun g.R.Source.remaining g.R.Source.failed c.args.form c.args.inputs.now
    c.put_pieces.new.inputs start.contents (contents_of last) (has_failed last) c.put_pieces.result =
    elim (c.put_pieces.ensures.printed start c.new-out.ensures.empty) [
      | inl all ↦ inl all
      | inr some ↦ inr (inl some)
    ] in
    search rules
