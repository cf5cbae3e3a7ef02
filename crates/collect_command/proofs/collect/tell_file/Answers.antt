use Rattle.std.proofs.Common.{ℕ, List, inl, ◌∙◌, subst}
use Rattle.command_io.specs.Written.{IsTextWritten}
use Rattle.collect_command.specs.declared.ending.Ending.TheVariants.{MalformedFile, NotWritten}
use Rattle.collect_command.proofs.collect.tell_file.Goals as goal

pub returns-in-Ok : goal.returns-in-Ok
returns-in-Ok g c =
    inl (subst (λ (t : List ℕ).
    IsTextWritten NotWritten (g.W.Sink.contents c.args.writer.now) (g.W.Sink.contents c.write_line.new.writer)
    (g.W.Sink.failed c.write_line.new.writer) t (MalformedFile c.args.input c.args.fault)
    c.write_line.result)
    (c.as_slice.ensures.value ∙ c.in-Ok.ensures) c.write_line.ensures)
