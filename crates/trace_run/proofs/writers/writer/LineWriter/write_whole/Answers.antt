use Rattle.trace_run.proofs.WrittenWhole.{written_whole}
use Rattle.trace_run.proofs.writers.writer.LineWriter.write_whole.Goals as goal

pub returns : goal.returns
returns c =
    written_whole c.args.self.now c.requires c.write-written.new.self c.args.moment c.args.payload.now
    c.write-written.ensures.keeps.ring c.write-written.ensures.keeps.writer c.write-written.result
    c.write-written.ensures.written
    c.write-written.ensures.refused
