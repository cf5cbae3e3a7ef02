use Rattle.tracering_c.proofs.FaultCodes.{code_fits}
use Rattle.tracering_c.proofs.CallAnswers.{written_so, refused_so}
use Rattle.tracering_c.proofs.writing.write_on.Goals as goal

pub returns-in-Ok-clause-writes : goal.returns-in-Ok-clause-writes
returns-in-Ok-clause-writes c =
    written_so c.args.writer.now c.args.moment c.args.payload.now c.write.new.self
    (c.write.ensures.written c.in-Ok.is) c.write.ensures.keeps.payloads c.write.ensures.rooms

pub returns-in-Err-clause-writes : goal.returns-in-Err-clause-writes
returns-in-Err-clause-writes c =
    refused_so c.args.writer.now c.args.moment c.args.payload.now _ c.write.new.self c.in-Err.fault
    (let made = c.code_of.ensures in let fits = code_fits c.in-Err.fault in cc)
    (c.write.ensures.refused c.in-Err.fault c.in-Err.is) c.write.ensures.keeps.payloads c.write.ensures.rooms
