use Rattle.std.proofs.Common.{rules}
use Rattle.tracering_c.proofs.FaultCodes.{never_long}
use Rattle.tracering_c.proofs.writing.put_on.Goals as goal

pub returns-in-Err-clause-puts : goal.returns-in-Err-clause-puts
returns-in-Err-clause-puts c =
    let reported = c.top_mut.ensures in
    record {
      put = search rules;
      long = λ long.
          absurd
          (never_long c.args.writer.now.frames.stack.frames c.top_mut.result c.in-Err.fault c.in-Err.is
          reported.slot.no_frame reported.slot.not_reserved reported.held c.code_of.result c.code_of.ensures long);
      fits = search rules;
      too_long = search rules;
      no_frame = search rules;
      not_reserved = search rules;
      refused = search rules;
    }
