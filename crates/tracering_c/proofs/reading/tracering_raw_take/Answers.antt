use Rattle.std.proofs.Common.{rules, subst, w32, to_z, of_z}
use Rattle.tracering_c.specs.declared.ends.HeldReader.{HeldReader}
use Rattle.tracering_c.specs.Held.{reader_of}
use Rattle.tracering_c.specs.Calls.{TakesSo}
use Rattle.tracering_c.proofs.CallAnswers.{takes_so, one_is_there}
use Rattle.tracering_c.proofs.reading.tracering_raw_take.Goals as goal

pub returns-clause-takes : goal.returns-clause-takes
returns-clause-takes c = record {
  is = λ old is.
      let call = c.take_into in
      let same = one_is_there (reader_of c.args.r.now.held.value) c.reader.result.now old c.reader.ensures.value is in
      subst
      (λ (end : HeldReader).
      TakesSo end c.args.out.now c.args.taken.now (to_z w32 (of_z w32 call.result)) call.new.out call.new.taken
      call.new.end) same (takes_so _ _ _ _ _ _ _ call.ensures.takes);
  ring = search rules;
  cpu = search rules;
  reader = search rules;
}
