use Rattle.std.proofs.Common.{subst, w32, to_z, of_z}
use Rattle.tracering_c.specs.declared.ends.HeldReader.{HeldReader}
use Rattle.tracering_c.specs.declared.ends.HeldCollector.{HeldCollector}
use Rattle.tracering_c.specs.Held.{reader_of, collector_of}
use Rattle.tracering_c.specs.CollectorCalls.{CollectsSo}
use Rattle.tracering_c.proofs.CallAnswers.{collects_so, one_is_there}
use Rattle.tracering_c.proofs.adding_pages.tracering_raw_collector_take.Goals as goal

pub returns-clause-collects : goal.returns-clause-collects
returns-clause-collects c = λ listed end is_listed is_end.
    let call = c.take_added in
    let was = c.args.taken.now in
    let was_at = c.args.at.now in
    let left =
    one_is_there (collector_of c.args.c.now.held.value) c.collector.result.now listed c.collector.ensures.value
    is_listed in
    let right =
    one_is_there (reader_of c.args.r.now.held.value) c.reader.result.now end c.reader.ensures.value is_end in
    subst
    (λ (e : HeldReader).
    CollectsSo e listed.listed was was_at (to_z w32 (of_z w32 call.result)) call.new.taken call.new.at
    call.new.end call.new.listed) right
    (subst
    (λ (l : HeldCollector).
    CollectsSo c.reader.result.now l.listed was was_at (to_z w32 (of_z w32 call.result)) call.new.taken call.new.at
    call.new.end call.new.listed) left
    (collects_so _ _ _ _ _ _ _ _ _ call.ensures.collects))
