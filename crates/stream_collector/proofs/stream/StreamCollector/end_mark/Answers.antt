use Rattle.std.proofs.Common.{◌≡◌, ℕ, ◌<◌, Option, Some, None, IfSome, rules, subst}
use Rattle.trace_model.specs.declared.numbers.RecordNo.{RecordNo}
use Rattle.stream_collector.specs.Stream.{Stream, end_of}
use Rattle.stream_collector.specs.Marking.{IsNotOpen, AreWithinEnds}
use Rattle.stream_collector.proofs.stream.StreamCollector.end_mark.Goals as goal

within : (s : Stream) (cpu : ℕ) (end : Option RecordNo) → AreWithinEnds s
    → IfSome end (λ end. end_of s cpu ≡ Some end.0)
    → IfSome end (λ end. (n : ℕ) → IsNotOpen s cpu n → n < end.0)
within s cpu None was is = tt
within s cpu (Some end) was is = λ n r. was cpu end.0 n is r

pub returns-clause-end : goal.returns-clause-end
returns-clause-end c = search rules

pub returns-clause-within : goal.returns-clause-within
returns-clause-within c = within c.args.self.now c.args.cpu.0 c.map.result
    (subst AreWithinEnds c.self.view_is c.self.invariant.within) (returns-clause-end c)
