use Rattle.std.proofs.Common.{◌≡◌, length, None}
use Rattle.ring_shared.specs.Takes.{IsReader, TakesNothing, ReadsOn, SameRing}
use Rattle.ring_shared.proofs.reader.Reader.take_by_steps.Given as goal

abbrev pub invariant-loop-made : goal.invariant-loop-made
invariant-loop-made l = record {
  reader : IsReader l.self;
  ring : SameRing l.fn.self l.self;
  made : ReadsOn l.fn.self.shape l.fn.self.part l.made l.self.part;
  nothing : TakesNothing l.fn.self.part l.self.part;
  empty_at : l.self.empty_at ≡ None;
  body : length l.body ≡ length l.fn.body;
}
