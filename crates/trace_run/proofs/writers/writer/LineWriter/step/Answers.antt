use Rattle.std.proofs.lemmas.Result.{err_from_is_err_and}
use Rattle.std.proofs.Common.{◌<◌, inl, inr, sym, ◌∙◌, arith}
use Rattle.trace_run.proofs.LineRuns.{part_way_none, part_way_more, stepped}
use Rattle.trace_run.proofs.Passed.{asks_none, asks_then}
use Rattle.trace_run.proofs.writers.writer.LineWriter.step.Goals as goal

pub loop-made-init : goal.loop-made-init
loop-made-init g c = record {
  few = omega arith;
  part_way = part_way_none c.depth-depth.result c.args.self.now c.requires.is c.depth-depth.ensures;
  asks = asks_none g.G.Gate.answers c.args.gate.now c.args.cpu.0 c.args.self.now c.requires.is;
}

pub loop-made-preserved : goal.loop-made-preserved
loop-made-preserved g c =
    let some : 0 < c.depth-depth.result = let not = c.if-depth-eq0.false in omega arith in
    record {
      few = let low = c.loop-made-test.true in omega arith;
      part_way =
          part_way_more c.depth-depth.result c.loop-made.made c.args.self.now c.loop-made.self c.call_gated.new.self
          c.loop-made.invariant.part_way some (sym c.depth.ensures ∙ c.if-depth.true) c.in_ok-call_gated.ensures.calls;
      asks =
          asks_then g.G.Gate.answers c.args.gate.now c.args.cpu.0 c.args.self.now c.loop-made.self c.call_gated.new.self
          _
          c.loop-made.invariant.asks c.in_ok-call_gated.ensures.gate;
    }

pub returns-else-depth-clause-line : goal.returns-else-depth-clause-line
returns-else-depth-clause-line g c =
    let some : 0 < c.depth-depth.result = let not = c.if-depth-eq0.false in omega arith in
    stepped c.depth-depth.result c.loop-made.made c.args.self.now c.loop-made.self c.depth-depth.ensures some
    c.loop-made.invariant.part_way c.args.count c.requires.some c.loop-made.invariant.few
    (inr (λ same. c.if-depth.false (c.depth.ensures ∙ same)))
    c.args.cpu.0

pub returns-after-loop-made-clause-line : goal.returns-after-loop-made-clause-line
returns-after-loop-made-clause-line g c =
    let some : 0 < c.depth-depth.result = let not = c.if-depth-eq0.false in omega arith in
    stepped c.depth-depth.result c.loop-made.made c.args.self.now c.loop-made.self c.depth-depth.ensures some
    c.loop-made.invariant.part_way c.args.count c.requires.some c.loop-made.invariant.few (inl c.loop-made-test.false)
    c.args.cpu.0

pub returns-in_err-call_gated-clause-gate : goal.returns-in_err-call_gated-clause-gate
returns-in_err-call_gated-clause-gate g c =
    let p = err_from_is_err_and c.from_residual.result c.from_residual.ensures.1 in
    rw (p.1, p.2)
    (asks_then g.G.Gate.answers c.args.gate.now c.args.cpu.0 c.args.self.now c.loop-made.self c.call_gated.new.self
    _
    c.loop-made.invariant.asks c.in_err-call_gated.ensures.gate)
