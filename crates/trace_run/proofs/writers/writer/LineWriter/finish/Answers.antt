use Rattle.std.proofs.lemmas.Result.{err_from_is_err_and}
use Rattle.std.proofs.Common.{◌+◌, ◌<◌, sym, ◌∙◌, arith}
use Rattle.trace_run.proofs.LineRuns.{part_way_none, part_way_more, finished}
use Rattle.trace_run.proofs.Passed.{asks_none, asks_then}
use Rattle.trace_run.proofs.writers.writer.LineWriter.finish.Goals as goal

pub loop-self-init : goal.loop-self-init
loop-self-init g c = record {
  deep = sym c.depth-depth.ensures;
  part_way = (0, part_way_none c.depth-depth.result c.args.self.now c.requires c.depth-depth.ensures);
  asks = asks_none g.G.Gate.answers c.args.gate.now c.args.cpu.0 c.args.self.now c.requires;
}

pub loop-self-smaller : goal.loop-self-smaller
loop-self-smaller g c =
    c.in_ok-call_gated.ensures.calls.closer
    (let same = c.if-depth.false in let now = c.depth.ensures in let was = c.loop-self.invariant.deep in omega arith)

pub loop-self-preserved : goal.loop-self-preserved
loop-self-preserved g c =
    let some : 0 < c.depth-depth.result = let not = c.if-depth-eq0.false in omega arith in
    record {
      deep = let same = c.if-depth.false in let now = c.depth.ensures in omega arith;
      part_way = (
        c.loop-self.invariant.part_way.0 + 1,
        part_way_more c.depth-depth.result c.loop-self.invariant.part_way.0 c.args.self.now
            c.loop-self.self c.call_gated.new.self c.loop-self.invariant.part_way.1 some c.loop-self.invariant.deep
            c.in_ok-call_gated.ensures.calls,
      );
      asks =
          asks_then g.G.Gate.answers c.args.gate.now c.args.cpu.0 c.args.self.now c.loop-self.self c.call_gated.new.self
          _
          c.loop-self.invariant.asks c.in_ok-call_gated.ensures.gate;
    }

pub returns-then-depth-clause-line : goal.returns-then-depth-clause-line
returns-then-depth-clause-line g c =
    let some : 0 < c.depth-depth.result = let not = c.if-depth-eq0.false in omega arith in
    finished c.depth-depth.result (c.loop-self.invariant.part_way.0 + 1) c.args.self.now c.call_gated.new.self
    c.depth-depth.ensures some
    (part_way_more c.depth-depth.result c.loop-self.invariant.part_way.0 c.args.self.now c.loop-self.self
    c.call_gated.new.self
    c.loop-self.invariant.part_way.1 some c.loop-self.invariant.deep c.in_ok-call_gated.ensures.calls)
    c.args.cpu.0
    (λ same. c.if-depth.true (c.depth.ensures ∙ same))

pub returns-in_err-call_gated-clause-gate : goal.returns-in_err-call_gated-clause-gate
returns-in_err-call_gated-clause-gate g c =
    let p = err_from_is_err_and c.from_residual.result c.from_residual.ensures.1 in
    rw (p.1, p.2)
    (asks_then g.G.Gate.answers c.args.gate.now c.args.cpu.0 c.args.self.now c.loop-self.self c.call_gated.new.self
    _
    c.loop-self.invariant.asks c.in_err-call_gated.ensures.gate)

pub returns-then-depth-clause-gate : goal.returns-then-depth-clause-gate
returns-then-depth-clause-gate g c =
    asks_then g.G.Gate.answers c.args.gate.now c.args.cpu.0 c.args.self.now c.loop-self.self c.call_gated.new.self _
    c.loop-self.invariant.asks c.in_ok-call_gated.ensures.gate
