use Rattle.std.proofs.Common.{subst, sym}
use Rattle.ring_shared.specs.Value.{WriterValue}
use Rattle.trace_run.specs.writers.Asking.{HavePassed}
use Rattle.trace_run.specs.writers.Obeying.{HasObeyed}
use Rattle.trace_run.proofs.Ends.{writer_by_gate, reader_by_gate, ends_joined, ends_passed}
use Rattle.trace_run.proofs.threaded.threads.join.Goals as goal

pub returns-in_default-clause-shut : goal.returns-in_default-clause-shut
returns-in_default-clause-shut g c =
    let p = c.running.inside.writer.promise in
    writer_by_gate g.G.Gate.answers _ c.args.running p.cpu.0 c.in_default.field-0 _ c.running.view_is
    c.running.invariant.1 c.running.invariant.6 c.in_default.ensures.at.shut

pub returns-in-Err-clause-shut : goal.returns-in-Err-clause-shut
returns-in-Err-clause-shut g c =
    let p = c.running.inside.reader.promise in
    reader_by_gate g.G.Gate.answers _ c.args.running p.gate.now p.cpu.0 c.in-Err.stop c.fault_of.result
    c.running.view_is c.running.invariant.2 c.running.invariant.6 c.running.invariant.5 c.fault_of.ensures
    c.in-Err.ensures

pub returns-in-Ok-took-clause-joined : goal.returns-in-Ok-took-clause-joined
returns-in-Ok-took-clause-joined g c =
    let w = c.running.inside.writer.promise in
    let r = c.running.inside.reader.promise in
    let is = c.running.invariant in
    ends_joined _ c.args.running w.cpu.0 w.was.value r.was.value c.end.inside.writer c.in-Ok-took.reader
    c.running.view_is
    is.0 is.1 is.3 is.6 c.end.invariant
    (subst (λ (e : WriterValue). HasObeyed w.cpu.0 w.script.now.commands w.was.value e) (sym c.end.view_is)
    c.in-Ok.ensures.0)
    (c.in-Ok-took.ensures.cpu_is, c.in-Ok-took.ensures.same)

pub returns-in-Ok-took-clause-passed : goal.returns-in-Ok-took-clause-passed
returns-in-Ok-took-clause-passed g c =
    let w = c.running.inside.writer.promise in
    let r = c.running.inside.reader.promise in
    let is = c.running.invariant in
    ends_passed g.G.Gate.answers _ c.args.running w.cpu.0 r.cpu.0 r.gate.now w.was.value r.was.value
    c.end.inside.writer c.in-Ok-took.reader c.running.view_is is.0 is.1 is.2 is.5 is.4
    (subst (λ (e : WriterValue). HavePassed g.G.Gate.answers w.gate.now w.cpu.0 w.was.value.part.done e.part.done)
    (sym c.end.view_is) c.in-Ok.ensures.1)
    c.in-Ok-took.ensures
