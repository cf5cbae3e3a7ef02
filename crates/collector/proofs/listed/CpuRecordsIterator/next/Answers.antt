use Rattle.std.proofs.Common.{length, sym, ap, ◌∙◌, subst, arith}
use Rattle.page_borrow.specs.Entries.{numbered_record}
use Rattle.collector.proofs.RecordsLeft.{no_record_left, records_skip, IsReady, IsStep, step_taken}
use Rattle.collector.proofs.listed.CpuRecordsIterator.next.Goals.{then-self+in-Some, else-self, After-self-3-1}
use Rattle.collector.proofs.listed.CpuRecordsIterator.next.Goals as goal

pub returns-in_default-clause-steps : goal.returns-in_default-clause-steps
returns-in_default-clause-steps c =
    let here = c.self.inside in
    let none =
    sym c.self.view_is ∙ no_record_left here.collector.now here.cpu.0 here.number c.in_default.ensures.none in
    (none, none)

-- there are entries to read, from the next record on
ready : (c : After-self-3-1)
    → IsReady c.if-self.self-inside.collector.now c.if-self.self-inside.cpu.0 c.args.self.now
    c.if-self.self-inside.entries c.if-self.self-inside.number c.if-self.self-inside.end
ready c =
    let here = c.self.inside in
    elim c.if-self.branch [
      | then-self+in-Some w ↦ subst (λ s. IsReady s.collector.now s.cpu.0 c.args.self.now s.entries s.number s.end)
          (sym w.self-inside-is) record {
            below = w.in-Some.ensures.forward;
            goes = (w.in-Some.ensures.fits, w.in-Some.ensures.entries);
            same = let up = w.in-Some.ensures.forward in
                let fits = w.in-Some.ensures.fits in
                sym c.self.view_is
                ∙ records_skip here.collector.now here.cpu.0 here.number _ w.in-Some.ensures.from (omega arith)
                w.in-Some.ensures.skipped;
          }
      | else-self w ↦ subst (λ s. IsReady s.collector.now s.cpu.0 c.args.self.now s.entries s.number s.end)
          (sym w.self-inside-is) record {
            below = w.if-self.false;
            goes = c.self.invariant;
            same = sym c.self.view_is;
          }
    ]

-- and the next one is read
step : (c : After-self-3-1)
    → IsStep c.if-self.self-inside.collector.now c.if-self.self-inside.cpu.0 c.args.self.now c.next.new.self
    c.if-self.self-inside.number c.if-self.self-inside.end (numbered_record c.in-Some-next.entry)
step c =
    let at = c.if-self.self-inside in
    step_taken at.collector.now at.cpu.0 c.args.self.now at.entries c.in-Some-entries.entries c.next.new.self at.number
    at.end (numbered_record c.in-Some-next.entry) (ready c) c.in-Some-entries.is c.in-Some-next.ensures.steps

pub invariant_of-self-2 : goal.invariant_of-self-2
invariant_of-self-2 c = (step c).goes

pub returns-clause-steps : goal.returns-clause-steps
returns-clause-steps c = (step c).first

pub returns-clause-goes : goal.returns-clause-goes
returns-clause-goes c = let one = ap length (step c).first in
    record { on = λ is_finite. (tt, tt, omega arith); keeps = tt; rests = λ is_finite. tt }
