use Rattle.std.proofs.Common.{◌≡◌, ℕ, ◌<◌, ◌≤◌, Some, ⊎_elim, sym, subst, ap, ◌∙◌, arith}
use Rattle.std.proofs.lemmas.Bool.{false≢true, cases_lt}
use Rattle.collector.proofs.CpuWalks.{Leaves, next_done, all_done}
use Rattle.stream_collector.specs.declared.marks.Marks.{Marks}
use Rattle.stream_collector.specs.Stream.{Stream, end_of}
use Rattle.stream_collector.specs.Marking.{IsNotOpen}
use Rattle.stream_collector.proofs.MarkWalks.{HasMarks, all_marked, ended_marked}
use Rattle.stream_collector.proofs.stream.StreamCollector.check_reach.Goals as goal

abbrev IsWithin : Stream → Stream → ℕ → Type 0
IsWithin s o cpu = (end n : ℕ) → end_of s cpu ≡ Some end → IsNotOpen o cpu n → n < end

pub loop-cpu-init : goal.loop-cpu-init
loop-cpu-init c = subst (Leaves (HasMarks c.args.self.now.marks) (IsWithin c.args.self.now c.args.other.now))
    (sym c.into_iter-cpu-iterator.ensures.into_iter_gives)
    (all_marked (IsWithin c.args.self.now c.args.other.now) c.args.self.now.marks c.marked_cpus-cpu-items.result
    c.marked_cpus-cpu-items.ensures)

pub loop-cpu-preserved : goal.loop-cpu-preserved
loop-cpu-preserved c = next_done (HasMarks c.args.self.now.marks) (IsWithin c.args.self.now c.args.other.now)
    c.loop-cpu.cpu-iterator c.next.new.self c.in-Some.cpu.0 c.in-Some.ensures.steps
    (λ end n is reached.
    let below = c.reach-reach.ensures.behind n reached in
    ⊎_elim
    (λ (lt : end < c.reach-reach.result). absurd (false≢true (sym c.if-is_past.false
    ∙ c.is_past.ensures.within end (ap (λ (m : Marks). m.end) c.marks.ensures ∙ is) lt)))
    (λ (le : c.reach-reach.result ≤ end). omega arith)
    (cases_lt end c.reach-reach.result))
    c.loop-cpu.invariant

pub returns-then-is_past-clause-fault : goal.returns-then-is_past-clause-fault
returns-then-is_past-clause-fault c =
    let past = c.is_past.ensures.past c.if-is_past.true in
    let lt = past.2 in
    record {
      end = past.0;
      end_is = ap (λ (m : Marks). m.end) (sym c.marks.ensures) ∙ past.1;
      beyond = omega arith;
      reached = c.reach-reach.ensures.last (omega arith);
      greatest = λ n r. (let below = c.reach-reach.ensures.behind n r in omega arith);
    }

pub returns-clause-within : goal.returns-clause-within
returns-clause-within c cpu end n is reached =
    all_done (HasMarks c.args.self.now.marks) (IsWithin c.args.self.now c.args.other.now) c.loop-cpu.cpu-iterator
    c.in-None.ensures.steps.0 c.loop-cpu.invariant cpu (ended_marked c.args.self.now.marks cpu end is) end n is reached
