use Rattle.std.proofs.Common.{◌≡◌, ℕ, Some, sym, subst, ap, ◌∙◌}
use Rattle.collector.proofs.CpuWalks.{Leaves, next_done, all_done}
use Rattle.stream_collector.specs.declared.marks.Marks.{Marks}
use Rattle.stream_collector.specs.Stream.{Stream, end_of}
use Rattle.stream_collector.proofs.MarkWalks.{HasMarks, all_marked, ended_marked}
use Rattle.stream_collector.proofs.stream.StreamCollector.check_one_end.Goals as goal

abbrev HasOne : Stream → Stream → ℕ → Type 0
HasOne s o cpu = (a b : ℕ) → end_of s cpu ≡ Some a → end_of o cpu ≡ Some b → a ≡ b

pub loop-cpu-init : goal.loop-cpu-init
loop-cpu-init c = subst (Leaves (HasMarks c.args.self.now.marks) (HasOne c.args.self.now c.args.other.now))
    (sym c.into_iter-cpu-iterator.ensures.into_iter_gives)
    (all_marked (HasOne c.args.self.now c.args.other.now) c.args.self.now.marks c.marked_cpus-cpu-items.result
    c.marked_cpus-cpu-items.ensures)

pub loop-cpu-preserved : goal.loop-cpu-preserved
loop-cpu-preserved c = next_done (HasMarks c.args.self.now.marks) (HasOne c.args.self.now c.args.other.now)
    c.loop-cpu.cpu-iterator c.next.new.self c.in-Some.cpu.0 c.in-Some.ensures.steps
    (λ a b is others_is. c.in_default.ensures.none a b (ap (λ (m : Marks). m.end) c.marks.ensures ∙ is)
    (ap (λ (m : Marks). m.end) c.marks-in-loop-cpu.ensures ∙ others_is))
    c.loop-cpu.invariant

pub returns-clause-one : goal.returns-clause-one
returns-clause-one c cpu a b is others_is =
    all_done (HasMarks c.args.self.now.marks) (HasOne c.args.self.now c.args.other.now) c.loop-cpu.cpu-iterator
    c.in-None.ensures.steps.0 c.loop-cpu.invariant cpu (ended_marked c.args.self.now.marks cpu a is) a b is others_is
