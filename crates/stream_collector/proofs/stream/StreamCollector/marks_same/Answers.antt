use Rattle.std.proofs.Common.{◌≡◌, ℕ, refl, sym, ◌∙◌, subst}
use Rattle.std.proofs.lemmas.Bool.{false≢true}
use Rattle.collector.proofs.CpuWalks.{Leaves, next_there, next_done, all_done}
use Rattle.stream_collector.specs.Marks.{marks_at}
use Rattle.stream_collector.specs.Stream.{Stream}
use Rattle.stream_collector.proofs.MarkWalks.{HasMarks}
use Rattle.stream_collector.proofs.MarkWalks.{all_marked}
use Rattle.stream_collector.proofs.stream.StreamCollector.marks_same.Goals as goal

abbrev Agrees : Stream → Stream → ℕ → Type 0
Agrees s o cpu = marks_at s.marks cpu ≡ marks_at o.marks cpu

pub loop-cpu-init : goal.loop-cpu-init
loop-cpu-init c = subst (Leaves (HasMarks c.args.self.now.marks) (Agrees c.args.self.now c.args.other.now))
    (sym c.into_iter-cpu-iterator.ensures.into_iter_gives)
    (all_marked (Agrees c.args.self.now c.args.other.now) c.args.self.now.marks c.marked_cpus-cpu-items.result
    c.marked_cpus-cpu-items.ensures)

pub loop-cpu-preserved : goal.loop-cpu-preserved
loop-cpu-preserved c = next_done (HasMarks c.args.self.now.marks) (Agrees c.args.self.now c.args.other.now)
    c.loop-cpu.cpu-iterator c.next.new.self c.in-Some.cpu.0 c.in-Some.ensures.steps
    (sym c.marks.ensures ∙ c.is_same_marks.ensures.0 c.if-not-is_same_marks.false ∙ c.marks-in-loop-cpu.ensures)
    c.loop-cpu.invariant

pub returns-then-not-is_same_marks : goal.returns-then-not-is_same_marks
returns-then-not-is_same_marks c = (
  λ e. absurd (false≢true e),
  λ all.
      let there = next_there (HasMarks c.args.self.now.marks) (Agrees c.args.self.now c.args.other.now)
      c.loop-cpu.cpu-iterator c.next.new.self c.in-Some.cpu.0 c.in-Some.ensures.steps c.loop-cpu.invariant in
      absurd (false≢true (sym c.if-not-is_same_marks.true
      ∙ c.is_same_marks.ensures.1 (c.marks.ensures ∙ all c.in-Some.cpu.0 there ∙ sym c.marks-in-loop-cpu.ensures))),
)

pub returns : goal.returns
returns c = (
  λ e. all_done (HasMarks c.args.self.now.marks) (Agrees c.args.self.now c.args.other.now)
      c.loop-cpu.cpu-iterator c.in-None.ensures.steps.0 c.loop-cpu.invariant,
  λ all. refl,
)
