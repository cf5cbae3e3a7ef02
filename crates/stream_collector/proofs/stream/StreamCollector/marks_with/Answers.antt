use Rattle.std.proofs.Common.{◌≡◌, ℕ, List, ⊎_elim, inl, inr, sym, subst, ap, ◌∙◌}
use Rattle.std.proofs.lemmas.Bool.{cases_eq}
use Rattle.collector.proofs.CpuWalks.{Leaves, next_there, next_done, all_done}
use Rattle.stream_collector.specs.declared.marks.Marks.{Marks}
use Rattle.stream_collector.specs.Marks.{marks_at, SaySomething, AllSaySomething}
use Rattle.stream_collector.specs.Stream.{Stream}
use Rattle.stream_collector.specs.Merging.{joined_marks}
use Rattle.stream_collector.proofs.Merging.{joined_none, joined_says}
use Rattle.stream_collector.proofs.MarkWalks.{HasMarks, all_marked, done_otherwise, has_marks_or_not}
use Rattle.stream_collector.proofs.stream.StreamCollector.marks_with.Goals as goal

-- the marks of the CPU are joined
abbrev Joined : (s o : Stream) → List (ℕ × Marks) → ℕ → Type 0
Joined s o marks cpu = marks_at marks cpu ≡ joined_marks (marks_at s.marks cpu) (marks_at o.marks cpu)

pub loop-cpu-init : goal.loop-cpu-init
loop-cpu-init c =
    let s = c.args.self.now in
    let o = c.args.other.now in
    record {
      walk = subst (Leaves (HasMarks o.marks) (Joined s o c.in_ok-marks.marks.cpus.entries))
          (sym c.into_iter-cpu-iterator.ensures.into_iter_gives)
          (all_marked (Joined s o c.in_ok-marks.marks.cpus.entries) o.marks c.marked_cpus-cpu-items.result
          c.marked_cpus-cpu-items.ensures);
      either = λ cpu. inr (ap (λ (ms : List (ℕ × Marks)). marks_at ms cpu)
          (c.in_ok-marks.ensures ∙ ap (λ (s : Stream). s.marks) c.self.view_is));
      says = subst AllSaySomething (sym c.in_ok-marks.ensures) c.self.invariant.says;
    }

pub set-requires : goal.set-requires
set-requires c =
    let s = c.args.self.now in
    let o = c.args.other.now in
    let there : HasMarks o.marks c.in-Some.cpu.0 =
    next_there (HasMarks o.marks) (Joined s o c.loop-cpu.marks.cpus.entries) c.loop-cpu.cpu-iterator c.next.new.self
    c.in-Some.cpu.0 c.in-Some.ensures.steps c.loop-cpu.invariant.walk in
    subst SaySomething (sym c.joined_marks.ensures)
    (joined_says c.marks.result c.marks-in-loop-cpu.result (subst SaySomething (sym c.marks-in-loop-cpu.ensures) there))

pub loop-cpu-preserved : goal.loop-cpu-preserved
loop-cpu-preserved c =
    let s = c.args.self.now in
    let o = c.args.other.now in
    let cpu = c.in-Some.cpu.0 in
    let new = c.set.new.self.cpus.entries in
    let here : Joined s o new cpu = c.in_ok-set.ensures.here ∙ c.joined_marks.ensures
    ∙ ap (λ (m : Marks). joined_marks m c.marks-in-loop-cpu.result) c.marks.ensures
    ∙ ap (λ (m : Marks). joined_marks (marks_at s.marks cpu) m) c.marks-in-loop-cpu.ensures in
    record {
      walk = next_done (HasMarks o.marks) (Joined s o new) c.loop-cpu.cpu-iterator c.next.new.self cpu
          c.in-Some.ensures.steps here
          (done_otherwise (HasMarks o.marks) (Joined s o c.loop-cpu.marks.cpus.entries) (Joined s o new)
          c.loop-cpu.cpu-iterator
          (λ q was. ⊎_elim
          (λ (e : q ≡ cpu). subst (Joined s o new) (sym e) here)
          (λ (apart : q ≡ cpu → ⊥). c.in_ok-set.ensures.others q apart ∙ was)
          (cases_eq q cpu))
          c.loop-cpu.invariant.walk);
      either = λ q. ⊎_elim
          (λ (e : q ≡ cpu). inl (subst (Joined s o new) (sym e) here))
          (λ (apart : q ≡ cpu → ⊥). ⊎_elim
          (λ (was : Joined s o c.loop-cpu.marks.cpus.entries q). inl (c.in_ok-set.ensures.others q apart ∙ was))
          (λ (own : marks_at c.loop-cpu.marks.cpus.entries q ≡ marks_at s.marks q).
          inr (c.in_ok-set.ensures.others q apart ∙ own))
          (c.loop-cpu.invariant.either q))
          (cases_eq q cpu);
      says = c.in_ok-set.ensures.says c.loop-cpu.invariant.says;
    }

pub returns-clause-joined : goal.returns-clause-joined
returns-clause-joined c cpu =
    let s = c.args.self.now in
    let o = c.args.other.now in
    ⊎_elim
    (λ (there : HasMarks o.marks cpu). all_done (HasMarks o.marks) (Joined s o c.loop-cpu.marks.cpus.entries)
    c.loop-cpu.cpu-iterator c.in-None.ensures.steps.0 c.loop-cpu.invariant.walk cpu there)
    (λ (none : HasMarks o.marks cpu → ⊥). ⊎_elim
    (λ (is : Joined s o c.loop-cpu.marks.cpus.entries cpu). is)
    (λ (own : marks_at c.loop-cpu.marks.cpus.entries cpu ≡ marks_at s.marks cpu).
    own ∙ sym (joined_none (marks_at s.marks cpu) (marks_at o.marks cpu) none))
    (c.loop-cpu.invariant.either cpu))
    (has_marks_or_not o.marks cpu)
