use Rattle.std.proofs.Common.{◌≡◌, ℕ, ⊎_elim, inl, inr, sym, ◌∙◌, subst}
use Rattle.std.specs.List.{Contains}
use Rattle.std.proofs.lemmas.Bool.{cases_eq}
use Rattle.collector.proofs.CpuWalks.{Leaves, next_done, all_done}
use Rattle.stream_collector.specs.Marks.{marks_at}
use Rattle.stream_collector.specs.Frontier.{HasCutMarks}
use Rattle.stream_collector.proofs.MarkWalks.{all_listed, done_otherwise}
use Rattle.stream_collector.proofs.Frontiers.{cut_marks_same}
use Rattle.stream_collector.proofs.stream.StreamCollector.put_cuts.Goals as goal

pub loop-cpu-init : goal.loop-cpu-init
loop-cpu-init c = record {
  walk = subst (Leaves (Contains c.args.cpus)
      (HasCutMarks c.args.self.now c.args.moment.0 c.args.marks.now.cpus.entries))
      (sym c.into_iter-cpu-iterator.ensures.into_iter_gives)
      (all_listed (HasCutMarks c.args.self.now c.args.moment.0 c.args.marks.now.cpus.entries) c.args.cpus
      c.requires.rising);
  so_far = c.requires.so_far;
  stay = λ cpu h. h;
  says = c.requires.says;
}

pub loop-cpu-preserved : goal.loop-cpu-preserved
loop-cpu-preserved c =
    let s = c.args.self.now in
    let m = c.args.moment.0 in
    let cpu = c.in-Some.cpu.0 in
    let old = c.loop-cpu.marks.cpus.entries in
    let new = c.put_cut.new.marks.cpus.entries in
    let here = c.in_ok-put_cut.ensures.here in
    let others = c.in_ok-put_cut.ensures.others in
    let keep = λ (q : ℕ) (was : HasCutMarks s m old q). ⊎_elim
    (λ (e : q ≡ cpu). subst (HasCutMarks s m new) (sym e) here)
    (λ (apart : q ≡ cpu → ⊥). cut_marks_same s m old new q (others q apart) was)
    (cases_eq q cpu) in
    record {
      walk = next_done (Contains c.args.cpus) (HasCutMarks s m new) c.loop-cpu.cpu-iterator c.next.new.self cpu
          c.in-Some.ensures.steps here
          (done_otherwise (Contains c.args.cpus) (HasCutMarks s m old) (HasCutMarks s m new) c.loop-cpu.cpu-iterator
          keep c.loop-cpu.invariant.walk);
      so_far = λ q. ⊎_elim
          (λ (was : HasCutMarks s m old q). inl (keep q was))
          (λ (own : marks_at old q ≡ marks_at s.marks q). ⊎_elim
          (λ (e : q ≡ cpu). inl (subst (HasCutMarks s m new) (sym e) here))
          (λ (apart : q ≡ cpu → ⊥). inr (others q apart ∙ own))
          (cases_eq q cpu))
          (c.loop-cpu.invariant.so_far q);
      stay = λ q was. keep q (c.loop-cpu.invariant.stay q was);
      says = c.in_ok-put_cut.ensures.says;
    }

pub returns-clause-all : goal.returns-clause-all
returns-clause-all c = all_done (Contains c.args.cpus)
    (HasCutMarks c.args.self.now c.args.moment.0 c.loop-cpu.marks.cpus.entries) c.loop-cpu.cpu-iterator
    c.in-None.ensures.steps.0 c.loop-cpu.invariant.walk
