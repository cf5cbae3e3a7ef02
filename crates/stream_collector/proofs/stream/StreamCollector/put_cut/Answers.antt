use Rattle.std.proofs.Common.{◌≡◌, ⊎_elim, ap, subst, arith}
use Rattle.stream_collector.specs.declared.marks.Marks.{Marks}
use Rattle.stream_collector.specs.Marks.{marks_at}
use Rattle.stream_collector.specs.Frontier.{IsCut, HasCutMarks}
use Rattle.stream_collector.proofs.stream.StreamCollector.put_cut.Goals as goal

pub returns-then-cut-own-clause-here : goal.returns-then-cut-own-clause-here
returns-then-cut-own-clause-here c =
    let s = c.args.self.now in
    let cpu = c.args.cpu.0 in
    let old = c.args.marks.now.cpus.entries in
    ⊎_elim
    (λ (done : HasCutMarks s c.args.moment.0 old cpu). done)
    (λ (same : marks_at old cpu ≡ marks_at s.marks cpu).
    let bounds = ap (λ (m : Marks). m.bound) same in
    let own = ap (λ (m : Marks). m.bound) c.marks-own.ensures in
    let low = c.cut-cut.ensures.from in
    let is : c.cut-cut.result.0 ≡ (marks_at old cpu).bound = omega arith in
    (subst (IsCut s cpu c.args.moment.0) is c.cut-cut.ensures, ap (λ (m : Marks). m.end) same))
    c.requires.so_far
