use Rattle.std.proofs.Common.{sym, subst}
use Rattle.time_merge.specs.Lines.{line_seen}
use Rattle.time_merge.proofs.SourceWalks.{has_line, on_err, taken_first, taken_turned}
use Rattle.time_merge.proofs.source_walk.take_first.Goals as goal
use Rattle.time_merge.proofs.source_walk.take_first.Goals.{in-Some-first, in_default-first}

pub returns-in_err-advance-clause-stopped : goal.returns-in_err-advance-clause-stopped
returns-in_err-advance-clause-stopped g c =
    let head = g.S.LineSource.head in
    let takes = g.T.TakesLines.takes in
    let old = c.args.merged.now in
    elim c.match-first.branch [
      | in-Some-first w ↦
          on_err c.from_residual.result _
          (taken_turned head _ takes old c.advance.new.self (c.args.taker.now, c.args.writer.now)
          (c.match-first.taker, c.match-first.writer) c.in-Some.source.now (line_seen w.in-Some-first.line)
          c.in-Some.ensures.some w.in-Some-first.ensures
          (subst (λ t.
          takes (c.args.taker.now, c.args.writer.now) (line_seen w.in-Some-first.line) (t, c.match-first.writer))
          (sym w.taker-is)
          (subst (λ v.
          takes (c.args.taker.now, c.args.writer.now) (line_seen w.in-Some-first.line) (w.take_line.new.self, v))
          (sym w.writer-is) w.take_line.ensures.taken))
          c.in_err-advance.ensures.stops)
      | in_default-first w ↦
          absurd (has_line head old c.in-Some.source.now c.in-Some.ensures.some w.in_default-first.ensures)
    ]

pub returns-clause-taken : goal.returns-clause-taken
returns-clause-taken g c = λ _.
    let head = g.S.LineSource.head in
    let takes = g.T.TakesLines.takes in
    let old = c.args.merged.now in
    elim c.match-first.branch [
      | in-Some-first w ↦
          taken_first head _ takes old c.advance.new.self (c.args.taker.now, c.args.writer.now)
          (c.match-first.taker, c.match-first.writer) c.in-Some.source.now (line_seen w.in-Some-first.line)
          c.in-Some.ensures.some w.in-Some-first.ensures
          (subst (λ t.
          takes (c.args.taker.now, c.args.writer.now) (line_seen w.in-Some-first.line) (t, c.match-first.writer))
          (sym w.taker-is)
          (subst (λ v.
          takes (c.args.taker.now, c.args.writer.now) (line_seen w.in-Some-first.line) (w.take_line.new.self, v))
          (sym w.writer-is) w.take_line.ensures.taken))
          c.in_ok-advance.ensures.goes
      | in_default-first w ↦
          absurd (has_line head old c.in-Some.source.now c.in-Some.ensures.some w.in_default-first.ensures)
    ]
