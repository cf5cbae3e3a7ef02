use Rattle.std.proofs.Common.{◌∙◌, Bool, Ok, ap, sym, subst}
use Rattle.time_merge.specs.SourceWalks.{WalksAll, WalksPart}
use Rattle.time_merge.proofs.SourceWalks.{IsUnderway, walk_begins, walk_ends, walk_goes_down, walk_goes_on, walk_stops}
use Rattle.time_merge.proofs.source_walk.walk_sources.Goals as goal

pub loop-merged-init : goal.loop-merged-init
loop-merged-init g c =
    let start : g.row.T.Denot × g.row.W.Denot = (c.args.taker.now, c.args.writer.now) in
    let head = g.S.LineSource.head in
    let passes = g.S.LineSource.passes in
    let takes = g.T.TakesLines.takes in
    record {
      can = c.requires;
      underway =
          subst (λ ss. IsUnderway head passes takes c.args.sources.items start ss start) (sym c.in_ok-merged.ensures)
          (walk_begins head passes takes c.args.sources.items start);
    }

pub loop-merged-smaller : goal.loop-merged-smaller
loop-merged-smaller g c =
    let new = c.take_first.new in
    walk_goes_down g.S.LineSource.head g.S.LineSource.turns _ g.T.TakesLines.takes (λ s line t both. both.1)
    c.loop-merged.merged (c.loop-merged.taker, c.loop-merged.writer) new.merged (new.taker, new.writer)
    (c.in-Ok-true.ensures.taken (ap (λ (b : Bool). Ok b) c.in-Ok-true.field-0-test))

pub loop-merged-preserved : goal.loop-merged-preserved
loop-merged-preserved g c =
    let at = c.loop-merged in
    let new = c.take_first.new in
    record {
      can = c.in-Ok-true.ensures.can;
      underway =
          walk_goes_on g.S.LineSource.head g.S.LineSource.passes g.T.TakesLines.takes _ (λ s line t both. both.0)
          c.args.sources.items (c.args.taker.now, c.args.writer.now) at.merged (at.taker, at.writer) new.merged
          (new.taker, new.writer) at.invariant.underway
          (c.in-Ok-true.ensures.taken (ap (λ (b : Bool). Ok b) c.in-Ok-true.field-0-test));
    }

pub returns-in-Ok-false-clause-whole : goal.returns-in-Ok-false-clause-whole
returns-in-Ok-false-clause-whole g c = λ _.
    let start : g.row.T.Denot × g.row.W.Denot = (c.args.taker.now, c.args.writer.now) in
    let head = g.S.LineSource.head in
    let passes = g.S.LineSource.passes in
    let takes = g.T.TakesLines.takes in
    let olds = c.args.sources.items in
    let at = c.loop-merged in
    let new = c.take_first.new in
    let is = c.in-Ok-false.ensures.ended (ap (λ (b : Bool). Ok b) c.in-Ok-false.field-0-test) in
    subst (λ ss. WalksAll head passes takes olds start ss (new.taker, new.writer))
    (sym (c.into_sources.ensures ∙ is.1))
    (subst (λ t. WalksAll head passes takes olds start at.merged (t, new.writer)) (sym is.2)
    (subst (λ w. WalksAll head passes takes olds start at.merged (at.taker, w)) (sym is.3)
    (walk_ends head passes takes olds start at.merged (at.taker, at.writer) at.invariant.underway is.0)))

pub returns-in-Err-clause-part : goal.returns-in-Err-clause-part
returns-in-Err-clause-part g c = λ _.
    let start : g.row.T.Denot × g.row.W.Denot = (c.args.taker.now, c.args.writer.now) in
    let head = g.S.LineSource.head in
    let passes = g.S.LineSource.passes in
    let stopped = g.S.LineSource.stopped in
    let takes = g.T.TakesLines.takes in
    let olds = c.args.sources.items in
    let at = c.loop-merged in
    let new = c.take_first.new in
    subst (λ ss. WalksPart head passes stopped takes olds start ss (new.taker, new.writer))
    (sym c.into_sources-in-Err.ensures)
    (walk_stops head passes takes stopped _ (λ s line t both. both.0) olds start at.merged (at.taker, at.writer)
    new.merged (new.taker, new.writer) at.invariant.underway c.in-Err.ensures.stopped)
