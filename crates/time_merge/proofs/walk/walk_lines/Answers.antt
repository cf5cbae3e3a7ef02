use Rattle.std.proofs.Common.{◌∷◌, [], sym, subst, List, map}
use Rattle.std.proofs.lemmas.Iterator.Consumers.{YieldsList-from_first, YieldsList-end}
use Rattle.std.proofs.lemmas.List.{map-append}
use Rattle.trace_model.specs.Listing.{Line as ModelLine, IsListing}
use Rattle.time_merge.specs.Lines.{line_seen}
use Rattle.time_merge.specs.Walks.{TakesAll}
use Rattle.time_merge.proofs.Takes.{takes_more}
use Rattle.time_merge.proofs.walk.walk_lines.Goals as goal

pub loop-line-preserved : goal.loop-line-preserved
loop-line-preserved g c =
    let at = c.loop-line in
    let new = c.take_line.new in
    record {
      can = c.take_line.ensures.can;
      taken =
          subst (λ (lines : List ModelLine).
          TakesAll g.T.TakesLines.takes (c.args.taker.now, c.args.writer.now) lines (new.self, new.writer))
          (sym (map-append line_seen at.yielded (c.in-Some.line ∷ [])))
          (takes_more g.T.TakesLines.takes (c.args.taker.now, c.args.writer.now) (map line_seen at.yielded)
          (at.taker, at.writer) (line_seen c.in-Some.line) (new.self, new.writer)
          at.invariant.taken c.take_line.ensures.taken);
    }

pub returns-clause-lines : goal.returns-clause-lines
returns-clause-lines g c =
    let listed = c.in_ok-line-items.line-items in
    let given = c.into_iter-line-iterator.ensures.into_iter_gives in
    let all =
    YieldsList-end (YieldsList-from_first line_seen (λ (left : List ModelLine). left) listed given)
    c.loop-line.yielded _
    c.loop-line.yielded_by _ _ c.in-None.is c.next.ensures.steps in (
      map line_seen c.loop-line.yielded,
      subst (IsListing c.args.collector.now) (sym all.0) c.in_ok-line-items.ensures,
      c.loop-line.invariant.taken,
    )
