-- The text of a step is its first line, the keys that are new, and what became of fills and records.
use Rattle.std.proofs.Common.{sym, ◌∙◌}
use Rattle.step_text.proofs.Telling.{depth_fits, links_alike, order_alike, knows_after, join_told}
use Rattle.step_text.proofs.teller.Known.tell.Goals as goal

pub put_step_line-requires : goal.put_step_line-requires
put_step_line-requires c =
    let may = c.requires in
    depth_fits may.n may.size may.start _ may.before may.step.reached may.known.parts

pub learn-requires-clause-links : goal.learn-requires-clause-links
learn-requires-clause-links c = links_alike _ _ _ _ c.requires

pub learn-requires-clause-order : goal.learn-requires-clause-order
learn-requires-clause-order c = order_alike _ _ _ _ c.requires

pub returns : goal.returns
returns c n size start before after event reported known step =
    let core = step.is_core in
    let parts =
    c.after-now.ensures n size start before after event reported step.reached known.parts step.step step.reports
    core in
    let links = c.links.ensures.links ∙ sym core.shows.links_are in
    record {
      text = join_told _ _ _ _ _ _ _ _ _ _
          (c.in_ok-put_step_line.ensures size before after event reported known step.asked_is step.reports links)
          (c.in_ok-put_changes.ensures n size start before after known core parts)
          (c.in_ok-put_fates.ensures n size start before after event reported known.parts step.asked_is step.reports
          core parts);
      known = knows_after n size start _ _ _ after core parts c.learn.ensures;
    }
