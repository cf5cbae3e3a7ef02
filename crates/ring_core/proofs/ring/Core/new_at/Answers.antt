use Rattle.std.proofs.Common.{refl}
use Rattle.ring_core.specs.Steps.{IsReachedCore}
use Rattle.ring_core.proofs.NewCores.{new_core}
use Rattle.ring_core.proofs.ring.Core.new_at.Goals as goal

pub returns-clause-fresh : goal.returns-clause-fresh
returns-clause-fresh c =
    new_core c.args.pages c.args.size c.args.start c.in_ok-links.links.items _ c.requires.limits.some_pages
    c.requires.start record {
      frames = c.in_ok-frames.ensures;
      links_are = refl;
      positions = c.in_ok-links.ensures.pages;
      links = c.in_ok-links.ensures.links;
      spare_link = c.normal.ensures;
      pages = c.in_ok-order.ensures.pages;
      order = c.in_ok-order.ensures.order;
      spare = refl;
      homes_are = c.in_ok-homes.ensures.pages;
      homes = c.in_ok-homes.ensures.homes;
      wish = refl;
      reader = refl;
    }

pub returns-clause-ring : goal.returns-clause-ring
unfolding IsReachedCore
returns-clause-ring c =
    let (core, starts, is) = returns-clause-fresh c in
    (c.args.pages, c.args.size, c.args.start, core, is)
