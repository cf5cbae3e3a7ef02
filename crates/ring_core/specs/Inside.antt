-- What holds of the fields of a ring.
use Rattle.std.specs.Prelude.{◌≡◌, ◌+◌, ◌≤◌, length, map, vec_capacity}
use Rattle.trace_model.specs.declared.limits.TheConstants.{MIN_PAGES, MAX_PAGES}
use Rattle.link_marks.specs.ModelLinks.{link_of}
use Rattle.ring_core.specs.declared.ring.Core.TheInside.{Inside}
use Rattle.ring_core.specs.Value.{CoreValue}

abbrev pub core_of : Inside → CoreValue
core_of w = record {
  stack = w.frames.stack;
  phase = w.frames.phase;
  below = w.frames.below;
  links = map link_of w.links.items;
  spare_link = link_of w.spare_link;
  order = w.order.items;
  spare = w.spare;
  homes = w.homes.items;
  wish = w.wish;
  reader = w.reader;
}

-- There are a link, a page and a home for each position; the spare has a home too. The lists have room for these, and no
-- other room is taken.
pub record IsInside (w : Inside) : Type 0 where
  pub some_pages : MIN_PAGES ≤ length w.links.items
  pub most_pages : length w.links.items ≤ MAX_PAGES
  pub pages : length w.order.items ≡ length w.links.items
  pub homes : length w.homes.items ≡ length w.links.items + 1
  pub links_room : vec_capacity w.links ≡ length w.links.items
  pub order_room : vec_capacity w.order ≡ length w.links.items
  pub homes_room : vec_capacity w.homes ≡ length w.links.items + 1
