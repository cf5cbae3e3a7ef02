-- What a step text knows of the rings, and what contracts see of it.
use Rattle.std.specs.Prelude.{◌≡◌, ℕ, List, map}
use Rattle.trace_model.specs.Links.{Link}
use Rattle.trace_model.specs.Ring.{Core}
use Rattle.link_marks.specs.ModelLinks.{link_of}
use Rattle.step_text.specs.declared.seen.Parts.{Parts}
use Rattle.step_text.specs.declared.teller.Known.{Known}
use Rattle.step_text.specs.declared.teller.StepText.TheInside.{Inside}
use Rattle.step_text.specs.Seen.{ArePartsOf, counts_in, reader_in, top_in}
use Rattle.script_replay.specs.Known.{RingKnown, StepTextValue}

-- what is known of a ring: the link into each position, the page at each, and its other parts
pub record KnownValue : Type 0 where
  pub links : List Link
  pub order : List ℕ
  pub parts : Parts

abbrev pub known_in : Known → KnownValue
known_in k = record { links = map link_of k.links.items; order = k.order.items; parts = k.parts }

-- in the terms of the teller
abbrev pub ring_in : KnownValue → RingKnown
ring_in k = record {
  links = k.links;
  spare_link = link_of k.parts.spare_link;
  order = k.order;
  counts = counts_in k.parts.counts;
  depth = k.parts.depth;
  top = top_in k.parts.top;
  reader = reader_in k.parts.reader;
  records = k.parts.records;
  last_moment = k.parts.last_moment;
}

abbrev pub step_text_of : Inside → StepTextValue
step_text_of w = record { text = w.text.items; rings = map (λ k. ring_in (known_in k)) w.rings.items }

-- this is known of a ring in this state
pub record IsKnownOf (k : KnownValue) (c : Core) : Type 0 where
  pub links : k.links ≡ c.links
  pub order : k.order ≡ c.order
  pub parts : ArePartsOf k.parts c
