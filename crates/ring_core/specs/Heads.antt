-- The head of a ring as a value, if it is at the position of the fill to open.
use Rattle.std.specs.Prelude.{◌≡◌, ℕ, ◌+◌, length}
use Rattle.trace_model.specs.Links.{header_link, update_link}
use Rattle.trace_model.specs.Ring.{link_into, links_with}
use Rattle.ring_core.specs.Value.{CoreValue}

-- a HEADER is there, and states that this page is the head as the fill a round before
pub record HasHeaderMark (v : CoreValue) (noted page lost : ℕ) : Type 0 where
  pub round : lost + length v.links ≡ noted
  pub link : link_into (length v.links) v.links noted ≡ header_link page lost

-- there was one, and now there is an UPDATE
pub record ClaimsHead (old : CoreValue) (noted page lost : ℕ) (new : CoreValue) : Type 0 where
  pub had : HasHeaderMark old noted page lost
  pub new_is : new ≡ record old { links = links_with (length old.links) old.links noted (update_link page lost) }
