-- What contracts see of a lane.
use Rattle.std.specs.Prelude.{ℕ, List, Option, map, reverse}
use Rattle.page_numbers.specs.Parcels.{ParcelValue}
use Rattle.ring_core.specs.Value.{CoreValue}
use Rattle.script_replay.specs.declared.lane.Lane.TheInside.{Inside}

-- The ring; the payload of each frame on the stack, the top one's first; the body for the next page that is taken, if
-- there is one; the pages that were taken.
pub record LaneValue : Type 0 where
  pub core : CoreValue
  pub payloads : List (List ℕ)
  pub body : Option (List ℕ)
  pub taken : List ParcelValue

abbrev pub lane_of : Inside → LaneValue
lane_of w = record {
  core = w.core;
  payloads = reverse (map (λ payload. payload.now) w.payloads.items);
  body = w.body;
  taken = w.taken.items;
}
