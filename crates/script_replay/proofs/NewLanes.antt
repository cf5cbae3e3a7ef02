-- A new lane.
use Rattle.std.proofs.Common.{◌≡◌, ℕ, ◌%◌, ◌≤◌, List, [], length, map, Option, None, refl, sym, ap, ◌∙◌, subst}
use Rattle.std.specs.Prelude.{IfSome}
use Rattle.trace_model.specs.declared.limits.TheConstants.{MAX_PAGES, MIN_SIZE, MAX_SIZE}
use Rattle.trace_model.specs.Ring.{Reader}
use Rattle.world_model.specs.World.{parcel_of}
use Rattle.world_model.proofs.LanePayloads.{new_fits}
use Rattle.page_numbers.specs.Parcels.{as_parcels}
use Rattle.ring_core.specs.Steps.{IsNewRing}
use Rattle.script_replay.specs.Value.{LaneValue}
use Rattle.script_replay.specs.Lanes.{IsNewLaneOf}

pub new_lane : (n size start : ℕ) (v : LaneValue)
    → n ≤ MAX_PAGES
    → MIN_SIZE ≤ size
    → size ≤ MAX_SIZE
    → size % 4 ≡ 0
    → IsNewRing n size start v.core
    → v.payloads ≡ []
    → v.body ≡ None
    → v.taken ≡ []
    → IsNewLaneOf n size start v
new_lane n size start v most small large words (c, is_start, core) payloads body taken = (
  record { core = c; payloads = [] },
  (is_start, refl),
  (λ cpu known. record {
    most = most;
    small = small;
    large = large;
    words = words;
    known = known;
    is_core = core;
    payloads_are = payloads;
    fit = new_fits n start (record { core = c; payloads = [] }) (is_start, refl);
    body = subst (λ (b : Option (List ℕ)). IfSome b (λ body. length body ≡ size)) (sym body) tt;
    taken_are = ap as_parcels taken ∙ ap (λ (r : Reader). map (parcel_of cpu) r.taken) (sym is_start.reader);
  }),
)
