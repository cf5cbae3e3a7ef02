-- The lanes by CPU, as one is read and written; and the lane that is made for one.
use Rattle.std.proofs.Common.{◌≡◌, ℕ, ◌<◌, List, length, Option, None, Some, get_or, sym, ap, ◌∙◌, subst}
use Rattle.std.specs.Prelude.{Box, slice_set}
use Rattle.std.proofs.lemmas.List.{get_or_default, get_or-set_same, get_or-set_other}
use Rattle.text_model.specs.Script.{Script}
use Rattle.script_replay.specs.Value.{LaneValue}
use Rattle.script_replay.specs.Lanes.{IsNewLaneOf}
use Rattle.script_replay.specs.LanesByCpu.{lane_in, lane_at, AreSameBut, IsLaneFrom, IsMadeFrom}

module _ {Z : Type 0} where
  -- the lane of an entry, as it is lent
  pub lent_from : (script : Script) (lanes : List (Option (Box LaneValue Z))) (cpu : ℕ) (before : Option LaneValue)
      (place : Option (Box LaneValue Z)) (lane : Box LaneValue Z)
      → cpu < length lanes
      → place ≡ get_or lanes cpu place
      → place ≡ Some lane
      → IsMadeFrom script before (lane_at lanes cpu)
      → IsLaneFrom script before lane.value
  lent_from script lanes cpu before place lane low is some stands =
      let at : get_or lanes cpu None ≡ Some lane = get_or_default lanes cpu None place low ∙ sym is ∙ some in
      subst (IsMadeFrom script before) (ap lane_in at) stands

  -- what is put into an entry is there, and all others are the same
  pub put_there : (lanes : List (Option (Box LaneValue Z))) (cpu : ℕ) (lane : Box LaneValue Z)
      → cpu < length lanes
      → lane_at (slice_set lanes cpu (Some lane)) cpu ≡ Some lane.value
  put_there lanes cpu lane low = ap lane_in (get_or-set_same lanes cpu (Some lane) None low)

  pub others_stay : (lanes : List (Option (Box LaneValue Z))) (cpu : ℕ) (lane : Box LaneValue Z)
      → AreSameBut cpu (slice_set lanes cpu (Some lane)) lanes
  others_stay lanes cpu lane = λ other apart. ap lane_in (get_or-set_other lanes cpu other (Some lane) None apart)

-- the ring of a new lane is as the script says
pub new_in_box : (script : Script) (pages size start : ℕ) (made v : LaneValue)
    → pages ≡ script.pages
    → size ≡ script.size
    → start ≡ script.start
    → v ≡ made
    → IsNewLaneOf pages size start made
    → IsNewLaneOf script.pages script.size script.start v
new_in_box script pages size start made v p s t same new =
    subst (λ (x : LaneValue). IsNewLaneOf script.pages script.size script.start x) (sym same)
    (subst (λ (n : ℕ). IsNewLaneOf n script.size script.start made) p
    (subst (λ (n : ℕ). IsNewLaneOf pages n script.start made) s
    (subst (λ (n : ℕ). IsNewLaneOf pages size n made) t new)))
