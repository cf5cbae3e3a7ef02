-- A line by which a record is written at once above other frames: it has three exchanges with the ring, of which
-- nothing is logged.
use Rattle.std.proofs.Common.{◌≡◌, ◌≢◌, ℕ, suc, ◌-◌, ◌<◌, List, [], ◌∷◌, length, drop, map, None, refl}
use Rattle.std.proofs.Common.{sym, ap, ◌∙◌, subst, arith}
use Rattle.trace_model.specs.Words.{padded}
use Rattle.trace_model.specs.Frames.{Frame, Progress}
use Rattle.trace_model.specs.Steps as model
use Rattle.trace_model.specs.Steps.{Exchange}
use Rattle.text_model.specs.Script.{write}
use Rattle.world_model.specs.Lanes.{Lane, payloads_left, lane_behind, event_in, event_on_top, FitFrames}
use Rattle.world_model.specs.Lanes.{HasPayloads, FrameRun, LineRun}
use Rattle.world_model.specs.World.{parcel_of}
use Rattle.ring_core.specs.Above.{IsWriteAbove}
use Rattle.script_replay.specs.Value.{LaneValue}
use Rattle.script_replay.specs.Reports.{ReportsValue}
use Rattle.script_replay.specs.Lanes.{IsLane, Happens}
use Rattle.script_replay.proofs.WrittenLines as written
use Rattle.script_replay.proofs.LaneValues.{moved_lane, taken_stay, fit_many}

-- ---- payloads

-- if there are as many as frames, all are left
all_left : (payloads : List (List ℕ)) (frames : List Frame) → length payloads ≡ length frames
    → payloads_left frames payloads ≡ payloads
all_left payloads frames same =
    ap (λ (k : ℕ). drop k payloads) (let none : length payloads - length frames ≡ 0 = omega (arith, same) in none)

-- if there is one more, that on top is dropped
others_left : (payload : List ℕ) (payloads : List (List ℕ)) (frames : List Frame) → length payloads ≡ length frames
    → payloads_left frames (payload ∷ payloads) ≡ payloads
others_left payload payloads frames same =
    ap (λ (k : ℕ). drop k (payload ∷ payloads))
    (let one : suc (length payloads) - length frames ≡ 1 = omega (arith, same) in one)

module _ (n size start cpu line moment : ℕ) (payload : List ℕ) (v new : LaneValue) (reports : ReportsValue)
    (lane : Lane) (is : IsLane n size start cpu v lane)
    (w : IsWriteAbove n size start lane.core moment payload new.core) where
  as_many : length lane.payloads ≡ length lane.core.frames
  as_many = fit_many lane.core.frames lane.payloads is.fit

  -- ---- the exchanges

  abbrev x_reserve : Exchange
  x_reserve = record { event = model.steps; answer = model.reserved_as w.number }

  abbrev x_end : Exchange
  x_end = record { event = model.ends (padded payload); answer = model.pending }

  abbrev rest : List Exchange
  rest = x_reserve ∷ x_end ∷ []

  -- ---- the lane between them

  abbrev between : Lane
  between = written.between n size start cpu line moment payload lane w.pushed w.push

  abbrev reserved : Lane
  reserved = lane_behind between w.reserved

  abbrev after : Lane
  after = lane_behind reserved w.after

  one_more : length w.pushed.frames ≡ suc (length lane.core.frames)
  one_more = ap length w.waits

  waits_so : model.steps ≡ event_on_top w.pushed.frames between.payloads
  waits_so = sym (ap (λ (fs : List Frame). event_on_top fs between.payloads) w.waits)

  keeps_its_payload : reserved.payloads ≡ payload ∷ lane.payloads
  keeps_its_payload =
      all_left (payload ∷ lane.payloads) w.reserved.frames (ap suc as_many ∙ sym (ap length w.has_slot))

  ends_so : model.ends (padded payload) ≡ event_on_top w.reserved.frames reserved.payloads
  ends_so = sym (ap (λ (fs : List Frame). event_on_top fs reserved.payloads) w.has_slot
      ∙ ap (event_in (Progress.reserved w.number)) keeps_its_payload)

  others_stay : after.payloads ≡ lane.payloads
  others_stay =
      ap (payloads_left w.after.frames) keeps_its_payload
      ∙ others_left payload lane.payloads w.after.frames (as_many ∙ sym (ap length w.are_left))

  run : FrameRun n size (length w.pushed.frames) between rest after
  run = (
    refl,
    waits_so,
    w.reserved,
    w.reserve,
    (ap length w.has_slot ∙ sym one_more, ends_so, w.after, w.end, refl),
  )

  some : w.pushed.frames ≢ []
  some none = let zero = ap (length {A = Frame}) none in absurd (omega (arith, one_more, zero))

  is_gone : length w.after.frames < length w.pushed.frames
  is_gone = let left = ap (length {A = Frame}) w.are_left in omega (arith, one_more, left)

  -- ---- the value

  same_taken : w.after.reader.taken ≡ lane.core.reader.taken
  same_taken =
      taken_stay n size w.reserved _ _ w.after (λ of. of) w.end
      ∙ taken_stay n size w.pushed _ _ w.reserved (λ of. of) w.reserve
      ∙ taken_stay n size lane.core _ _ w.pushed (λ of. of) w.push

  fits : HasPayloads after
  fits =
      subst (λ (fs : List Frame). FitFrames fs after.payloads) (sym w.are_left)
      (subst (λ (ps : List (List ℕ)). FitFrames lane.core.frames ps) (sym others_stay) is.fit)

  lane_after : new ≡ record v { core = new.core } → IsLane n size start cpu new after
  lane_after core =
      subst (λ (x : LaneValue). IsLane n size start cpu x after) (sym core)
      (moved_lane is w.is_core (is.payloads_are ∙ sym others_stay) fits is.body
      (is.taken_are ∙ ap (map (parcel_of cpu)) (sym same_taken)))

  pub line_written : new ≡ record v { core = new.core } → reports.steps ≡ None
      → Happens (λ n size before exchanges after. LineRun n size (write cpu moment payload) before exchanges after)
      line cpu n size start lane reports new reports
  line_written core none =
      written.line_written n size start cpu line moment payload lane w.pushed w.push new reports rest after some run
      is_gone refl (lane_after core) none
