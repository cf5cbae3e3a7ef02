-- A line by which a record is written at once: it has four exchanges with the ring, of which nothing is logged.
use Rattle.std.proofs.Common.{◌≡◌, ◌≢◌, ℕ, ◌-◌, ◌<◌, List, [], ◌∷◌, length, drop, map, None, refl, sym}
use Rattle.std.proofs.Common.{ap, ◌∙◌, subst, arith}
use Rattle.trace_model.specs.Words.{padded}
use Rattle.trace_model.specs.Frames.{Frame, Progress}
use Rattle.trace_model.specs.Steps as model
use Rattle.trace_model.specs.Steps.{Exchange}
use Rattle.text_model.specs.Script.{write}
use Rattle.world_model.specs.Lanes.{Lane, payloads_left, lane_behind, event_in, event_on_top, FitFrames}
use Rattle.world_model.specs.Lanes.{HasPayloads, FrameRun, LineRun}
use Rattle.world_model.specs.World.{parcel_of}
use Rattle.ring_core.specs.AtOnce.{IsWriteAlone}
use Rattle.script_replay.specs.Value.{LaneValue}
use Rattle.script_replay.specs.Reports.{ReportsValue}
use Rattle.script_replay.specs.Lanes.{IsLane, Happens}
use Rattle.script_replay.proofs.WrittenLines as written
use Rattle.script_replay.proofs.LaneValues.{moved_lane, taken_stay}

-- without a frame there is no payload
none_fits : (frames : List Frame) (payloads : List (List ℕ)) → frames ≡ [] → FitFrames frames payloads → payloads ≡ []
none_fits [] [] none fit = refl
none_fits [] (payload ∷ payloads) none fit = absurd fit
none_fits (frame ∷ frames) payloads none fit = absurd (let z : ⊥ = cc in z)

module _ (n size start cpu line moment : ℕ) (payload : List ℕ) (v new : LaneValue) (reports : ReportsValue)
    (lane : Lane) (is : IsLane n size start cpu v lane)
    (w : IsWriteAlone n size start lane.core moment payload new.core) where
  none_kept : lane.payloads ≡ []
  none_kept = none_fits lane.core.frames lane.payloads w.none is.fit

  -- ---- the exchanges

  abbrev x_reserve : Exchange
  x_reserve = record { event = model.steps; answer = model.reserved_as w.number }

  abbrev x_end : Exchange
  x_end = record { event = model.ends (padded payload); answer = model.full }

  abbrev x_leave : Exchange
  x_leave = record { event = model.steps; answer = model.gone }

  abbrev rest : List Exchange
  rest = x_reserve ∷ x_end ∷ x_leave ∷ []

  -- ---- the lane between them

  abbrev between : Lane
  between = written.between n size start cpu line moment payload lane w.pushed w.push

  abbrev reserved : Lane
  reserved = lane_behind between w.reserved

  abbrev ended : Lane
  ended = lane_behind reserved w.ended

  abbrev after : Lane
  after = lane_behind ended w.after

  one : length w.pushed.frames ≡ 1
  one = ap length w.waits

  waits_so : model.steps ≡ event_on_top w.pushed.frames between.payloads
  waits_so = sym (ap (λ (fs : List Frame). event_on_top fs between.payloads) w.waits)

  keeps_its_payload : reserved.payloads ≡ payload ∷ []
  keeps_its_payload =
      ap (λ (fs : List Frame). payloads_left fs (payload ∷ lane.payloads)) w.has_slot
      ∙ ap (λ (ps : List (List ℕ)). drop (length (payload ∷ ps) - 1) (payload ∷ ps)) none_kept

  ends_so : model.ends (padded payload) ≡ event_on_top w.reserved.frames reserved.payloads
  ends_so = sym (ap (λ (fs : List Frame). event_on_top fs reserved.payloads) w.has_slot
      ∙ ap (event_in (Progress.reserved w.number)) keeps_its_payload)

  leaves_so : model.steps ≡ event_on_top w.ended.frames ended.payloads
  leaves_so = sym (ap (λ (fs : List Frame). event_on_top fs ended.payloads) w.stays
      ∙ ap (λ (s : Progress). event_in s ended.payloads) w.has_left)

  none_left : after.payloads ≡ []
  none_left =
      ap (λ (fs : List Frame). payloads_left fs ended.payloads) w.is_gone
      ∙ ap (λ (fs : List Frame). payloads_left [] (payloads_left fs reserved.payloads)) w.stays
      ∙ ap (λ (ps : List (List ℕ)). payloads_left [] (drop (length ps - 1) ps)) keeps_its_payload

  run : FrameRun n size (length w.pushed.frames) between rest after
  run = (
    refl,
    waits_so,
    w.reserved,
    w.reserve,
    (
      ap length w.has_slot ∙ sym one,
      ends_so,
      w.ended,
      w.end,
      (ap length w.stays ∙ sym one, leaves_so, w.after, w.leave, refl),
    ),
  )

  some : w.pushed.frames ≢ []
  some none = let zero = ap (length {A = Frame}) none in absurd (omega (arith, one, zero))

  is_gone : length w.after.frames < length w.pushed.frames
  is_gone = let zero = ap (length {A = Frame}) w.is_gone in omega (arith, one, zero)

  -- ---- the value

  same_taken : w.after.reader.taken ≡ lane.core.reader.taken
  same_taken =
      taken_stay n size w.ended _ _ w.after (λ of. of) w.leave
      ∙ taken_stay n size w.reserved _ _ w.ended (λ of. of) w.end
      ∙ taken_stay n size w.pushed _ _ w.reserved (λ of. of) w.reserve
      ∙ taken_stay n size lane.core _ _ w.pushed (λ of. of) w.push

  fits : HasPayloads after
  fits =
      subst (λ (fs : List Frame). FitFrames fs after.payloads) (sym w.is_gone)
      (subst (λ (ps : List (List ℕ)). FitFrames [] ps) (sym none_left) tt)

  pub lane_after : new ≡ record v { core = new.core } → IsLane n size start cpu new after
  lane_after core =
      subst (λ (x : LaneValue). IsLane n size start cpu x after) (sym core)
      (moved_lane is w.is_core (is.payloads_are ∙ none_kept ∙ sym none_left) fits is.body
      (is.taken_are ∙ ap (map (parcel_of cpu)) (sym same_taken)))

  pub line_written : new ≡ record v { core = new.core } → reports.steps ≡ None
      → Happens (λ n size before exchanges after. LineRun n size (write cpu moment payload) before exchanges after)
      line cpu n size start lane reports new reports
  line_written core none =
      written.line_written n size start cpu line moment payload lane w.pushed w.push new reports rest after some run
      is_gone refl (lane_after core) none
