-- What a lane as a value shows of each lane that it is, and what a step of a ring that pushes no frame makes of it.
use Rattle.std.proofs.Common.{◌≡◌, ℕ, suc, ◌-◌, List, [], ◌∷◌, length, drop, map, refl, sym, ap, ◌∙◌, arith}
use Rattle.std.specs.Prelude.{IfSome}
use Rattle.std.proofs.lemmas.List.{length-map, length-reverse}
use Rattle.trace_model.specs.Frames.{Progress, waiting, reserved, left, Frame}
use Rattle.trace_model.specs.Ring.{Reader, Core}
use Rattle.trace_model.specs.Steps.{Event, Answer, Step}
use Rattle.trace_model.proofs.steps.StepSound.{cases_of}
use Rattle.ring_model.specs.Seats.{IsOfReader}
use Rattle.ring_model.proofs.seats.SeatSteps.{writer_leaves_reader}
use Rattle.world_model.specs.Lanes.{Lane, HasPayloads, FitFrames, lane_behind, event_in, event_on_top}
use Rattle.world_model.specs.World.{parcel_of}
use Rattle.world_model.proofs.FramesMove.{PushesNone, step_moves}
use Rattle.world_model.proofs.LanePayloads.{fit_moved, pushes_none}
use Rattle.page_numbers.specs.Parcels.{as_parcels}
use Rattle.nested_writer.specs.declared.frame.Frame as stack
use Rattle.ring_frames.specs.declared.phase.Phase.{Phase}
use Rattle.ring_core.specs.Value.{CoreValue}
use Rattle.ring_frames.specs.AreFrames.{frames_in_phases, AreBelow}
use Rattle.ring_core.specs.IsCore.{HasStateOf, IsCore}
use Rattle.script_replay.specs.declared.lane.Lane.TheInside.{Inside}
use Rattle.script_replay.specs.Value.{LaneValue, lane_of}
use Rattle.script_replay.specs.Lanes.{IsLane}

-- a ring's value has as many frames as the state that it shows
shown_frames : (frames : List stack.Frame) (phases : List Phase)
    → length phases ≡ length frames
    → length (frames_in_phases frames phases) ≡ length frames
shown_frames [] phases same = refl
shown_frames (f ∷ frames) [] same = absurd (omega (arith, same))
shown_frames (f ∷ frames) (phase ∷ phases) same = ap suc (shown_frames frames phases (omega (arith, same)))

as_many_shown : (frames : List stack.Frame) (phase : Phase) (below : List Phase)
    → AreBelow frames below
    → length (frames_in_phases frames (phase ∷ below)) ≡ length frames
as_many_shown [] phase below are = refl
as_many_shown (f ∷ frames) phase below are = ap suc (shown_frames frames below are)

pub frames_shown : (n size start : ℕ) (v : CoreValue) (c : Core)
    → IsCore n size start v c
    → length v.stack.frames ≡ length c.frames
frames_shown n size start v c core =
    let k : HasStateOf n size start v c = core.shows in
    sym (ap length k.frames.frames_are ∙ as_many_shown v.stack.frames v.phase v.below k.frames.below_are)

pub depth_is : (n size start cpu : ℕ) (v : LaneValue) (lane : Lane)
    → IsLane n size start cpu v lane
    → length v.core.stack.frames ≡ length lane.core.frames
depth_is n size start cpu v lane is = frames_shown n size start v.core lane.core is.is_core

-- a payload is kept for each frame
pub fit_many : (frames : List Frame) (payloads : List (List ℕ))
    → FitFrames frames payloads
    → length payloads ≡ length frames
fit_many [] [] fit = refl
fit_many [] (payload ∷ payloads) fit = absurd fit
fit_many (frame ∷ frames) [] fit = absurd fit
fit_many (frame ∷ frames) (payload ∷ payloads) fit = ap suc (fit_many frames payloads fit.1)

pub as_many : (n size start cpu : ℕ) (v : LaneValue) (lane : Lane)
    → IsLane n size start cpu v lane
    → length v.payloads ≡ length v.core.stack.frames
as_many n size start cpu v lane is =
    ap (λ (l : List (List ℕ)). length l) is.payloads_are
    ∙ fit_many lane.core.frames lane.payloads is.fit
    ∙ sym (depth_is n size start cpu v lane is)

pub kept_many : (n size start cpu : ℕ) (v : LaneValue) (lane : Lane) (inside : Inside) (kept : ℕ)
    → IsLane n size start cpu v lane
    → lane_of inside ≡ v
    → kept ≡ length inside.payloads.items
    → kept ≡ length v.core.stack.frames
kept_many n size start cpu v lane inside kept is view same =
    same
    ∙ sym (length-reverse (map (λ payload. payload.now) inside.payloads.items)
    ∙ length-map inside.payloads.items (λ payload. payload.now))
    ∙ ap (λ (w : LaneValue). length w.payloads) view
    ∙ as_many n size start cpu v lane is

-- ---- a step that pushes no frame

-- the value with this ring, without the payloads of frames that are gone
abbrev pub value_behind : LaneValue → CoreValue → LaneValue
value_behind v core = record v {
  core = core;
  payloads =
      drop (length v.payloads - length core.stack.frames) v.payloads;
}

-- a lane, in another state
pub moved_lane : {n size start cpu : ℕ} {old new : LaneValue} {lane after : Lane}
    → IsLane n size start cpu old lane
    → IsCore n size start new.core after.core
    → new.payloads ≡ after.payloads
    → HasPayloads after
    → IfSome new.body (λ body. length body ≡ size)
    → as_parcels new.taken ≡ map (parcel_of cpu) after.core.reader.taken
    → IsLane n size start cpu new after
moved_lane is core payloads fit body taken = assumption (core, payloads, fit, body, taken, is)

-- a step that takes no page
pub behind : (n size start cpu : ℕ) (v : LaneValue) (lane : Lane) (event : Event) (answer : Answer) (after : Core)
    (core : CoreValue)
    → IsLane n size start cpu v lane
    → PushesNone event
    → Step n size lane.core event answer after
    → IsCore n size start core after
    → after.reader.taken ≡ lane.core.reader.taken
    → IsLane n size start cpu (value_behind v core) (lane_behind lane after)
behind n size start cpu v lane event answer after core is none step core_is same =
    let depth : length core.stack.frames ≡ length after.frames = frames_shown n size start core after core_is in
    moved_lane is core_is
    (λ i. let payloads : List (List ℕ) = is.payloads_are i in drop (length payloads - depth i) payloads)
    (fit_moved lane.core.frames after.frames lane.payloads is.fit
    (step_moves n size lane.core event answer after none (cases_of step)))
    is.body (is.taken_are ∙ ap (map (parcel_of cpu)) (sym same))

-- a step of the writer takes none
pub taken_stay : (n size : ℕ) (c : Core) (event : Event) (answer : Answer) (after : Core)
    → (IsOfReader event → ⊥)
    → Step n size c event answer after
    → after.reader.taken ≡ c.reader.taken
taken_stay n size c event answer after not step =
    ap (λ (r : Reader). r.taken) (writer_leaves_reader n size c event answer after not step).reader

not_of_reader_in : (state : Progress) (payloads : List (List ℕ)) → IsOfReader (event_in state payloads) → ⊥
not_of_reader_in waiting payloads of = of
not_of_reader_in (reserved number) [] of = of
not_of_reader_in (reserved number) (payload ∷ payloads) of = of
not_of_reader_in left payloads of = of

pub not_of_reader : (frames : List Frame) (payloads : List (List ℕ)) → IsOfReader (event_on_top frames payloads) → ⊥
not_of_reader [] payloads of = of
not_of_reader (frame ∷ below) payloads of = not_of_reader_in frame.state payloads of

-- the frame on top makes its step
pub top_behind : (n size start cpu : ℕ) (v : LaneValue) (lane : Lane) (answer : Answer) (after : Core)
    (core : CoreValue)
    → IsLane n size start cpu v lane
    → Step n size lane.core (event_on_top lane.core.frames lane.payloads) answer after
    → IsCore n size start core after
    → IsLane n size start cpu (value_behind v core) (lane_behind lane after)
top_behind n size start cpu v lane answer after core is step core_is =
    behind n size start cpu v lane (event_on_top lane.core.frames lane.payloads) answer after core is
    (pushes_none lane.core.frames lane.payloads) step core_is
    (taken_stay n size lane.core (event_on_top lane.core.frames lane.payloads) answer after
    (not_of_reader lane.core.frames lane.payloads) step)
