-- Which steps are compare and exchanges.
use Rattle.std.proofs.Common.{◌≡◌, ℕ, Bool, if◌then◌else◌, List, [], ◌∷◌, refl, Some}
use Rattle.trace_model.specs.Frames.{Progress, waiting, reserved, left, owner, helper, Phase, idle, looking, claiming}
use Rattle.trace_model.specs.Frames.{looking_next, marking, clearing, opening, releasing, wishing, Frame}
use Rattle.trace_model.specs.Ring.{Core}
use Rattle.trace_model.specs.Steps.{Event}
use Rattle.world_model.specs.Lanes.{event_in, event_on_top}
use Rattle.step_model.specs.StepTexts.{exchange_text, frame_outcome, outcome_text}
use Rattle.script_replay.specs.Known.{top_frame}
use Rattle.step_text.specs.Exchanges.{is_exchange_in, steps_so, frame_exchanges_in}

phase_exchanges : (opened : ℕ) (phase : Phase) (done : Bool)
    → frame_outcome opened phase done ≡ (if is_exchange_in opened phase then outcome_text done else [])
phase_exchanges opened idle done = refl
phase_exchanges opened (looking noted) done = refl
phase_exchanges opened (claiming noted page) done = refl
phase_exchanges opened (looking_next role noted page) done = refl
phase_exchanges opened (marking owner noted page next) done = refl
phase_exchanges opened (marking helper noted page next) done = refl
phase_exchanges opened (clearing noted page) done = refl
phase_exchanges opened (opening noted page) done = refl
phase_exchanges opened releasing done = refl
phase_exchanges opened wishing done = refl

state_exchanges : (c : Core) (opened : ℕ) (frame : Frame) (below : List Frame) (payload : List ℕ) (state : Progress)
    (done : Bool) → opened ≡ c.opened → c.frames ≡ frame ∷ below
    → exchange_text c (event_in state (payload ∷ [])) done
    ≡ (if steps_so state (is_exchange_in opened frame.phase) then outcome_text done else [])
state_exchanges c opened frame below payload waiting done o top =
    rw (o, top) (phase_exchanges c.opened frame.phase done)
state_exchanges c opened frame below payload (reserved number) done o top = refl
state_exchanges c opened frame below payload left done o top = rw (o, top) (phase_exchanges c.opened frame.phase done)

frame_exchanges : (c : Core) (opened : ℕ) (frames : List Frame) (frame : Frame) (payload : List ℕ) (done : Bool)
    → opened ≡ c.opened → c.frames ≡ frames → Some frame ≡ top_frame frames
    → exchange_text c (event_on_top frames (payload ∷ [])) done
    ≡ (if frame_exchanges_in opened frame then outcome_text done else [])
frame_exchanges c opened [] frame payload done o top some = absurd (cc)
frame_exchanges c opened (other ∷ below) frame payload done o top some =
    let same : frame ≡ other = cc in
    rw same (state_exchanges c opened other below payload other.state done o top)

-- the step of the frame on top is an exchange if it is one for its state and phase
pub top_exchanges : (c : Core) (opened : ℕ) (frame : Frame) (payload : List ℕ) (event : Event) (done : Bool)
    → opened ≡ c.opened → Some frame ≡ top_frame c.frames → event ≡ event_on_top c.frames (payload ∷ [])
    → exchange_text c event done ≡ (if frame_exchanges_in opened frame then outcome_text done else [])
top_exchanges c opened frame payload event done o some is =
    rw is (frame_exchanges c opened c.frames frame payload done o refl some)
