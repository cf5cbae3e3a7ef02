-- What is new of the frames, by how many there are and the one on top.
use Rattle.std.specs.Prelude.{ℕ, if◌then◌else◌, ◌&&◌, nat_lt, List, [], ◌∷◌, Option, Some, None}
use Rattle.trace_model.specs.Frames.{Frame}
use Rattle.step_model.specs.Seen.{Change, frame_is, frame_gone, phase_is}
use Rattle.step_model.specs.Changes.{same_phase, same_state, unless_same}

abbrev pub pushed_in : (depth : ℕ) → Option Frame → List Change
pushed_in depth None = []
pushed_in depth (Some new) = frame_is depth new.kind ∷ phase_is depth new.state new.phase ∷ []

abbrev pub goes_on_in : (depth : ℕ) → Frame → Option Frame → List Change
goes_on_in depth old None = []
goes_on_in depth old (Some new) =
    unless_same (same_state old.state new.state && same_phase old.phase new.phase)
    (phase_is depth new.state new.phase)

abbrev pub top_change_in : (depth : ℕ) → Option Frame → Option Frame → List Change
top_change_in depth None top = []
top_change_in depth (Some old) top = goes_on_in depth old top

abbrev pub frame_changes_in : (before : ℕ) → Option Frame → (after : ℕ) → Option Frame → List Change
frame_changes_in before old after new =
    if nat_lt before after then pushed_in after new
    else (if nat_lt after before then frame_gone before ∷ []
    else top_change_in after old new)
