-- What each step of a ring keeps of its frames' history, and of the fills that were lost.
use Rattle.std.specs.Prelude.{◌≡◌, ℕ, ◌+◌, ◌<◌, ◌≤◌, ◌⊎◌, List, [], ◌∷◌, Some}
use Rattle.std.specs.List.{slice_get}
use Rattle.trace_model.specs.History.{writer_after, IsHistory}
use Rattle.trace_model.specs.Frames.{Frame, pushed_frames}
use Rattle.trace_model.specs.Ring.{Core, TakenFill}
use Rattle.ring_model.specs.KeptLinks.{spot, passed_spot}

-- a frame of these is about to open this fill, and has found that the head isn't at its position, or has claimed it
-- there
abbrev pub Passing : List Frame → ℕ → Type 0
Passing [] f = ⊥
Passing (frame ∷ below) f = ((page : ℕ) × (passed_spot frame.phase ≡ Some (spot f page))) ⊎ Passing below f

-- the reader took the fill
abbrev pub TakenIn : List TakenFill → ℕ → Type 0
TakenIn taken f = (k : ℕ) × (t : TakenFill) × (slice_get taken k ≡ Some t) × (t.fill ≡ f)

-- A fill that is passed was taken; or it was lost, and a whole round of fills is begun after it, or all but
-- the last of it, which a frame is about to open.
abbrev pub WhyPassed : ℕ → List TakenFill → ℕ → List Frame → ℕ → Type 0
WhyPassed n taken opened frames f =
    TakenIn taken f ⊎ ((f + n < opened) ⊎ ((f + n ≡ opened) × Passing frames opened))

abbrev pub LostKept : ℕ → ℕ → List TakenFill → ℕ → ℕ → List Frame → Type 0
LostKept n start taken head opened frames = (f : ℕ)
    → start ≤ f
    → f < head
    → WhyPassed n taken opened frames f

-- the frames kept the discipline of the stack, which is the frames that haven't left; and what was
-- passed was taken, or lost in a full ring
pub record HistoryKept (n start : ℕ) (c : Core) : Type 0 where
  pub allowed : IsHistory c.history
  pub stack : (writer_after c.history).stack ≡ pushed_frames c.frames
  pub lost : LostKept n start c.reader.taken c.head c.opened c.frames
