-- What the steps at the words of counts and of the wish make of a writer's frames: a fill is begun, one is closed, and
-- the reader's wish is looked for.
use Rattle.std.specs.Prelude.{◌≡◌, ◌≢◌, ℕ, List, [], ◌∷◌}
use Rattle.trace_model.specs.History.{HistoryEvent}
use Rattle.trace_model.specs.Frames.{Frame}
use Rattle.trace_model.specs.Ring.{Core, page_at}
use Rattle.trace_model.specs.Steps as model
use Rattle.ring_model.specs.Reached.{IsReached}
use Rattle.page_image.specs.Contents.{Contents}
use Rattle.nested_writer.specs.Released.{IsWrittenPage}
use Rattle.ring_frames.specs.declared.answer.Answer.{Answer}
use Rattle.ring_frames.specs.Value.{FramesValue}
use Rattle.ring_frames.specs.AreFrames.{AreFrames}
use Rattle.ring_frames.specs.declared.phase.Phase.TheVariants.{Wishing}
use Rattle.ring_frames.specs.Answers.{IsAnswerOf}
use Rattle.ring_frames.specs.Steps.{IsFrames}

-- the frame on top looks for the reader's wish
pub record IsWishing (v : FramesValue) : Type 0 where
  pub frames : IsFrames v
  pub top : v.stack.frames ≢ []
  pub phase : v.phase ≡ Wishing

-- The next fill is begun, on whatever page, and the frame on top begins again, in any state whose frames these are.
abbrev pub OpensFill : FramesValue → Answer → FramesValue → Type 0
OpensFill old result new = (n size start page : ℕ) (c : Core) (frame : Frame) (below : List Frame)
    → AreFrames n size start old c
    → c.frames ≡ frame ∷ below
    → IsAnswerOf size result (model.begin_answer frame.kind frame.state below)
    × AreFrames n size start new
    (model.after_begin frame.kind frame.state (model.with_new_tail c page) frame below)

-- the state in which the oldest open fill is closed, and this frame is alone
abbrev pub released_in : Core → Frame → Core
released_in c frame = record (model.with_released c) { frames = frame ∷ [] }

-- In this state the step of the frame on top closes the oldest open fill: the page that is let go has its number and
-- holds what it held.
pub record IsRelease (n size start : ℕ) (c : Core) (page : Contents) (new : FramesValue) : Type 0 where
  pub frame : Frame
  pub step : model.Step n size c model.steps model.going (released_in c frame)
  pub written : IsWrittenPage size c.done (model.contents_of c (page_at n c.order c.done)) page
  pub are : AreFrames n size start new (released_in c frame)

-- so in each state whose frames these are, and which steps from a new ring reach
abbrev pub Releases : FramesValue → Contents → FramesValue → Type 0
Releases old page new = (n size start : ℕ) (c : Core)
    → IsReached n size start c
    → AreFrames n size start old c
    → IsRelease n size start c page new

-- the state with these frames and this history
abbrev pub with_frames_and_history : Core → List Frame → List HistoryEvent → Core
with_frames_and_history c frames history = record c { frames = frames; history = history }

-- In this state the frame on top looks for the reader's wish, and answers so.
pub record IsLookForWish (n size start : ℕ) (c : Core) (result : Answer) (new : FramesValue) : Type 0 where
  pub answer : model.Answer
  pub frames : List Frame
  pub history : List HistoryEvent
  pub step : model.Step n size c model.steps answer (with_frames_and_history c frames history)
  pub reports : IsAnswerOf size result answer
  pub are : AreFrames n size start new (with_frames_and_history c frames history)

-- so in each state whose frames these are, in which the wish is this, and which steps from a new ring reach
abbrev pub LooksForWish : FramesValue → ℕ → Answer → FramesValue → Type 0
LooksForWish old wish result new = (n size start : ℕ) (c : Core)
    → IsReached n size start c
    → AreFrames n size start old c
    → c.wish ≡ wish
    → IsLookForWish n size start c result new

-- the reader's wish, which is this, isn't granted, in any state whose frames these are
abbrev pub GrantsNone : FramesValue → ℕ → Type 0
GrantsNone v wish = (n size start : ℕ) (c : Core)
    → AreFrames n size start v c
    → c.wish ≡ wish
    → model.IsGranted n c
    → ⊥
