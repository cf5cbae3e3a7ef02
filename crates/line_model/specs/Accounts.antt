-- What the lines of a script do to one CPU, by events of its ring alone: each line adds events of its own, of its frame
-- or of the reader, and each of them is due. docs/MODEL.md, "What is printed, by histories alone"; tools/account
-- computes it.
use Rattle.std.specs.Prelude.{◌≡◌, ◌≢◌, ℕ, zero, suc, ◌+◌, ◌-◌, ◌%◌, ◌<◌, ◌≤◌, ◌⊎◌, ◌==◌, true, if◌then◌else◌}
use Rattle.std.specs.Prelude.{List, [], ◌∷◌, ◌++◌, length, Option, Some, None, Contains}
use Rattle.std.specs.List.{slice_get}
use Rattle.trace_model.specs.declared.limits.TheConstants.{MAX_FRAMES, MOMENT_LIMIT}
use Rattle.trace_model.specs.Words.{padded, encoded_len}
use Rattle.trace_model.specs.History.{HistoryEvent, push, push_close, open_fill, reserve, leave, wished}
use Rattle.trace_model.specs.Window.{Window, RingEvent, acts, closes, takes, loses}
use Rattle.text_model.specs.Script.{Command, begin_frame, step_frame, finish_frame, write, close, step_reader}
use Rattle.text_model.specs.Script.{take_page, wish, deliver, Script}
use Rattle.line_model.specs.Due.{Situation, situation_after, window_at, IsFillNeeded, HasNoFill, IsWishToFind, IsDue}

-- ---- one CPU between two lines

-- How far a frame has come in its search for a fill to begin. to_look: it looks at the position of that fill next: is
-- the oldest fill still there? to_lose: it loses the oldest fill next. to_begin: it begins its fill next, after `left`
-- steps more at most, in which it helps a frame below that is moving the head.
pub data Search : Type 0 where
  to_look to_lose : Search
  to_begin : (left : ℕ) → Search

-- What the next step of a frame may be. resting: it reserves its record or leaves, if it needs no fill or can have
-- none. searching: it is to begin the fill of this number. moving: it has lost the oldest fill for that, and moves the
-- head to the next one, in `left` more steps at most before the last, and only then goes on. closing_fills: it closes
-- one. asking: none was left to close, and it looks for the reader's wish. off: it makes no step, and is off the stack.
pub data Stage : Type 0 where
  resting closing_fills asking off : Stage
  searching : (fill : ℕ) → Search → Stage
  moving : (fill left : ℕ) → Stage

-- A frame on the stack. payload: what its line writes, until it has left (of a close frame an empty one, which isn't
-- written). Only a bottom frame is still there then, to close fills, and for the reader's wish.
pub record LineFrame : Type 0 where
  pub payload : Option (List ℕ)
  pub stage : Stage

-- one of these frames is moving the head, to begin this fill
abbrev pub IsMovedFor : (fill : ℕ) → List LineFrame → Type 0
IsMovedFor fill frames =
    (frame : LineFrame) × Contains frames frame × (left : ℕ) × (frame.stage ≡ moving fill left)

-- What the next step of a take is. to_find: the reader looks for the oldest fill. to_see: it has found it, and sees
-- which fills are closed. to_prepare: it was closed, and is to be taken. to_take: it is taken, unless it was lost.
pub data Take : Type 0 where
  to_find to_see to_prepare to_take : Take

-- events: what was done to the ring so far, in one order. frames: the stack, the top first. take: the next step of the
-- reader. hint: it looks for the oldest fill at the position of this one, or has found that it is this one. seen: it
-- knows the fills below this one to be closed. wish: one more than the number of the fill that it asks for, 0 before
-- its first wish.
pub record CpuState : Type 0 where
  pub events : List RingEvent
  pub frames : List LineFrame
  pub take : Take
  pub hint : ℕ
  pub seen : ℕ
  pub wish : ℕ

-- before the first line
abbrev pub new_cpu : (start : ℕ) → CpuState
new_cpu start = record { events = []; frames = []; take = to_find; hint = start; seen = start; wish = 0 }

-- ---- what a frame does

-- the frame hasn't left, or is the bottom one
abbrev pub IsThere : (below : List LineFrame) → LineFrame → Type 0
IsThere below frame = (frame.payload ≢ None) ⊎ (below ≡ [])

-- What the frame on top, with these below it, may do: it pushes none, and leaves with the payload of its line, in whole
-- words, or without a record. When it has left it does nothing more, unless it is the bottom one, which closes fills,
-- finds the reader's wish, and begins a fill or loses one for it.
abbrev pub IsOwn : (below : List LineFrame) → LineFrame → RingEvent → Type 0
IsOwn below frame (acts (push moment len)) = ⊥
IsOwn below frame (acts push_close) = ⊥
IsOwn below frame (acts open_fill) = IsThere below frame
IsOwn below frame (acts reserve) = frame.payload ≢ None
IsOwn below frame (acts (leave None)) = frame.payload ≢ None
IsOwn below frame (acts (leave (Some bytes))) = (own : List ℕ) × (frame.payload ≡ Some own) × (bytes ≡ padded own)
IsOwn below frame (acts wished) = (frame.payload ≡ None) × (below ≡ [])
IsOwn below frame closes = (frame.payload ≡ None) × (below ≡ [])
IsOwn below frame takes = ⊥
IsOwn below frame loses = IsThere below frame

-- the frame after that
abbrev pub frame_after : LineFrame → RingEvent → LineFrame
frame_after frame (acts (leave payload)) = record frame { payload = None }
frame_after frame _ = frame

-- it does these, one after the other
abbrev pub Does : (below : List LineFrame) → LineFrame → List RingEvent → LineFrame → Type 0
Does below frame [] after = after ≡ frame
Does below frame (event ∷ own) after = IsOwn below frame event × Does below (frame_after frame event) own after

-- It is gone: it has left, and nothing that it may do is due.
abbrev pub HasGone : Situation → (below : List LineFrame) → LineFrame → Type 0
HasGone s below frame = (frame.payload ≡ None) × ((event : RingEvent) → IsOwn below frame event → IsDue s event → ⊥)

-- ---- what a line adds

-- these events of a frame are added, and then these frames are on the stack
abbrev pub with_own : CpuState → List RingEvent → List LineFrame → CpuState
with_own before own frames = record before { events = before.events ++ own; frames = frames }

-- nothing is done
abbrev pub IsIdle : CpuState → List RingEvent → CpuState → Type 0
IsIdle before own after = (own ≡ []) × (after ≡ before)

-- a frame as it is pushed, for this payload
abbrev pub new_frame : List ℕ → LineFrame
new_frame payload = record { payload = Some payload; stage = resting }

-- A record frame is refused: the stack is full, its record is too long, or its moment is too late.
abbrev pub IsRefused : (size moment len : ℕ) → List LineFrame → Type 0
IsRefused size moment len frames =
    (MAX_FRAMES ≤ length frames) ⊎ (size < encoded_len len 0 true) ⊎ (MOMENT_LIMIT ≤ moment)

-- `b`: a frame is pushed, unless it is refused
pub data Begins (Refused : Type 0) (event : HistoryEvent) (payload : List ℕ) (before : CpuState) (own : List RingEvent)
    (after : CpuState)
    : Type 0 where
  refuses_frame : Refused → IsIdle before own after → Begins Refused event payload before own after
  pushes_frame : (Refused → ⊥)
      → own ≡ acts event ∷ []
      → after ≡ with_own before own (new_frame payload ∷ before.frames)
      → Begins Refused event payload before own after

-- ---- `s`: the steps of the frame on top

-- the stage of a frame that doesn't search, with these frames below it
abbrev pub at_rest : Window → (below : List LineFrame) → Option (List ℕ) → Stage
at_rest w below (Some payload) = resting
at_rest w [] None = if (w.done + 1) == w.opened then asking else closing_fills
at_rest w (frame ∷ below) None = off

-- its stage after an event, if the window is this one then, and this is its payload
abbrev pub stage_after : Window → (below : List LineFrame) → Option (List ℕ) → RingEvent → Stage
stage_after w below payload loses = moving w.opened 2
stage_after w below payload (acts wished) = searching w.opened to_look
stage_after w below payload _ = at_rest w below payload

-- A step in this stage makes this event, if that is due and the frame's own: a resting frame that needs a fill, and can
-- have one, makes none, and who searches begins no fill but the next one, and loses none for another.
abbrev pub MayDo : Situation → Stage → RingEvent → Type 0
MayDo s resting event = IsFillNeeded s → HasNoFill s
MayDo s (searching fill to_lose) event = (fill ≡ s.window.opened) × (event ≡ loses)
MayDo s (searching fill (to_begin zero)) event = (fill ≡ s.window.opened) × (event ≡ acts open_fill)
MayDo s closing_fills event = event ≡ closes
MayDo s asking event = event ≡ acts wished
MayDo s _ event = ⊥

-- What a step of a search finds, and to which stage that leads: if the ring is full, the oldest fill is to be lost,
-- unless it was taken meanwhile; if it isn't, the fill can be begun, at once or after a frame below was helped.
abbrev pub Finds : Situation → (below : List LineFrame) → (fill : ℕ) → Search → Stage → Type 0
Finds s below fill to_look next =
    ((next ≡ searching fill to_lose) × (s.window.opened ≡ s.window.head + s.pages))
    ⊎ ((s.window.opened < s.window.head + s.pages)
    × (((next ≡ searching fill (to_begin 0)) × (IsMovedFor fill below → ⊥))
    ⊎ ((next ≡ searching fill (to_begin 2)) × IsMovedFor fill below)))
Finds s below fill to_lose next = (next ≡ searching fill to_look) × (s.window.opened < s.window.head + s.pages)
Finds s below fill (to_begin zero) next = ⊥
Finds s below fill (to_begin (suc left)) next =
    (next ≡ searching fill (to_begin left)) ⊎ (next ≡ searching fill (to_begin 0))

-- Or it makes none, and leads to the stage `next`. A search is over if another frame began the fill. A move of the head
-- goes on all the same; one of its steps may be left out, since another frame may have made it, and whether one has
-- isn't said. Who asks, and finds no wish, closes fills that were begun meanwhile, or is off.
abbrev pub MayPass : Situation → (below : List LineFrame) → Option (List ℕ) → Stage → Stage → Type 0
MayPass s below payload resting next =
    (next ≡ searching s.window.opened to_look) × IsFillNeeded s × (HasNoFill s → ⊥)
MayPass s below payload (searching fill search) next =
    ((fill ≢ s.window.opened) × (next ≡ at_rest s.window below payload))
    ⊎ ((fill ≡ s.window.opened) × Finds s below fill search next)
MayPass s below payload (moving fill zero) next = next ≡ searching fill (to_begin 0)
MayPass s below payload (moving fill (suc left)) next = (next ≡ moving fill left) ⊎ (next ≡ moving fill 0)
MayPass s below payload closing_fills next = ⊥
MayPass s below payload asking next = (IsWishToFind s → ⊥)
    × (((next ≡ closing_fills) × (s.window.done + 1 < s.window.opened))
    ⊎ ((next ≡ off) × (s.window.done + 1 ≡ s.window.opened)))
MayPass s below payload off next = ⊥

-- the frame after an event in one of its steps
abbrev pub stepped : Window → (below : List LineFrame) → LineFrame → RingEvent → LineFrame
stepped w below frame event = record (frame_after frame event) {
  stage = stage_after w below (frame_after frame event).payload event;
}

-- `count` steps of a frame, after these events of its ring, while this is the reader's wish. Each makes an event, or
-- none.
abbrev pub Steps : Script → (reader_wish : ℕ) → (below : List LineFrame) → (count : ℕ) → (before : List RingEvent)
    → LineFrame → (own : List RingEvent) → LineFrame → Type 0
Steps script asked below zero before frame own next = (own ≡ []) × (frame ≡ next)
Steps script asked below (suc count) before frame own next =
    ((stage : Stage)
    × MayPass (situation_after script asked before) below frame.payload frame.stage stage
    × Steps script asked below count before (record frame { stage = stage }) own next)
    ⊎ ((event : RingEvent)
    × (rest : List RingEvent)
    × (own ≡ event ∷ rest)
    × IsOwn below frame event
    × MayDo (situation_after script asked before) frame.stage event
    × Steps script asked below count (before ++ event ∷ [])
    (stepped (window_at script.start (before ++ event ∷ [])) below frame event) rest next)

-- the stack, with this frame on top unless it is off
abbrev pub with_top : Stage → LineFrame → (below : List LineFrame) → List LineFrame
with_top off frame below = below
with_top _ frame below = frame ∷ below

-- `s`: the frame on top makes this many steps, or fewer if it is off the stack before
pub data StepsTop (script : Script) (count : ℕ) (before : CpuState) (own : List RingEvent) (after : CpuState)
    : Type 0 where
  lacks_to_step : before.frames ≡ [] → IsIdle before own after → StepsTop script count before own after
  steps_on : (made : ℕ) (top next : LineFrame) (below : List LineFrame)
      → before.frames ≡ top ∷ below
      → made ≤ count
      → (made ≡ count) ⊎ (next.stage ≡ off)
      → Steps script before.wish below made before.events top own next
      → after ≡ with_own before own (with_top next.stage next below)
      → StepsTop script count before own after

-- `f`: the frame on top does these, and goes
pub data FinishesTop (script : Script) (before : CpuState) (own : List RingEvent) (after : CpuState) : Type 0 where
  lacks_to_finish : before.frames ≡ [] → IsIdle before own after → FinishesTop script before own after
  finishes_it : (top next : LineFrame) (below : List LineFrame)
      → before.frames ≡ top ∷ below
      → Does below top own next
      → HasGone (situation_after script before.wish (before.events ++ own)) below next
      → after ≡ with_own before own below
      → FinishesTop script before own after

-- `w` and `c`: a frame is pushed, does these, and goes, unless it is refused
pub data WritesWhole (script : Script) (Refused : Type 0) (event : HistoryEvent) (payload : List ℕ) (before : CpuState)
    (own : List RingEvent) (after : CpuState)
    : Type 0 where
  refuses_whole : Refused → IsIdle before own after → WritesWhole script Refused event payload before own after
  writes_it : (rest : List RingEvent) (next : LineFrame)
      → (Refused → ⊥)
      → own ≡ acts event ∷ rest
      → Does before.frames (new_frame payload) rest next
      → HasGone (situation_after script before.wish (before.events ++ own)) before.frames next
      → after ≡ with_own before own before.frames
      → WritesWhole script Refused event payload before own after

-- ---- the reader

-- Of the fills from the oldest one on, as many as there are positions, each has one. This one has that of the hint.
abbrev pub IsAtHint : (pages : ℕ) → Window → (hint fill : ℕ) → Type 0
IsAtHint pages w hint fill = (w.head ≤ fill) × (fill < w.head + pages) × (fill % pages ≡ hint % pages)

-- the move of the head to the oldest fill isn't over
abbrev pub IsMovedTo : (pages : ℕ) → Window → List LineFrame → Type 0
IsMovedTo pages w frames = (fill : ℕ) × (fill + 1 ≡ w.head + pages) × IsMovedFor fill frames

-- A step of a take that isn't its last. The reader finds the oldest fill where it looks, or that a later one is there,
-- and looks at the next position; it finds that the oldest one is closed; it prepares; or it looks further, since that
-- one was lost meanwhile. If the move of the head to it isn't over, the oldest fill may look like a later one.
abbrev pub GoesOn : (pages : ℕ) → Window → Take → (before after : CpuState) → Type 0
GoesOn pages w to_find before after =
    (IsAtHint pages w before.hint w.head × (after ≡ record before { take = to_see; hint = w.head }))
    ⊎ ((fill : ℕ)
    × IsAtHint pages w before.hint fill
    × (before.hint < fill)
    × ((w.head < fill) ⊎ IsMovedTo pages w before.frames)
    × (IsMovedFor fill before.frames → ⊥)
    × (after ≡ record before { hint = fill + 1 - pages }))
GoesOn pages w to_see before after =
    (before.hint < w.done) × (after ≡ record before { take = to_prepare; seen = w.done })
GoesOn pages w to_prepare before after = after ≡ record before { take = to_take }
GoesOn pages w to_take before after =
    (before.hint ≢ w.head) × (after ≡ record before { take = to_find; hint = before.hint + 1 })

-- The last step of a take. A frame is moving the head, from the position where the reader looks, or to it; or the
-- oldest fill isn't closed; or it is taken.
abbrev pub EndsTake : (pages : ℕ) → Window → Take → CpuState → (own : List RingEvent) → CpuState → Type 0
EndsTake pages w to_find before own after = (own ≡ [])
    × (((fill : ℕ)
    × IsAtHint pages w before.hint fill
    × IsMovedFor fill before.frames
    × (after ≡ record before { hint = fill + 1 - pages }))
    ⊎ ((before.hint ≡ w.head) × IsMovedTo pages w before.frames × (after ≡ before)))
EndsTake pages w to_see before own after =
    (w.done ≤ before.hint) × (own ≡ []) × (after ≡ record before { take = to_find; seen = w.done })
EndsTake pages w to_prepare before own after = ⊥
EndsTake pages w to_take before own after = (before.hint ≡ w.head)
    × (own ≡ takes ∷ [])
    × (after ≡ record before { events = before.events ++ takes ∷ []; take = to_find; hint = before.hint + 1 })

-- this many steps of a take, none of them its last
abbrev pub ReadsOn : Script → (count : ℕ) → CpuState → CpuState → Type 0
ReadsOn script zero before after = before ≡ after
ReadsOn script (suc count) before after = (between : CpuState)
    × GoesOn script.pages (window_at script.start before.events) before.take before between
    × ReadsOn script count between after

-- `t`: a number of such steps, and the last
pub record TakesPage (script : Script) (before : CpuState) (own : List RingEvent) (after : CpuState) : Type 0 where
  pub count : ℕ
  pub between : CpuState
  pub reads : ReadsOn script count before between
  pub ends : EndsTake script.pages (window_at script.start between.events) between.take between own after

-- `r`: this many steps, or as for `t`, if that takes no more
pub data StepsReader (script : Script) (count : ℕ) (before : CpuState) (own : List RingEvent) (after : CpuState)
    : Type 0 where
  reads_on : own ≡ [] → ReadsOn script count before after → StepsReader script count before own after
  ends_before : (take : TakesPage script before own after)
      → take.count < count
      → StepsReader script count before own after

-- `a`: the reader asks for the first fill that it doesn't know to be closed; its wish is one more than that one's
-- number
abbrev pub Asks : CpuState → List RingEvent → CpuState → Type 0
Asks before own after = (own ≡ []) × (after ≡ record before { wish = before.seen + 1 })

-- the line is one of this CPU, and does this; or nothing is done
abbrev pub At : (cpu at : ℕ) → (CpuState → List RingEvent → CpuState → Type 0)
    → CpuState → List RingEvent → CpuState → Type 0
At cpu at Part before own after = ((at ≡ cpu) × Part before own after) ⊎ ((at ≢ cpu) × IsIdle before own after)

-- what a line of a script adds on this CPU
abbrev pub Adds : Script → (cpu : ℕ) → Command → CpuState → List RingEvent → CpuState → Type 0
Adds script cpu (begin_frame at moment payload) before own after =
    At cpu at
    (Begins (IsRefused script.size moment (length payload) before.frames) (push moment (length payload)) payload)
    before own after
Adds script cpu (step_frame at count) before own after = At cpu at (StepsTop script count) before own after
Adds script cpu (finish_frame at) before own after = At cpu at (FinishesTop script) before own after
Adds script cpu (write at moment payload) before own after =
    At cpu at
    (WritesWhole script (IsRefused script.size moment (length payload) before.frames)
    (push moment (length payload)) payload)
    before own after
Adds script cpu (close at) before own after =
    At cpu at (WritesWhole script (MAX_FRAMES ≤ length before.frames) push_close []) before own after
Adds script cpu (step_reader at count) before own after = At cpu at (StepsReader script count) before own after
Adds script cpu (take_page at) before own after = At cpu at (TakesPage script) before own after
Adds script cpu (wish at) before own after = At cpu at Asks before own after
Adds script cpu (deliver collector at fill) before own after = IsIdle before own after

-- One line: each of its own events is due after those before it.
pub record IsLine (script : Script) (cpu : ℕ) (command : Command) (before after : CpuState) : Type 0 where
  pub own : List RingEvent
  pub adds : Adds script cpu command before own after
  pub due : (front rest : List RingEvent) (event : RingEvent)
      → own ≡ front ++ event ∷ rest
      → IsDue (situation_after script before.wish (before.events ++ front)) event

-- One CPU of a script: `states k` is that CPU after the first k lines, new at first, and then as each line makes it.
pub record IsAccount (script : Script) (cpu : ℕ) (states : ℕ → CpuState) : Type 0 where
  pub first : states 0 ≡ new_cpu script.start
  pub lines : (k line : ℕ) (command : Command)
      → slice_get script.commands k ≡ Some (line, command)
      → IsLine script cpu command (states k) (states (suc k))
