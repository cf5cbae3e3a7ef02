-- A line has one list of exchanges with a ring, and leads to one state: its events follow from the states, each event
-- has one answer, and where the list stops is said.
use Rattle.std.proofs.Common.{◌≡◌, ℕ, suc, ◌<◌, ⊎_elim, List, [], ◌∷◌, length, refl, sym, ap, ◌∙◌, subst, arith}
use native.Mathlib.Decide.{dec_le}
use mathlib.Core.Logic.{dite}
use Rattle.trace_model.specs.Ring.{Core}
use Rattle.trace_model.specs.Steps.{Event, reads, wishes, Answer, pushed, going, reserved_as, pending, full, gone}
use Rattle.trace_model.specs.Steps.{refused, reading, empty, moving, page_taken, wished_for, Step, Exchange}
use Rattle.text_model.specs.Script.{Command, begin_frame, step_frame, finish_frame, write, close, step_reader}
use Rattle.text_model.specs.Script.{take_page, wish, deliver}
use Rattle.ring_model.proofs.steps.StepsDetermined.{steps_are_determined}
use Rattle.world_model.specs.Lanes.{Lane, lane_behind, lane_with, FrameRun, IsStepped, LacksFrame, StepsFrame}
use Rattle.world_model.specs.Lanes.{lacks_to_step, steps_on, FinishesFrame, lacks_to_finish, finishes, PushesFrame}
use Rattle.world_model.specs.Lanes.{FinishesPushed, WritesFrame, ReaderRun, HasTakeAnswer, IsRead, Wishes, LineRun}

-- both the exchanges and the state after them are the same
abbrev pub SameLine : (xs ys : List Exchange) (one other : Lane) → Type 0
SameLine xs ys one other = (xs ≡ ys) × (one ≡ other)

module _ (n size : ℕ) where
  -- ---- one exchange

  same_step : (event event' : Event) (answer answer' : Answer) (c core core' : Core) → event ≡ event'
      → Step n size c event answer core → Step n size c event' answer' core' → (answer ≡ answer') × (core ≡ core')
  same_step event event' answer answer' c core core' e step step' =
      steps_are_determined n size c event answer answer' core core' step
      (subst (λ (ev : Event). Step n size c ev answer' core') (sym e) step')

  same_exchange : (x y : Exchange) → x.event ≡ y.event → x.answer ≡ y.answer → x ≡ y
  same_exchange x y e a = λ i. record { event = e i; answer = a i }

  longer : (x y : Exchange) (xs ys : List Exchange) → x ≡ y → xs ≡ ys → ◌≡◌ {A = List Exchange} (x ∷ xs) (y ∷ ys)
  longer x y xs ys e es = λ i. e i ∷ es i

  -- ---- the frame on top

  frames_same : (depth : ℕ) (before one other : Lane) (xs ys : List Exchange) → length xs ≡ length ys
      → FrameRun n size depth before xs one → FrameRun n size depth before ys other → SameLine xs ys one other
  frames_same depth before one other [] [] e run run' = (refl, sym run ∙ run')
  frames_same depth before one other [] (y ∷ ys) e run run' = absurd (omega arith)
  frames_same depth before one other (x ∷ xs) [] e run run' = absurd (omega arith)
  frames_same depth before one other (x ∷ xs) (y ∷ ys) e (stands, event, core, step, run)
      (stands', event', core', step', run') =
      let events = event ∙ sym event' in
      let (answer, state) = same_step x.event y.event x.answer y.answer before.core core core' events step step' in
      let (rest, last) =
      frames_same depth (lane_behind before core) one other xs ys (omega arith) run
      (subst (λ (c : Core). FrameRun n size depth (lane_behind before c) ys other) (sym state) run') in
      (longer x y xs ys (same_exchange x y events answer) rest, last)

  -- a shorter run doesn't reach its frame's end
  frames_shorter : (depth : ℕ) (before one other : Lane) (xs ys : List Exchange) → length xs < length ys
      → FrameRun n size depth before xs one → FrameRun n size depth before ys other → length one.core.frames ≡ depth
  frames_shorter depth before one other xs [] low run run' = absurd (omega arith)
  frames_shorter depth before one other [] (y ∷ ys) low run (stands, event, core, step, run') =
      subst (λ (l : Lane). length l.core.frames ≡ depth) run stands
  frames_shorter depth before one other (x ∷ xs) (y ∷ ys) low (stands, event, core, step, run)
      (stands', event', core', step', run') =
      let (answer, state) =
      same_step x.event y.event x.answer y.answer before.core core core' (event ∙ sym event') step step' in
      frames_shorter depth (lane_behind before core) one other xs ys (omega arith) run
      (subst (λ (c : Core). FrameRun n size depth (lane_behind before c) ys other) (sym state) run')

  -- two runs are the same where neither can go on
  frames_one : (depth : ℕ) (before one other : Lane) (xs ys : List Exchange) → FrameRun n size depth before xs one
      → FrameRun n size depth before ys other
      → (length xs < length ys → length one.core.frames ≡ depth → ⊥)
      → (length ys < length xs → length other.core.frames ≡ depth → ⊥) → SameLine xs ys one other
  frames_one depth before one other xs ys run run' ends ends' = dite (dec_le (suc (length xs)) (length ys))
      (λ low. absurd (ends low (frames_shorter depth before one other xs ys low run run')))
      (λ high. dite (dec_le (suc (length ys)) (length xs))
      (λ low. absurd (ends' low (frames_shorter depth before other one ys xs low run' run)))
      (λ low. frames_same depth before one other xs ys (omega arith) run run'))

  lacks_one : (before one other : Lane) (xs ys : List Exchange) → LacksFrame n size before xs one
      → LacksFrame n size before ys other → SameLine xs ys one other
  lacks_one before one other xs ys h k = (h.exchanges_are ∙ sym k.exchanges_are, h.stays ∙ sym k.stays)

  stops : (count depth : ℕ) (xs ys : List Exchange) (one other : Lane) → IsStepped count depth xs one
      → IsStepped count depth ys other → length xs < length ys → length one.core.frames ≡ depth → ⊥
  stops count depth xs ys one other (le, stop) (le', stop') low stands =
      ⊎_elim (λ e. let no : ⊥ = omega arith in no) (λ ended. let no : ⊥ = omega arith in no) stop

  steps_one : (count : ℕ) (before one other : Lane) (xs ys : List Exchange) → StepsFrame n size count before xs one
      → StepsFrame n size count before ys other → SameLine xs ys one other
  steps_one count before one other xs ys (lacks_to_step h) (lacks_to_step k) = lacks_one before one other xs ys h k
  steps_one count before one other xs ys (lacks_to_step h) (steps_on some run stop) = absurd (some h.none)
  steps_one count before one other xs ys (steps_on some run stop) (lacks_to_step k) = absurd (some k.none)
  steps_one count before one other xs ys (steps_on some run stop) (steps_on some' run' stop') =
      let depth =
      length before.core.frames in
      frames_one depth before one other xs ys run run' (stops count depth xs ys one other stop stop')
      (stops count depth ys xs other one stop' stop)

  finishes_one : (before one other : Lane) (xs ys : List Exchange) → FinishesFrame n size before xs one
      → FinishesFrame n size before ys other → SameLine xs ys one other
  finishes_one before one other xs ys (lacks_to_finish h) (lacks_to_finish k) = lacks_one before one other xs ys h k
  finishes_one before one other xs ys (lacks_to_finish h) (finishes some run ended) = absurd (some h.none)
  finishes_one before one other xs ys (finishes some run ended) (lacks_to_finish k) = absurd (some k.none)
  finishes_one before one other xs ys (finishes some run ended) (finishes some' run' ended') =
      let depth =
      length before.core.frames in
      frames_one depth before one other xs ys run run' (λ low stands. let no : ⊥ = omega arith in no)
      (λ low stands. let no : ⊥ = omega arith in no)

  -- ---- a push

  pushes_one : (event : Event) (payload : List ℕ) (before one other : Lane) (x y : Exchange)
      → PushesFrame n size event payload before x one → PushesFrame n size event payload before y other
      → (x ≡ y) × (one ≡ other)
  pushes_one event payload before one other x y p q =
      let (answer, state) =
      steps_are_determined n size before.core event x.answer y.answer p.core q.core p.step q.step in (
        same_exchange x y (p.event_is ∙ sym q.event_is) answer,
        p.after_is ∙ (λ i. lane_with before payload (answer i) (state i)) ∙ sym q.after_is,
      )

  pushed_one : (answer : Answer) (before one other : Lane) (xs ys : List Exchange)
      → FinishesPushed n size answer before xs one → FinishesPushed n size answer before ys other
      → SameLine xs ys one other
  pushed_one pushed before one other xs ys f g = finishes_one before one other xs ys f g
  pushed_one going before one other xs ys f g = absurd f
  pushed_one (reserved_as number) before one other xs ys f g = absurd f
  pushed_one pending before one other xs ys f g = absurd f
  pushed_one full before one other xs ys f g = absurd f
  pushed_one gone before one other xs ys f g = absurd f
  pushed_one (refused why) before one other xs ys f g = (f.0 ∙ sym g.0, f.1 ∙ sym g.1)
  pushed_one reading before one other xs ys f g = absurd f
  pushed_one (empty done) before one other xs ys f g = absurd f
  pushed_one (moving fill) before one other xs ys f g = absurd f
  pushed_one (page_taken t) before one other xs ys f g = absurd f
  pushed_one (wished_for fill) before one other xs ys f g = absurd f

  writes_one : (event : Event) (payload : List ℕ) (before one other : Lane) (xs ys : List Exchange)
      → WritesFrame n size event payload before xs one → WritesFrame n size event payload before ys other
      → SameLine xs ys one other
  writes_one event payload before one other xs ys v w =
      let (push, between) = pushes_one event payload before v.between w.between v.push w.push v.pushes w.pushes in
      let behind : FinishesPushed n size v.push.answer v.between w.rest other =
      subst (λ (l : Lane). FinishesPushed n size v.push.answer l w.rest other) (sym between)
      (subst (λ (x : Exchange). FinishesPushed n size x.answer w.between w.rest other) (sym push) w.finishes) in
      let (rest, last) = pushed_one v.push.answer v.between one other v.rest w.rest v.finishes behind in
      (v.exchanges_are ∙ longer v.push w.push v.rest w.rest push rest ∙ sym w.exchanges_are, last)

  -- ---- the reader

  readers_same : (before one other : Lane) (xs ys : List Exchange) → length xs ≡ length ys
      → ReaderRun n size before xs one → ReaderRun n size before ys other → SameLine xs ys one other
  readers_same before one other [] [] e run run' = (refl, sym run ∙ run')
  readers_same before one other [] (y ∷ ys) e run run' = absurd (omega arith)
  readers_same before one other (x ∷ xs) [] e run run' = absurd (omega arith)
  readers_same before one other (x ∷ xs) (y ∷ ys) e (event, more, core, step, run) (event', more', core', step', run') =
      let (answer, state) = steps_are_determined n size before.core reads x.answer y.answer core core' step step' in
      let (rest, last) =
      readers_same (lane_behind before core) one other xs ys (omega arith) run
      (subst (λ (c : Core). ReaderRun n size (lane_behind before c) ys other) (sym state) run') in
      (longer x y xs ys (same_exchange x y (event ∙ sym event') answer) rest, last)

  -- a shorter run hasn't been answered
  readers_shorter : (before one other : Lane) (xs ys : List Exchange) → length xs < length ys
      → ReaderRun n size before xs one → ReaderRun n size before ys other → HasTakeAnswer xs → ⊥
  readers_shorter before one other [] ys low run run' answered = answered
  readers_shorter before one other (x ∷ xs) [] low run run' answered = absurd (omega arith)
  readers_shorter before one other (x ∷ []) (y ∷ []) low run run' answered = absurd (omega arith)
  readers_shorter before one other (x ∷ []) (y ∷ z ∷ ys) low (event, more, core, step, run)
      (event', more', core', step', run') answered =
      let (answer, state) = steps_are_determined n size before.core reads x.answer y.answer core core' step step' in
      answered (answer ∙ more' (λ e. let no = ap (λ (l : List Exchange). length l) e in omega arith))
  readers_shorter before one other (x ∷ w ∷ xs) (y ∷ ys) low (event, more, core, step, run)
      (event', more', core', step', run') answered =
      let (answer, state) = steps_are_determined n size before.core reads x.answer y.answer core core' step step' in
      readers_shorter (lane_behind before core) one other (w ∷ xs) ys (omega arith) run
      (subst (λ (c : Core). ReaderRun n size (lane_behind before c) ys other) (sym state) run') answered

  readers_one : (before one other : Lane) (xs ys : List Exchange) → ReaderRun n size before xs one
      → ReaderRun n size before ys other → (length xs < length ys → HasTakeAnswer xs)
      → (length ys < length xs → HasTakeAnswer ys) → SameLine xs ys one other
  readers_one before one other xs ys run run' ends ends' = dite (dec_le (suc (length xs)) (length ys))
      (λ low. absurd (readers_shorter before one other xs ys low run run' (ends low)))
      (λ high. dite (dec_le (suc (length ys)) (length xs))
      (λ low. absurd (readers_shorter before other one ys xs low run' run (ends' low)))
      (λ low. readers_same before one other xs ys (omega arith) run run'))

  read_ends : (count : ℕ) (xs ys : List Exchange) → IsRead count xs → IsRead count ys → length xs < length ys
      → HasTakeAnswer xs
  read_ends count xs ys (le, stop) (le', stop') low =
      ⊎_elim (λ e. absurd (let no : ⊥ = omega arith in no)) (λ answered. answered) stop

  wishes_one : (before one other : Lane) (xs ys : List Exchange) → Wishes n size before xs one
      → Wishes n size before ys other → SameLine xs ys one other
  wishes_one before one other xs ys v w =
      let (answer, state) =
      steps_are_determined n size before.core wishes v.answer w.answer v.core w.core v.step w.step in (
        v.exchanges_are ∙ (λ i. record { event = wishes; answer = answer i } ∷ []) ∙ sym w.exchanges_are,
        v.after_is ∙ ap (lane_behind before) state ∙ sym w.after_is,
      )

  -- ---- the whole

  pub line_one : (command : Command) (before one other : Lane) (xs ys : List Exchange)
      → LineRun n size command before xs one → LineRun n size command before ys other → SameLine xs ys one other
  line_one (begin_frame cpu moment payload) before one other xs ys (x, is, p) (y, is', q) =
      let (same, last) = pushes_one _ payload before one other x y p q in
      (is ∙ longer x y [] [] same refl ∙ sym is', last)
  line_one (step_frame cpu count) before one other xs ys run run' = steps_one count before one other xs ys run run'
  line_one (finish_frame cpu) before one other xs ys run run' = finishes_one before one other xs ys run run'
  line_one (write cpu moment payload) before one other xs ys run run' =
      writes_one _ payload before one other xs ys run run'
  line_one (close cpu) before one other xs ys run run' = writes_one _ [] before one other xs ys run run'
  line_one (step_reader cpu count) before one other xs ys (run, ends) (run', ends') =
      readers_one before one other xs ys run run' (read_ends count xs ys ends ends') (read_ends count ys xs ends' ends)
  line_one (take_page cpu) before one other xs ys (run, ends) (run', ends') =
      readers_one before one other xs ys run run' (λ low. ends) (λ low. ends')
  line_one (wish cpu) before one other xs ys run run' = wishes_one before one other xs ys run run'
  line_one (deliver collector cpu fill) before one other xs ys run run' = (run.0 ∙ sym run'.0, run.1 ∙ sym run'.1)
