-- What a line has with a ring is a run of it.
use Rattle.std.proofs.Common.{ℕ, List, [], ◌∷◌, refl, sym, ap, subst}
use Rattle.trace_model.specs.Steps.{Event, Answer, pushed, going, reserved_as, pending, full, gone, refused, reading}
use Rattle.trace_model.specs.Steps.{empty, moving, page_taken, wished_for, Step, Exchange, Run}
use Rattle.trace_model.proofs.steps.StepCases.{frame_lacks}
use Rattle.trace_model.proofs.steps.StepIs.{step_by}
use Rattle.text_model.specs.Script.{Command, begin_frame, step_frame, finish_frame, write, close, step_reader}
use Rattle.text_model.specs.Script.{take_page, wish, deliver}
use Rattle.world_model.specs.Lanes.{Lane, lane_behind, FrameRun, LacksFrame, StepsFrame, lacks_to_step, steps_on}
use Rattle.world_model.specs.Lanes.{FinishesFrame, lacks_to_finish, finishes, PushesFrame, FinishesPushed, WritesFrame}
use Rattle.world_model.specs.Lanes.{ReaderRun, Wishes, LineRun}

module _ (n size : ℕ) where
  frames_run : (depth : ℕ) (before after : Lane) (xs : List Exchange) → FrameRun n size depth before xs after
      → Run n size before.core xs after.core
  frames_run depth before after [] run = ap (λ (l : Lane). l.core) run
  frames_run depth before after (x ∷ xs) (stands, event, core, step, run) =
      (core, step, frames_run depth (lane_behind before core) after xs run)

  lacks_run : (before after : Lane) (xs : List Exchange) → LacksFrame n size before xs after
      → Run n size before.core xs after.core
  lacks_run before after xs h = subst (λ (l : List Exchange). Run n size before.core l after.core) (sym h.exchanges_are)
      (before.core, step_by (frame_lacks refl h.none refl refl), ap (λ (l : Lane). l.core) (sym h.stays))

  steps_run : (count : ℕ) (before after : Lane) (xs : List Exchange) → StepsFrame n size count before xs after
      → Run n size before.core xs after.core
  steps_run count before after xs (lacks_to_step h) = lacks_run before after xs h
  steps_run count before after xs (steps_on some run stop) = frames_run _ before after xs run

  finishes_run : (before after : Lane) (xs : List Exchange) → FinishesFrame n size before xs after
      → Run n size before.core xs after.core
  finishes_run before after xs (lacks_to_finish h) = lacks_run before after xs h
  finishes_run before after xs (finishes some run stop) = frames_run _ before after xs run

  push_run : (event : Event) (payload : List ℕ) (before between after : Lane) (x : Exchange) (xs : List Exchange)
      → PushesFrame n size event payload before x between → Run n size between.core xs after.core
      → Run n size before.core (x ∷ xs) after.core
  push_run event payload before between after x xs p run = (
    p.core,
    subst (λ (e : Event). Step n size before.core e x.answer p.core) (sym p.event_is) p.step,
    subst (λ (l : Lane). Run n size l.core xs after.core) p.after_is run,
  )

  pushed_run : (answer : Answer) (before after : Lane) (xs : List Exchange)
      → FinishesPushed n size answer before xs after → Run n size before.core xs after.core
  pushed_run pushed before after xs f = finishes_run before after xs f
  pushed_run going before after xs f = absurd f
  pushed_run (reserved_as number) before after xs f = absurd f
  pushed_run pending before after xs f = absurd f
  pushed_run full before after xs f = absurd f
  pushed_run gone before after xs f = absurd f
  pushed_run (refused why) before after xs f =
      subst (λ (l : List Exchange). Run n size before.core l after.core) (sym f.0) (ap (λ (l : Lane). l.core) (sym f.1))
  pushed_run reading before after xs f = absurd f
  pushed_run (empty done) before after xs f = absurd f
  pushed_run (moving fill) before after xs f = absurd f
  pushed_run (page_taken t) before after xs f = absurd f
  pushed_run (wished_for fill) before after xs f = absurd f

  writes_run : (event : Event) (payload : List ℕ) (before after : Lane) (xs : List Exchange)
      → WritesFrame n size event payload before xs after → Run n size before.core xs after.core
  writes_run event payload before after xs w =
      subst (λ (l : List Exchange). Run n size before.core l after.core) (sym w.exchanges_are)
      (push_run event payload before w.between after w.push w.rest w.pushes
      (pushed_run w.push.answer w.between after w.rest w.finishes))

  reader_run : (before after : Lane) (xs : List Exchange) → ReaderRun n size before xs after
      → Run n size before.core xs after.core
  reader_run before after [] run = ap (λ (l : Lane). l.core) run
  reader_run before after (x ∷ xs) (event, more, core, step, run) = (
    core,
    subst (λ (e : Event). Step n size before.core e x.answer core) (sym event) step,
    reader_run (lane_behind before core) after xs run,
  )

  wishes_run : (before after : Lane) (xs : List Exchange) → Wishes n size before xs after
      → Run n size before.core xs after.core
  wishes_run before after xs w =
      subst (λ (l : List Exchange). Run n size before.core l after.core) (sym w.exchanges_are)
      (w.core, w.step, ap (λ (l : Lane). l.core) (sym w.after_is))

  pub line_run : (command : Command) (before after : Lane) (xs : List Exchange) → LineRun n size command before xs after
      → Run n size before.core xs after.core
  line_run (begin_frame cpu moment payload) before after xs (x, is, p) =
      subst (λ (l : List Exchange). Run n size before.core l after.core) (sym is)
      (push_run _ payload before after after x [] p refl)
  line_run (step_frame cpu count) before after xs run = steps_run count before after xs run
  line_run (finish_frame cpu) before after xs run = finishes_run before after xs run
  line_run (write cpu moment payload) before after xs run = writes_run _ payload before after xs run
  line_run (close cpu) before after xs run = writes_run _ [] before after xs run
  line_run (step_reader cpu count) before after xs run = reader_run before after xs run.0
  line_run (take_page cpu) before after xs run = reader_run before after xs run.0
  line_run (wish cpu) before after xs run = wishes_run before after xs run
  line_run (deliver collector cpu fill) before after xs run =
      subst (λ (l : List Exchange). Run n size before.core l after.core) (sym run.0)
      (ap (λ (l : Lane). l.core) (sym run.1))
