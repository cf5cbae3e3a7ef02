-- What a reader's steps leave as it was: the writer's part of the ring, the wish and the payloads; and what a store of
-- the wish makes of it.
use Rattle.std.proofs.Common.{◌≡◌, ℕ, ◌+◌, ◌<◌, List, [], ◌∷◌, ◌++◌, length, sym, ap, ◌∙◌, subst}
use Rattle.trace_model.specs.Frames.{Frame}
use Rattle.trace_model.specs.Ring.{ReaderPhase, loading_head, loading_done, storing_spare_link, swapping, TakenFill}
use Rattle.trace_model.specs.Ring.{Core}
use Rattle.trace_model.specs.ReaderSteps.{with_wish}
use Rattle.trace_model.specs.Steps.{reads, wishes, Answer, Step, Exchange}
use Rattle.trace_model.proofs.steps.StepCases.{StepCases, ReadStep, loads_header, loads_update, loads_owed}
use Rattle.trace_model.proofs.steps.StepCases.{loads_passed, finds_none, finds_closed, swaps, swap_fails, push_step}
use Rattle.trace_model.proofs.steps.StepCases.{push_refused, close_step, close_refused, frame_step, frame_lacks}
use Rattle.trace_model.proofs.steps.StepCases.{end_step, end_lacks, end_early, read_step, store_wish_step}
use Rattle.trace_model.proofs.steps.StepSound.{cases_of}
use Rattle.trace_model.proofs.steps.EventKinds.{IsReads, IsWishes}
use Rattle.ring_model.specs.RingKept.{IsRingKept}
use Rattle.ring_model.specs.Reached.{IsReached}
use Rattle.ring_model.proofs.partition.RingsKept.{reached_kept, reached_further}
use Rattle.ring_model.proofs.seats.SeatSteps.{reader_leaves_writer}
use Rattle.world_model.specs.Lanes.{Lane, lane_behind, ReaderRun}
use Rattle.line_model.proofs.StandingKept.{all_left}

-- ---- one step

-- no page is taken
pub record TakesNone (c after : Core) : Type 0 where
  pub head : after.head ≡ c.head
  pub taken : after.reader.taken ≡ c.reader.taken

-- the oldest fill is taken, which is closed
pub record TakesOne (c after : Core) : Type 0 where
  pub page : TakenFill
  pub fill : page.fill ≡ c.head
  pub closed : c.head < c.done
  pub head : after.head ≡ c.head + 1
  pub taken : after.reader.taken ≡ c.reader.taken ++ page ∷ []

-- the writer's part stays, and the wish
pub record Stays (c after : Core) : Type 0 where
  pub frames : after.frames ≡ c.frames
  pub history : after.history ≡ c.history
  pub done : after.done ≡ c.done
  pub opened : after.opened ≡ c.opened
  pub wish : after.wish ≡ c.wish

module _ (n size start : ℕ) (c : Core) (answer : Answer) (after : Core) (kept : IsRingKept n size start c)
    (step : Step n size c reads answer after) where
  read_wish : (phase : ReaderPhase) → ReadStep n c phase answer after → after.wish ≡ c.wish
  read_wish loading_head (loads_header page fill link a is) = ap (λ (d : Core). d.wish) is
  read_wish loading_head (loads_update page lost link a is) = ap (λ (d : Core). d.wish) is
  read_wish loading_head (loads_owed page link a is) = ap (λ (d : Core). d.wish) is
  read_wish loading_head (loads_passed page fill least link more sum a is) = ap (λ (d : Core). d.wish) is
  read_wish (loading_done page fill) (finds_none le a is) = ap (λ (d : Core). d.wish) is
  read_wish (loading_done page fill) (finds_closed closed a is) = ap (λ (d : Core). d.wish) is
  read_wish (storing_spare_link page fill) step = ap (λ (d : Core). d.wish) step.after_is
  read_wish (swapping page fill) (swaps link a is) = ap (λ (d : Core). d.wish) is
  read_wish (swapping page fill) (swap_fails link a is) = ap (λ (d : Core). d.wish) is

  pub by_case : StepCases n size c reads answer after → ReadStep n c c.reader.phase answer after
  by_case (push_step moment len e few short early a is) = absurd (subst IsReads e tt)
  by_case (push_refused moment len why e denied a is) = absurd (subst IsReads e tt)
  by_case (close_step e few a is) = absurd (subst IsReads e tt)
  by_case (close_refused e many a is) = absurd (subst IsReads e tt)
  by_case (frame_step frame below e top made) = absurd (subst IsReads e tt)
  by_case (frame_lacks e none a is) = absurd (subst IsReads e tt)
  by_case (end_step paid frame below num m l e top state k slot a is) = absurd (subst IsReads e tt)
  by_case (end_lacks paid e none a is) = absurd (subst IsReads e tt)
  by_case (end_early paid frame below e top early a is) = absurd (subst IsReads e tt)
  by_case (read_step e made) = made
  by_case (store_wish_step e a is) = absurd (subst IsReads e tt)

  pub one_stays : Stays c after
  one_stays =
      let w = reader_leaves_writer n size c reads answer after tt (cases_of step) in record {
        frames = w.frames;
        history = w.history;
        done = w.done;
        opened = w.opened;
        wish = read_wish c.reader.phase (by_case (cases_of step));
      }

-- a store of the wish
pub wish_is : (n size : ℕ) (c : Core) (answer : Answer) (after : Core)
    → StepCases n size c wishes answer after
    → after ≡ with_wish c
wish_is n size c answer after (push_step moment len e few short early a is) = absurd (subst IsWishes e tt)
wish_is n size c answer after (push_refused moment len why e denied a is) = absurd (subst IsWishes e tt)
wish_is n size c answer after (close_step e few a is) = absurd (subst IsWishes e tt)
wish_is n size c answer after (close_refused e many a is) = absurd (subst IsWishes e tt)
wish_is n size c answer after (frame_step frame below e top step) = absurd (subst IsWishes e tt)
wish_is n size c answer after (frame_lacks e none a is) = absurd (subst IsWishes e tt)
wish_is n size c answer after (end_step paid frame below num m l e top state k slot a is) = absurd (subst IsWishes e tt)
wish_is n size c answer after (end_lacks paid e none a is) = absurd (subst IsWishes e tt)
wish_is n size c answer after (end_early paid frame below e top early a is) = absurd (subst IsWishes e tt)
wish_is n size c answer after (read_step e step) = absurd (subst IsWishes e tt)
wish_is n size c answer after (store_wish_step e a is) = is

-- ---- the steps of a line

no_step : (c after : Core) → c ≡ after → Stays c after
no_step c after same = record {
  frames = sym (ap (λ (d : Core). d.frames) same);
  history = sym (ap (λ (d : Core). d.history) same);
  done = sym (ap (λ (d : Core). d.done) same);
  opened = sym (ap (λ (d : Core). d.opened) same);
  wish = sym (ap (λ (d : Core). d.wish) same);
}

module _ (n size start : ℕ) where
  -- the writer's part stays in all of them, and the payloads
  pub reader_stays : (before after : Lane) (xs : List Exchange)
      → IsReached n size start before.core
      → length before.payloads ≡ length before.core.frames
      → ReaderRun n size before xs after
      → Stays before.core after.core × (after.payloads ≡ before.payloads)
  reader_stays before after [] reached many same =
      (no_step before.core after.core (ap (λ (l : Lane). l.core) same), sym (ap (λ (l : Lane). l.payloads) same))
  reader_stays before after (x ∷ xs) reached many (event, more, core, step, run) =
      let kept = reached_kept n size start before.core reached in
      let stays = one_stays n size start before.core x.answer core kept step in
      let fit : length before.payloads ≡ length core.frames =
      many ∙ sym (ap (λ (l : List Frame). length l) stays.frames) in
      let left = all_left core.frames before.payloads fit in
      let (rest, payloads) = reader_stays (lane_behind before core) after xs
      (reached_further n size start before.core reads x.answer core reached step)
      (ap (λ (l : List (List ℕ)). length l) left ∙ fit) run in (
        record {
          frames = rest.frames ∙ stays.frames;
          history = rest.history ∙ stays.history;
          done = rest.done ∙ stays.done;
          opened = rest.opened ∙ stays.opened;
          wish = rest.wish ∙ stays.wish;
        },
        payloads ∙ left,
      )
