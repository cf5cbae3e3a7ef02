-- A record that is written at once: the private steps of its frame, and the look for the reader's wish after them.
use Rattle.std.proofs.Common.{◌≡◌, ℕ, ◌+◌, ◌<◌, ◌≤◌, List, [], ◌∷◌, length, refl, sym, ap, ◌∙◌, subst, arith}
use Rattle.trace_model.specs.Frames.{for_record, left}
use Rattle.trace_model.specs.Ring.{Core, page_at}
use Rattle.trace_model.specs.Steps as model
use Rattle.trace_model.specs.Steps.{contents_of}
use Rattle.trace_model.proofs.steps.StepSound.{cases_of}
use Rattle.ring_model.specs.Reached.{IsReached}
use Rattle.ring_model.specs.Seats.{IsPrivate}
use Rattle.ring_model.proofs.partition.RingsKept.{reached_further, reached_kept}
use Rattle.ring_model.proofs.seats.PrivateSteps.{private_state, private_result, changes_privately}
use Rattle.ring_model.proofs.seats.SeatPages.{private_leaves_other_pages}
use Rattle.nested_writer.specs.declared.frame.Frame as stack
use Rattle.nested_writer.specs.Stack.{Stack, next_number}
use Rattle.ring_frames.specs.declared.answer.Answer.TheVariants.{Gone}
use Rattle.ring_frames.specs.Value.{FramesValue, phase_of}
use Rattle.ring_frames.specs.Phases.{closing_phase}
use Rattle.ring_frames.specs.AreFrames.{frames_in_phases, AreFrames}
use Rattle.ring_frames.specs.AtOnce.{with_left_frame, IsWriteAtOnce, WritesAtOnce, IsWrittenAlone}
use Rattle.ring_frames.proofs.Staying.{gone_unasked}
use Rattle.ring_core.specs.Value.{CoreValue, frames_of, with_frames}
use Rattle.ring_core.specs.IsCore.{HasStateOf, IsCore}
use Rattle.ring_core.specs.Steps.{IsStep}
use Rattle.ring_core.specs.AtOnce.{IsWriteAlone, WritesAlone}
use Rattle.ring_core.proofs.Privately.{closed_is_other, shows_reframed, looked_for_wish}

-- ---- private steps, one after the other

-- In the second state only what is the writer's differs from the first: closed pages hold what they held.
record OnlyWritersChanged (n : ℕ) (c d : Core) : Type 0 where
  is : d ≡ private_state c d.frames d.history d.held
  holds : (f : ℕ)
      → c.head ≤ f
      → f < c.done
      → contents_of d (page_at n c.order f) ≡ contents_of c (page_at n c.order f)

one_step : (n size start : ℕ) (c : Core) (event : model.Event) (answer : model.Answer) (after : Core)
    → IsReached n size start c
    → IsPrivate c event
    → model.Step n size c event answer after
    → OnlyWritersChanged n c after
one_step n size start c event answer after reached own step =
    let kept = reached_kept n size start c reached in
    record {
      is = changes_privately c after (private_result n size c event answer after own (cases_of step));
      holds = λ f low high.
          private_leaves_other_pages n size start c event answer after kept own step (page_at n c.order f)
          (closed_is_other n size start c f kept low high);
    }

two_parts : (n : ℕ) (c d e : Core) → OnlyWritersChanged n c d → OnlyWritersChanged n d e → OnlyWritersChanged n c e
two_parts n c d e first second = record {
  is = second.is ∙ ap (λ (x : Core). private_state x e.frames e.history e.held) first.is;
  holds = λ f low high.
      let low_too : d.head ≤ f = subst (λ (x : Core). x.head ≤ f) (sym first.is) low in
      let high_too : f < d.done = subst (λ (x : Core). f < x.done) (sym first.is) high in
      let place : page_at n d.order f ≡ page_at n c.order f = ap (λ (x : Core). page_at n x.order f) first.is in
      subst (λ (page : ℕ). contents_of e page ≡ contents_of d page) place (second.holds f low_too high_too)
      ∙ first.holds f low high;
}

-- ---- three of them, one after the other

module _ (n size start : ℕ) (v : CoreValue) (frames : FramesValue) (c pushed reserved after : Core)
    (push reserve end : model.Event) (one two three : model.Answer) (core : IsCore n size start v c)
    (push_own : IsPrivate c push) (pushes : model.Step n size c push one pushed)
    (reserve_own : IsPrivate pushed reserve) (reserves : model.Step n size pushed reserve two reserved)
    (end_own : IsPrivate reserved end) (ends : model.Step n size reserved end three after)
    (are : AreFrames n size start frames after) where
  pushed_reached : IsReached n size start pushed
  pushed_reached = reached_further n size start c push one pushed core.reached pushes

  reserved_reached : IsReached n size start reserved
  reserved_reached = reached_further n size start pushed reserve two reserved pushed_reached reserves

  changed : OnlyWritersChanged n c after
  changed =
      two_parts n c reserved after
      (two_parts n c pushed reserved (one_step n size start c push one pushed core.reached push_own pushes)
      (one_step n size start pushed reserve two reserved pushed_reached reserve_own reserves))
      (one_step n size start reserved end three after reserved_reached end_own ends)

  -- the ring with the frames of the last state
  pub is_core_after : IsCore n size start (with_frames v frames) after
  is_core_after = record {
    reached = reached_further n size start reserved end three after reserved_reached ends;
    shows = subst (HasStateOf n size start (with_frames v frames)) (sym changed.is)
        (shows_reframed n size start v c frames after.frames after.history after.held core.shows
        (subst (AreFrames n size start frames) changed.is are)
        (λ f low high.
        subst (λ (d : Core). contents_of d (page_at n c.order f) ≡ contents_of c (page_at n c.order f)) changed.is
        (changed.holds f low high)));
  }

-- ---- the record

module _ (v : CoreValue) (new : FramesValue) (moment : ℕ) (payload : List ℕ) (unasked : v.wish ≤ v.stack.done)
    (wrote : WritesAtOnce (frames_of v) moment payload (with_left_frame new moment (length payload)))
    (alone : IsWrittenAlone (frames_of v) moment payload new) where
  abbrev frames : FramesValue
  frames = with_left_frame new moment (length payload)

  abbrev mid : CoreValue
  mid = with_frames v frames

  none : new.stack.frames ≡ []
  none = ap (λ (s : Stack). s.frames) alone.stack ∙ alone.none

  not_next : (v.wish ≡ new.stack.done + 1) → ⊥
  not_next next =
      let same : new.stack.done ≡ v.stack.done = ap (λ (s : Stack). s.done) alone.stack in
      absurd (omega (arith, next, same, unasked))

  module _ (n size start : ℕ) (c : Core) (core : IsCore n size start v c) where
    abbrev h : IsWriteAtOnce n size start c moment payload (next_number v.stack) frames
    h = wrote n size start c core.reached core.shows.frames

    mid_core : IsCore n size start mid h.after
    mid_core =
        is_core_after n size start v frames c h.pushed h.reserved h.after _ _ _ _ _ _ core h.push_private h.push
        h.reserve_private h.reserve h.end_private h.end h.are

    gone : IsStep n size start h.after model.steps Gone (with_frames v new)
    gone = looked_for_wish mid Gone new
        (gone_unasked new v.wish moment (length payload) none alone.closed not_next) n size start h.after mid_core

    written : IsWriteAlone n size start c moment payload (with_frames v new)
    written = record {
      none = core.shows.frames.frames_are
          ∙ ap (λ (fs : List stack.Frame). frames_in_phases fs (v.phase ∷ v.below)) alone.none;
      pushed = h.pushed;
      push = h.push;
      waits = h.waits;
      number = next_number v.stack;
      next = h.next;
      reserved = h.reserved;
      reserve = h.reserve;
      has_slot = h.has_slot;
      ended = h.after;
      end = h.end;
      bottom = record {
        kind = for_record moment (length payload);
        state = left;
        phase = phase_of (closing_phase new.stack);
      };
      stays = mid_core.shows.frames.frames_are;
      has_left = refl;
      after = gone.after;
      leave = subst (λ (a : model.Answer). model.Step n size h.after model.steps a gone.after) gone.reports gone.step;
      is_gone = gone.is_core.shows.frames.frames_are
          ∙ ap (λ (fs : List stack.Frame). frames_in_phases fs (new.phase ∷ new.below)) none;
      is_core = gone.is_core;
    }

pub written_alone : (v : CoreValue) (new : FramesValue) (moment : ℕ) (payload : List ℕ)
    → v.wish ≤ v.stack.done
    → WritesAtOnce (frames_of v) moment payload (with_left_frame new moment (length payload))
    → IsWrittenAlone (frames_of v) moment payload new
    → WritesAlone v moment payload (with_frames v new)
written_alone v new moment payload unasked wrote alone = written v new moment payload unasked wrote alone
