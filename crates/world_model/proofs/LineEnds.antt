-- A frame and a take that a line steps have an end: each step lowers a rank.
use Rattle.std.proofs.Common.{◌≡◌, ◌≢◌, ℕ, ◌+◌, ◌<◌, ◌≤◌, List, [], ◌∷◌, length, refl, sym, ap, ◌∙◌, subst, arith}
use Rattle.trace_model.specs.Words.{padded}
use Rattle.trace_model.specs.Frames.{Progress, waiting, reserved, left, number_of, Frame}
use Rattle.trace_model.specs.Ring.{Core}
use Rattle.trace_model.specs.Steps.{Event, reads, Answer, pushed, going, reserved_as, pending, full, gone, refused}
use Rattle.trace_model.specs.Steps.{reading, empty, moving, page_taken, wished_for, Step, Exchange}
use Rattle.ring_model.specs.Reached.{IsReached}
use Rattle.ring_model.specs.RingKept.{IsRingKept}
use Rattle.ring_model.specs.Ranks.{frame_rank, reader_rank}
use Rattle.ring_model.proofs.seats.FrameEnds.{steps_lower, ends_lower, frames_are_near}
use Rattle.ring_model.proofs.seats.TakeEnds.{takes_lower, takes_are_near}
use Rattle.ring_model.proofs.partition.RingsKept.{reached_kept}
use Rattle.world_model.specs.Lanes.{Lane, lane_behind, event_in, event_on_top, FrameRun, ReaderRun, HasTakeAnswer}
use Rattle.world_model.specs.LineEnds.{FrameRunsAreShort, ReaderRunsAreShort}
use Rattle.world_model.proofs.WorldsKept.{reached_on}

-- an answer that isn't another one is that the take goes on
still_reading : (answer : Answer) → ((answer ≢ reading) → ⊥) → answer ≡ reading
still_reading pushed not = absurd (not (λ e. cc))
still_reading going not = absurd (not (λ e. cc))
still_reading (reserved_as number) not = absurd (not (λ e. cc))
still_reading pending not = absurd (not (λ e. cc))
still_reading full not = absurd (not (λ e. cc))
still_reading gone not = absurd (not (λ e. cc))
still_reading (refused why) not = absurd (not (λ e. cc))
still_reading reading not = refl
still_reading (empty done) not = absurd (not (λ e. cc))
still_reading (moving fill) not = absurd (not (λ e. cc))
still_reading (page_taken t) not = absurd (not (λ e. cc))
still_reading (wished_for fill) not = absurd (not (λ e. cc))

module _ (n size start : ℕ) where
  -- ---- a frame

  own_lowers : (c : Core) (payloads : List (List ℕ)) (frame : Frame) (below : List Frame) (answer : Answer)
      (after : Core) → IsRingKept n size start c → c.frames ≡ frame ∷ below → (state : Progress)
      → frame.state ≡ state → Step n size c (event_in state payloads) answer after
      → length after.frames ≡ length c.frames → frame_rank n after < frame_rank n c
  own_lowers c payloads frame below answer after r top waiting is step stays =
      steps_lower n size start c frame below answer after r top (ap number_of is) step stays
  own_lowers c [] frame below answer after r top (reserved number) is step stays =
      ends_lower n size start c frame below number (padded []) answer after r top is step stays
  own_lowers c (payload ∷ payloads) frame below answer after r top (reserved number) is step stays =
      ends_lower n size start c frame below number (padded payload) answer after r top is step stays
  own_lowers c payloads frame below answer after r top left is step stays =
      steps_lower n size start c frame below answer after r top (ap number_of is) step stays

  top_lowers : (c : Core) (payloads : List (List ℕ)) (frames : List Frame) (answer : Answer) (after : Core)
      → IsRingKept n size start c → c.frames ≡ frames → 1 ≤ length frames
      → Step n size c (event_on_top frames payloads) answer after → length after.frames ≡ length c.frames
      → frame_rank n after < frame_rank n c
  top_lowers c payloads [] answer after r top some step stays = absurd (omega arith)
  top_lowers c payloads (frame ∷ below) answer after r top some step stays =
      own_lowers c payloads frame below answer after r top frame.state refl step stays

  still_stands : (depth : ℕ) (before after : Lane) (xs : List Exchange) → FrameRun n size depth before xs after
      → length after.core.frames ≡ depth → length before.core.frames ≡ depth
  still_stands depth before after [] run stands = ap (λ (l : Lane). length l.core.frames) run ∙ stands
  still_stands depth before after (x ∷ xs) run stands = run.0

  ranks_fall : (depth : ℕ) (before after : Lane) (xs : List Exchange) → 1 ≤ depth → IsReached n size start before.core
      → FrameRun n size depth before xs after → length after.core.frames ≡ depth
      → frame_rank n after.core + length xs ≤ frame_rank n before.core
  ranks_fall depth before after [] some reached run stands = let same = ap (λ (l : Lane). frame_rank n l.core) run in
      omega arith
  ranks_fall depth before after (x ∷ xs) some reached (here, event, core, step, run) stands =
      let own : Step n size before.core (event_on_top before.core.frames before.payloads) x.answer core =
      subst (λ (e : Event). Step n size before.core e x.answer core) event step in
      let there : length core.frames ≡ depth = still_stands depth (lane_behind before core) after xs run stands in
      let less =
      top_lowers before.core before.payloads before.core.frames x.answer core
      (reached_kept n size start before.core reached) refl (omega arith) own (there ∙ sym here) in
      let rest =
      ranks_fall depth (lane_behind before core) after xs some
      (reached_on n size start before.core core (x ∷ []) reached (core, step, refl)) run stands in
      omega arith

  -- ---- the reader

  takes_fall : (before after : Lane) (xs : List Exchange) → IsReached n size start before.core
      → ReaderRun n size before xs after → (HasTakeAnswer xs → ⊥)
      → reader_rank n after.core + length xs ≤ reader_rank n before.core
  takes_fall before after [] reached run goes = let same = ap (λ (l : Lane). reader_rank n l.core) run in omega arith
  takes_fall before after (x ∷ []) reached (event, more, core, step, run) goes =
      let on : x.answer ≡ reading = still_reading x.answer goes in
      let less =
      takes_lower n size start before.core core (reached_kept n size start before.core reached)
      (subst (λ (a : Answer). Step n size before.core reads a core) on step) in
      let same = ap (λ (l : Lane). reader_rank n l.core) run in
      omega arith
  takes_fall before after (x ∷ y ∷ xs) reached (event, more, core, step, run) goes =
      let on : x.answer ≡ reading = more (λ e. cc) in
      let less =
      takes_lower n size start before.core core (reached_kept n size start before.core reached)
      (subst (λ (a : Answer). Step n size before.core reads a core) on step) in
      let rest =
      takes_fall (lane_behind before core) after (y ∷ xs)
      (reached_on n size start before.core core (record { event = reads; answer = x.answer } ∷ []) reached
      (core, step, refl)) run goes in
      omega arith

pub frame_runs_short : FrameRunsAreShort
frame_runs_short n size start depth before after xs some reached run stands =
    let near = frames_are_near n size start before.core (reached_kept n size start before.core reached) in
    let fall = ranks_fall n size start depth before after xs some reached run stands in
    omega arith

pub reader_runs_short : ReaderRunsAreShort
reader_runs_short n size start before after xs reached run goes =
    let near = takes_are_near n size start before.core (reached_kept n size start before.core reached) in
    let fall = takes_fall n size start before after xs reached run goes in
    omega arith
