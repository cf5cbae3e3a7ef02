-- How long the payloads are that the frames were pushed for, after each event of the writers.
use Rattle.std.proofs.Common.{◌≡◌, ℕ, List, ◌∷◌, Some, None}
use Rattle.trace_model.specs.Steps as model
use Rattle.nested_writer.specs.declared.fault.WriteFault.{WriteFault}
use Rattle.nested_writer.specs.declared.stack.leave.Ended.TheVariants.{Pending}
use Rattle.ring_frames.specs.declared.answer.Answer.{Answer}
use Rattle.ring_frames.specs.declared.answer.Answer.TheVariants.{Pushed, Ended, Refused}
use Rattle.ring_frames.specs.Lens.{lens, IsOneMore, KeepsLens}
use Rattle.ring_frames.proofs.Refused.{IsPushOrEnd}
use Rattle.ring_frames.proofs.PushedKinds as frames
use Rattle.ring_core.specs.Value.{CoreValue, frames_of}
use Rattle.ring_core.specs.Answers.{PushesLens, EndsLens}
use Rattle.ring_core.specs.Steps.{MakesStep, IsSomeCore}

module _ (old new : CoreValue) (result : Answer) (some : IsSomeCore old) where
  pub keeps_lens : MakesStep old model.steps result new → KeepsLens result old.stack new.stack
  keeps_lens makes =
      let (n, size, start, c, core) = some in
      let s = makes n size start c core in
      frames.keeps_lens n size start (frames_of old) (frames_of new) c s.after core.shows.frames s.is_core.shows.frames
      result s.answer s.reports s.step

  pushed_lens : (moment len : ℕ) → MakesStep old (model.pushes moment len) result new → result ≡ Pushed
      → lens new.stack ≡ Some len ∷ lens old.stack
  pushed_lens moment len makes =
      let (n, size, start, c, core) = some in
      let s = makes n size start c core in
      frames.pushes_lens n size start (frames_of old) (frames_of new) c s.after core.shows.frames s.is_core.shows.frames
      result s.answer s.reports moment len s.step

  pushed_none : MakesStep old model.pushes_close result new → result ≡ Pushed → lens new.stack ≡ None ∷ lens old.stack
  pushed_none makes =
      let (n, size, start, c, core) = some in
      let s = makes n size start c core in
      frames.pushes_none n size start (frames_of old) (frames_of new) c s.after core.shows.frames s.is_core.shows.frames
      result s.answer s.reports s.step

  pending_lens : (payload : List ℕ) → MakesStep old (model.ends payload) result new → result ≡ Ended Pending
      → IsOneMore (lens old.stack) (lens new.stack)
  pending_lens payload makes =
      let (n, size, start, c, core) = some in
      let s = makes n size start c core in
      frames.ends_lens n size start (frames_of old) (frames_of new) c s.after core.shows.frames s.is_core.shows.frames
      result s.answer s.reports payload s.step

  -- what is refused
  refused_lens : (event : model.Event) → IsPushOrEnd event → MakesStep old event result new → (fault : WriteFault)
      → result ≡ Refused fault → lens new.stack ≡ lens old.stack
  refused_lens event may makes =
      let (n, size, start, c, core) = some in
      let s = makes n size start c core in
      frames.refused_lens n size start (frames_of old) (frames_of new) c s.after core.shows.frames
      s.is_core.shows.frames result s.answer s.reports event may s.step

  pub pushes_lens : (moment len : ℕ) → MakesStep old (model.pushes moment len) result new
      → PushesLens (Some len) result old.stack new.stack
  pushes_lens moment len makes = record {
    pushed = pushed_lens moment len makes;
    refused = refused_lens (model.pushes moment len) tt makes;
  }

  pub pushes_none : MakesStep old model.pushes_close result new → PushesLens None result old.stack new.stack
  pushes_none makes = record {
    pushed = pushed_none makes;
    refused = refused_lens model.pushes_close tt makes;
  }

  pub ends_lens : (payload : List ℕ) → MakesStep old (model.ends payload) result new
      → EndsLens result old.stack new.stack
  ends_lens payload makes = record {
    pending = pending_lens payload makes;
    refused = refused_lens (model.ends payload) tt makes;
  }
