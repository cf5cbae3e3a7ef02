-- The tail page of a writer at rest, by the writer's part.
use Rattle.std.proofs.Common.{ℕ, ◌+◌, ◌^◌, ◌<◌, List, sym, ap, subst, arith}
use Rattle.trace_model.specs.History.{HistoryEvent}
use Rattle.trace_model.specs.Ring.{fill_of}
use Rattle.ring_model.proofs.contents.RecordCounts.{numbers_fit}
use Rattle.ring_model.proofs.partition.RingsKept.{reached_kept}
use Rattle.page_image.specs.Contents.{Contents}
use Rattle.nested_writer.specs.IsStack.{IsStack}
use Rattle.nested_writer.specs.Released.{IsRestingTail}
use Rattle.ring_steps.specs.Views.{Writing}
use Rattle.ring_shared.specs.Value.{WriterValue}
use Rattle.ring_shared.specs.Calls.{AreWriterFields}
use Rattle.ring_shared.proofs.Settles.{done_there}

-- what is known of the page by the frames alone
abbrev pub RestsByFrames : WriterValue → Contents → Type 0
RestsByFrames v page =
    (start : ℕ) (history : List HistoryEvent) → IsStack start history v.frames.stack
    → IsRestingTail v.frames.stack.size v.frames.stack.done (fill_of history start v.frames.stack.done) history page

module _ (w : WriterValue) (page : Contents) (writer : AreWriterFields w) (rests : RestsByFrames w page) where
  by_core : IsRestingTail w.frames.stack.size w.frames.stack.done
      (fill_of writer.core.history w.shape.start w.frames.stack.done) writer.core.history page
  by_core = rests w.shape.start writer.core.history writer.frames_are.stack_is

  pub rests_there : IsRestingTail w.shape.size w.part.done (fill_of w.part.history w.shape.start w.part.done)
      w.part.history page
  rests_there =
      subst
      (λ (h : List HistoryEvent).
      IsRestingTail w.shape.size w.part.done (fill_of h w.shape.start w.part.done) h page)
      (ap (λ (p : Writing). p.history) writer.part_is)
      (subst
      (λ (done : ℕ).
      IsRestingTail w.shape.size done (fill_of writer.core.history w.shape.start done) writer.core.history page)
      (sym (done_there w writer))
      (subst
      (λ (size : ℕ).
      IsRestingTail size w.frames.stack.done (fill_of writer.core.history w.shape.start w.frames.stack.done)
      writer.core.history page) writer.frames_are.size_is by_core))

  pub numbers_there : page.first + page.count < 2 ^ 64
  numbers_there =
      let large = by_core.limit in
      let same = writer.frames_are.size_is in
      let few =
      numbers_fit w.shape.pages w.shape.size w.shape.start writer.core
      (reached_kept w.shape.pages w.shape.size w.shape.start writer.core writer.reached) (omega arith) in
      let last = by_core.last in omega arith
