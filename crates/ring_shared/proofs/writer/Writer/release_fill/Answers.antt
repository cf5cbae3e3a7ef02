use Rattle.std.proofs.Common.{List, ℕ, drop, slice_index_or, sym, ap, ◌∙◌, subst, arith}
use Rattle.std.specs.Option.{IsSome}
use Rattle.trace_model.specs.Frames.{releasing}
use Rattle.trace_model.specs.Steps as model
use Rattle.ring_frames.specs.declared.answer.Answer.TheVariants.{Going}
use Rattle.ring_shared.specs.Value.{WriterValue}
use Rattle.ring_shared.specs.Calls.{IsWriter, MakesSome}
use Rattle.ring_shared.specs.contracts.writer.Writer.{the_view}
use Rattle.ring_shared.proofs.Standing.{phase_shown}
use Rattle.ring_shared.proofs.Called.{writer_seen, top_seen, phase_seen}
use Rattle.ring_shared.proofs.Bounds.{some_open}
use Rattle.ring_shared.proofs.PageMoves.{closes_fill, is_written}
use Rattle.ring_frames.specs.Value.{phase_of}
use Rattle.ring_shared.proofs.Nearing.{stays_near}
use Rattle.ring_shared.proofs.writer.Writer.release_fill.Goals as goal

pub release_fill-requires-clause-phase : goal.release_fill-requires-clause-phase
unfolding IsWriter
release_fill-requires-clause-phase c =
    let v : WriterValue = the_view c.self.inside in
    phase_shown v (writer_seen c.self.view_is c.requires.framed.writer) releasing
    (top_seen c.self.view_is c.requires.framed.top)
    (phase_seen c.self.view_is c.requires.phase)

pub release_fill-requires-clause-oldest : goal.release_fill-requires-clause-oldest
unfolding IsWriter
release_fill-requires-clause-oldest c =
    let v : WriterValue = the_view c.self.inside in
    let w : IsWriter v = writer_seen c.self.view_is c.requires.framed.writer in
    sym (ap (λ (pages : List ℕ). slice_index_or pages 0 0) (w.pages_are ∙ c.in-Some.ensures.items))

pub release_fill-requires-clause-written : goal.release_fill-requires-clause-written
unfolding IsWriter
release_fill-requires-clause-written c =
    let v : WriterValue = the_view c.self.inside in
    is_written v (writer_seen c.self.view_is c.requires.framed.writer) c.release_fill-page.result
    c.release_fill-page.new.self c.release_fill-page.ensures.releases

pub unreachable-requires : goal.unreachable-requires
unfolding IsWriter
unreachable-requires c =
    let some = some_open (the_view c.self.inside) (writer_seen c.self.view_is c.requires.framed.writer) in
    let wide = c.self.inside.pages.ok.0 in
    let there = subst IsSome c.in-None.is (c.pop_front.ensures.variant.1 (omega arith)) in cc

pub returns-clause-makes : goal.returns-clause-makes
unfolding IsWriter
returns-clause-makes c =
    let v : WriterValue = the_view c.self.inside in
    let w : IsWriter v = writer_seen c.self.view_is c.requires.framed.writer in
    let new : WriterValue =
    the_view
    record {
      seat = c.release_fill.new.self;
      frames = c.release_fill-page.new.self;
      pages = c.pop_front.new.self;
    } in
    subst (λ (x : WriterValue). MakesSome x model.steps Going new) c.self.view_is
    (closes_fill v new w (top_seen c.self.view_is c.requires.framed.top) c.release_fill.ensures.same.shape
    c.release_fill.ensures.same.table _ c.release_fill-page.result c.release_fill-page.ensures.releases
    (sym (ap (drop 1) c.in-Some.ensures.items)) c.release_fill.ensures.step)

pub returns-clause-nearer : goal.returns-clause-nearer
unfolding IsWriter
returns-clause-nearer c =
    stays_near c.self.view_is c.requires.framed.writer c.requires.framed.top (releasing) (ap phase_of c.requires.phase)
    (returns-clause-makes c) c.release_fill.ensures.same.knows tt
