use Rattle.std.proofs.Common.{◌≡◌, ap, ◌∙◌, subst, refl, arith}
use Rattle.trace_model.specs.Frames.{opening}
use Rattle.trace_model.specs.Steps as model
use Rattle.ring_frames.specs.declared.phase.Phase.TheVariants.{Opening}
use Rattle.ring_frames.specs.Phases.{as_answer}
use Rattle.ring_shared.specs.Value.{WriterValue}
use Rattle.ring_shared.specs.Calls.{IsWriter, MakesSome}
use Rattle.ring_shared.specs.contracts.writer.Writer.{the_view}
use Rattle.ring_shared.proofs.Standing.{phase_shown}
use Rattle.ring_shared.proofs.Called.{writer_seen, top_seen, phase_seen}
use Rattle.ring_shared.proofs.Bounds.{opened_now, count_now, noted_bounds}
use Rattle.ring_shared.proofs.PageMoves.{opens_fill}
use Rattle.ring_frames.specs.Value.{phase_of}
use Rattle.ring_shared.proofs.Nearing.{stays_near}
use Rattle.ring_shared.proofs.writer.Writer.open_fill.Goals as goal

pub open_fill-body-requires-clause-phase : goal.open_fill-body-requires-clause-phase
unfolding IsWriter
open_fill-body-requires-clause-phase c =
    let v : WriterValue = the_view c.self.inside in
    let w : IsWriter v = writer_seen c.self.view_is c.requires.framed.writer in
    phase_shown v w (opening c.args.noted c.args.page) (top_seen c.self.view_is c.requires.framed.top)
    (phase_seen c.self.view_is c.requires.phase)

pub open_fill-body-requires-clause-next : goal.open_fill-body-requires-clause-next
unfolding IsWriter
open_fill-body-requires-clause-next c =
    let v : WriterValue = the_view c.self.inside in
    c.if-noted-opened.false ∙ c.opened.ensures.begun
    ∙ opened_now v (writer_seen c.self.view_is c.requires.framed.writer)

pub push_back_reserved-requires : goal.push_back_reserved-requires
unfolding IsWriter
push_back_reserved-requires c =
    let v : WriterValue = the_view c.self.inside in
    let w : IsWriter v = writer_seen c.self.view_is c.requires.framed.writer in
    let now : c.args.noted ≡ v.part.opened = c.if-noted-opened.false ∙ c.opened.ensures.begun ∙ opened_now v w in
    let (low, high, room, numbers) =
    noted_bounds v w (opening c.args.noted c.args.page) (top_seen c.self.view_is c.requires.framed.top)
    (phase_seen c.self.view_is c.requires.phase) c.args.noted refl in
    let count = count_now v w in let wide = c.self.inside.pages.ok.0 in let has_room = c.self.invariant in omega arith

pub open_fill-requires-clause-phase : goal.open_fill-requires-clause-phase
open_fill-requires-clause-phase c = (
  c.args.page,
  ap (λ (x : WriterValue). x.frames.phase) c.self.view_is ∙ c.requires.phase
      ∙ ap (λ noted. Opening noted c.args.page) (c.if-noted-opened.false ∙ c.opened.ensures.begun),
)

pub returns-clause-makes : goal.returns-clause-makes
unfolding IsWriter
returns-clause-makes c =
    let v : WriterValue = the_view c.self.inside in
    let w : IsWriter v = writer_seen c.self.view_is c.requires.framed.writer in
    let new : WriterValue =
    the_view
    record {
      seat = c.open_fill-body.new.self;
      frames = c.open_fill.new.self;
      pages = c.push_back_reserved.new.self;
    } in
    subst (λ (x : WriterValue). MakesSome x model.steps (as_answer c.open_fill.result) new) c.self.view_is
    (opens_fill v new w (top_seen c.self.view_is c.requires.framed.top) c.open_fill-body.ensures.same.shape
    c.open_fill-body.ensures.same.table _ c.args.noted c.args.page (as_answer c.open_fill.result)
    (phase_seen c.self.view_is c.requires.phase) (c.if-noted-opened.false ∙ c.opened.ensures.begun ∙ opened_now v w)
    c.open_fill.ensures.opens c.push_back_reserved.ensures.items c.open_fill-body.ensures.step)

pub returns-clause-nearer : goal.returns-clause-nearer
unfolding IsWriter
returns-clause-nearer c =
    stays_near c.self.view_is c.requires.framed.writer c.requires.framed.top (opening c.args.noted c.args.page)
    (ap phase_of c.requires.phase) (returns-clause-makes c) c.open_fill-body.ensures.same.knows tt
