use Rattle.std.proofs.Common.{ℕ, ◌-◌, List, slice_index_or, refl, sym, ap, ◌∙◌, arith}
use Rattle.std.proofs.lemmas.List.{get_or_read_under}
use Rattle.trace_model.specs.Frames.{clearing}
use Rattle.trace_model.specs.Steps as model
use Rattle.ring_frames.specs.declared.phase.Phase.TheVariants.{Opening}
use Rattle.ring_frames.specs.Value.{phase_of}
use Rattle.ring_frames.specs.Phases.{as_answer}
use Rattle.ring_shared.specs.Value.{WriterValue}
use Rattle.ring_shared.specs.Calls.{IsWriter}
use Rattle.ring_shared.specs.contracts.writer.Writer.{the_view}
use Rattle.ring_shared.proofs.Standing.{phase_shown}
use Rattle.ring_shared.proofs.Called.{writer_seen, top_seen, phase_seen}
use Rattle.ring_shared.proofs.Bounds.{done_now, count_now, noted_bounds}
use Rattle.ring_shared.proofs.GoingOn.{goes_on_called}
use Rattle.ring_steps.proofs.LinkMoves.{cleared}
use Rattle.ring_shared.proofs.Nearing.{stays_near}
use Rattle.ring_shared.proofs.writer.Writer.clear_update.Goals as goal

pub overflow_sub-noted : goal.overflow_sub-noted
unfolding IsWriter
overflow_sub-noted c =
    let v : WriterValue = the_view c.self.inside in
    let (low, high, room, numbers) =
    noted_bounds v (writer_seen c.self.view_is c.requires.framed.writer) (clearing c.args.noted c.args.page)
    (top_seen c.self.view_is c.requires.framed.top)
    (phase_seen c.self.view_is c.requires.phase) c.args.noted refl in omega arith

pub overflow_sub-noted-2 : goal.overflow_sub-noted-2
unfolding IsWriter
overflow_sub-noted-2 c =
    let v : WriterValue = the_view c.self.inside in
    let w : IsWriter v = writer_seen c.self.view_is c.requires.framed.writer in
    let (low, high, room, numbers) = noted_bounds v w (clearing c.args.noted c.args.page)
    (top_seen c.self.view_is c.requires.framed.top)
    (phase_seen c.self.view_is c.requires.phase) c.args.noted refl in
    let done = c.done.ensures ∙ done_now v w in omega arith

pub index-front-requires : goal.index-front-requires
unfolding IsWriter
index-front-requires c =
    let v : WriterValue = the_view c.self.inside in
    let w : IsWriter v = writer_seen c.self.view_is c.requires.framed.writer in
    let (low, high, room, numbers) = noted_bounds v w (clearing c.args.noted c.args.page)
    (top_seen c.self.view_is c.requires.framed.top)
    (phase_seen c.self.view_is c.requires.phase) c.args.noted refl in
    let done = c.done.ensures ∙ done_now v w in
    let count = count_now v w in
    let wide = c.self.inside.pages.ok.0 in
    omega arith

pub clear_update-cleared-requires-clause-phase : goal.clear_update-cleared-requires-clause-phase
unfolding IsWriter
clear_update-cleared-requires-clause-phase c =
    let v : WriterValue = the_view c.self.inside in
    phase_shown v (writer_seen c.self.view_is c.requires.framed.writer) (clearing c.args.noted c.args.page)
    (top_seen c.self.view_is c.requires.framed.top)
    (phase_seen c.self.view_is c.requires.phase)

pub clear_update-cleared-requires-clause-front : goal.clear_update-cleared-requires-clause-front
unfolding IsWriter
clear_update-cleared-requires-clause-front c =
    let v : WriterValue = the_view c.self.inside in
    let w : IsWriter v = writer_seen c.self.view_is c.requires.framed.writer in
    let (low, high, room, numbers) = noted_bounds v w (clearing c.args.noted c.args.page)
    (top_seen c.self.view_is c.requires.framed.top)
    (phase_seen c.self.view_is c.requires.phase) c.args.noted refl in
    let done = c.done.ensures ∙ done_now v w in let count = count_now v w in
    get_or_read_under v.pages (c.args.noted - 1 - c.done.result) _ c.index-front.result.now 0 c.index-front.ensures
    (omega arith) refl
    ∙ (ap (λ (pages : List ℕ). slice_index_or pages (c.args.noted - 1 - c.done.result) 0) (sym w.pages_are)
    ∙ ap (λ (d : ℕ). slice_index_or v.part.open_pages (c.args.noted - 1 - d) 0) done)

pub returns-clause-makes : goal.returns-clause-makes
unfolding IsWriter
returns-clause-makes c =
    let v : WriterValue = the_view c.self.inside in
    let s = c.clear_update-cleared.ensures.step in
    goes_on_called c.self.view_is c.requires.framed.writer c.requires.framed.top c.requires.phase c.args.noted
    (Opening c.args.noted c.args.page) (Opening c.args.noted c.args.page) _ refl refl refl
    c.clear_update-cleared.ensures.same.shape c.clear_update-cleared.ensures.same.table refl c.go_on.ensures.goes_on
    (ap as_answer c.go_on.ensures.answer) s
    (λ frame below step. cleared v.shape.pages s.core frame below model.going s.next c.args.noted c.args.page step)

pub returns-clause-nearer : goal.returns-clause-nearer
unfolding IsWriter
returns-clause-nearer c =
    stays_near c.self.view_is c.requires.framed.writer c.requires.framed.top (clearing c.args.noted c.args.page)
    (ap phase_of c.requires.phase) (returns-clause-makes c) c.clear_update-cleared.ensures.same.knows tt
