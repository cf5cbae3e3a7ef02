-- The frame on top, stepped as far as it gets by itself: what one step more makes of what came before it.
use Rattle.std.specs.Prelude.{Option, Some, None, ◌⊎◌, ◌<◌}
use Rattle.std.proofs.Common.{◌≡◌, ◌≢◌, suc, List, ◌∷◌, length, refl, sym, ap, ◌∙◌, subst, inl, inr, arith}
use Rattle.trace_model.specs.Frames.{Purpose, Progress, number_of, Frame}
use Rattle.trace_model.specs.Frames as frames_model
use Rattle.trace_model.specs.Steps as model
use Rattle.ring_model.specs.FrameOutcomes.{IsReserving, IsLeaving, Reserving, reserves_on, has_reserved}
use Rattle.ring_model.specs.FrameOutcomes.{is_refused as refused_to, Leaving, leaves_on, is_gone as gone_from}
use Rattle.ring_model.proofs.partition.RingsKept.{reached_kept}
use Rattle.ring_model.proofs.frames.FrameOutcomes.{frames_reserve, frames_leave}
use Rattle.nested_writer.specs.declared.fault.WriteFault.{WriteFault}
use Rattle.ring_frames.specs.declared.answer.Answer.{Answer}
use Rattle.ring_frames.specs.declared.answer.Answer.TheVariants.{Going, Reserved, Gone, Refused}
use Rattle.ring_steps.specs.declared.rule.Shape.{Shape}
use Rattle.ring_steps.specs.Views.{Writing}
use Rattle.ring_shared.specs.Value.{WriterValue, SameWriter}
use Rattle.ring_shared.specs.Calls.{IsWriter, IsCall, MakesSome}
use Rattle.ring_shared.specs.Finishing.{MakesSteps, at_once, one_more, IsReservedOr, is_reserved, stays_refused}
use Rattle.ring_shared.specs.Finishing.{is_refused, Reserves, Leaves, is_gone, was_refused, met_behind, refusal_or_last}
use Rattle.ring_shared.specs.Finishing.{IsGoneOrRefused}
use Rattle.ring_frames.proofs.Reported.{IsRefusal, is_going, is_refusal, is_gone_reported, is_number}

-- a frame that hasn't reserved has no number
pub reserving_unnumbered : (kind : Purpose) (state : Progress) → IsReserving kind state → number_of state ≡ None
reserving_unnumbered kind Rattle.trace_model.specs.Frames.waiting is = refl
reserving_unnumbered kind (Rattle.trace_model.specs.Frames.reserved number) is = absurd is
reserving_unnumbered kind Rattle.trace_model.specs.Frames.left is = refl

pub leaving_unnumbered : (kind : Purpose) (state : Progress) → IsLeaving kind state → number_of state ≡ None
leaving_unnumbered kind Rattle.trace_model.specs.Frames.waiting is = refl
leaving_unnumbered kind (Rattle.trace_model.specs.Frames.reserved number) is = absurd is
leaving_unnumbered kind Rattle.trace_model.specs.Frames.left is = refl

-- ---- runs

module _ (shape : Shape) where
  -- one step before others
  first_goes : (before between after : Writing) → IsCall shape before model.steps Going between
      → MakesSteps shape between after → MakesSteps shape before after
  first_goes before between after call at_once = one_more before after at_once call
  first_goes before between after call (one_more last end goes more) =
      one_more last after (first_goes before between last call goes) more

  pub reserves_behind : (kind : Purpose) (below : List Frame) (before between after : Writing) (result : Answer)
      → IsCall shape before model.steps Going between → Reserves shape kind below between result after
      → Reserves shape kind below before result after
  reserves_behind kind below before between after result call r =
      record {
        between = r.between;
        goes = first_goes before between r.between call r.goes;
        last = r.last;
        ends = r.ends;
      }

  pub leaves_behind : (below : List Frame) (before between after : Writing) (answer : Answer)
      → IsCall shape before model.steps Going between → Leaves shape below between answer after
      → Leaves shape below before answer after
  leaves_behind below before between after answer call (is_gone from mid end last goes more at) =
      is_gone before mid after answer (first_goes before between mid call goes) more at
  leaves_behind below before between after answer call
      (was_refused from mid next end frame fault last goes more top leaves rest) =
      was_refused before mid next after frame fault last (first_goes before between mid call goes) more top leaves rest

  -- ---- one step

  module _ (before after : Writing) (result : Answer) (call : IsCall shape before model.steps result after) where
    frames_before : (frames : List Frame) → before.frames ≡ frames → call.core.frames ≡ frames
    frames_before frames is = ap (λ (w : Writing). w.frames) call.before_is ∙ is

    pub frames_after : (frames : List Frame) → call.next.frames ≡ frames → after.frames ≡ frames
    frames_after frames is = ap (λ (w : Writing). w.frames) (sym call.after_is) ∙ is

    pub reserving_step : (frame : Frame) (below : List Frame) → before.frames ≡ frame ∷ below
        → IsReserving frame.kind frame.state → Reserving frame below call.answer call.next.frames
    reserving_step frame below top is =
        frames_reserve shape.pages shape.size shape.start call.core frame below call.answer call.next
        (reached_kept shape.pages shape.size shape.start call.core call.reached) (frames_before (frame ∷ below) top) is
        call.step

    pub leaving_step : (frame : Frame) (below : List Frame) → before.frames ≡ frame ∷ below
        → IsLeaving frame.kind frame.state → Leaving below call.answer call.next.frames
    leaving_step frame below top is =
        frames_leave shape.pages shape.size shape.start call.core frame below call.answer call.next
        (reached_kept shape.pages shape.size shape.start call.core call.reached) (frames_before (frame ∷ below) top) is
        call.step

-- ---- during a call

-- Part of the steps to a record are made: it is still to be reserved, and what is made from here is made from the
-- first.
pub record IsStillReserving (shape : Shape) (kind : Purpose) (below : List Frame) (before now : Writing) : Type 0 where
  pub frame : Frame
  pub top : now.frames ≡ frame ∷ below
  pub kind_is : frame.kind ≡ kind
  pub reserves : IsReserving frame.kind frame.state
  pub ends : (answer : Answer) (after : Writing) → Reserves shape kind below now answer after
      → Reserves shape kind below before answer after

pub reserving_first : (shape : Shape) (frame : Frame) (below : List Frame) (before : Writing)
    → before.frames ≡ frame ∷ below → IsReserving frame.kind frame.state
    → IsStillReserving shape frame.kind below before before
reserving_first shape frame below before top is =
    record { frame = frame; top = top; kind_is = refl; reserves = is; ends = λ answer after r. r }

module _ (shape : Shape) (kind : Purpose) (below : List Frame) (before now next : Writing) (result : Answer)
    (a : IsStillReserving shape kind below before now) (call : IsCall shape now model.steps result next) where
  goes_with : Reserving a.frame below call.answer call.next.frames → result ≡ Going
      → IsStillReserving shape kind below before next
  goes_with (reserves_on frame answer_is top kind_is state_is) e = record {
    frame = frame;
    top = frames_after shape now next result call (frame ∷ below) top;
    kind_is = kind_is ∙ a.kind_is;
    reserves =
        subst (λ (k : Purpose). IsReserving k frame.state) (sym kind_is)
        (subst (IsReserving a.frame.kind) (sym state_is) a.reserves);
    ends =
        λ answer after r.
        a.ends answer after
        (reserves_behind shape kind below now next after answer
        (subst (λ (x : Answer). IsCall shape now model.steps x next) e call) r);
  }
  goes_with (has_reserved frame number answer_is top kind_is state_is) e =
      let (reported, is, at) = is_number shape.size result call.answer number call.reports answer_is in
      absurd (let both : Going ≡ Reserved reported = sym e ∙ is in cc)
  goes_with (refused_to why answer_is leaves) e =
      let (fault, is) = is_refusal shape.size result call.answer why call.reports answer_is in
      absurd (let both : Going ≡ Refused fault = sym e ∙ is in cc)

  -- it goes on
  pub reserving_on : result ≡ Going → IsStillReserving shape kind below before next
  reserving_on e = goes_with (reserving_step shape now next result call a.frame below a.top a.reserves) e

  pub reserving_stands : result ≡ Going → length next.frames ≡ length now.frames
  reserving_stands e = ap (length {A = Frame}) (reserving_on e).top ∙ ap (length {A = Frame}) (sym a.top)

  refused_how : (fault : WriteFault) → Leaving below call.answer call.next.frames
      → IsReservedOr kind below (Refused fault) next.frames
  refused_how fault (leaves_on frame answer_is top leaves) =
      stays_refused fault frame next.frames (frames_after shape now next result call (frame ∷ below) top) leaves
  refused_how fault (gone_from how top) =
      is_refused fault next.frames (frames_after shape now next result call below top)

  ends_with : Reserving a.frame below call.answer call.next.frames → result ≢ Going
      → IsReservedOr kind below result next.frames
  ends_with (reserves_on frame answer_is top kind_is state_is) ne =
      absurd (ne (is_going shape.size result call.answer call.reports answer_is))
  ends_with (has_reserved frame number answer_is top kind_is state_is) ne =
      let (reported, is, at) = is_number shape.size result call.answer number call.reports answer_is in
      subst (λ (x : Answer). IsReservedOr kind below x next.frames) (sym is)
      (is_reserved frame reported next.frames (frames_after shape now next result call (frame ∷ below) top)
      (kind_is ∙ a.kind_is) (state_is ∙ ap Rattle.trace_model.specs.Frames.reserved (sym at)))
  ends_with (refused_to why answer_is leaves) ne =
      let (fault, is) = is_refusal shape.size result call.answer why call.reports answer_is in
      subst (λ (x : Answer). IsReservedOr kind below x next.frames) (sym is) (refused_how fault leaves)

  -- it reaches its end
  pub reserving_ends : result ≢ Going → Reserves shape kind below before result next
  reserving_ends ne = a.ends result next record {
    between = now;
    goes = at_once;
    last = call;
    ends = ends_with (reserving_step shape now next result call a.frame below a.top a.reserves) ne;
  }

-- Part of the steps of a frame that leaves are made; it was refused before, or not.
pub record IsStillLeaving (shape : Shape) (below : List Frame) (before : Writing) (met : Option WriteFault)
    (now : Writing) : Type 0 where
  pub frame : Frame
  pub top : now.frames ≡ frame ∷ below
  pub leaves : IsLeaving frame.kind frame.state
  pub ends : (answer : Answer) (after : Writing) → Leaves shape below now answer after
      → Leaves shape below before (refusal_or_last met answer) after

pub leaving_first : (shape : Shape) (frame : Frame) (below : List Frame) (before : Writing)
    → before.frames ≡ frame ∷ below → IsLeaving frame.kind frame.state → IsStillLeaving shape below before None before
leaving_first shape frame below before top is =
    record { frame = frame; top = top; leaves = is; ends = λ answer after l. l }

met_going : (met : Option WriteFault) → met_behind met Going ≡ met
met_going None = refl
met_going (Some fault) = refl

reported_refused : (met : Option WriteFault) (fault : WriteFault) (last : Answer)
    → refusal_or_last met (Refused fault) ≡ refusal_or_last (met_behind met (Refused fault)) last
reported_refused None fault last = refl
reported_refused (Some first) fault last = refl

module _ (shape : Shape) (below : List Frame) (before : Writing) (met : Option WriteFault) (now next : Writing)
    (result : Answer) (a : IsStillLeaving shape below before met now) (call : IsCall shape now model.steps result next)
  where
    leaves_with : (frame : Frame) → next.frames ≡ frame ∷ below → IsLeaving frame.kind frame.state
        → (result ≡ Going) ⊎ IsRefusal result → IsStillLeaving shape below before (met_behind met result) next
    leaves_with frame top leaves (inl e) = record {
      frame = frame;
      top = top;
      leaves = leaves;
      ends = λ answer after l.
          subst (λ (m : Option WriteFault). Leaves shape below before (refusal_or_last m answer) after)
          (sym (ap (met_behind met) e ∙ met_going met))
          (a.ends answer after
          (leaves_behind shape below now next after answer
          (subst (λ (x : Answer). IsCall shape now model.steps x next) e call) l));
    }
    leaves_with frame top leaves (inr (fault, e)) = record {
      frame = frame;
      top = top;
      leaves = leaves;
      ends = λ answer after l.
          subst (λ (x : Answer). Leaves shape below before x after)
          (reported_refused met fault answer ∙ ap (λ (x : Answer). refusal_or_last (met_behind met x) answer) (sym e))
          (a.ends (Refused fault) after
          (was_refused now now next after frame fault answer at_once
          (subst (λ (x : Answer). IsCall shape now model.steps x next) e call) top leaves l));
    }

    answered : (call.answer ≡ model.going) ⊎ ((why : frames_model.WriteFault) × (call.answer ≡ model.refused why))
        → (result ≡ Going) ⊎ IsRefusal result
    answered (inl e) = inl (is_going shape.size result call.answer call.reports e)
    answered (inr (why, e)) = inr (is_refusal shape.size result call.answer why call.reports e)

    step : Leaving below call.answer call.next.frames
    step = leaving_step shape now next result call a.frame below a.top a.leaves

    wide : length now.frames ≡ suc (length below)
    wide = ap (length {A = Frame}) a.top

    leaves_more : Leaving below call.answer call.next.frames → (length next.frames < length now.frames → ⊥)
        → IsStillLeaving shape below before (met_behind met result) next
    leaves_more (leaves_on frame answer_is top leaves) stands =
        leaves_with frame (frames_after shape now next result call (frame ∷ below) top) leaves (answered answer_is)
    leaves_more (gone_from how top) stands =
        let short =
        ap (length {A = Frame}) (frames_after shape now next result call below top) in
        absurd (stands (let w = wide in omega arith))

    -- it stays
    pub leaving_on : (length next.frames < length now.frames → ⊥)
        → IsStillLeaving shape below before (met_behind met result) next
    leaving_on stands = leaves_more step stands

    pub leaving_stands : (length next.frames < length now.frames → ⊥) → length next.frames ≡ length now.frames
    leaving_stands stands = ap (length {A = Frame}) (leaving_on stands).top ∙ ap (length {A = Frame}) (sym a.top)

    gone_to : Leaving below call.answer call.next.frames → length next.frames < length now.frames → next.frames ≡ below
    gone_to (leaves_on frame answer_is top leaves) less =
        let same =
        ap (length {A = Frame}) (frames_after shape now next result call (frame ∷ below) top) in
        let w = wide in
        absurd (omega arith)
    gone_to (gone_from how top) less = frames_after shape now next result call below top

    -- it is gone
    pub leaving_ends : length next.frames < length now.frames
        → Leaves shape below before (refusal_or_last met result) next
    leaving_ends less = a.ends result next (is_gone now now next result at_once call (gone_to step less))

    gone_how : Leaving below call.answer call.next.frames → length next.frames < length now.frames
        → IsGoneOrRefused (refusal_or_last met result)
    unfolding IsWriter
    gone_how (leaves_on frame answer_is top leaves) less =
        let same =
        ap (length {A = Frame}) (frames_after shape now next result call (frame ∷ below) top) in
        let w = wide in
        absurd (omega arith)
    gone_how (gone_from how top) less = reported_how met result (how_reported how)
      where
        how_reported : (call.answer ≡ model.gone)
            ⊎ ((why : frames_model.WriteFault) × (call.answer ≡ model.refused why))
            → IsGoneOrRefused result
        how_reported (inl e) = inl (is_gone_reported shape.size result call.answer call.reports e)
        how_reported (inr (why, e)) = inr (is_refusal shape.size result call.answer why call.reports e)

        reported_how : (met : Option WriteFault) (last : Answer) → IsGoneOrRefused last
            → IsGoneOrRefused (refusal_or_last met last)
        reported_how None last how = how
        reported_how (Some fault) last how = inr (fault, refl)

    pub leaving_reported : length next.frames < length now.frames → IsGoneOrRefused (refusal_or_last met result)
    leaving_reported less = gone_how step less

    -- its step answers that it goes on, or that it is gone
    going_stays : Leaving below call.answer call.next.frames → result ≡ Going → length next.frames < length now.frames
        → ⊥
    going_stays (leaves_on frame answer_is top leaves) e less =
        let same =
        ap (length {A = Frame}) (frames_after shape now next result call (frame ∷ below) top) in
        let w = wide in
        omega arith
    going_stays (gone_from (inl g) top) e less =
        let reported =
        is_gone_reported shape.size result call.answer call.reports g in
        let both : Going ≡ Gone = sym e ∙ reported in
        cc
    going_stays (gone_from (inr (why, r)) top) e less =
        let (fault, reported) =
        is_refusal shape.size result call.answer why call.reports r in
        let both : Going ≡ Refused fault = sym e ∙ reported in
        cc

    pub leaving_going : result ≡ Going → IsStillLeaving shape below before met next
    leaving_going e =
        subst (λ (m : Option WriteFault). IsStillLeaving shape below before m next)
        (ap (met_behind met) e ∙ met_going met) (leaving_on (going_stays step e))

    gone_short : Leaving below call.answer call.next.frames → result ≡ Gone → length next.frames < length now.frames
    gone_short (leaves_on frame (inl g) top leaves) e =
        let reported =
        is_going shape.size result call.answer call.reports g in
        absurd (let both : Gone ≡ Going = sym e ∙ reported in cc)
    gone_short (leaves_on frame (inr (why, r)) top leaves) e =
        let (fault, reported) =
        is_refusal shape.size result call.answer why call.reports r in
        absurd (let both : Gone ≡ Refused fault = sym e ∙ reported in cc)
    gone_short (gone_from how top) e =
        let same =
        ap (length {A = Frame}) (frames_after shape now next result call below top) in
        let w = wide in
        omega arith

    pub leaving_gone : result ≡ Gone → Leaves shape below before (refusal_or_last met result) next
    leaving_gone e = leaving_ends (gone_short step e)

-- ---- of a writer's value

-- the step that was made is a call in the ring of this shape
pub call_in : (shape : Shape) (old new : WriterValue) (result : Answer) → old.shape ≡ shape
    → MakesSome old model.steps result new → IsCall shape old.part model.steps result new.part
unfolding IsWriter
call_in shape old new result same makes =
    subst (λ (s : Shape). IsCall s old.part model.steps result new.part) same makes.call

pub same_writer : (first old new : WriterValue) (result : Answer) → SameWriter first old
    → MakesSome old model.steps result new → SameWriter first new
unfolding IsWriter
same_writer first old new result same makes = (makes.shape_is ∙ same.0, makes.table_is ∙ same.1)
