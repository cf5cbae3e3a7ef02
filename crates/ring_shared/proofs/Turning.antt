-- The frame on top, which has a record to reserve, makes some steps of a page turn: one after the other.
use Rattle.std.proofs.Common.{◌≡◌, ◌<◌, List, refl, ◌∙◌, subst, arith}
use Rattle.trace_model.specs.Frames.{Purpose, Frame}
use Rattle.trace_model.specs.Steps as model
use Rattle.ring_frames.specs.declared.answer.Answer.{Answer}
use Rattle.ring_frames.specs.declared.answer.Answer.TheVariants.{Going, Gone}
use Rattle.ring_frames.specs.declared.phase.StepAnswer.{StepAnswer}
use Rattle.ring_frames.specs.declared.phase.StepAnswer.TheVariants as step_answer
use Rattle.ring_frames.specs.Answers.{KeepsPayloads}
use Rattle.ring_frames.specs.Phases.{as_answer}
use Rattle.ring_frames.proofs.Payloads.{same_stack, kept_then}
use Rattle.ring_steps.specs.declared.rule.Shape.{Shape}
use Rattle.ring_steps.specs.Views.{Writing}
use Rattle.ring_shared.specs.Value.{WriterValue, SameWriter}
use Rattle.ring_shared.specs.Calls.{IsWriter, AreWriterFields, IsCall, MakesSome}
use Rattle.ring_shared.specs.Nearer.{rank_of, IsNearer}
use Rattle.ring_shared.specs.Finishing.{MakesSteps, at_once, one_more, IsReservedOr, is_reserved, stays_refused}
use Rattle.ring_shared.specs.Finishing.{is_refused, Reserves}
use Rattle.ring_shared.specs.Turning.{IsReservingTop, TurnsOn}
use Rattle.ring_shared.proofs.Depths.{reserving_top}
use Rattle.ring_shared.proofs.Finishes.{IsStillReserving, reserving_first, reserving_on, reserving_stands}
use Rattle.ring_shared.proofs.Finishes.{reserving_ends, reserving_unnumbered}

-- ---- runs

module _ (shape : Shape) where
  pub goes_both : (before between after : Writing) → MakesSteps shape before between → MakesSteps shape between after
      → MakesSteps shape before after
  goes_both before between after goes at_once = goes
  goes_both before between after goes (one_more last end more call) =
      one_more last after (goes_both before between last goes more) call

  reserves_past : (kind : Purpose) (below : List Frame) (before between after : Writing) (result : Answer)
      → MakesSteps shape before between → Reserves shape kind below between result after
      → Reserves shape kind below before result after
  reserves_past kind below before between after result goes r =
      record {
        between = r.between;
        goes = goes_both before between r.between goes r.goes;
        last = r.last;
        ends = r.ends;
      }

-- ---- none, or one

pub turned_none : (v : WriterValue) → AreWriterFields v → IsReservingTop v.part.frames → TurnsOn v v
turned_none v w (frame, below, top, is) = record {
  ring = (refl, refl);
  writer = w;
  goes = at_once;
  stands = λ other others at. (other, at, refl, reserving_top v.part.frames frame other below others top is at);
  nearer = omega arith;
  payloads = same_stack v.frames.stack v.frames.stack refl;
}

-- a frame that has a record to reserve isn't gone by a step
never_gone : (kind : Purpose) (below : List Frame) (result : Answer) (after : List Frame)
    → IsReservedOr kind below result after → result ≡ Gone → ⊥
never_gone kind below _ after (is_reserved next number end top kind_is state_is) e = cc
never_gone kind below _ after (stays_refused fault next end top leaves) e = cc
never_gone kind below _ after (is_refused fault end top) e = cc

module _ (old new : WriterValue) (top : IsReservingTop old.part.frames) where
  goes_with : (result : StepAnswer) → IsCall old.shape old.part model.steps (as_answer result) new.part
      → as_answer result ≡ Going
  goes_with step_answer.Going call = refl
  goes_with step_answer.Gone call =
      let (frame, below, at, is) = top in
      let first = reserving_first old.shape frame below old.part at is in
      let r =
      reserving_ends old.shape frame.kind below old.part old.part new.part Gone first call
      (λ e. let both : Gone ≡ Going = e in cc) in
      absurd (never_gone frame.kind below Gone new.part.frames r.ends refl)

  pub turned_once : (result : StepAnswer) → MakesSome old model.steps (as_answer result) new → IsNearer old new
      → KeepsPayloads old.frames.stack new.frames.stack → TurnsOn old new
  unfolding IsWriter
  turned_once result makes nearer kept =
      let going = goes_with result makes.call in
      let (frame, below, at, is) = top in
      let first : IsStillReserving old.shape frame.kind below old.part old.part =
      reserving_first old.shape frame below old.part at is in
      let less : rank_of new < rank_of old =
      nearer frame below at (reserving_unnumbered frame.kind frame.state is)
      (reserving_stands old.shape frame.kind below old.part old.part new.part (as_answer result) first
      makes.call going) in
      record {
        ring = (makes.shape_is, makes.table_is);
        writer = makes.writer;
        goes =
            one_more old.part new.part at_once
            (subst (λ (x : Answer). IsCall old.shape old.part model.steps x new.part) going makes.call);
        stands = λ other others there.
            let a : IsStillReserving old.shape other.kind others old.part new.part =
            reserving_on old.shape other.kind others old.part old.part new.part (as_answer result)
            (reserving_first old.shape other others old.part there
            (reserving_top old.part.frames frame other below others at is there)) makes.call going in
            (a.frame, a.top, a.kind_is, a.reserves);
        nearer = omega arith;
        payloads = kept;
      }

-- ---- one after the other

pub turned_on : (old mid new : WriterValue) → TurnsOn old mid → TurnsOn mid new → TurnsOn old new
unfolding IsWriter
turned_on old mid new one two = record {
  ring = (two.ring.0 ∙ one.ring.0, two.ring.1 ∙ one.ring.1);
  writer = two.writer;
  goes =
      goes_both old.shape old.part mid.part new.part one.goes
      (subst (λ (s : Shape). MakesSteps s mid.part new.part) one.ring.0 two.goes);
  stands = λ frame below top.
      let (between, at, kind_is, is) = one.stands frame below top in
      let (next, there, same, still) = two.stands between below at in (next, there, same ∙ kind_is, still);
  nearer = let first = one.nearer in let second = two.nearer in omega arith;
  payloads = kept_then old.frames.stack mid.frames.stack new.frames.stack one.payloads two.payloads;
}

pub same_turned : (first old new : WriterValue) → SameWriter first old → TurnsOn old new → SameWriter first new
same_turned first old new same t = (t.ring.0 ∙ same.0, t.ring.1 ∙ same.1)

-- during the steps to a record
pub part_way_turned : (shape : Shape) (kind : Purpose) (below : List Frame) (before : Writing) (old new : WriterValue)
    → old.shape ≡ shape → IsStillReserving shape kind below before old.part → TurnsOn old new
    → IsStillReserving shape kind below before new.part
part_way_turned shape kind below before old new same a t =
    let (next, at, kind_is, is) = t.stands a.frame below a.top in
    record {
      frame = next;
      top = at;
      kind_is = kind_is ∙ a.kind_is;
      reserves = is;
      ends =
          λ answer after r.
          a.ends answer after
          (reserves_past shape kind below old.part new.part after answer
          (subst (λ (s : Shape). MakesSteps s old.part new.part) same t.goes) r);
    }
