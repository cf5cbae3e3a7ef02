-- A step brings the frame on top nearer to its end, whatever a reader does in between.
use Rattle.std.specs.Prelude.{◌<◌, ◌≤◌, ◌+◌}
use Rattle.std.proofs.Common.{◌≡◌, ◌≢◌, ℕ, List, [], ◌∷◌, length, sym, ap, ◌∙◌, subst}
use Rattle.trace_model.specs.Frames.{Phase, idle, looking, claiming, looking_next, marking, clearing, opening}
use Rattle.trace_model.specs.Frames.{releasing, wishing, Frame}
use Rattle.trace_model.specs.Ring.{Core}
use Rattle.trace_model.specs.Steps as model
use Rattle.ring_model.specs.Reached.{IsReached}
use Rattle.ring_model.specs.WriterRanks.{writer_rank}
use Rattle.ring_model.proofs.partition.RingsKept.{reached_kept}
use Rattle.ring_model.proofs.seats.WriterEnds.{writer_steps_lower}
use Rattle.ring_frames.specs.declared.answer.Answer.{Answer}
use Rattle.ring_steps.specs.declared.rule.Shape.{Shape}
use Rattle.ring_steps.specs.Made.{WriterMade}
use Rattle.ring_steps.specs.Views.{Writing, writing_of}
use Rattle.ring_steps.specs.Seats.{IsWriterStep}
use Rattle.ring_steps.specs.Paging.{IsTopIn}
use Rattle.ring_shared.specs.Value.{WriterValue}
use Rattle.ring_frames.specs.Value.{phase_of}
use Rattle.ring_shared.specs.Calls.{IsWriter, AreWriterFields, MakesSome}
use Rattle.ring_shared.proofs.Standing.{phase_shown}
use Rattle.ring_shared.specs.Nearer.{IsNearer}

-- ---- phases

-- one frame is on top, in one phase
one_phase : (frames : List Frame) (p q : Phase) → IsTopIn frames p → IsTopIn frames q → p ≡ q
one_phase [] p q a b = absurd a
one_phase (frame ∷ below) p q a b = sym a ∙ b

-- The frame neither looks whether the position of the next fill is free, nor claims the head for it.
abbrev pub IsQuiet : ℕ → Phase → Type 0
IsQuiet opened idle = Unit {0}
IsQuiet opened (looking noted) = noted ≢ opened
IsQuiet opened (claiming noted page) = noted ≢ opened
IsQuiet opened (looking_next role noted page) = Unit {0}
IsQuiet opened (marking role noted page next) = Unit {0}
IsQuiet opened (clearing noted page) = Unit {0}
IsQuiet opened (opening noted page) = Unit {0}
IsQuiet opened releasing = Unit {0}
IsQuiet opened wishing = Unit {0}

pub quiet_late : (opened : ℕ) (phase : Phase) (noted : ℕ)
    → Rattle.trace_model.specs.Frames.noted_fill phase ≡ Rattle.std.specs.Prelude.Some noted → noted ≢ opened
    → IsQuiet opened phase
quiet_late opened idle noted is late = tt
quiet_late opened (looking o) noted is late = λ e. late ((let same : noted ≡ o = cc in same) ∙ e)
quiet_late opened (claiming o page) noted is late = λ e. late ((let same : noted ≡ o = cc in same) ∙ e)
quiet_late opened (looking_next role o page) noted is late = tt
quiet_late opened (marking role o page next) noted is late = tt
quiet_late opened (clearing o page) noted is late = tt
quiet_late opened (opening o page) noted is late = tt
quiet_late opened releasing noted is late = tt
quiet_late opened wishing noted is late = tt

-- ---- ranks

abbrev rank_part : (n passed : ℕ) → Writing → ℕ
rank_part n passed w = writer_rank n passed w.done w.opened w.history w.frames

module _ (v new : WriterValue) (shape_is : new.shape ≡ v.shape) (knows : v.passed ≤ new.passed) where
  module _ {made made_next : List WriterMade} (core next : Core) (answer : model.Answer)
      (reached : IsReached v.shape.pages v.shape.size v.shape.start core) (before_is : writing_of made core ≡ v.part)
      (step : model.Step v.shape.pages v.shape.size core model.steps answer next)
      (after_is : writing_of made_next next ≡ new.part)
      (looks : (noted : ℕ) → IsTopIn v.part.frames (looking noted) → noted ≡ v.part.opened → v.passed ≤ core.head)
      (claims : (noted page : ℕ) → IsTopIn v.part.frames (claiming noted page) → noted ≡ v.part.opened
      → noted < new.passed + v.shape.pages) where
    opened_is : core.opened ≡ v.part.opened
    opened_is = ap (λ (w : Writing). w.opened) before_is

    nearer : IsNearer v new
    nearer frame below top unnumbered stands =
        let there : core.frames ≡ frame ∷ below = ap (λ (w : Writing). w.frames) before_is ∙ top in
        let still : length next.frames ≡ length core.frames =
        ap (λ (w : Writing). length w.frames) after_is ∙ stands
        ∙ sym (ap (λ (w : Writing). length w.frames) before_is) in
        let on_top : (phase : Phase) → frame.phase ≡ phase → IsTopIn v.part.frames phase =
        λ phase is. subst (λ (fs : List Frame). IsTopIn fs phase) (sym top) is in
        let lower : rank_part v.shape.pages new.passed (writing_of made_next next)
        < rank_part v.shape.pages v.passed (writing_of made core) =
        writer_steps_lower v.shape.pages v.shape.size v.shape.start core frame below answer next v.passed new.passed
        (reached_kept v.shape.pages v.shape.size v.shape.start core reached) there unnumbered step still knows
        (λ noted is now. looks noted (on_top (looking noted) is) (now ∙ opened_is))
        (λ noted page is now. claims noted page (on_top (claiming noted page) is) (now ∙ opened_is)) in
        subst (λ (s : Shape). rank_part s.pages new.passed new.part < rank_part v.shape.pages v.passed v.part)
        (sym shape_is)
        (subst (λ (w : Writing). rank_part v.shape.pages new.passed new.part < rank_part v.shape.pages v.passed w)
        before_is
        (subst
        (λ (w : Writing).
        rank_part v.shape.pages new.passed w < rank_part v.shape.pages v.passed (writing_of made core)) after_is
        lower))

  -- a step of a frame that is in neither of these two phases, or in one of them late
  nearer_quietly : (result : Answer) (phase : Phase) → MakesSome v model.steps result new → IsTopIn v.part.frames phase
      → IsQuiet v.part.opened phase → IsNearer v new
  unfolding IsWriter
  nearer_quietly result phase m top quiet =
      let in_phase : (other : Phase) → IsTopIn v.part.frames other → IsQuiet v.part.opened other =
      λ other at. subst (IsQuiet v.part.opened) (one_phase v.part.frames phase other top at) quiet in
      nearer m.call.core m.call.next m.call.answer m.call.reached m.call.before_is m.call.step m.call.after_is
      (λ noted at now. absurd (in_phase (looking noted) at now))
      (λ noted page at now. absurd (in_phase (claiming noted page) at now))

  -- a claim, after which the fill that is lost is known to be passed
  pub nearer_claiming : (result : Answer) (noted page : ℕ) → MakesSome v model.steps result new
      → IsTopIn v.part.frames (claiming noted page) → noted < new.passed + v.shape.pages → IsNearer v new
  unfolding IsWriter
  nearer_claiming result noted page m top low =
      nearer m.call.core m.call.next m.call.answer m.call.reached m.call.before_is m.call.step m.call.after_is
      (λ o at now.
      absurd (let same : claiming noted page ≡ looking o =
      one_phase v.part.frames (claiming noted page) (looking o) top at in
      cc))
      (λ o p at now.
      subst (λ (k : ℕ). k < new.passed + v.shape.pages)
      (let same : claiming noted page ≡ claiming o p =
      one_phase v.part.frames (claiming noted page) (claiming o p) top at in
      cc) low)

  -- a look at the link of a state in which all fills below that number are passed
  pub nearer_looking : (noted : ℕ) (sees : Core → Type 0) (answer : model.Answer)
      (s : IsWriterStep v.shape v.part sees answer new.part) → IsTopIn v.part.frames (looking noted)
      → v.passed ≤ s.core.head → IsNearer v new
  nearer_looking noted sees answer s top low =
      nearer s.core s.next answer s.reached s.before_is s.step s.after_is
      (λ o at now. low)
      (λ o p at now.
      absurd (let same : looking noted ≡ claiming o p =
      one_phase v.part.frames (looking noted) (claiming o p) top at in
      cc))

-- a call brings the frame nearer, if the writer's view is that one and its frame on top is in a quiet phase
pub stays_near : {v x new : WriterValue} {result : Answer} → v ≡ x → AreWriterFields x → x.frames.stack.frames ≢ []
    → (phase : Phase) → phase_of x.frames.phase ≡ phase → MakesSome x model.steps result new → v.passed ≤ new.passed
    → IsQuiet x.part.opened phase → IsNearer x new
unfolding IsWriter
stays_near {x = x} {new = new} {result = result} view_is w some phase at m knows quiet =
    nearer_quietly x new m.shape_is (subst (λ (y : WriterValue). y.passed ≤ new.passed) view_is knows) result phase m
    (phase_shown x w phase some at) quiet
