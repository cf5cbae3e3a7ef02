-- Private events of a writer lead from its part to the one that is computed.
use Rattle.std.proofs.Common.{◌≡◌, ℕ, List, [], ◌∷◌, refl, sym, ap, ◌∙◌, subst}
use Rattle.trace_model.specs.Frames.{Purpose, for_record, Progress, Frame}
use Rattle.trace_model.specs.Ring.{Core}
use Rattle.trace_model.specs.Steps as model
use Rattle.ring_model.specs.Reached.{IsReached}
use Rattle.ring_model.specs.RingLaws.{MayAsk}
use Rattle.ring_model.specs.Seats.{WriterStays, TopIsPrivate, IsPrivate}
use Rattle.ring_model.proofs.seats.PrivateAlike.{private_computed}
use Rattle.ring_model.proofs.partition.RingsKept.{reached_kept}
use Rattle.ring_model.proofs.steps.StepsGiven.{each_event_is_a_step}
use Rattle.ring_steps.specs.declared.rule.Shape.{Shape}
use Rattle.ring_steps.specs.Made.{WriterMade, writer_made_of}
use Rattle.ring_steps.specs.Views.{Writing, writing_of, writing_after}
use Rattle.ring_steps.specs.Seats.{Leads}
use Rattle.ring_steps.specs.Notes.{alone, part_of, part_after, FillsSlotOf, FillsTopSlot}

-- ---- the writer's part

part_is : (c d : Core) → WriterStays c d → writing_of [] c ≡ writing_of [] d
part_is c d same = λ i. record {
  made = [];
  frames = sym same.frames i;
  open_pages = sym same.open_pages i;
  history = sym same.history i;
  done = sym same.done i;
  opened = sym same.opened i;
}

stands_alone : (w : Writing) (made : List WriterMade) (c : Core) → writing_of made c ≡ w → WriterStays c (alone w)
stands_alone w made c is = record {
  frames = ap (λ (x : Writing). x.frames) (sym is);
  open_pages = ap (λ (x : Writing). x.open_pages) (sym is);
  history = ap (λ (x : Writing). x.history) (sym is);
  done = ap (λ (x : Writing). x.done) (sym is);
  opened = ap (λ (x : Writing). x.opened) (sym is);
}

-- after a private step it is the one that is computed
pub part_after_is : (shape : Shape) (w : Writing) (made : List WriterMade) (c : Core) (event : model.Event)
    (answer : model.Answer) (after : Core) → writing_of made c ≡ w → IsPrivate c event
    → model.Step shape.pages shape.size c event answer after
    → writing_after w.made record { event = event; answer = answer } (writing_of [] after) ≡ part_after shape w event
part_after_is shape w made c event answer after is own step =
    let (next, computed, same) =
    private_computed shape.pages shape.size c (alone w) event answer after (stands_alone w made c is) own step in
    ap (writing_after w.made record { event = event; answer = answer }) (part_is after next same)
    ∙ sym (ap (part_of w event) computed)

-- ---- what a note asks

-- in each state with this as the writer's part, the event is private and may be asked
abbrev pub MayNote : Shape → Writing → model.Event → Type 0
MayNote shape w event = (c : Core)
    → (reached : IsReached shape.pages shape.size shape.start c)
    → writing_of (writer_made_of reached) c ≡ w
    → IsPrivate c event
    × MayAsk c event

pub leads_after : (shape : Shape) (w : Writing) (event : model.Event) → MayNote shape w event
    → Leads shape w (part_after shape w event)
leads_after shape w event may = λ c reached is.
    let (own, ask) = may c reached is in
    let (answer, after, step) =
    each_event_is_a_step shape.pages shape.size shape.start c event
    (reached_kept shape.pages shape.size shape.start c reached) ask in (
      record { event = event; answer = answer } ∷ [],
      after,
      (own, after, step, refl),
      part_after_is shape w (writer_made_of reached) c event answer after is own step,
    )

pub push_leads : (shape : Shape) (w : Writing) (moment len : ℕ)
    → Leads shape w (part_after shape w (model.pushes moment len))
push_leads shape w moment len = leads_after shape w (model.pushes moment len) (λ c reached is. (tt, tt))

pub close_leads : (shape : Shape) (w : Writing) → Leads shape w (part_after shape w model.pushes_close)
close_leads shape w = leads_after shape w model.pushes_close (λ c reached is. (tt, tt))

pub step_leads : (shape : Shape) (w : Writing) → TopIsPrivate w.frames w.opened
    → Leads shape w (part_after shape w model.steps)
step_leads shape w own =
    leads_after shape w model.steps
    (λ c reached is. (subst (λ (x : Writing). TopIsPrivate x.frames x.opened) (sym is) own, tt))

-- what is asked of an end is asked of the frame on top
may_end : (c : Core) (payload : List ℕ) → FillsTopSlot c.frames payload → MayAsk c (model.ends payload)
may_end c payload fills frame below number moment len top reserved_is kind_is =
    let at : FillsSlotOf frame.kind frame.state payload =
    subst (λ (frames : List Frame). FillsTopSlot frames payload) top fills in
    subst (λ (state : Progress). FillsSlotOf (for_record moment len) state payload) reserved_is
    (subst (λ (kind : Purpose). FillsSlotOf kind frame.state payload) kind_is at)

pub end_leads : (shape : Shape) (w : Writing) (payload : List ℕ) → FillsTopSlot w.frames payload
    → Leads shape w (part_after shape w (model.ends payload))
end_leads shape w payload fills = leads_after shape w (model.ends payload)
    (λ c reached is. (tt, may_end c payload (subst (λ (x : Writing). FillsTopSlot x.frames payload) (sym is) fills)))
