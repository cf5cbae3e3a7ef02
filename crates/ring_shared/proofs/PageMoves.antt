-- What the steps make of the writer's fields by which pages come and go, and by which the reader's wish is looked for.
use Rattle.std.proofs.Common.{◌≡◌, ◌≢◌, ℕ, List, [], ◌∷◌, ◌++◌, drop, refl, sym, ap, ◌∙◌, subst}
use Rattle.trace_model.specs.Frames.{Purpose, for_record, for_close, Progress, waiting, reserved, left, opening, Frame}
use Rattle.trace_model.specs.Ring.{Core, PageRecords, fill_of}
use Rattle.trace_model.specs.Steps as model
use Rattle.trace_model.proofs.steps.StepCases as cases
use Rattle.ring_model.proofs.steps.StepsDetermined.{steps_are_determined}
use Rattle.page_image.specs.Contents.{Contents}
use Rattle.nested_writer.specs.Released.{IsWrittenPage}
use Rattle.ring_steps.specs.Views.{Writing}
use Rattle.ring_steps.specs.Seats.{IsWriterStep}
use Rattle.ring_steps.specs.Paging.{begun_answer}
use Rattle.ring_frames.specs.declared.answer.Answer.{Answer}
use Rattle.ring_frames.specs.declared.answer.Answer.TheVariants.{Going}
use Rattle.ring_frames.specs.Value.{FramesValue, phase_of}
use Rattle.ring_frames.specs.Answers.{IsAnswerOf}
use Rattle.ring_frames.specs.Fills.{OpensFill, Releases, released_in, LooksForWish, with_frames_and_history}
use Rattle.ring_shared.specs.Value.{WriterValue}
use Rattle.ring_shared.specs.Calls.{IsWriter, AreWriterFields, MakesSome}
use Rattle.ring_model.proofs.frames.TopSteps.{top_stepped}
use Rattle.ring_shared.proofs.Called.{writer_seen, top_seen}
use Rattle.ring_shared.proofs.Standing.{FramesIn, kept_now, frames_in, top_in, made}

-- a frame that begins again keeps the writer's pages
begun_pages : (kind : Purpose) (state : Progress) (c : Core) (frame : Frame) (below : List Frame)
    → (model.after_begin kind state c frame below).open_pages ≡ c.open_pages
begun_pages (for_record moment len) waiting c frame below = refl
begun_pages for_close waiting c frame below = refl
begun_pages kind (reserved number) c frame below = refl
begun_pages kind left c frame below = refl

module _ (v new : WriterValue) (w : AreWriterFields v) (some : v.frames.stack.frames ≢ [])
    (shape_is : new.shape ≡ v.shape) (table_is : new.table ≡ v.table) (sees : Core → Type 0) where
  module _ (answer : model.Answer) (s : IsWriterStep v.shape v.part sees answer new.part) where
    pages_before : s.core.open_pages ≡ v.pages
    pages_before = ap (λ (p : Writing). p.open_pages) s.before_is ∙ w.pages_are

  -- ---- a fill is begun

  pub opens_fill : (noted page : ℕ) (result : Answer)
      → phase_of v.frames.phase ≡ opening noted page
      → noted ≡ v.part.opened
      → OpensFill v.frames result new.frames
      → new.pages ≡ v.pages ++ page ∷ []
      → IsWriterStep v.shape v.part sees (begun_answer v.part.frames) new.part
      → MakesSome v model.steps result new
  unfolding IsWriter
  opens_fill noted page result at now opens pages_is s =
      let answer = begun_answer v.part.frames in
      let t = top_in v w s.core s.before_is some in
      let begun : begun_answer v.part.frames ≡ model.begin_answer t.frame.kind t.frame.state t.below =
      ap begun_answer (ap (λ (p : Writing). p.frames) (sym s.before_is) ∙ t.is_top) in
      let here : noted ≡ s.core.opened = now ∙ ap (λ (p : Writing). p.opened) (sym s.before_is) in
      let step =
      top_stepped v.shape.pages v.shape.size s.core t.frame t.below (opening noted page) answer s.next t.is_top
      (t.phase_is ∙ at) s.step in
      let after_is : s.next
      ≡ model.after_begin t.frame.kind t.frame.state (model.with_new_tail s.core page) t.frame t.below =
      opened t.frame t.below here step in
      let (reports, are) =
      opens v.shape.pages v.shape.size v.shape.start page s.core t.frame t.below (frames_in v w s.core s.before_is)
      t.is_top in
      made v w new sees answer result shape_is table_is s (subst (IsAnswerOf v.shape.size result) (sym begun) reports)
      (subst (FramesIn v.shape new.frames) (sym after_is) are)
      (ap (λ (c : Core). c.open_pages) after_is
      ∙ begun_pages t.frame.kind t.frame.state (model.with_new_tail s.core page) t.frame t.below
      ∙ ap (λ (pages : List ℕ). pages ++ page ∷ []) (pages_before answer s) ∙ sym pages_is)
    where
      opened : {c after : Core} {answer : model.Answer} (frame : Frame) (below : List Frame) → noted ≡ c.opened
          → cases.OpenFillStep v.shape.pages c frame below noted page answer after
          → after ≡ model.after_begin frame.kind frame.state (model.with_new_tail c page) frame below
      opened frame below here (cases.open_late late) = absurd (late.passed here)
      opened frame below here (cases.opens x a is) = is

  -- ---- a fill is closed

  pub closes_fill : (page : Contents)
      → Releases v.frames page new.frames
      → new.pages ≡ drop 1 v.pages
      → IsWriterStep v.shape v.part sees model.going new.part
      → MakesSome v model.steps Going new
  unfolding IsWriter
  closes_fill page releases pages_is s =
      let r = releases v.shape.pages v.shape.size v.shape.start s.core s.reached (frames_in v w s.core s.before_is) in
      let (same, after_is) =
      steps_are_determined v.shape.pages v.shape.size s.core model.steps model.going model.going s.next
      (released_in s.core r.frame) s.step r.step in
      made v w new sees model.going Going shape_is table_is s refl
      (subst (FramesIn v.shape new.frames) (sym after_is) r.are)
      (ap (λ (c : Core). c.open_pages) after_is ∙ ap (drop 1) (pages_before model.going s) ∙ sym pages_is)

  -- ---- the reader's wish

  pub looks_for_wish : (wish : ℕ) (result : Answer) (answer : model.Answer)
      → LooksForWish v.frames wish result new.frames
      → new.pages ≡ v.pages
      → (s : IsWriterStep v.shape v.part sees answer new.part)
      → (sees s.core → s.core.wish ≡ wish)
      → MakesSome v model.steps result new
  unfolding IsWriter
  looks_for_wish wish result answer looks pages_is s is_wish =
      let l =
      looks v.shape.pages v.shape.size v.shape.start s.core s.reached (frames_in v w s.core s.before_is)
      (is_wish s.seen) in
      let (same, after_is) =
      steps_are_determined v.shape.pages v.shape.size s.core model.steps answer l.answer s.next
      (with_frames_and_history s.core l.frames l.history) s.step l.step in
      made v w new sees answer result shape_is table_is s (subst (IsAnswerOf v.shape.size result) (sym same) l.reports)
      (subst (FramesIn v.shape new.frames) (sym after_is) l.are)
      (ap (λ (c : Core). c.open_pages) after_is ∙ (pages_before answer s ∙ sym pages_is))

-- the page that is let go holds what the fill holds
pub is_written : (v : WriterValue) (w : AreWriterFields v) (page : Contents) (new : FramesValue)
    → Releases v.frames page new
    → IsWrittenPage v.shape.size v.part.done (fill_of v.part.history v.shape.start v.part.done) page
is_written v w page new releases =
    let c = w.core in let k = kept_now v w in
    let low = k.links.head_le in let high = k.links.done_lt in
    let r = releases v.shape.pages v.shape.size v.shape.start c w.reached w.frames_are in
    subst (λ (p : Writing). IsWrittenPage v.shape.size p.done (fill_of p.history v.shape.start p.done) page) w.part_is
    (subst (λ (h : PageRecords). IsWrittenPage v.shape.size c.done h page) (k.contents.each c.done low high) r.written)

-- a call of a writer whose view is that one, which looks for the wish
pub looks_called : {v x new : WriterValue} (view_is : v ≡ x) → AreWriterFields x → x.frames.stack.frames ≢ []
    → new.shape ≡ v.shape → new.table ≡ v.table
    → (sees : Core → Type 0) (wish : ℕ) (result : Answer) (answer : model.Answer)
    → LooksForWish v.frames wish result new.frames
    → new.pages ≡ v.pages
    → (s : IsWriterStep v.shape v.part sees answer new.part)
    → (sees s.core → s.core.wish ≡ wish)
    → MakesSome x model.steps result new
looks_called {v = v} {new = new} view_is w some shape_is table_is sees wish result answer looks pages_is s is_wish =
    subst (λ (y : WriterValue). MakesSome y model.steps result new) view_is
    (looks_for_wish v new (writer_seen view_is w) (top_seen view_is some) shape_is table_is sees wish result answer
    looks pages_is s is_wish)
