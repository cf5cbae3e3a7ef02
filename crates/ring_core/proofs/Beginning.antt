-- The next fill is begun, on a page that comes from its home.
use Rattle.std.proofs.Common.{◌≡◌, ◌≢◌, ℕ, ◌+◌, ◌<◌, ◌≤◌, List, [], ◌∷◌, length, get_or, map, Option, Some, None, refl}
use Rattle.std.proofs.Common.{sym, ap, ◌∙◌, subst, arith}
use Rattle.std.specs.Prelude.{◌-◌, slice_set, nat_lt}
use Rattle.std.proofs.lemmas.Bool.{cond_both}
use Rattle.std.specs.List.{slice_get}
use Rattle.std.proofs.lemmas.List.{get_or-set_other}
use Rattle.std.proofs.lemmas.Option.{slice_get_within, get_or_from_slice_get}
use Rattle.trace_model.specs.History.{Reservation, records_with_payload}
use Rattle.trace_model.specs.Frames.{Purpose, for_record, for_close, Progress, waiting, reserved, left}
use Rattle.trace_model.specs.Frames.{Phase as ModelPhase, idle, opening, Frame}
use Rattle.trace_model.specs.Ring.{Core, PageRecords, page_at, empty_page}
use Rattle.trace_model.specs.Steps as model
use Rattle.trace_model.proofs.steps.StepCases as cases
use Rattle.trace_model.proofs.steps.StepIs.{step_by}
use Rattle.ring_model.specs.KeptLinks.{PhaseKept}
use Rattle.ring_model.specs.RingKept.{IsRingKept}
use Rattle.ring_model.proofs.links.FrameChanges.{top_kept}
use Rattle.ring_model.proofs.contents.PageChanges.{pages_differ}
use Rattle.ring_model.proofs.seats.PrivateSteps.{private_state, PrivateResult, goes_on, leaves, changes_privately}
use Rattle.page_image.specs.Contents.{Contents}
use Rattle.nested_writer.specs.Stack.{opened}
use Rattle.nested_writer.specs.Released.{IsWrittenPage}
use Rattle.ring_frames.specs.declared.phase.Phase.TheVariants.{Opening}
use Rattle.ring_frames.specs.Value.{phase_of}
use Rattle.ring_frames.specs.declared.answer.Answer.{Answer}
use Rattle.ring_frames.specs.Value.{FramesValue}
use Rattle.ring_frames.specs.AreFrames.{AreFrames}
use Rattle.ring_frames.specs.Fills.{OpensFill}
use Rattle.ring_core.specs.Value.{CoreValue, frames_of, with_frames}
use Rattle.ring_core.specs.Steps.{IsReachedCore, IsStep}
use Rattle.ring_core.specs.IsCore.{IsHome, HasBody, HasStateOf, IsCore}
use Rattle.ring_frames.proofs.Tops.{topped}
use Rattle.ring_core.proofs.Stepped.{kept_of, stepped}
use Rattle.ring_core.proofs.Homes.{get_set_other}

-- ---- a frame that begins again

begin_result : (c : Core) (kind : Purpose) (state : Progress) (frame : Frame) (below : List Frame)
    → c.frames ≡ frame ∷ below → PrivateResult c (model.after_begin kind state c frame below)
begin_result c (for_record moment len) waiting frame below top = goes_on frame below idle refl
begin_result c for_close waiting frame below top = leaves frame below None top refl
begin_result c kind (reserved number) frame below top = goes_on frame below idle refl
begin_result c kind left frame below top = goes_on frame below (model.closing_phase c) refl

-- one that leaves without a record writes nothing
none_written : (number : Option ℕ) (h : PageRecords) → model.held_with_payload number None h ≡ h
none_written None h = refl
none_written (Some k) h =
    ap (λ (rs : List Reservation). let g : PageRecords = record { first = h.first; records = rs } in g)
    (cond_both (nat_lt k h.first) h.records (records_with_payload (Some (k - h.first)) None h.records)
    (λ (rs : List Reservation). ◌≡◌ {A = List Reservation} rs h.records) (λ _. refl) (λ _. refl))

all_stay : (number : Option ℕ) (held : List PageRecords) → map (model.held_with_payload number None) held ≡ held
all_stay number [] = refl
all_stay number (h ∷ held) = λ i. none_written number h i ∷ all_stay number held i

begin_holds : (c : Core) (kind : Purpose) (state : Progress) (frame : Frame) (below : List Frame)
    → (model.after_begin kind state c frame below).held ≡ c.held
begin_holds c (for_record moment len) waiting frame below = refl
begin_holds c for_close waiting frame below = all_stay (model.own_number frame.kind frame.state) c.held
begin_holds c kind (reserved number) frame below = refl
begin_holds c kind left frame below = refl

-- ---- the ring

module _ (n size start : ℕ) (v : CoreValue) (c : Core) (core : IsCore n size start v c) (some : v.stack.frames ≢ [])
    (page : ℕ) (is : v.phase ≡ Opening (opened v.stack) page) where
  kept : IsRingKept n size start c
  kept = kept_of n size start v c core

  opens : PhaseKept n c.links c.order c.head c.done c.opened (opening c.opened page)
  opens = let s = core.shows in let top = topped n size start (frames_of v) c s.frames some in
      subst (PhaseKept n c.links c.order c.head c.done c.opened)
      (top.phase_is ∙ ap phase_of is ∙ ap (λ (o : ℕ). opening o page) (sym s.frames.opened_is))
      (top_kept n c top.frame top.below kept.links top.is_top)

  page_is : page ≡ page_at n c.order c.opened
  page_is = (opens.passed c.opened page refl).2

  below_head : c.opened < c.head + n
  below_head = (opens.passed c.opened page refl).1

  below_done : c.opened < c.done + n
  below_done = (opens.noted c.opened refl).2

  home : (body : Contents) × (slice_get v.homes page ≡ Some (Some body)) × (body.size ≡ v.stack.size)
  home = let s = core.shows in let low = below_done in let (body, there, wide) = s.free c.opened (omega arith) low in
      (body, ap (slice_get v.homes) page_is ∙ there, wide ∙ sym s.frames.size_is)

  others : (f : ℕ) → page_at n c.order f ≢ page_at n c.order c.opened
      → slice_get (slice_set v.homes page None) (page_at n c.order f) ≡ slice_get v.homes (page_at n c.order f)
  others f ne = get_set_other v.homes page None (page_at n c.order f) (λ e. ne (e ∙ page_is))

  holds : (f : ℕ) → page_at n c.order f ≢ page_at n c.order c.opened
      → model.contents_of (model.with_new_tail c page) (page_at n c.order f) ≡ model.contents_of c (page_at n c.order f)
  holds f ne = get_or-set_other c.held page (page_at n c.order f) _ empty_page (λ e. ne (e ∙ page_is))

  closed : (f : ℕ) → c.head ≤ f → f < c.done
      → IsHome (slice_set v.homes page None) size (page_at n c.order f) f
      (model.contents_of (model.with_new_tail c page) (page_at n c.order f))
  closed f low high = let some_pages = kept.links.some_pages in
      let behind = kept.links.done_lt in
      let unread = kept.links.head_le in
      let within = below_head in
      let ne : page_at n c.order f ≢ page_at n c.order c.opened =
      pages_differ n c.order c.spare c.head f c.opened (omega arith) kept.links.apart low (omega arith)
      (omega arith) within (λ e. omega arith) in
      let (body, there, written) = core.shows.closed f low high in
      (body, others f ne ∙ there, subst (λ (h : PageRecords). IsWrittenPage size f h body) (sym (holds f ne)) written)

  free : (f : ℕ) → c.opened + 1 ≤ f → f < c.done + n → HasBody (slice_set v.homes page None) size (page_at n c.order f)
  free f low high = let some_pages = kept.links.some_pages in
      let behind = kept.links.done_lt in
      let within = below_done in
      let ne : page_at n c.order f ≢ page_at n c.order c.opened =
      pages_differ n c.order c.spare c.done f c.opened (omega arith) kept.links.apart (omega arith) high
      (omega arith) within (λ e. omega arith) in
      let (body, there, wide) = core.shows.free f (omega arith) high in
      (body, others f ne ∙ there, wide)

  -- what is left of the step is that the frame on top begins again
  pub begun : (result : Answer) (new : FramesValue) → OpensFill (frames_of v) result new
      → IsStep n size start c model.steps result (record (with_frames v new) { homes = slice_set v.homes page None })
  begun result new fill = let s = core.shows in let top = topped n size start (frames_of v) c s.frames some in
      let tail : Core = model.with_new_tail c page in
      let answer : model.Answer = model.begin_answer top.frame.kind top.frame.state top.below in
      let after : Core = model.after_begin top.frame.kind top.frame.state tail top.frame top.below in
      let value : CoreValue = record (with_frames v new) { homes = slice_set v.homes page None } in
      let (reports, are) = fill n size start page c top.frame top.below s.frames top.is_top in
      let same : after ≡ private_state tail after.frames after.history after.held =
      changes_privately tail after
      (begin_result tail top.frame.kind top.frame.state top.frame top.below top.is_top) in
      let held : after.held ≡ tail.held = begin_holds tail top.frame.kind top.frame.state top.frame top.below in
      stepped n size start v value c model.steps result answer after core
      (step_by (cases.frame_step top.frame top.below refl top.is_top
      (subst (λ (p : ModelPhase). cases.FrameStep n size c top.frame top.below p answer after)
      (sym (top.phase_is ∙ ap phase_of is)) (cases.opens (sym s.frames.opened_is) refl refl))))
      reports
      (subst (HasStateOf n size start value) (sym same) (assumption (
        subst (AreFrames n size start new) same are,
        (λ (f : ℕ) (low : c.head ≤ f) (high : f < c.done).
            subst
            (λ (pages : List PageRecords).
            IsHome (slice_set v.homes page None) size (page_at n c.order f) f
            (model.contents_of (private_state tail after.frames after.history pages) (page_at n c.order f)))
            (sym held) (closed f low high)),
        free,
        s,
      )))

  -- what was taken from the page's home is that page
  comes_out : (out : Option Contents) → out ≡ get_or v.homes page out
      → (body : Contents) × (out ≡ Some body) × (body.size ≡ v.stack.size)
  comes_out out at = let (body, there, wide) = home in
      (body, at ∙ get_or_from_slice_get v.homes page (Some body) out there, wide)

  page_low : page < length v.homes
  page_low = let (body, there, wide) = home in slice_get_within v.homes page (Some body) there

-- so in each state of the ring
module _ (v : CoreValue) (page : ℕ) (ring : IsReachedCore v) (some : v.stack.frames ≢ [])
    (is : v.phase ≡ Opening (opened v.stack) page) where
  pub home_there : page < length v.homes
  unfolding IsReachedCore
  home_there = let (n, size, start, c, core) = ring in page_low n size start v c core some page is

  pub home_holds : (out : Option Contents) → out ≡ get_or v.homes page out
      → (body : Contents) × (out ≡ Some body) × (body.size ≡ v.stack.size)
  unfolding IsReachedCore
  home_holds = let (n, size, start, c, core) = ring in comes_out n size start v c core some page is
