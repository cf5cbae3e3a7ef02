-- One call for the frame on top: its step, or the end of its record with the payload that was put into its slot.
use Rattle.std.proofs.Common.{◌≡◌, ◌≢◌, ℕ, suc, ◌+◌, ◌*◌, ◌-◌, ◌<◌, ◌≤◌, List, [], ◌∷◌, ◌++◌, length, replicate, refl}
use Rattle.std.proofs.Common.{sym, ap, ◌∙◌, subst, arith, Bor, get_or, mul-le-mul_left}
use Rattle.std.specs.Prelude.{None}
use Rattle.std.proofs.lemmas.List.{get_or_default}
use Rattle.trace_model.specs.Words.{slot_len, padded}
use Rattle.trace_model.specs.Frames.{Purpose, for_record, for_close, waiting, reserved, left, number_of, Frame}
use Rattle.trace_model.specs.Frames as frames_model
use Rattle.trace_model.specs.Ring.{Core}
use Rattle.trace_model.specs.Steps.{Event, steps, ends, Exchange, frames_after_leave}
use Rattle.trace_model.proofs.words.Lengths.{slot_len_ge, length-padded}
use Rattle.trace_model.proofs.steps.StepSound.{cases_of}
use Rattle.ring_model.specs.FrameOutcomes.{IsLeaving, Leaving, leaves_on, is_gone}
use Rattle.ring_model.specs.KeptStack.{IsForRecord, MayBeIn, FramesAgree}
use Rattle.ring_model.specs.Ranks.{frame_limit}
use Rattle.ring_model.specs.WriterRanks.{writer_rank}
use Rattle.ring_model.proofs.frames.FrameOutcomes.{frames_leave}
use Rattle.ring_model.proofs.partition.RingsKept.{reached_kept}
use Rattle.ring_model.proofs.seats.WriterEnds.{writers_near}
use Rattle.world_model.specs.Lanes.{FitsKind, FitFrames, event_in, event_on_top, payloads_left}
use Rattle.world_model.proofs.FramesMove.{Moves, stays, changes, pops}
use Rattle.world_model.proofs.LanePayloads.{fit_moved}
use Rattle.line_model.proofs.CallParts.{call_moves}
use Rattle.nested_writer.specs.declared.frame.Slot.{Slot}
use Rattle.nested_writer.specs.declared.frame.Progress.{Progress}
use Rattle.nested_writer.specs.declared.frame.Progress.TheVariants.{Waiting, Through, Reserved, Left}
use Rattle.nested_writer.specs.declared.frame.Frame as stack
use Rattle.nested_writer.specs.Stack.{state_of}
use Rattle.nested_writer.specs.Calls.{IsTopSlot}
use Rattle.nested_writer.specs.Lending.{with_slot}
use Rattle.ring_frames.specs.declared.phase.Phase.{Phase}
use Rattle.ring_frames.specs.declared.answer.Answer.{Answer}
use Rattle.ring_frames.specs.Answers.{top_bytes}
use Rattle.ring_frames.specs.AreFrames.{frames_in_phases}
use Rattle.ring_frames.proofs.Lent.{slot_keeps}
use Rattle.ring_steps.specs.declared.rule.Shape.{Shape}
use Rattle.ring_steps.specs.Views.{Writing}
use Rattle.ring_shared.specs.Value.{WriterValue}
use Rattle.ring_shared.specs.Calls.{IsWriter, IsCall, MakesSome}
use Rattle.ring_shared.specs.Lending.{with_slot_payload, FitsFrame}
use Rattle.ring_shared.specs.Nearer.{rank_of, IsNearer}
use Rattle.ring_shared.proofs.Targets.{frames_of}
use Rattle.ring_shared.proofs.PushedEnded.{HasEnded, end_answers}
use Rattle.ring_shared.proofs.WholeWrites.{HasReservedTop, reserved_top}
use Rattle.trace_run.specs.declared.writers.writer.LineWriter.{LineWriter}
use Rattle.trace_run.specs.writers.Distance.{stage_of, stage_on_top, distance}
use Rattle.trace_run.specs.writers.LineWriters.{writer_in, payloads_of, IsLineWriter, CallsTop}
use Rattle.trace_run.proofs.FramePayloads.{fewer_left, first_is}
use Rattle.trace_run.proofs.PushedFrames.{call_of, logged}

-- ---- frames

pub moved_few : (before after : List Frame) → Moves before after → length after ≤ length before
moved_few before after (stays is) = omega (arith, ap (λ (l : List Frame). length l) is)
moved_few before after (changes frame next below top kind is) =
    omega (arith, ap (λ (l : List Frame). length l) top, ap (λ (l : List Frame). length l) is)
moved_few before after (pops frame below top is) =
    omega (arith, ap (λ (l : List Frame). length l) top, ap (λ (l : List Frame). length l) is)

-- ---- a call, whichever

module _ (old : LineWriter) (is : IsLineWriter old) (v : WriterValue) (event : Event) (result : Answer)
    (shape_is : v.shape ≡ old.writer.shape) (table_is : v.table ≡ old.writer.table) (writer : IsWriter v)
    (c : IsCall old.writer.shape old.writer.part event result v.part)
    (event_is : event ≡ event_on_top old.writer.part.frames (payloads_of old)) where
  abbrev x : Exchange
  x = record { event = event; answer = c.answer }

  moves : Moves old.writer.part.frames v.part.frames
  moves = call_moves old.writer.shape.pages old.writer.shape.size old.writer.shape.start (writer_in old.writer.part) x
      (writer_in v.part) (payloads_of old) event_is (call_of old.writer.shape old.writer.part event result v.part c)

  pub called : (length v.part.frames ≡ length old.writer.part.frames → distance v < distance old.writer)
      → CallsTop old record { writer = v; payloads = old.payloads }
  called closer =
      let f : Bor (List ℕ) → List ℕ = λ b. b.now in
      let new : LineWriter = record { writer = v; payloads = old.payloads } in
      let lefts : payloads_of new ≡ payloads_left v.part.frames (payloads_of old) =
      fewer_left f old.payloads (length old.writer.part.frames) (length v.part.frames)
      (moved_few old.writer.part.frames v.part.frames moves) in
      record {
        is = record {
          writer = writer;
          room = is.room;
          fit = subst (λ (l : List (List ℕ)). FitFrames v.part.frames l) (sym lefts)
              (fit_moved old.writer.part.frames v.part.frames (payloads_of old) is.fit moves);
        };
        same = (shape_is, table_is);
        x = x;
        event_is = event_is;
        call = call_of old.writer.shape old.writer.part event result v.part c;
        has_made = logged old.writer.shape old.writer.part event result v.part c;
        lefts_are = lefts;
        closer = closer;
      }

-- ---- stages

stage_low : (kind : Purpose) (state : frames_model.Progress) → stage_of kind state ≤ 2
stage_low (for_record moment len) waiting = omega arith
stage_low for_close waiting = omega arith
stage_low kind (reserved number) = omega arith
stage_low kind left = omega arith

stage_top_low : (frames : List Frame) → stage_on_top frames ≤ 2
stage_top_low [] = omega arith
stage_top_low (frame ∷ below) = stage_low frame.kind frame.state

stage_leaving : (kind : Purpose) (state : frames_model.Progress) → IsLeaving kind state → stage_of kind state ≡ 0
stage_leaving (for_record moment len) waiting is = absurd is
stage_leaving for_close waiting is = refl
stage_leaving kind (reserved number) is = absurd is
stage_leaving kind left is = refl

-- no farther stage, and nearer in the ring
nearer_distance : (stage was limit rank rank_was : ℕ)
    → stage ≤ was
    → rank < rank_was
    → limit * stage + rank < limit * was + rank_was
nearer_distance stage was limit rank rank_was low near =
    let more : limit * stage ≤ limit * was = mul-le-mul_left limit low in omega arith

-- a stage on
staged_distance : (stage was limit rank rank_was : ℕ)
    → stage + 1 ≤ was
    → rank < limit
    → limit * stage + rank < limit * was + rank_was
staged_distance stage was limit rank rank_was low few =
    let more : limit * (stage + 1) ≤ limit * was = mul-le-mul_left limit low in omega arith

-- ---- a frame whose record isn't reserved makes a step

steps_in : (p : Progress) (payloads : List (List ℕ))
    → ((slot : Slot) → p ≡ Reserved slot → ⊥)
    → event_in (state_of p) payloads ≡ steps
steps_in (Waiting noted) payloads none = refl
steps_in (Through noted) payloads none = refl
steps_in (Reserved slot) payloads none = absurd (none slot refl)
steps_in (Left noted) payloads none = refl

steps_on_top : (frames : List stack.Frame) (phase : Phase) (below : List Phase) (payloads : List (List ℕ))
    → ((slot : Slot) → IsTopSlot frames slot → ⊥)
    → event_on_top (frames_in_phases frames (phase ∷ below)) payloads ≡ steps
steps_on_top [] phase below payloads none = refl
steps_on_top (top ∷ frames) phase below payloads none = steps_in top.progress payloads none

unnumbered_in : (p : Progress)
    → ((slot : Slot) → p ≡ Reserved slot → ⊥)
    → number_of (state_of p) ≡ None
unnumbered_in (Waiting noted) none = refl
unnumbered_in (Through noted) none = refl
unnumbered_in (Reserved slot) none = absurd (none slot refl)
unnumbered_in (Left noted) none = refl

abbrev state_first : List Frame → frames_model.Progress
state_first [] = waiting
state_first (first ∷ others) = first.state

unnumbered_on_top : (frames : List stack.Frame) (phase : Phase) (below : List Phase) (frame : Frame)
    (under : List Frame)
    → ((slot : Slot) → IsTopSlot frames slot → ⊥)
    → frames_in_phases frames (phase ∷ below) ≡ frame ∷ under
    → number_of frame.state ≡ None
unnumbered_on_top [] phase below frame under none is =
    absurd (let long = ap (λ (l : List Frame). length l) is in omega arith)
unnumbered_on_top (top ∷ frames) phase below frame under none is =
    ap (λ (l : List Frame). number_of (state_first l)) (sym is) ∙ unnumbered_in top.progress none

-- the frame that is left on top is no farther in its stages
module _ (old : WriterValue) (v : WriterValue) (result : Answer) (frame : Frame) (below : List Frame)
    (top : old.part.frames ≡ frame ∷ below) (free : number_of frame.state ≡ None)
    (c : IsCall old.shape old.part steps result v.part) where
  core_top : c.core.frames ≡ frame ∷ below
  core_top = ap (λ (w : Writing). w.frames) c.before_is ∙ top

  next_top : (frames : List Frame) → c.next.frames ≡ frames → v.part.frames ≡ frames
  next_top frames e = ap (λ (w : Writing). w.frames) (sym c.after_is) ∙ e

  leaving : IsLeaving frame.kind frame.state → Leaving below c.answer c.next.frames
  leaving leaves =
      frames_leave old.shape.pages old.shape.size old.shape.start c.core frame below c.answer c.next
      (reached_kept old.shape.pages old.shape.size old.shape.start c.core c.reached) core_top leaves c.step

  left_stage : Leaving below c.answer c.next.frames
      → length v.part.frames ≡ length old.part.frames
      → stage_on_top v.part.frames ≡ 0
  left_stage (leaves_on next answer_is is leaves) same =
      ap stage_on_top (next_top (next ∷ below) is) ∙ stage_leaving next.kind next.state leaves
  left_stage (is_gone how is) same =
      absurd (let short = ap (λ (l : List Frame). length l) (next_top below is) in
      let long = ap (λ (l : List Frame). length l) top in omega arith)

  stage_in : (kind : Purpose) (state : frames_model.Progress)
      → number_of state ≡ None
      → (IsLeaving kind state → IsLeaving frame.kind frame.state)
      → length v.part.frames ≡ length old.part.frames
      → stage_on_top v.part.frames ≤ stage_of kind state
  stage_in (for_record moment len) waiting none to same = stage_top_low v.part.frames
  stage_in for_close waiting none to same = let e = left_stage (leaving (to tt)) same in omega arith
  stage_in kind (reserved number) none to same = absurd (let z : ⊥ = cc in z)
  stage_in (for_record moment len) left none to same = let e = left_stage (leaving (to tt)) same in omega arith
  stage_in for_close left none to same = let e = left_stage (leaving (to tt)) same in omega arith

  no_farther : length v.part.frames ≡ length old.part.frames
      → stage_on_top v.part.frames ≤ stage_on_top old.part.frames
  no_farther same =
      subst (λ (l : List Frame). stage_on_top v.part.frames ≤ stage_on_top l) (sym top)
      (stage_in frame.kind frame.state free (λ leaves. leaves) same)

  pub step_closer : v.shape ≡ old.shape
      → IsNearer old v
      → length v.part.frames ≡ length old.part.frames
      → distance v < distance old
  step_closer shape_is near same =
      subst (λ (k : ℕ). (frame_limit k + 1) * stage_on_top v.part.frames + rank_of v < distance old)
      (ap (λ (s : Shape). s.pages) (sym shape_is))
      (nearer_distance (stage_on_top v.part.frames) (stage_on_top old.part.frames) (frame_limit old.shape.pages + 1)
      (rank_of v) (rank_of old) (no_farther same) (near frame below top free same))

some_top : (frames : List Frame) → frames ≢ [] → (frame : Frame) × (below : List Frame) × (frames ≡ frame ∷ below)
some_top [] some = absurd (some refl)
some_top (frame ∷ below) some = (frame, below, refl)

pub step_called : (old : LineWriter) (v : WriterValue) (result : Answer)
    → IsLineWriter old
    → old.writer.part.frames ≢ []
    → ((slot : Slot) → IsTopSlot old.writer.frames.stack.frames slot → ⊥)
    → MakesSome old.writer steps result v
    → IsNearer old.writer v
    → CallsTop old record { writer = v; payloads = old.payloads }
unfolding IsWriter
step_called old v result is some none makes near =
    let w : WriterValue = old.writer in
    let shown : w.part.frames ≡ frames_in_phases w.frames.stack.frames (w.frames.phase ∷ w.frames.below) =
    frames_of w is.writer in
    let (frame, below, top) = some_top w.part.frames some in
    let free : number_of frame.state ≡ None =
    unnumbered_on_top w.frames.stack.frames w.frames.phase w.frames.below frame below none (sym shown ∙ top) in
    called old is v steps result makes.shape_is makes.table_is makes.writer makes.call
    (sym (ap (λ (fs : List Frame). event_on_top fs (payloads_of old)) shown
    ∙ steps_on_top w.frames.stack.frames w.frames.phase w.frames.below (payloads_of old) none))
    (step_closer w v result frame below top free makes.call makes.shape_is near)

-- ---- a record that is reserved, and its payload

for_record_is : (kind : Purpose) → IsForRecord kind → (moment : ℕ) × (len : ℕ) × (kind ≡ for_record moment len)
for_record_is (for_record moment len) of = (moment, len, refl)
for_record_is for_close of = absurd of

top_payload : (frames : List Frame) (payloads : List (List ℕ)) (frame : Frame) (below : List Frame)
    → frames ≡ frame ∷ below
    → FitFrames frames payloads
    → (payload : List ℕ) × (rest : List (List ℕ)) × (payloads ≡ payload ∷ rest) × FitsKind frame.kind payload
top_payload frames payloads frame below top fit =
    of_top payloads (subst (λ (fs : List Frame). FitFrames fs payloads) top fit)
  where
    of_top : (payloads : List (List ℕ))
        → FitFrames (frame ∷ below) payloads
        → (payload : List ℕ) × (rest : List (List ℕ)) × (payloads ≡ payload ∷ rest) × FitsKind frame.kind payload
    of_top [] fit = absurd fit
    of_top (payload ∷ rest) fit = (payload, rest, refl, fit.0)

-- this payload is the first one of these, and fills the slot
pub record IsTopPayload (old : LineWriter) (slot : Slot) (payload : List ℕ) : Type 0 where
  pub slot_is : slot.place.len ≡ slot_len (length payload)
  pub event_is : event_on_top old.writer.part.frames (payloads_of old) ≡ ends (padded payload)

-- there is room for each frame's payload
pub few_frames : (old : LineWriter) (is : IsLineWriter old) → length old.writer.part.frames ≤ length old.payloads
unfolding IsWriter
few_frames old is =
    let w : WriterValue = old.writer in
    let r = reached_kept w.shape.pages w.shape.size w.shape.start is.writer.core is.writer.reached in
    let low = r.stack.few in
    let room = is.room in
    let same = ap (λ (p : Writing). length p.frames) is.writer.part_is in
    omega arith

pub some_frames : (frames : List Frame) → frames ≢ [] → 0 < length frames
some_frames [] some = absurd (some refl)
some_frames (top ∷ below) some = omega arith

module _ (old : LineWriter) (is : IsLineWriter old) (slot : Slot)
    (at : IsTopSlot old.writer.frames.stack.frames slot) where
  t : HasReservedTop old.writer.part.frames
  unfolding IsWriter
  t = reserved_top old.writer is.writer slot at

  some_depth : 0 < length old.writer.part.frames
  some_depth = let long = ap (λ (l : List Frame). length l) t.top in omega arith

  few_depth : length old.writer.part.frames ≤ length old.payloads
  few_depth = few_frames old is

  pub is_top_payload : (depth : ℕ) (none : Bor (List ℕ))
      → depth ≡ length old.writer.part.frames
      → FitsFrame old.writer slot
      → IsTopPayload old slot (get_or old.payloads (depth - 1) none).now
  unfolding IsWriter
  is_top_payload depth none deep fits =
      let item : Bor (List ℕ) = get_or old.payloads (depth - 1) none in
      let some = some_depth in
      let room = few_depth in
      let item_is : item ≡ get_or old.payloads (length old.writer.part.frames - 1) item =
      get_or_default old.payloads (depth - 1) none item (omega arith)
      ∙ ap (λ (k : ℕ). get_or old.payloads (k - 1) item) deep in
      let w : WriterValue = old.writer in
      let f : Bor (List ℕ) → List ℕ = λ b. b.now in
      let core : Core = is.writer.core in
      let core_top : core.frames ≡ t.frame ∷ t.below = ap (λ (p : Writing). p.frames) is.writer.part_is ∙ t.top in
      let r = reached_kept w.shape.pages w.shape.size w.shape.start core is.writer.reached in
      let agree : FramesAgree (t.frame ∷ t.below) = subst FramesAgree core_top r.stack.agree in
      let may : MayBeIn t.frame.kind (reserved t.number) t.frame.phase =
      subst (λ (s : frames_model.Progress). MayBeIn t.frame.kind s t.frame.phase) t.state_is agree.0 in
      let (moment, len, kind) = for_record_is t.frame.kind may.0 in
      let (payload, rest, payloads, long) = top_payload w.part.frames (payloads_of old) t.frame t.below t.top is.fit in
      let same : item.now ≡ payload =
      first_is f old.payloads (length w.part.frames) item payload rest few_depth some_depth item_is payloads in
      let len_is : length payload ≡ len = subst (λ (k : Purpose). FitsKind k payload) kind long in
      record {
        slot_is = fits t.frame t.below moment len t.top kind ∙ ap slot_len (sym len_is)
            ∙ ap (λ (p : List ℕ). slot_len (length p)) (sym same);
        event_is = ap (λ (fs : List Frame). event_on_top fs (payloads_of old)) t.top
            ∙ ap (event_in t.frame.state) payloads
            ∙ ap (λ (s : frames_model.Progress). event_in s (payload ∷ rest)) t.state_is
            ∙ ap (λ (p : List ℕ). ends (padded p)) (sym same);
      }

  -- ---- the end of its record

  ended_stage : (c : Core) (below : List Frame) (frames : List Frame)
      → frames ≡ frames_after_leave c t.frame below
      → length frames ≡ suc (length below)
      → stage_on_top frames ≡ 0
  ended_stage c [] frames e same = ap stage_on_top e
  ended_stage c (next ∷ under) frames e same =
      absurd (let short = ap (λ (l : List Frame). length l) e in omega arith)

  rank_low : (v : WriterValue) → IsWriter v → rank_of v ≤ frame_limit v.shape.pages
  unfolding IsWriter
  rank_low v w =
      subst (λ (p : Writing). writer_rank v.shape.pages v.passed p.done p.opened p.history p.frames
      ≤ frame_limit v.shape.pages) w.part_is
      (writers_near v.shape.pages v.shape.size v.shape.start v.passed w.core
      (reached_kept v.shape.pages v.shape.size v.shape.start w.core w.reached))

  end_closer : (v : WriterValue) (result : Answer) (bytes : List ℕ)
      → v.shape ≡ old.writer.shape
      → IsWriter v
      → IsCall old.writer.shape old.writer.part (ends bytes) result v.part
      → length v.part.frames ≡ length old.writer.part.frames
      → distance v < distance old.writer
  end_closer v result bytes shape_is writer c same =
      let w : WriterValue = old.writer in
      let core_top : c.core.frames ≡ t.frame ∷ t.below = ap (λ (p : Writing). p.frames) c.before_is ∙ t.top in
      let h : HasEnded c.core t.frame t.below c.answer c.next.frames =
      end_answers w.shape.pages w.shape.size c.core bytes t.frame t.below t.number c.answer c.next core_top t.state_is
      (cases_of c.step) in
      let behind : v.part.frames ≡ frames_after_leave c.core t.frame t.below =
      ap (λ (p : Writing). p.frames) (sym c.after_is) ∙ h.frames_are in
      let stage : stage_on_top v.part.frames ≡ 0 =
      ended_stage c.core t.below v.part.frames behind (same ∙ ap (λ (l : List Frame). length l) t.top) in
      let was : stage_on_top w.part.frames ≡ 1 =
      ap stage_on_top t.top ∙ ap (stage_of t.frame.kind) t.state_is in
      let pages : v.shape.pages ≡ w.shape.pages = ap (λ (s : Shape). s.pages) shape_is in
      let low : rank_of v ≤ frame_limit v.shape.pages = rank_low v writer in
      subst (λ (k : ℕ). (frame_limit k + 1) * stage_on_top v.part.frames + rank_of v < distance w) (sym pages)
      (staged_distance (stage_on_top v.part.frames) (stage_on_top w.part.frames) (frame_limit w.shape.pages + 1)
      (rank_of v) (rank_of w) (omega arith) (omega arith))

  pub end_called : (v : WriterValue) (payload part : List ℕ) (result : Answer)
      → IsTopPayload old slot payload
      → part ≡ payload ++ replicate (slot.place.len - length payload) 0
      → (length part ≡ slot.place.len
      → top_bytes (with_slot old.writer.frames.stack slot part) old.writer.frames.stack.frames ≡ part)
      → MakesSome (with_slot_payload old.writer slot part)
      (ends (top_bytes (with_slot old.writer.frames.stack slot part)
      (with_slot old.writer.frames.stack slot part).frames)) result v
      → CallsTop old record { writer = v; payloads = old.payloads }
  end_called v payload part result h part_is written makes =
      let whole : part ≡ padded payload =
      part_is ∙ ap (λ (k : ℕ). payload ++ replicate (k - length payload) 0) h.slot_is in
      let fills : length part ≡ slot.place.len =
      ap (λ (p : List ℕ). length p) whole ∙ length-padded payload ∙ sym h.slot_is in
      let bytes : top_bytes (with_slot old.writer.frames.stack slot part)
      (with_slot old.writer.frames.stack slot part).frames ≡ padded payload =
      ap (top_bytes (with_slot old.writer.frames.stack slot part))
      (slot_keeps old.writer.frames.stack slot part).frames_is
      ∙ written fills ∙ whole in
      called old is v _ result makes.shape_is makes.table_is makes.writer makes.call (ap ends bytes ∙ sym h.event_is)
      (end_closer v result _ makes.shape_is makes.writer makes.call)

-- the payload has room in the slot
pub has_room : (old : LineWriter) (slot : Slot) (payload : List ℕ)
    → IsTopPayload old slot payload
    → length payload ≤ slot.place.len
has_room old slot payload h = let low = slot_len_ge (length payload) in let is = h.slot_is in omega arith
