-- A frame that is pushed is on top with its payload; one that is refused changes nothing.
use Rattle.std.proofs.Common.{◌≡◌, ◌≢◌, ℕ, ◌<◌, ◌≤◌, true, false, List, [], ◌∷◌, ◌++◌, length, map, reverse, take, refl}
use Rattle.std.proofs.Common.{sym, ap, ◌∙◌, subst, inl, inr, arith, Bor}
use Rattle.std.specs.Prelude.{slice_set}
use Rattle.std.proofs.lemmas.List.{length-set, map-append}
use Rattle.trace_model.specs.declared.limits.TheConstants.{MAX_FRAMES}
use Rattle.trace_model.specs.Frames.{Frame, WriteFault}
use Rattle.trace_model.specs.Steps as model
use Rattle.trace_model.specs.Steps.{Event, pushes, pushes_close, pushed, refused}
use Rattle.world_model.specs.Lanes.{FitsKind, FitFrames}
use Rattle.line_model.specs.WriterCalls.{LineWriting, IsWriterCall}
use Rattle.line_model.proofs.PushParts.{Pushing, pushing_of}
use Rattle.line_model.proofs.CloseParts.{Closing, closing_of}
use Rattle.ring_frames.specs.declared.answer.Answer.{Answer}
use Rattle.ring_frames.specs.declared.answer.Answer.TheVariants as answer
use Rattle.ring_frames.specs.Answers.{IsAnswerOf}
use Rattle.ring_frames.proofs.Reported.{reported_pushed}
use Rattle.ring_steps.specs.declared.rule.Shape.{Shape}
use Rattle.ring_steps.specs.Views.{Writing, writing_of, writing_made}
use Rattle.ring_shared.specs.Value.{WriterValue}
use Rattle.ring_shared.specs.Calls.{IsCall, MakesSome}
use Rattle.trace_run.specs.declared.writers.writer.LineWriter.{LineWriter}
use Rattle.trace_run.specs.writers.LineWriters.{writer_in, made_in, payloads_of, IsLineWriter, Pushes}
use Rattle.trace_run.proofs.FramePayloads.{pushed_first}

-- a call, as far as lines are concerned
pub call_of : (shape : Shape) (before : Writing) (event : Event) (result : Answer) (after : Writing)
    → (c : IsCall shape before event result after)
    → IsWriterCall shape.pages shape.size shape.start (writer_in before) record { event = event; answer = c.answer }
    (writer_in after)
call_of shape before event result after c = record {
  core = c.core;
  next = c.next;
  reached = c.reached;
  before_is = ap writer_in c.before_is;
  step = c.step;
  after_is = ap writer_in c.after_is;
}

-- and the one that the writer has made more
pub logged : (shape : Shape) (before : Writing) (event : Event) (result : Answer) (after : Writing)
    → (c : IsCall shape before event result after)
    → made_in after ≡ made_in before ++ record { event = event; answer = c.answer } ∷ []
logged shape before event result after c =
    sym (ap made_in c.after_is)
    ∙ map-append (λ made. made.exchange) before.made
    (writing_made record { event = event; answer = c.answer } (writing_of [] c.next) ∷ [])

-- ---- what a push makes of the frames

pub data IsPushOutcome (payload : List ℕ) (before : LineWriting) (reported : model.Answer) (after : LineWriting) : Type
    0 where
  stands : (frame : Frame)
      → reported ≡ pushed
      → after.frames ≡ frame ∷ before.frames
      → FitsKind frame.kind payload
      → length before.frames < MAX_FRAMES
      → after.done ≡ before.done
      → IsPushOutcome payload before reported after
  fails : (why : WriteFault) → reported ≡ refused why → after ≡ before → IsPushOutcome payload before reported after

of_record : (size moment : ℕ) (payload : List ℕ) (before : LineWriting) (reported : model.Answer) (after : LineWriting)
    → Pushing size before moment (length payload) reported after
    → IsPushOutcome payload before reported after
of_record size moment payload before reported after (inl (e, may, is)) =
    stands _ e (ap (λ (w : LineWriting). w.frames) is) refl
    (let few : MAX_FRAMES ≤ length before.frames → ⊥ = λ many. may (inl many) in omega arith)
    (ap (λ (w : LineWriting). w.done) is)
of_record size moment payload before reported after (inr (why, e, because, is)) = fails why e is

of_close : (before : LineWriting) (reported : model.Answer) (after : LineWriting)
    → Closing before reported after
    → IsPushOutcome [] before reported after
of_close before reported after (inl (e, few, is)) =
    stands _ e (ap (λ (w : LineWriting). w.frames) is) refl few (ap (λ (w : LineWriting). w.done) is)
of_close before reported after (inr (why, e, many, is)) = fails why e is

module _ (shape : Shape) (before : Writing) (result : Answer) (after : Writing) where
  pub record_answered : (moment : ℕ) (payload : List ℕ)
      → (c : IsCall shape before (pushes moment (length payload)) result after)
      → IsPushOutcome payload (writer_in before) c.answer (writer_in after)
  record_answered moment payload c =
      of_record shape.size moment payload (writer_in before) c.answer (writer_in after)
      (pushing_of shape.pages shape.size shape.start moment (length payload) c.answer (writer_in before)
      (writer_in after) (call_of shape before (pushes moment (length payload)) result after c))

  pub close_answered : (c : IsCall shape before pushes_close result after)
      → IsPushOutcome [] (writer_in before) c.answer (writer_in after)
  close_answered c =
      of_close (writer_in before) c.answer (writer_in after)
      (closing_of shape.pages shape.size shape.start c.answer (writer_in before) (writer_in after)
      (call_of shape before pushes_close result after c))

-- ---- what the answer means

pushed_reported : (size : ℕ) (a : Answer) (reported : model.Answer) → IsAnswerOf size a reported → a ≡ answer.Pushed
    → reported ≡ pushed
pushed_reported size a reported t is = subst (λ (x : Answer). IsAnswerOf size x reported) is t

-- ---- the writer after it

module _ (old : LineWriter) (is : IsLineWriter old) (v : WriterValue) (event : Event) (payload : List ℕ)
    (result : Answer) (makes : MakesSome old.writer event result v)
    (answered : IsPushOutcome payload (writer_in old.writer.part) makes.call.answer (writer_in v.part)) where
  call : (reported : model.Answer)
      → makes.call.answer ≡ reported
      → IsWriterCall old.writer.shape.pages old.writer.shape.size old.writer.shape.start (writer_in old.writer.part)
      record { event = event; answer = reported } (writer_in v.part)
  call reported e =
      subst (λ (a : model.Answer). IsWriterCall old.writer.shape.pages old.writer.shape.size old.writer.shape.start
      (writer_in old.writer.part) record { event = event; answer = a } (writer_in v.part)) e
      (call_of old.writer.shape old.writer.part event result v.part makes.call)

  log : (reported : model.Answer)
      → makes.call.answer ≡ reported
      → made_in v.part ≡ made_in old.writer.part ++ record { event = event; answer = reported } ∷ []
  log reported e =
      subst
      (λ (a : model.Answer). made_in v.part ≡ made_in old.writer.part ++ record { event = event; answer = a } ∷ [])
      e
      (logged old.writer.shape old.writer.part event result v.part makes.call)

  -- it is refused
  behind_refused : IsPushOutcome payload (writer_in old.writer.part) makes.call.answer (writer_in v.part)
      → result ≢ answer.Pushed
      → Pushes event payload old false record { writer = v; payloads = old.payloads }
  behind_refused (stands frame e top fits few done) not =
      absurd (reported_pushed old.writer.shape.size result makes.call.answer makes.call.reports e not)
  behind_refused (fails why e same) not =
      let new : LineWriter = record { writer = v; payloads = old.payloads } in
      let frames : v.part.frames ≡ old.writer.part.frames = ap (λ (w : LineWriting). w.frames) same in
      let payloads : payloads_of new ≡ payloads_of old =
      ap (λ (l : List Frame). reverse (map (λ (b : Bor (List ℕ)). b.now) (take (length l) old.payloads))) frames in
      record {
        is = record {
          writer = makes.writer;
          room = is.room;
          fit = subst (λ (l : List (List ℕ)). FitFrames v.part.frames l) (sym payloads)
              (subst (λ (l : List Frame). FitFrames l (payloads_of old)) (sym frames) is.fit);
        };
        same = (makes.shape_is, makes.table_is);
        done_is = ap (λ (w : LineWriting). w.done) same;
        has_pushed = λ e. absurd (cc);
        has_refused = λ z. (why, call (refused why) e, log (refused why) e, payloads);
      }

  pub refused_push : result ≢ answer.Pushed
      → Pushes event payload old false record { writer = v; payloads = old.payloads }
  refused_push not = behind_refused answered not

  module _ (item : Bor (List ℕ)) (item_is : item.now ≡ payload) where
    behind_pushed : IsPushOutcome payload (writer_in old.writer.part) makes.call.answer (writer_in v.part)
        → result ≡ answer.Pushed
        → Pushes event payload old true
        record { writer = v; payloads = slice_set old.payloads (length old.writer.part.frames) item }
    behind_pushed (fails why e same) pushed_is =
        let reported = pushed_reported old.writer.shape.size result makes.call.answer makes.call.reports pushed_is in
        absurd (let both : pushed ≡ refused why = sym reported ∙ e in cc)
    behind_pushed (stands frame e top fits few done) pushed_is =
        let depth : ℕ = length old.writer.part.frames in
        let items : List (Bor (List ℕ)) = slice_set old.payloads depth item in
        let new : LineWriter = record { writer = v; payloads = items } in
        let f : Bor (List ℕ) → List ℕ = λ b. b.now in
        let payloads : payloads_of new ≡ payload ∷ payloads_of old =
        ap (λ (l : List Frame). reverse (map f (take (length l) items))) top
        ∙ pushed_first f old.payloads depth item (let room = is.room in omega arith)
        ∙ ap (λ (p : List ℕ). p ∷ payloads_of old) item_is in
        record {
          is = record {
            writer = makes.writer;
            room = length-set old.payloads depth item ∙ is.room;
            fit = subst (λ (l : List (List ℕ)). FitFrames v.part.frames l) (sym payloads)
                (subst (λ (l : List Frame). FitFrames l (payload ∷ payloads_of old)) (sym top) (fits, is.fit));
          };
          same = (makes.shape_is, makes.table_is);
          done_is = done;
          has_pushed = λ z. (call pushed e, log pushed e, payloads);
          has_refused = λ z. absurd (cc);
        }

    pub pushed_push : (depth : ℕ)
        → depth ≡ length old.writer.part.frames
        → result ≡ answer.Pushed
        → Pushes event payload old true record { writer = v; payloads = slice_set old.payloads depth item }
    pushed_push depth deep pushed_is =
        subst (λ (k : ℕ). Pushes event payload old true
        record { writer = v; payloads = slice_set old.payloads k item }) (sym deep) (behind_pushed answered pushed_is)
