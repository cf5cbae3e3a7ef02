-- Calls for the frame on top, one after the other; and the lines that are made of them.
use Rattle.std.proofs.Common.{◌≡◌, ◌≢◌, ℕ, suc, ◌+◌, ◌-◌, ◌<◌, ◌≤◌, ◌⊎◌, ⊎_elim, Bool, true, false, List, [], ◌∷◌, ◌++◌}
use Rattle.std.proofs.Common.{length, refl, sym, ap, ◌∙◌, subst, inl, inr, arith, length-append, append_assoc}
use Rattle.std.proofs.Common.{append-nil}
use Rattle.trace_model.specs.Steps.{Event, pushes, pushed, Exchange}
use Rattle.text_model.specs.Script.{begin_frame, step_frame, finish_frame}
use Rattle.line_model.specs.WriterCalls.{LineWriting, IsWriterCall, TopCalls, StepsCalls, steps_top, FinishCalls}
use Rattle.line_model.specs.WriterCalls.{finishes_top, begins_frame, begins_none, WholeCalls, writes_frame, writes_none}
use Rattle.line_model.proofs.PartsJoined.{top_calls_go_on}
use Rattle.line_model.proofs.CallParts.{call_moves}
use Rattle.ring_steps.specs.declared.rule.Shape.{Shape}
use Rattle.ring_shared.specs.Value.{WriterValue, SameWriter}
use Rattle.trace_run.specs.declared.writers.writer.LineWriter.{LineWriter}
use Rattle.trace_run.specs.writers.LineWriters.{writer_in, made_in, payloads_of, IsLineWriter, HasMade, Pushes}
use Rattle.trace_run.specs.writers.LineWriters.{CallsTop}
use Rattle.trace_run.specs.writers.LineWriters.{MakesCalls, MakesLine}
use Rattle.trace_run.specs.writers.Runs.{HasMadeCalls}
use Rattle.trace_run.proofs.TopCalls.{moved_few}

-- ---- calls for the frame on top

pub same_then : (a b c : WriterValue) → SameWriter a b → SameWriter b c → SameWriter a c
same_then a b c first then = (then.0 ∙ first.0, then.1 ∙ first.1)

-- what was made then is made after what was made first
pub made_then : (old now next : LineWriter) (made more : List Exchange)
    → HasMade old made now
    → HasMade now more next
    → HasMade old (made ++ more) next
made_then old now next made more first then =
    then
    ∙ ap (λ (l : List Exchange). l ++ more) first
    ∙ append_assoc (made_in old.writer.part) made more

-- nothing was made
pub made_none : (old : LineWriter) → HasMade old [] old
made_none old = sym (append-nil (made_in old.writer.part))

pub part_way_none : (depth : ℕ) (old : LineWriter)
    → IsLineWriter old
    → depth ≡ length old.writer.part.frames
    → HasMadeCalls depth 0 old old
part_way_none depth old is deep = record {
  is = is;
  same = (refl, refl);
  calls = [];
  made = refl;
  run = (refl, refl);
  has_made = made_none old;
  few = omega arith;
}

-- one more
pub part_way_more : (depth count : ℕ) (old now next : LineWriter)
    → HasMadeCalls depth count old now
    → 0 < depth
    → length now.writer.part.frames ≡ depth
    → CallsTop now next
    → HasMadeCalls depth (count + 1) old next
part_way_more depth count old now next part_way some deep top =
    let s : Shape = old.writer.shape in
    let top_here : length now.writer.part.frames ≡ suc (depth - 1) = omega arith in
    let call = subst (λ (shape : Shape). IsWriterCall shape.pages shape.size
    shape.start (writer_in now.writer.part) top.x (writer_in next.writer.part)) part_way.same.0 top.call in
    let low = moved_few now.writer.part.frames next.writer.part.frames
    (call_moves s.pages s.size s.start (writer_in now.writer.part) top.x (writer_in next.writer.part)
    (payloads_of now) top.event_is call) in
    let made = part_way.made in
    record {
      is = top.is;
      same = same_then old.writer now.writer next.writer part_way.same top.same;
      calls = part_way.calls ++ top.x ∷ [];
      made = omega (arith, length-append part_way.calls (top.x ∷ []));
      run = subst (λ (l : List (List ℕ)). TopCalls s.pages s.size s.start (depth - 1) (writer_in old.writer.part)
          (payloads_of old) (part_way.calls ++ top.x ∷ []) (writer_in next.writer.part) l) (sym top.lefts_are)
          (top_calls_go_on s.pages s.size s.start (depth - 1) (writer_in old.writer.part) (payloads_of old)
          part_way.calls
          (writer_in now.writer.part) (payloads_of now) top.x (writer_in next.writer.part) part_way.run top_here
          top.event_is call);
      has_made = made_then old now next part_way.calls (top.x ∷ []) part_way.has_made top.has_made;
      few = omega arith;
    }

-- ---- `s` and `f`

module _ (depth made : ℕ) (old new : LineWriter) (deep : depth ≡ length old.writer.part.frames) (some : 0 < depth)
    (part_way : HasMadeCalls depth made old new) where
  abbrev pages : ℕ
  pages = old.writer.shape.pages

  abbrev size : ℕ
  size = old.writer.shape.size

  abbrev start : ℕ
  start = old.writer.shape.start

  abbrev before : LineWriting
  before = writer_in old.writer.part

  abbrev after : LineWriting
  after = writer_in new.writer.part

  deep_is : length old.writer.part.frames ≡ suc (depth - 1)
  deep_is = omega arith

  -- the frame is stepped
  module _ (count : ℕ) (one : 1 ≤ count) (few : made ≤ count)
      (stop : (count ≤ made) ⊎ (length new.writer.part.frames ≢ depth)) where
    by_calls : (calls : List Exchange)
        → length calls ≡ made
        → TopCalls pages size start (depth - 1) before (payloads_of old) calls after (payloads_of new)
        → StepsCalls pages size start count before (payloads_of old) calls after (payloads_of new)
    by_calls [] many (same, all) =
        ⊎_elim (λ enough. absurd (omega arith))
        (λ other. absurd (other (ap (λ (w : LineWriting). length w.frames) (sym same) ∙ sym deep))) stop
    by_calls (x ∷ calls) many run =
        steps_top (depth - 1) x calls refl deep_is run (omega (arith, many))
        (⊎_elim (λ enough. inl (let all : suc (length calls) ≡ count = omega (arith, many) in all))
        (λ other. inr (let low : length new.writer.part.frames ≤ depth - 1 =
        let at_most = part_way.few in omega arith in low)) stop)

    pub stepped : (cpu : ℕ) → MakesLine (step_frame cpu count) old new
    stepped cpu = record {
      is = part_way.is;
      same = part_way.same;
      exchanges = part_way.calls;
      made = by_calls part_way.calls part_way.made part_way.run;
      has_made = part_way.has_made;
    }

  -- the frame is finished
  pub finished : (cpu : ℕ) → length new.writer.part.frames ≢ depth → MakesLine (finish_frame cpu) old new
  finished cpu other =
      let low : length new.writer.part.frames ≤ depth - 1 = let few = part_way.few in omega arith in
      record {
        is = part_way.is;
        same = part_way.same;
        exchanges = part_way.calls;
        made = finishes_top (depth - 1) deep_is part_way.run low;
        has_made = part_way.has_made;
      }

-- ---- `b`, `w` and `c`

pub begun : (cpu moment : ℕ) (payload : List ℕ) (old new : LineWriter) (stands : Bool)
    → Pushes (pushes moment (length payload)) payload old stands new
    → MakesLine (begin_frame cpu moment payload) old new
begun cpu moment payload old new true p =
    let (call, log, payloads) = p.has_pushed refl in
    record { is = p.is; same = p.same; exchanges = _; made = begins_frame refl call payloads; has_made = log }
begun cpu moment payload old new false p =
    let (why, call, log, payloads) = p.has_refused refl in
    record { is = p.is; same = p.same; exchanges = _; made = begins_none why refl call payloads; has_made = log }

module _ (event : Event) (payload : List ℕ) (old between new : LineWriter) (stands : Bool)
    (p : Pushes event payload old stands between) where
  abbrev pub MakesWhole : LineWriter → Type 0
  MakesWhole last =
      MakesCalls (λ n size start before payloads made after lefts.
      WholeCalls n size start event payload before payloads made after lefts) old last

  pub not_written : stands ≡ false → MakesWhole between
  not_written e =
      let (why, call, log, payloads) = p.has_refused e in
      record { is = p.is; same = p.same; exchanges = _; made = writes_none why refl call payloads; has_made = log }

  pub written : (cpu : ℕ) → stands ≡ true → MakesLine (finish_frame cpu) between new → MakesWhole new
  written cpu e f =
      let (call, log, payloads) = p.has_pushed e in
      let push : Exchange = record { event = event; answer = pushed } in
      record {
        is = f.is;
        same = same_then old.writer between.writer new.writer p.same f.same;
        exchanges = push ∷ f.exchanges;
        has_made = made_then old between new (push ∷ []) f.exchanges log f.has_made;
        made = writes_frame (writer_in between.writer.part) f.exchanges refl call
            (subst (λ (shape : Shape). FinishCalls shape.pages shape.size shape.start (writer_in between.writer.part)
            (payload ∷ payloads_of old) f.exchanges (writer_in new.writer.part) (payloads_of new)) p.same.0
            (subst (λ (l : List (List ℕ)). FinishCalls between.writer.shape.pages between.writer.shape.size
            between.writer.shape.start (writer_in between.writer.part) l f.exchanges (writer_in new.writer.part)
            (payloads_of new)) payloads f.made));
      }
