-- What each end made of a run, as the run goes on.
use Rattle.std.proofs.Common.{◌≡◌, ℕ, Bool, true, false, List, [], ◌∷◌, ◌++◌, refl, sym, ap, ◌∙◌, subst, append-nil}
use Rattle.trace_model.specs.Ring.{Core, IsStart}
use Rattle.trace_model.specs.Steps.{Event, pushes, pushes_close, steps, ends, reads, wishes, Answer, Exchange, Step}
use Rattle.trace_model.specs.Steps.{Run}
use Rattle.ring_model.specs.Reached.{MayStart, IsReached}
use Rattle.ring_model.specs.Seats.{IsOfReader, IsPrivate}
use Rattle.ring_steps.specs.declared.rule.Shape.{Shape}
use Rattle.ring_steps.specs.Made.{WriterMade, writer_made, reader_made, Trace, trace_of, is_by_reader, is_by_writer}
use Rattle.ring_steps.specs.Made.{kept_if}
use Rattle.ring_steps.specs.Made.{made_by, writer_made_of, reader_made_of}
use Rattle.ring_steps.specs.Views.{Writing, writing_of, writing_after, Reading, reading_made}
use Rattle.ring_steps.specs.Shown.{IsReading}

-- ---- runs by one step more

-- one step further
abbrev pub run_on : (n size : ℕ) (from c : Core) (exchanges : List Exchange) (x : Exchange) (after : Core)
    → Run n size from exchanges c → Step n size c x.event x.answer after → Run n size from (exchanges ++ x ∷ []) after
run_on n size from c [] x after run step =
    (after, subst (λ (d : Core). Step n size d x.event x.answer after) (sym run) step, refl)
run_on n size from c (y ∷ exchanges) x after (between, first, run) step =
    (between, first, run_on n size between c exchanges x after run step)

-- a run that leads to a state, to an equal one
abbrev pub run_at : (n size : ℕ) (from c d : Core) (exchanges : List Exchange) → c ≡ d → Run n size from exchanges c
    → Run n size from exchanges d
run_at n size from c d [] same run = run ∙ same
run_at n size from c d (x ∷ exchanges) same (between, step, run) =
    (between, step, run_at n size between c d exchanges same run)

-- a run of a ring of a shape, of one of an equal shape
abbrev pub run_as : (shape other : Shape) (from c : Core) (exchanges : List Exchange) → shape ≡ other
    → Run shape.pages shape.size from exchanges c → Run other.pages other.size from exchanges c
run_as shape other from c [] same run = run
run_as shape other from c (x ∷ exchanges) same (between, step, run) = (
  between,
  subst (λ (s : Shape). Step s.pages s.size from x.event x.answer between) same step,
  run_as shape other between c exchanges same run,
)

-- ---- what a run goes through

-- one step more
pub trace_on : (n size : ℕ) (from c : Core) (exchanges : List Exchange) (x : Exchange) (after : Core)
    (run : Run n size from exchanges c) (step : Step n size c x.event x.answer after)
    → trace_of n size from (exchanges ++ x ∷ []) after (run_on n size from c exchanges x after run step)
    ≡ trace_of n size from exchanges c run ++ (x, after) ∷ []
trace_on n size from c [] x after run step = refl
trace_on n size from c (y ∷ exchanges) x after (between, first, run) step =
    ap (λ (trace : Trace). (y, between) ∷ trace) (trace_on n size between c exchanges x after run step)

-- a run to an equal state goes through the same
pub trace_at : (n size : ℕ) (from c d : Core) (exchanges : List Exchange) (same : c ≡ d)
    (run : Run n size from exchanges c)
    → trace_of n size from exchanges d (run_at n size from c d exchanges same run)
    ≡ trace_of n size from exchanges c run
trace_at n size from c d [] same run = refl
trace_at n size from c d (x ∷ exchanges) same (between, step, run) =
    ap (λ (trace : Trace). (x, between) ∷ trace) (trace_at n size between c d exchanges same run)

-- ---- what one end made

module _ {M : Type 0} (is : Event → Bool) (made : Exchange → Core → M) where
  kept_append : (b : Bool) (one : M) (xs ys : List M) → kept_if b one (xs ++ ys) ≡ kept_if b one xs ++ ys
  kept_append true one xs ys = refl
  kept_append false one xs ys = refl

  -- in one part of a trace, and then in the other
  pub made_append : (front rest : Trace)
      → made_by is made (front ++ rest) ≡ made_by is made front ++ made_by is made rest
  made_append [] rest = refl
  made_append ((x, after) ∷ front) rest =
      ap (kept_if (is x.event) (made x after)) (made_append front rest)
      ∙ kept_append (is x.event) (made x after) (made_by is made front) (made_by is made rest)

  -- by one step more
  made_on_run : (n size : ℕ) (from c : Core) (exchanges : List Exchange) (x : Exchange) (after : Core)
      (run : Run n size from exchanges c) (step : Step n size c x.event x.answer after)
      → made_by is made
      (trace_of n size from (exchanges ++ x ∷ []) after (run_on n size from c exchanges x after run step))
      ≡ made_by is made (trace_of n size from exchanges c run) ++ kept_if (is x.event) (made x after) []
  made_on_run n size from c exchanges x after run step =
      ap (made_by is made) (trace_on n size from c exchanges x after run step)
      ∙ made_append (trace_of n size from exchanges c run) ((x, after) ∷ [])

  -- which is this end's, or the other's
  pub made_more : (n size : ℕ) (from c : Core) (exchanges : List Exchange) (x : Exchange) (after : Core)
      (run : Run n size from exchanges c) (step : Step n size c x.event x.answer after) → is x.event ≡ true
      → made_by is made
      (trace_of n size from (exchanges ++ x ∷ []) after (run_on n size from c exchanges x after run step))
      ≡ made_by is made (trace_of n size from exchanges c run) ++ made x after ∷ []
  made_more n size from c exchanges x after run step own =
      made_on_run n size from c exchanges x after run step
      ∙ ap (λ (b : Bool). made_by is made (trace_of n size from exchanges c run) ++ kept_if b (made x after) []) own

  pub made_same : (n size : ℕ) (from c : Core) (exchanges : List Exchange) (x : Exchange) (after : Core)
      (run : Run n size from exchanges c) (step : Step n size c x.event x.answer after) → is x.event ≡ false
      → made_by is made
      (trace_of n size from (exchanges ++ x ∷ []) after (run_on n size from c exchanges x after run step))
      ≡ made_by is made (trace_of n size from exchanges c run)
  made_same n size from c exchanges x after run step other =
      made_on_run n size from c exchanges x after run step
      ∙ (ap (λ (b : Bool). made_by is made (trace_of n size from exchanges c run) ++ kept_if b (made x after) []) other
      ∙ append-nil (made_by is made (trace_of n size from exchanges c run)))

  pub made_at : (n size : ℕ) (from c d : Core) (exchanges : List Exchange) (same : c ≡ d)
      (run : Run n size from exchanges c)
      → made_by is made (trace_of n size from exchanges d (run_at n size from c d exchanges same run))
      ≡ made_by is made (trace_of n size from exchanges c run)
  made_at n size from c d [] same run = refl
  made_at n size from c d (x ∷ exchanges) same (between, step, run) =
      ap (kept_if (is x.event) (made x between)) (made_at n size between c d exchanges same run)

  pub made_as : (shape other : Shape) (from c : Core) (exchanges : List Exchange) (same : shape ≡ other)
      (run : Run shape.pages shape.size from exchanges c)
      → made_by is made
      (trace_of other.pages other.size from exchanges c (run_as shape other from c exchanges same run))
      ≡ made_by is made (trace_of shape.pages shape.size from exchanges c run)
  made_as shape other from c [] same run = refl
  made_as shape other from c (x ∷ exchanges) same (between, step, run) =
      ap (kept_if (is x.event) (made x between)) (made_as shape other between c exchanges same run)

-- ---- whose an event is

pub of_reader : (event : Event) → IsOfReader event → (is_by_reader event ≡ true) × (is_by_writer event ≡ false)
of_reader (pushes moment len) is = absurd is
of_reader pushes_close is = absurd is
of_reader steps is = absurd is
of_reader (ends payload) is = absurd is
of_reader reads is = (refl, refl)
of_reader wishes is = (refl, refl)

pub of_writer : (c : Core) (event : Event) → IsPrivate c event
    → (is_by_writer event ≡ true) × (is_by_reader event ≡ false)
of_writer c (pushes moment len) own = (refl, refl)
of_writer c pushes_close own = (refl, refl)
of_writer c steps own = (refl, refl)
of_writer c (ends payload) own = (refl, refl)
of_writer c reads own = absurd own
of_writer c wishes own = absurd own

-- ---- states that are reached

-- one step further
abbrev pub reached_on : (n size start : ℕ) (c : Core) (event : Event) (answer : Answer) (after : Core)
    → IsReached n size start c → Step n size c event answer after → IsReached n size start after
reached_on n size start c event answer after r step = record {
  from = r.from;
  exchanges = r.exchanges ++ record { event = event; answer = answer } ∷ [];
  may_start = r.may_start;
  is_new = r.is_new;
  run = run_on n size r.from c r.exchanges record { event = event; answer = answer } after r.run step;
}

-- a state equal to one that is reached is reached
abbrev pub reached_at : (n size start : ℕ) (c d : Core) → c ≡ d → IsReached n size start c → IsReached n size start d
reached_at n size start c d same r = record {
  from = r.from;
  exchanges = r.exchanges;
  may_start = r.may_start;
  is_new = r.is_new;
  run = run_at n size r.from c d r.exchanges same r.run;
}

-- what is reached in a ring of a shape is reached in one of an equal shape
abbrev pub reached_as : (shape other : Shape) (c : Core) → shape ≡ other
    → IsReached shape.pages shape.size shape.start c → IsReached other.pages other.size other.start c
reached_as shape other c same r = record {
  from = r.from;
  exchanges = r.exchanges;
  may_start = subst (λ (s : Shape). MayStart s.pages s.start) same r.may_start;
  is_new = subst (λ (s : Shape). IsStart s.pages s.start r.from) same r.is_new;
  run = run_as shape other r.from c r.exchanges same r.run;
}

-- ---- what the ends made of the run to such a state

module _ (n size start : ℕ) (c : Core) (event : Event) (answer : Answer) (after : Core) (r : IsReached n size start c)
    (step : Step n size c event answer after) where
  pub writer_more : is_by_writer event ≡ true
      → writer_made_of (reached_on n size start c event answer after r step)
      ≡ writer_made_of r ++ writer_made record { event = event; answer = answer } after ∷ []
  writer_more own =
      made_more is_by_writer writer_made n size r.from c r.exchanges record { event = event; answer = answer } after
      r.run step own

  pub writer_same : is_by_writer event ≡ false
      → writer_made_of (reached_on n size start c event answer after r step) ≡ writer_made_of r
  writer_same other =
      made_same is_by_writer writer_made n size r.from c r.exchanges record { event = event; answer = answer } after
      r.run step other

  pub reader_more : is_by_reader event ≡ true
      → reader_made_of (reached_on n size start c event answer after r step)
      ≡ reader_made_of r ++ reader_made record { event = event; answer = answer } after ∷ []
  reader_more own =
      made_more is_by_reader reader_made n size r.from c r.exchanges record { event = event; answer = answer } after
      r.run step own

  pub reader_same : is_by_reader event ≡ false
      → reader_made_of (reached_on n size start c event answer after r step) ≡ reader_made_of r
  reader_same other =
      made_same is_by_reader reader_made n size r.from c r.exchanges record { event = event; answer = answer } after
      r.run step other

  -- the writer's part after its step, if this was its part before it
  pub writer_then : (now : Writing) → is_by_writer event ≡ true → writing_of (writer_made_of r) c ≡ now
      → writer_made_of (reached_on n size start c event answer after r step)
      ≡ now.made ++ writer_made record { event = event; answer = answer } after ∷ []
  writer_then now own now_is =
      writer_more own
      ∙ ap (λ (w : Writing). w.made ++ writer_made record { event = event; answer = answer } after ∷ []) now_is

  pub part_then : (now then : Writing) → is_by_writer event ≡ true → writing_of (writer_made_of r) c ≡ now
      → writing_after now.made record { event = event; answer = answer } (writing_of [] after) ≡ then
      → writing_of (writer_made_of (reached_on n size start c event answer after r step)) after ≡ then
  part_then now then own now_is then_is =
      ap (λ (made : List WriterMade). writing_of made after) (writer_then now own now_is) ∙ then_is

-- its part is that of the same ring
pub part_as : (shape other : Shape) (c : Core) (same : shape ≡ other)
    (r : IsReached shape.pages shape.size shape.start c) (w : Writing) → writing_of (writer_made_of r) c ≡ w
    → writing_of (writer_made_of (reached_as shape other c same r)) c ≡ w
part_as shape other c same r w is =
    ap (λ (made : List WriterMade). writing_of made c)
    (made_as is_by_writer writer_made shape other r.from c r.exchanges same r.run) ∙ is

-- its part has what it made
pub part_here : (made : List WriterMade) (c : Core) (w : Writing) → writing_of made c ≡ w → writing_of w.made c ≡ w
part_here made c w is = ap (λ (xs : List WriterMade). writing_of xs c) (sym (ap (λ (v : Writing). v.made) is)) ∙ is

-- the reader's part of a state is what its last step has
pub read_made : (c : Core) (r : Reading) (x : Exchange) → IsReading c r → reading_made x r ≡ reader_made x c
read_made c r x is = λ i. record {
  exchange = x;
  order = is.order_is i;
  spare = is.spare_is i;
  spare_link = is.spare_link_is i;
  reader = is.reader_is i;
  wish = is.wish_is i;
}

-- and after its step it has made one more
pub reader_then : (n size start : ℕ) (c : Core) (event : Event) (answer : Answer) (after : Core)
    (r : IsReached n size start c) (step : Step n size c event answer after) (before part : Reading)
    → is_by_reader event ≡ true
    → before.made ≡ reader_made_of r
    → IsReading after part
    → before.made ++ reading_made record { event = event; answer = answer } part ∷ []
    ≡ reader_made_of (reached_on n size start c event answer after r step)
reader_then n size start c event answer after r step before part own made_is reading_is =
    (λ i. made_is i ++ read_made after part record { event = event; answer = answer } reading_is i ∷ [])
    ∙ sym (reader_more n size start c event answer after r step own)
