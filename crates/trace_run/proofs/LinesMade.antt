-- One more line, and all of them; and what they make of a new ring.
use Rattle.std.proofs.Common.{◌≡◌, ℕ, zero, suc, ◌+◌, ◌<◌, ◌≤◌, List, [], ◌∷◌, ◌++◌, length, take, get_or, Some, refl}
use Rattle.std.proofs.Common.{sym, ap, ◌∙◌, subst, arith}
use Rattle.std.specs.Prelude.{All}
use Rattle.std.specs.List.{slice_get, AllZip}
use Rattle.std.proofs.lemmas.List.{take_all}
use Rattle.std.proofs.lemmas.Option.{slice_get_within, get_or_from_slice_get}
use Rattle.trace_model.specs.declared.limits.TheConstants.{MIN_PAGES}
use Rattle.trace_model.specs.Packing.{IsPacked}
use Rattle.trace_model.specs.Steps.{Exchange}
use Rattle.trace_model.proofs.collections.Elements.{some_is}
use Rattle.text_model.specs.Script.{Command, finish_frame}
use Rattle.line_model.specs.Lines.{writer_lines, IsMadeByLines}
use Rattle.line_model.specs.ReplayedLines.{commands_of}
use Rattle.line_model.specs.WriterCalls.{LineWriting, first_writer, LineCalls, LinesCalls, RestCalls, FinishCalls}
use Rattle.line_model.specs.WriterCalls.{IsReachedByLines, exchanges_to}
use Rattle.line_model.proofs.PartsJoined.{lines_calls_go_on, rest_calls_go_on}
use Rattle.line_model.proofs.LineCallsMade.{writer_makes_lines}
use Rattle.line_model.proofs.WrittenLines.{whole_lines_commit}
use Rattle.ring_steps.specs.declared.rule.Shape.{Shape}
use Rattle.ring_steps.specs.NewRings.{first_writing}
use Rattle.ring_shared.specs.Value.{WriterValue}
use Rattle.ring_shared.proofs.WholeAppends.{writers_have_histories}
use Rattle.trace_run.specs.declared.writers.writer.LineWriter.{LineWriter}
use Rattle.trace_run.specs.writers.LineWriters.{writer_in, made_in, payloads_of, IsLineWriter, MakesLine, MakesLines}
use Rattle.trace_run.specs.writers.LineWriters.{MakesRest, FinishesRest}
use Rattle.trace_run.specs.writers.Obeying.{IsLineAt, HasObeyed}
use Rattle.ring_shared.specs.Calls.{IsWriter}
use Rattle.trace_run.proofs.LineRuns.{same_then, made_then, made_none}

-- ---- one more

module _ (old now next : LineWriter) where
  pub line_more : (lines : List Command) (line : Command)
      → MakesLines lines old now
      → MakesLine line now next
      → MakesLines (lines ++ line ∷ []) old next
  line_more lines line first m =
      let s : Shape = old.writer.shape in
      record {
        is = m.is;
        same = same_then old.writer now.writer next.writer first.same m.same;
        exchanges = first.exchanges ++ m.exchanges;
        has_made = made_then old now next first.exchanges m.exchanges first.has_made m.has_made;
        made = lines_calls_go_on s.pages s.size s.start lines line (writer_in old.writer.part) (payloads_of old)
            first.exchanges (writer_in now.writer.part) (payloads_of now) m.exchanges (writer_in next.writer.part)
            (payloads_of next) first.made
            (subst (λ (shape : Shape). LineCalls shape.pages shape.size shape.start line (writer_in now.writer.part)
            (payloads_of now) m.exchanges (writer_in next.writer.part) (payloads_of next)) first.same.0 m.made);
      }

  pub rest_more : (count cpu : ℕ)
      → MakesRest count old now
      → MakesLine (finish_frame cpu) now next
      → MakesRest (suc count) old next
  rest_more count cpu first m =
      let s : Shape = old.writer.shape in
      record {
        is = m.is;
        same = same_then old.writer now.writer next.writer first.same m.same;
        exchanges = first.exchanges ++ m.exchanges;
        has_made = made_then old now next first.exchanges m.exchanges first.has_made m.has_made;
        made = rest_calls_go_on s.pages s.size s.start count (writer_in old.writer.part) (payloads_of old)
            first.exchanges (writer_in now.writer.part) (payloads_of now) m.exchanges (writer_in next.writer.part)
            (payloads_of next) first.made
            (subst (λ (shape : Shape). FinishCalls shape.pages shape.size shape.start (writer_in now.writer.part)
            (payloads_of now) m.exchanges (writer_in next.writer.part) (payloads_of next)) first.same.0 m.made);
      }

-- ---- none

pub lines_none : (old : LineWriter) → IsLineWriter old → MakesLines [] old old
lines_none old is =
    record { is = is; same = (refl, refl); exchanges = []; made = (refl, refl, refl); has_made = made_none old }

pub rest_none : (old : LineWriter) → IsLineWriter old → MakesRest 0 old old
rest_none old is =
    record { is = is; same = (refl, refl); exchanges = []; made = (refl, refl, refl); has_made = made_none old }

-- ---- the line at a line_index

-- the line of one of the indexes, with which the lines before it continue
pub record IsNextLine (commands : List (ℕ × Command)) (lines : List Command) (index line_index : ℕ) : Type 0 where
  pub line : Command
  pub at : IsLineAt commands line_index line
  pub next : take (suc index) lines ≡ take index lines ++ line ∷ []

pub next_line : (commands : List (ℕ × Command)) (indexes : List ℕ) (lines : List Command) (index d : ℕ)
    → AllZip (IsLineAt commands) indexes lines
    → index < length indexes
    → IsNextLine commands lines index (get_or indexes index d)
next_line commands [] lines index d are low = absurd (omega arith)
next_line commands (line_index ∷ indexes) [] index d are low = absurd are
next_line commands (line_index ∷ indexes) (line ∷ lines) zero d are low =
    record { line = line; at = are.0; next = refl }
next_line commands (line_index ∷ indexes) (line ∷ lines) (suc index) d are low =
    let n = next_line commands indexes lines index d are.1 (omega arith) in
    record { line = n.line; at = n.at; next = ap (λ (l : List Command). line ∷ l) n.next }

pub as_many : (commands : List (ℕ × Command)) (indexes : List ℕ) (lines : List Command)
    → AllZip (IsLineAt commands) indexes lines
    → length indexes ≡ length lines
as_many commands [] [] are = refl
as_many commands [] (line ∷ lines) are = absurd are
as_many commands (line_index ∷ indexes) [] are = absurd are
as_many commands (line_index ∷ indexes) (line ∷ lines) are = ap suc (as_many commands indexes lines are.1)

-- ---- the line that is obeyed

pub element : {A : Type 0} (P : A → Type 0) (xs : List A) (k : ℕ) (x : A) → All P xs → slice_get xs k ≡ Some x → P x
element P xs k x all at = subst P (get_or_from_slice_get xs k x x at) (all k x (slice_get_within xs k x at))

-- a line_index of the CPU's lines is one of a command
pub is_index : (commands seen : List (ℕ × Command)) (lines : List Command) (index line_index : ℕ)
    → seen ≡ commands
    → IsNextLine commands lines index line_index
    → line_index < length seen
is_index commands seen lines index line_index same n =
    subst (λ (l : List (ℕ × Command)). line_index < length l) (sym same)
    (slice_get_within commands line_index (n.at.0, n.line) n.at.1)

-- the command that is read there is the line
pub same_line : (commands seen : List (ℕ × Command)) (lines : List Command) (index line_index : ℕ) (read : ℕ × Command)
    → seen ≡ commands
    → (n : IsNextLine commands lines index line_index)
    → slice_get seen line_index ≡ Some read
    → read.1 ≡ n.line
same_line commands seen lines index line_index read same n at =
    ap (λ (line : ℕ × Command). line.1)
    (some_is read (n.at.0, n.line)
    (sym at ∙ ap (λ (l : List (ℕ × Command)). slice_get l line_index) same ∙ n.at.1))

pub one_line : (commands seen : List (ℕ × Command)) (lines : List Command) (index line_index : ℕ) (read : ℕ × Command)
    (old now next : LineWriter)
    → seen ≡ commands
    → IsNextLine commands lines index line_index
    → slice_get seen line_index ≡ Some read
    → MakesLines (take index lines) old now
    → MakesLine read.1 now next
    → MakesLines (take (index + 1) lines) old next
one_line commands seen lines index line_index read old now next same n at first m =
    let line : read.1 ≡ n.line = same_line commands seen lines index line_index read same n at in
    let one : index + 1 ≡ suc index = omega arith in
    subst (λ (k : ℕ). MakesLines (take k lines) old next) (sym one)
    (subst (λ (l : List Command). MakesLines l old next) (sym n.next)
    (line_more old now next (take index lines) n.line first
    (subst (λ (command : Command). MakesLine command now next) line m)))

pub all_lines : (commands : List (ℕ × Command)) (indexes : List ℕ) (lines : List Command) (index : ℕ)
    (old new : LineWriter)
    → AllZip (IsLineAt commands) indexes lines
    → length indexes ≤ index
    → MakesLines (take index lines) old new
    → MakesLines lines old new
all_lines commands indexes lines index old new are past made =
    let many = as_many commands indexes lines are in
    subst (λ (l : List Command). MakesLines l old new) (take_all index lines (omega arith)) made

-- ---- the whole

module _ (cpu : ℕ) (commands : List (ℕ × Command)) (before : WriterValue) (first mid last : LineWriter)
    (new : before.part ≡ first_writing before.shape) (first_is : first.writer ≡ before)
    (none : payloads_of first ≡ [])
    (lines_are : MakesLines (writer_lines cpu (commands_of commands)) first mid) (rest : FinishesRest mid last) where
  abbrev lines : List Command
  lines = writer_lines cpu (commands_of commands)

  abbrev shape : Shape
  shape = before.shape

  shape_is : first.writer.shape ≡ shape
  shape_is = ap (λ (v : WriterValue). v.shape) first_is

  start_is : writer_in first.writer.part ≡ first_writer shape.start
  start_is = ap (λ (v : WriterValue). writer_in v.part) first_is ∙ ap writer_in new

  calls : LinesCalls shape.pages shape.size shape.start lines (first_writer shape.start) [] lines_are.exchanges
      (writer_in mid.writer.part) (payloads_of mid)
  calls =
      subst (λ (w : LineWriting). LinesCalls shape.pages shape.size shape.start lines w [] lines_are.exchanges
      (writer_in mid.writer.part) (payloads_of mid)) start_is
      (subst (λ (l : List (List ℕ)). LinesCalls shape.pages shape.size shape.start lines (writer_in first.writer.part) l
      lines_are.exchanges (writer_in mid.writer.part) (payloads_of mid)) none
      (subst (λ (s : Shape). LinesCalls s.pages s.size s.start lines (writer_in first.writer.part) (payloads_of first)
      lines_are.exchanges (writer_in mid.writer.part) (payloads_of mid)) shape_is lines_are.made))

  rest_calls : RestCalls shape.pages shape.size shape.start rest.count (writer_in mid.writer.part) (payloads_of mid)
      rest.makes.exchanges (writer_in last.writer.part) (payloads_of last)
  rest_calls =
      subst (λ (s : Shape). RestCalls s.pages s.size s.start rest.count (writer_in mid.writer.part) (payloads_of mid)
      rest.makes.exchanges (writer_in last.writer.part) (payloads_of last)) (lines_are.same.0 ∙ shape_is)
      rest.makes.made

  last_shape : last.writer.shape ≡ shape
  last_shape = rest.makes.same.0 ∙ lines_are.same.0 ∙ shape_is

  enough : MIN_PAGES ≤ shape.pages
  unfolding IsWriter
  enough =
      subst (λ (s : Shape). MIN_PAGES ≤ s.pages) last_shape rest.makes.is.writer.reached.may_start.some_pages

  abbrev reached : IsReachedByLines shape.pages shape.size shape.start lines (writer_in last.writer.part)
  reached = record {
    behind = writer_in mid.writer.part;
    payloads = payloads_of mid;
    by_lines = lines_are.exchanges;
    calls = calls;
    count = rest.count;
    lefts = payloads_of last;
    by_rest = rest.makes.exchanges;
    rest = rest_calls;
  }

  -- a new ring's writer has made nothing
  all_made : made_in last.writer.part ≡ exchanges_to reached
  all_made =
      made_then first mid last lines_are.exchanges rest.makes.exchanges lines_are.has_made rest.makes.has_made
      ∙ ap (λ (l : List Exchange). l ++ (lines_are.exchanges ++ rest.makes.exchanges))
      (ap (λ (v : WriterValue). made_in v.part) first_is ∙ ap made_in new)

  made : IsMadeByLines shape.pages shape.size shape.start lines last.writer.part.history
  made =
      writer_makes_lines shape.pages shape.size shape.start lines (writer_in last.writer.part)
      (let two = enough in omega arith) reached rest.none

  pub obeyed : HasObeyed cpu commands before last.writer
  unfolding IsWriter
  obeyed =
      let h = writers_have_histories last.writer rest.makes.is.writer in
      record {
        same = (last_shape, rest.makes.same.1 ∙ lines_are.same.1 ∙ ap (λ (v : WriterValue). v.table) first_is);
        at_rest = rest.none;
        calls = reached;
        has_made = all_made;
        made = made;
        committed = λ whole room.
            whole_lines_commit shape.pages shape.size shape.start lines last.writer.part.history enough whole room
            h.allowed
            (subst (λ (s : Shape). IsPacked last.writer.part.history s.size) last_shape
            h.packed)
            made;
      }
