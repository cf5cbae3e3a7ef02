-- What a step on a word owes: the state after it, and that the words, the pages at home and its own seat's view show
-- that state.
use Rattle.std.proofs.Common.{◌≡◌, ℕ, ◌≤◌, List, ◌++◌, sym, ap, ◌∙◌, subst, arith}
use Rattle.std.specs.Prelude.{Option, None, slice_index_or}
use Rattle.std.specs.List.{slice_index}
use Rattle.std.specs.Prelude.{slice_set}
use mathlib.Core.Option.{some}
use lib.ListN.{get_elem?}
use Rattle.atomic_table.specs.Table.{Act, Valid, homes_after, carried_after, Allows}
use Rattle.trace_model.specs.Ring.{Core}
use Rattle.page_image.specs.Contents.{Contents}
use Rattle.ring_steps.specs.declared.rule.Shape.{Shape}
use Rattle.ring_steps.specs.Made.{WriterMade, trace_to, writer_made_of, reader_made_of, privately_made}
use Rattle.ring_steps.specs.Receipts.{AreInTime}
use Rattle.ring_steps.specs.Views.{Writing, writing_of, Reading, SeatView, writes, reads, writing, passed, reading}
use Rattle.ring_steps.specs.Views.{AreReceipts, AreSeated}
use Rattle.ring_steps.specs.Shown.{Homes, AreHomes, IsReading, IsShown, Shows}
use Rattle.ring_steps.specs.Seats.{SeatState, Leads}
use Rattle.ring_steps.proofs.Placed.{writer_at, reader_at, writer_placed, reader_placed, not_laid_writer}
use Rattle.ring_steps.proofs.Placed.{not_laid_reader}
use Rattle.ring_steps.proofs.Private.{private_shown, private_open_pages, private_head, made_shown}
use Rattle.ring_steps.proofs.InTime.{receipts_later}

module _ (shape : Shape) where
  abbrev pub IsShownBy : Core → Reading → List ℕ → Homes → Type 0
  IsShownBy c r words homes = IsShown shape.pages shape.size shape.start c r words homes

  -- the seats know what they know of the writer's exchanges by either name
  seated_as : (made all : List WriterMade) (next : Core) (r : Reading) (head : ℕ) (views : List SeatView) → all ≡ made
      → AreSeated (writing_of made next) r head views → AreSeated (writing_of all next) r head views
  seated_as made all next r head views same seats =
      subst (λ (xs : List WriterMade). AreSeated (writing_of xs next) r head views) (sym same) seats

  -- the writer's step of the word i, to f of what it finds there, by which it has made more than until now; after it
  -- the writer knows all fills below a number to be passed
  pub record WriterMoves (now : Writing) (r : Reading) (me : SeatState) (words : List ℕ) (homes : Homes) (i : ℕ)
      (f : ℕ → ℕ) (reports : ℕ → SeatState → Type 0) : Type 0 where
    pub next : Core
    pub knows : ℕ
    pub low : knows ≤ next.head
    pub act : Act (Option Contents)
    pub valid : Valid homes me.1 act
    pub shown : IsShownBy next r (slice_set words i (f (slice_index words i))) (homes_after homes me.1 act)
    pub later : List WriterMade
    pub made_is : writer_made_of shown.reached ≡ now.made ++ later
    pub reported : reports (slice_index words i)
        (writes (writing_of (now.made ++ later) next) knows, carried_after me.1 act)

  pub writer_allows : (slots id : ℕ) (me : SeatState) (now : Writing) (i : ℕ) (f : ℕ → ℕ)
      (reports : ℕ → SeatState → Type 0)
      → me.0 ≡ writes (writing me.0) (passed me.0)
      → Leads shape (writing me.0) now
      → ((c : Core) (r : Reading) (words : List ℕ) (homes : Homes) (s : IsShownBy c r words homes)
      → writing_of (writer_made_of s.reached) c ≡ now → c.open_pages ≡ (writing me.0).open_pages
      → passed me.0 ≤ c.head → WriterMoves now r me words homes i f reports)
      → Allows (Shows shape.pages shape.size shape.start) slots id me i f reports
  writer_allows slots id me now i f reports is leads moves s h deep at range =
      let (running, first, same) =
      writer_at (writing_of (writer_made_of h.shown.reached) h.core) h.reader h.core.head s.views id (writing me.0)
      (passed me.0) h.seats (at ∙ ap some is) in
      let views = running.views_are in
      let known = running.low in
      let (exchanges, aside, run, now_is) = leads h.core h.shown.reached (sym same) in
      let pages =
      private_open_pages shape.pages shape.size h.core aside exchanges run
      ∙ ap (λ (w : Writing). w.open_pages) (sym same) in
      let head = private_head shape.pages shape.size h.core aside exchanges run in
      let shown =
      private_shown shape.pages shape.size shape.start h.core aside exchanges h.reader s.words s.homes h.shown
      run in
      let made =
      made_shown shape.pages shape.size shape.start h.core aside exchanges h.reader s.words s.homes h.shown run
      ∙ ap (λ (w : Writing). w.made ++ privately_made shape.pages shape.size h.core exchanges aside run)
      (sym same) in
      let privately : List WriterMade = privately_made shape.pages shape.size h.core exchanges aside run in
      let m =
      moves aside h.reader s.words s.homes shown (ap (λ (xs : List WriterMade). writing_of xs aside) made ∙ now_is)
      pages (subst (λ (k : ℕ). passed me.0 ≤ k) (sym head) known) in (
        writes (writing_of (now.made ++ m.later) m.next) m.knows,
        m.act,
        m.valid,
        record {
          core = m.next;
          reader = h.reader;
          shown = m.shown;
          seats =
              seated_as (now.made ++ m.later) (writer_made_of {c = m.next} m.shown.reached) m.next h.reader m.next.head
              (slice_set s.views id (writes (writing_of (now.made ++ m.later) m.next) m.knows)) m.made_is
              (writer_placed (writing_of (writer_made_of h.shown.reached) h.core) (passed me.0) h.reader m.next.head
              s.views id (writing_of (now.made ++ m.later) m.next) m.knows running.receipts views first m.low
              (receipts_later now.made m.later running.receipts
              (subst (λ (made : List WriterMade). AreReceipts made running.receipts)
              (ap (λ (w : Writing). w.made ++ privately) (sym same) ∙ ap (λ (w : Writing). w.made) now_is)
              (receipts_later (writer_made_of h.shown.reached) privately running.receipts running.are))));
          tail =
              λ u v at_first.
              absurd
              {A =
              get_elem? (homes_after s.homes me.1 m.act) (slice_index_or u.open_pages 0 0)
              ≡ some (some None)}
              (not_laid_writer s.views (writing_of (writer_made_of h.shown.reached) h.core) (passed me.0)
              h.reader id (writing_of (now.made ++ m.later) m.next) m.knows running.receipts u v views first
              at_first);
        },
        m.reported,
      )

  -- the reader's step of the word i, to f of what it finds there
  pub record ReaderMoves (c : Core) (made : List WriterMade) (me : SeatState) (words : List ℕ) (homes : Homes) (i : ℕ)
      (f : ℕ → ℕ) (reports : ℕ → SeatState → Type 0) : Type 0 where
    pub next : Core
    pub after : Reading
    pub act : Act (Option Contents)
    pub valid : Valid homes me.1 act
    pub shown : IsShownBy next after (slice_set words i (f (slice_index words i))) (homes_after homes me.1 act)
    pub writer_is : writing_of (writer_made_of shown.reached) next ≡ writing_of made c
    pub head_le : c.head ≤ next.head
    pub reported : reports (slice_index words i) (reads after, carried_after me.1 act)

  -- a state that is shown with what a reader knows is shown with anything equal to that
  abbrev pub shown_as : (c : Core) (r v : Reading) (words : List ℕ) (homes : Homes) → r ≡ v → IsShownBy c r words homes
      → IsShownBy c v words homes
  shown_as c r v words homes same s = record {
    pages_fit = s.pages_fit;
    reached = s.reached;
    are_words = s.are_words;
    are_homes = subst (λ (x : Reading). AreHomes shape.pages shape.size c x homes) same s.are_homes;
    is_reading = subst (IsReading c) same s.is_reading;
    reader_made_is = subst (λ (x : Reading). x.made ≡ reader_made_of s.reached) same s.reader_made_is;
    in_time = subst (λ (x : Reading). AreInTime (trace_to s.reached) x.lessons) same s.in_time;
  }

  pub reader_allows : (slots id : ℕ) (me : SeatState) (i : ℕ) (f : ℕ → ℕ) (reports : ℕ → SeatState → Type 0)
      → me.0 ≡ reads (reading me.0)
      → ((c : Core) (words : List ℕ) (homes : Homes) (s : IsShownBy c (reading me.0) words homes)
      → ReaderMoves c (writer_made_of s.reached) me words homes i f reports)
      → Allows (Shows shape.pages shape.size shape.start) slots id me i f reports
  reader_allows slots id me i f reports is moves s h deep at range =
      let (known, running, second, same) =
      reader_at (writing_of (writer_made_of h.shown.reached) h.core) h.reader h.core.head s.views id (reading me.0)
      h.seats (at ∙ ap some is) in
      let m =
      moves h.core s.words s.homes (shown_as h.core h.reader (reading me.0) s.words s.homes (sym same) h.shown) in
      let views = running.views_are in
      let low = running.low in
      let on = m.head_le in (
        reads m.after,
        m.act,
        m.valid,
        record {
          core = m.next;
          reader = m.after;
          shown = m.shown;
          seats =
              subst (λ (w : Writing). AreSeated w m.after m.next.head (slice_set s.views id (reads m.after)))
              (sym m.writer_is)
              (reader_placed (writing_of (writer_made_of h.shown.reached) h.core) known h.reader m.next.head s.views
              id m.after running.receipts views second (omega arith) running.are);
          tail =
              λ u v at_first.
              absurd
              (not_laid_reader s.views (writing_of (writer_made_of h.shown.reached) h.core) known h.reader id
              m.after running.receipts u v views second at_first);
        },
        m.reported,
      )

-- the rule of a ring of the same shape allows the same step on the same word
pub allows_as : (shape key : Shape) (slots id : ℕ) (me : SeatState) (i j : ℕ) (f : ℕ → ℕ)
    (reports : ℕ → SeatState → Type 0)
    → key ≡ shape → j ≡ i
    → Allows (Shows shape.pages shape.size shape.start) slots id me i f reports
    → Allows (Shows key.pages key.size key.start) slots id me j f reports
allows_as shape key slots id me i j f reports same at allowed =
    subst (λ (k : Shape). Allows (Shows k.pages k.size k.start) slots id me j f reports) (sym same)
    (subst (λ (n : ℕ). Allows (Shows shape.pages shape.size shape.start) slots id me n f reports) (sym at) allowed)
