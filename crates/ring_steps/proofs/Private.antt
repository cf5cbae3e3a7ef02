-- Private steps of the writer: the same words and pages at home show the state after them.
use Rattle.std.proofs.Common.{◌≡◌, ◌≢◌, ℕ, ◌+◌, ◌<◌, ◌≤◌, List, [], ◌∷◌, ◌++◌, false, length, slice_index_or, sym, ap}
use Rattle.std.proofs.Common.{◌∙◌, subst, arith, append_assoc, append-nil}
use Rattle.trace_model.specs.Ring.{Core, page_at}
use Rattle.trace_model.specs.Steps.{contents_of, Event, Answer, Exchange, Step}
use Rattle.trace_model.proofs.steps.StepSound.{cases_of}
use Rattle.ring_model.specs.RingKept.{IsRingKept}
use Rattle.ring_model.specs.Reached.{IsReached}
use Rattle.ring_model.specs.Seats.{PrivateRun}
use Rattle.ring_model.proofs.contents.PageChanges.{pages_differ}
use Rattle.ring_model.proofs.seats.PrivateSteps.{private_result, changes_privately, IsPrivateOf}
use Rattle.ring_model.proofs.seats.SeatPages.{private_leaves_other_pages}
use Rattle.ring_model.proofs.partition.RingsKept.{reached_kept}
use Rattle.ring_steps.specs.Made.{WriterMade, writer_made, reader_made, is_by_reader, is_by_writer, trace_to}
use Rattle.ring_steps.specs.Made.{writer_made_of, reader_made_of, privately_made}
use Rattle.ring_steps.specs.Receipts.{Lesson, AreInTime}
use Rattle.ring_steps.specs.Views.{Reading}
use Rattle.ring_steps.specs.Shown.{Homes, IsHome, AreWords, AreHomes, IsReading, IsShown}
use Rattle.ring_steps.proofs.Made.{made_at, of_writer, reached_on, reached_at, writer_more, reader_same}
use Rattle.ring_steps.proofs.Observed.{first_records, observed_stays}
use Rattle.ring_steps.proofs.InTime.{in_time_more, in_time_at}

-- the page of a closed fill is none of the writer's
pub closed_is_other : (n size start : ℕ) (c : Core) (f : ℕ) → IsRingKept n size start c → c.head ≤ f → f < c.done
    → (i : ℕ) → i < length c.open_pages → slice_index_or c.open_pages i 0 ≢ page_at n c.order f
closed_is_other n size start c f k low high i inside e =
    let some = k.links.some_pages in
    let le = k.links.head_le in
    let room = k.links.opened_le in
    let count = k.open_pages.count in
    pages_differ n c.order c.spare c.head (c.done + i) f (omega arith) k.links.apart (omega arith) (omega arith) low
    (omega arith) (λ same. omega arith) (sym (k.open_pages.each i inside) ∙ e)

-- the reader's part is the same one
pub stays_read : (n size start : ℕ) (c : Core) (event : Event) (answer : Answer) (after : Core) (r : Reading)
    → IsReached n size start c → Step n size c event answer after → IsPrivateOf c after → IsReading c r
    → IsReading after r
stays_read n size start c event answer after r reached step is reading_is =
    let observed = observed_stays n size start c event answer after (reached_kept n size start c reached) step in
    record {
      order_is = reading_is.order_is ∙ sym (ap (λ (d : Core). d.order) is);
      spare_is = reading_is.spare_is ∙ sym (ap (λ (d : Core). d.spare) is);
      spare_link_is = reading_is.spare_link_is ∙ sym (ap (λ (d : Core). d.spare_link) is);
      reader_is = reading_is.reader_is ∙ sym (ap (λ (d : Core). d.reader) is);
      wish_is = reading_is.wish_is ∙ sym (ap (λ (d : Core). d.wish) is);
      observed_is =
          reading_is.observed_is
          ∙ (sym observed
          ∙ sym (ap (λ (x : Rattle.trace_model.specs.Ring.Reader). first_records x.expected after.history)
          (ap (λ (d : Core). d.reader) is)));
    }

pub private_read : (n size start : ℕ) (c aside : Core) (exchanges : List Exchange) (r : Reading)
    → IsReached n size start c → PrivateRun n size c exchanges aside → IsReading c r → IsReading aside r
private_read n size start c aside [] r reached run reading_is = subst (λ (d : Core). IsReading d r) run reading_is
private_read n size start c aside (x ∷ exchanges) r reached (own, between, step, run) reading_is =
    private_read n size start between aside exchanges r
    (reached_on n size start c x.event x.answer between reached step) run
    (stays_read n size start c x.event x.answer between r reached step
    (changes_privately c between (private_result n size c x.event x.answer between own (cases_of step))) reading_is)

-- the frames, the history and what pages hold are others; the pages of closed fills hold what they held
abbrev pub stays_shown : (n size start : ℕ) (c : Core) (event : Event) (answer : Answer) (after : Core) (r : Reading)
    (words : List ℕ) (homes : Homes)
    → IsShown n size start c r words homes
    → Step n size c event answer after
    → IsPrivateOf c after
    → is_by_reader event ≡ false
    → ((f : ℕ) → c.head ≤ f → f < c.done
    → contents_of after (page_at n c.order f) ≡ contents_of c (page_at n c.order f))
    → IsShown n size start after r words homes
stays_shown n size start c event answer after r words homes s step is own holds =
    let words_are : AreWords n after words = subst (λ (d : Core). AreWords n d words) (sym is) record {
      count = s.are_words.count;
      opened = s.are_words.opened;
      done = s.are_words.done;
      wish = s.are_words.wish;
      links = s.are_words.links;
      spare = s.are_words.spare;
    } in
    let held_is : (f : ℕ) → c.head ≤ f → f < c.done
    → IsHome homes size (page_at n c.order f) f (contents_of after (page_at n c.order f)) =
    λ f low high.
    subst (IsHome homes size (page_at n c.order f) f) (sym (holds f low high)) (s.are_homes.closed f low high) in
    let head = ap (λ (d : Core). d.head) is in
    let done = ap (λ (d : Core). d.done) is in
    let opened = ap (λ (d : Core). d.opened) is in
    let order = ap (λ (d : Core). d.order) is in
    let spare = ap (λ (d : Core). d.spare) is in
    record {
      pages_fit = s.pages_fit;
      reached = reached_on n size start c event answer after s.reached step;
      are_words = words_are;
      are_homes = record {
        count = s.are_homes.count;
        closed =
            λ f low high.
            subst (λ (o : List ℕ). IsHome homes size (page_at n o f) f (contents_of after (page_at n o f)))
            (sym order) (held_is f (omega arith) (omega arith));
        free =
            λ f low high.
            subst (λ (o : List ℕ). Rattle.ring_steps.specs.Shown.HasBody homes size (page_at n o f)) (sym order)
            (s.are_homes.free f (omega arith) (omega arith));
        spare = λ at_home. ap (lib.ListN.get_elem? homes) spare ∙ s.are_homes.spare at_home;
      };
      is_reading = stays_read n size start c event answer after r s.reached step is s.is_reading;
      reader_made_is = s.reader_made_is ∙ sym (reader_same n size start c event answer after s.reached step own);
      in_time = in_time_more n size start c event answer after s.reached step r.lessons s.in_time;
    }

pub private_shown : (n size start : ℕ) (c aside : Core) (exchanges : List Exchange) (r : Reading) (words : List ℕ)
    (homes : Homes) → IsShown n size start c r words homes → PrivateRun n size c exchanges aside
    → IsShown n size start aside r words homes
private_shown n size start c aside [] r words homes s run = record {
  pages_fit = s.pages_fit;
  reached = reached_at n size start c aside run s.reached;
  are_words = subst (λ (d : Core). AreWords n d words) run s.are_words;
  are_homes = subst (λ (d : Core). AreHomes n size d r homes) run s.are_homes;
  is_reading = subst (λ (d : Core). IsReading d r) run s.is_reading;
  reader_made_is =
      s.reader_made_is
      ∙ sym (made_at is_by_reader reader_made n size s.reached.from c aside s.reached.exchanges run s.reached.run);
  in_time = in_time_at n size start c aside run s.reached r.lessons s.in_time;
}
private_shown n size start c aside (x ∷ exchanges) r words homes s (own, between, step, run) =
    let k = reached_kept n size start c s.reached in
    private_shown n size start between aside exchanges r words homes
    (stays_shown n size start c x.event x.answer between r words homes s step
    (changes_privately c between (private_result n size c x.event x.answer between own (cases_of step)))
    (of_writer c x.event own).1
    (λ f low high.
    private_leaves_other_pages n size start c x.event x.answer between k own step (page_at n c.order f)
    (closed_is_other n size start c f k low high))) run

-- the writer's open pages are the same ones
pub private_open_pages : (n size : ℕ) (c aside : Core) (exchanges : List Exchange) → PrivateRun n size c exchanges aside
    → aside.open_pages ≡ c.open_pages
private_open_pages n size c aside [] run = ap (λ (d : Core). d.open_pages) (sym run)
private_open_pages n size c aside (x ∷ exchanges) (own, between, step, run) =
    private_open_pages n size between aside exchanges run
    ∙ ap (λ (d : Core). d.open_pages)
    (changes_privately c between (private_result n size c x.event x.answer between own (cases_of step)))

-- and so is the head
pub private_head : (n size : ℕ) (c aside : Core) (exchanges : List Exchange) → PrivateRun n size c exchanges aside
    → aside.head ≡ c.head
private_head n size c aside [] run = ap (λ (d : Core). d.head) (sym run)
private_head n size c aside (x ∷ exchanges) (own, between, step, run) =
    private_head n size between aside exchanges run
    ∙ ap (λ (d : Core). d.head)
    (changes_privately c between (private_result n size c x.event x.answer between own (cases_of step)))

pub private_reached : (n size start : ℕ) (c aside : Core) (exchanges : List Exchange) → IsReached n size start c
    → PrivateRun n size c exchanges aside → IsReached n size start aside
private_reached n size start c aside [] reached run = reached_at n size start c aside run reached
private_reached n size start c aside (x ∷ exchanges) reached (own, between, step, run) =
    private_reached n size start between aside exchanges
    (reached_on n size start c x.event x.answer between reached step) run

pub private_in_time : (n size start : ℕ) (c aside : Core) (exchanges : List Exchange)
    (reached : IsReached n size start c) (run : PrivateRun n size c exchanges aside) (lessons : List Lesson)
    → AreInTime (trace_to reached) lessons
    → AreInTime (trace_to (private_reached n size start c aside exchanges reached run)) lessons
unfolding private_reached
private_in_time n size start c aside [] reached run lessons are =
    in_time_at n size start c aside run reached lessons are
private_in_time n size start c aside (x ∷ exchanges) reached (own, between, step, run) lessons are =
    private_in_time n size start between aside exchanges
    (reached_on n size start c x.event x.answer between reached step) run lessons
    (in_time_more n size start c x.event x.answer between reached step lessons are)

-- ---- what the ends made: the writer these steps more, the reader nothing

pub made_reached : (n size start : ℕ) (c aside : Core) (exchanges : List Exchange) (reached : IsReached n size start c)
    (run : PrivateRun n size c exchanges aside)
    → (writer_made_of (private_reached n size start c aside exchanges reached run)
    ≡ writer_made_of reached ++ privately_made n size c exchanges aside run)
    × (reader_made_of (private_reached n size start c aside exchanges reached run) ≡ reader_made_of reached)
unfolding private_reached
made_reached n size start c aside [] reached run = (
  made_at is_by_writer writer_made n size reached.from c aside reached.exchanges run reached.run
      ∙ sym (append-nil (writer_made_of reached)),
  made_at is_by_reader reader_made n size reached.from c aside reached.exchanges run reached.run,
)
made_reached n size start c aside (x ∷ exchanges) reached (own, between, step, run) =
    let (writers, readers) =
    made_reached n size start between aside exchanges
    (reached_on n size start c x.event x.answer between reached step) run in
    let (mine, other) = of_writer c x.event own in (
      writers
          ∙ (ap (λ (made : List WriterMade). made ++ privately_made n size between exchanges aside run)
          (writer_more n size start c x.event x.answer between reached step mine)
          ∙ append_assoc (writer_made_of reached) (writer_made x between ∷ [])
          (privately_made n size between exchanges aside run)),
      readers ∙ reader_same n size start c x.event x.answer between reached step other,
    )

pub made_shown : (n size start : ℕ) (c aside : Core) (exchanges : List Exchange) (r : Reading) (words : List ℕ)
    (homes : Homes) (s : IsShown n size start c r words homes) (run : PrivateRun n size c exchanges aside)
    → writer_made_of (private_shown n size start c aside exchanges r words homes s run).reached
    ≡ writer_made_of s.reached ++ privately_made n size c exchanges aside run
unfolding private_shown
made_shown n size start c aside [] r words homes s run =
    made_at is_by_writer writer_made n size s.reached.from c aside s.reached.exchanges run s.reached.run
    ∙ sym (append-nil (writer_made_of s.reached))
made_shown n size start c aside (x ∷ exchanges) r words homes s (own, between, step, run) =
    let k = reached_kept n size start c s.reached in
    made_shown n size start between aside exchanges r words homes
    (stays_shown n size start c x.event x.answer between r words homes s step
    (changes_privately c between (private_result n size c x.event x.answer between own (cases_of step)))
    (of_writer c x.event own).1
    (λ f low high.
    private_leaves_other_pages n size start c x.event x.answer between k own step (page_at n c.order f)
    (closed_is_other n size start c f k low high))) run
    ∙ (ap (λ (made : List WriterMade). made ++ privately_made n size between exchanges aside run)
    (writer_more n size start c x.event x.answer between s.reached step (of_writer c x.event own).0)
    ∙ append_assoc (writer_made_of s.reached) (writer_made x between ∷ [])
    (privately_made n size between exchanges aside run))
