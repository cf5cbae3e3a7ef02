-- The steps of the reader's take: what the words, the pages at home and its part show after each of them.
use Rattle.std.proofs.Common.{◌≡◌, ℕ, suc, ◌+◌, ◌-◌, ◌%◌, ◌<◌, ◌≤◌, List, [], ◌∷◌, get_or, map, take, Option, None}
use Rattle.std.proofs.Common.{Bool, true, false, refl, sym, ap, ◌∙◌, subst, mod-lt, lt_of_not-le, arith, length-set}
use Rattle.std.specs.Prelude.{⊤, slice_set}
use Rattle.std.specs.List.{slice_index}
use Rattle.std.proofs.lemmas.List.{get_or-set_same, get_or-set_other, set-get_or}
use Rattle.std.proofs.lemmas.List.Elements.{All-get_or}
use mathlib.Core.Option.{some}
use mathlib.Core.Option as maybe
use mathlib.Core.Logic.{dite}
use native.Mathlib.Decide.{dec_le}
use lib.ListN.{get_elem?}
use Rattle.atomic_table.specs.Table.{Act, keeps, takes, gives, Valid, put_back, rest, homes_after, carried_after}
use Rattle.atomic_table.proofs.Lists.{set_here, set_else}
use Rattle.trace_model.specs.declared.limits.TheConstants.{MAX_PAGES}
use Rattle.trace_model.specs.History.{as_record, reserved_records}
use Rattle.trace_model.specs.Links.{Link, word_of, normal_link, header_link, FitsWord}
use Rattle.trace_model.specs.Ring.{Core, ReaderPhase, loading_head, loading_done, storing_spare_link, swapping, Reader}
use Rattle.trace_model.specs.Ring.{AreApart, link_into, page_at}
use Rattle.trace_model.specs.Steps as model
use Rattle.trace_model.proofs.steps.StepCases as cases
use Rattle.trace_model.proofs.steps.StepCases.{loads_header, loads_update, loads_owed, loads_passed, push_step}
use Rattle.trace_model.proofs.steps.StepCases.{push_refused, close_step, close_refused, frame_step, frame_lacks}
use Rattle.trace_model.proofs.steps.StepCases.{end_step, end_lacks, end_early, read_step, store_wish_step}
use Rattle.trace_model.proofs.steps.StepSound.{cases_of}
use Rattle.trace_model.proofs.steps.StepIs.{step_by}
use Rattle.ring_model.specs.RingKept.{IsRingKept}
use Rattle.ring_model.specs.Seats.{IsOfReader}
use Rattle.ring_model.proofs.links.LinksFit.{links_fit_words}
use Rattle.ring_model.proofs.partition.RingsKept.{reached_kept}
use Rattle.ring_model.proofs.seats.SeatSteps.{reader_leaves_writer}
use Rattle.ring_model.proofs.steps.StepsGiven.{each_event_is_a_step}
use Rattle.page_image.specs.Contents.{Contents}
use Rattle.ring_steps.specs.declared.rule.Shape.{Shape}
use Rattle.ring_steps.specs.Made.{writer_made_of}
use Rattle.ring_steps.specs.Views.{Reading, reading_after, reading, reads}
use Rattle.ring_steps.specs.Shown.{page_before, AreWords, Homes, AreHomes, IsReading}
use Rattle.ring_steps.specs.Words.{opened_word, done_word, wish_word, page_word}
use Rattle.ring_steps.specs.Seats.{SeatState, kept_slots, IsSeatOfReader, without_slot}
use Rattle.ring_steps.specs.Taking.{ReadReported, SeatReported, IsWordInto}
use Rattle.ring_steps.proofs.Made.{reached_on, writer_same, reader_then}
use Rattle.ring_steps.proofs.Allowing.{IsShownBy, ReaderMoves}
use Rattle.ring_steps.proofs.ReaderSteps.{reader_within}
use Rattle.ring_steps.proofs.InTime.{in_time_more}

-- the reader's part of a state
abbrev pub reading_of : Core → Bool → Reading
reading_of c keeps_spare = record {
  order = c.order;
  spare = c.spare;
  spare_link = c.spare_link;
  reader = c.reader;
  wish = c.wish;
  observed = take c.reader.expected (map as_record (reserved_records c.history));
  keeps_spare = keeps_spare;
  made = [];
  lessons = [];
}

-- and after a step of a take
abbrev pub reading_on : Reading → Core → Bool → model.Answer → Reading
reading_on before c keeps_spare answer =
    reading_after before.made record { event = model.reads; answer = answer }
    (record (reading_of c keeps_spare) { lessons = before.lessons })

-- the reader goes on, and the link of its page may be set
abbrev pub gone_on : Core → Reader → Link → Core
gone_on c reader link = record c { reader = reader; spare_link = link }

-- ---- what stays

pub words_on : (n : ℕ) (c : Core) (words : List ℕ) (reader : Reader) → AreWords n c words
    → AreWords n (gone_on c reader c.spare_link) words
words_on n c words reader a = record {
  count = a.count;
  opened = a.opened;
  done = a.done;
  wish = a.wish;
  links = a.links;
  spare = a.spare;
}

-- the pages at home stay, in which the spare's slot is empty unless the reader keeps it
pub homes_on : (n size : ℕ) (c : Core) (r : Reading) (homes : Homes) (reader : Reader) (link : Link) (b : Bool)
    → AreHomes n size c r homes → (b ≡ false → get_elem? homes c.spare ≡ some (some None))
    → AreHomes n size (gone_on c reader link) (reading_of (gone_on c reader link) b) homes
homes_on n size c r homes reader link b h spare =
    record { count = h.count; closed = h.closed; free = h.free; spare = spare }

-- the spare's slot is put home, or taken from there
pub homes_set : (n size : ℕ) (c : Core) (r : Reading) (homes : Homes) (reader : Reader) (link : Link) (b : Bool)
    (x : maybe.Option (Option Contents)) → 1 ≤ n → AreApart n c.order c.spare → AreHomes n size c r homes
    → (b ≡ false → x ≡ some None)
    → AreHomes n size (gone_on c reader link) (reading_of (gone_on c reader link) b) (slice_set homes c.spare x)
homes_set n size c r homes reader link b x some_pages a h is =
    let below = a.spare_below in let count = h.count in record {
      count = length-set homes c.spare x ∙ h.count;
      closed = λ f low high. let (body, at, written) = h.closed f low high in (
        body,
        set_else homes c.spare (page_at n c.order f) x (a.spare_differs (f % n) (mod-lt f some_pages)) ∙ at,
        written,
      );
      free = λ f low high. let (body, at, sized) = h.free f low high in (
        body,
        set_else homes c.spare (page_at n c.order f) x (a.spare_differs (f % n) (mod-lt f some_pages)) ∙ at,
        sized,
      );
      spare = λ e. set_here homes c.spare x (omega arith) ∙ ap some (is e);
    }

-- if the reader keeps the spare's slot, it is put home
homes_given : (n size : ℕ) (c : Core) (r : Reading) (homes : Homes) (reader : Reader) (link : Link) (b : Bool) → 1 ≤ n
    → AreApart n c.order c.spare → AreHomes n size c r homes
    → (b ≡ false → get_elem? homes c.spare ≡ some (some None))
    → AreHomes n size (gone_on c reader link) (reading_of (gone_on c reader link) false)
    (put_back homes (kept_slots b c.spare))
homes_given n size c r homes reader link true some_pages a h empty =
    homes_set n size c r homes reader link false (some None) some_pages a h (λ e. refl)
homes_given n size c r homes reader link false some_pages a h empty =
    homes_on n size c r homes reader link false h empty

nothing_left : (b : Bool) (spare : ℕ) → ◌≡◌ {A = List (ℕ × Option Contents)} (rest (kept_slots b spare)) []
nothing_left true spare = refl
nothing_left false spare = refl

-- the link of the spare is set
words_set : (n : ℕ) (c : Core) (words : List ℕ) (reader : Reader) (link : Link) → 1 ≤ n → AreApart n c.order c.spare
    → AreWords n c words → AreWords n (gone_on c reader link) (slice_set words (page_word c.spare) (word_of link))
words_set n c words reader link some_pages a w =
    let below = a.spare_below in let count = w.count in let word : ℕ = page_word c.spare in record {
      count = length-set words word (word_of link) ∙ w.count;
      opened = get_or-set_other words word opened_word (word_of link) 0 (λ e. omega arith) ∙ w.opened;
      done = get_or-set_other words word done_word (word_of link) 0 (λ e. omega arith) ∙ w.done;
      wish = get_or-set_other words word wish_word (word_of link) 0 (λ e. omega arith) ∙ w.wish;
      links = λ f. get_or-set_other words word (page_word (page_before n c.order f)) (word_of link) 0
          (λ e.
          a.spare_differs ((f + n - 1) % n) (mod-lt (f + n - 1) some_pages)
          (let same : page_before n c.order f ≡ c.spare = omega arith in same))
          ∙ w.links f;
      spare = get_or-set_same words word (word_of link) 0 (omega arith);
    }

-- ---- what a load is

reads_of : (n size : ℕ) (c : Core) (answer : model.Answer) (next : Core)
    → cases.StepCases n size c model.reads answer next → cases.ReadStep n c c.reader.phase answer next
reads_of n size c answer next (push_step moment len e few short early a is) = absurd (subst IsOfReader e tt)
reads_of n size c answer next (push_refused moment len why e refused a is) = absurd (subst IsOfReader e tt)
reads_of n size c answer next (close_step e few a is) = absurd (subst IsOfReader e tt)
reads_of n size c answer next (close_refused e many a is) = absurd (subst IsOfReader e tt)
reads_of n size c answer next (frame_step frame below e top step) = absurd (subst IsOfReader e tt)
reads_of n size c answer next (frame_lacks e none a is) = absurd (subst IsOfReader e tt)
reads_of n size c answer next (end_step payload frame below number moment len e top at kind slot a is) =
    absurd (subst IsOfReader e tt)
reads_of n size c answer next (end_lacks payload e none a is) = absurd (subst IsOfReader e tt)
reads_of n size c answer next (end_early payload frame below e top none a is) = absurd (subst IsOfReader e tt)
reads_of n size c answer next (read_step e step) = step
reads_of n size c answer next (store_wish_step e a is) = absurd (cc)

load_on : (n : ℕ) (c : Core) (answer : model.Answer) (next : Core) → cases.LoadHeadStep n c answer next
    → (reader : Reader) × (next ≡ gone_on c reader c.spare_link)
load_on n c answer next (loads_header page fill at a is) =
    (record c.reader { phase = loading_done page fill; hint = fill }, is)
load_on n c answer next (loads_update page lost at a is) =
    (record c.reader { phase = loading_head; hint = suc lost }, is)
load_on n c answer next (loads_owed page at a is) = (record c.reader { phase = loading_head; hint = c.reader.hint }, is)
load_on n c answer next (loads_passed page fill least at more sum a is) =
    (record c.reader { phase = loading_head; hint = least }, is)

pub link_fits : (n size start : ℕ) (c : Core) (f : ℕ) → n ≤ MAX_PAGES → IsRingKept n size start c
    → FitsWord (link_into n c.links f)
link_fits n size start c f few k =
    let some_pages = k.links.some_pages in let wide = k.links.positions in
    All-get_or FitsWord c.links (f % n) (normal_link 0 0) (let low : f % n < n = mod-lt f (omega arith) in omega arith)
    (links_fit_words n size start c k (omega arith)).0

-- ---- one step

module _ (shape : Shape) (me : SeatState) (c : Core) (ws : List ℕ) (homes : Homes)
    (s : IsShownBy shape c (reading me.0) ws homes) where
  pub kept : IsRingKept shape.pages shape.size shape.start c
  kept = reached_kept shape.pages shape.size shape.start c s.reached

  pub some_position : 1 ≤ shape.pages
  some_position = let two = kept.links.some_pages in omega arith

  -- the phase that the state is in
  pub phase_in : (phase : ReaderPhase) → (reading me.0).reader.phase ≡ phase → phase ≡ c.reader.phase
  phase_in phase at = sym at ∙ ap (λ (x : Reader). x.phase) s.is_reading.reader_is

  pub step_in : (phase : ReaderPhase) (answer : model.Answer) (next : Core) → (reading me.0).reader.phase ≡ phase
      → cases.ReadStep shape.pages c phase answer next → model.Step shape.pages shape.size c model.reads answer next
  step_in phase answer next at step =
      step_by (cases.read_step refl
      (subst (λ (p : ReaderPhase). cases.ReadStep shape.pages c p answer next) (phase_in phase at) step))

  pub word_into : (page fill : ℕ) → page ≡ page_before shape.pages (reading me.0).order fill
      → slice_index ws (page_word page) ≡ word_of (link_into shape.pages c.links fill)
  word_into page fill is =
      ap (λ (p : ℕ). get_or ws (page_word p) 0)
      (is ∙ ap (λ (order : List ℕ). page_before shape.pages order fill) s.is_reading.order_is)
      ∙ s.are_words.links fill

module _ (shape : Shape) (me : SeatState) (c : Core) (ws : List ℕ) (homes : Homes)
    (s : IsShownBy shape c (reading me.0) ws homes) where
  pub reads_on : (i : ℕ) (f : ℕ → ℕ) (reports : ℕ → SeatState → Type 0) (sees : Core → Type 0) (b : Bool)
      (answer : model.Answer) (next : Core) (act : Act (Option Contents))
      → model.Step shape.pages shape.size c model.reads answer next
      → c.head ≤ next.head
      → sees c
      → Valid homes me.1 act
      → AreWords shape.pages next (slice_set ws i (f (slice_index ws i)))
      → AreHomes shape.pages shape.size next (reading_of next b) (homes_after homes me.1 act)
      → (ReadReported shape sees b me (reads (reading_on (reading me.0) next b answer), carried_after me.1 act)
      → reports (slice_index ws i) (reads (reading_on (reading me.0) next b answer), carried_after me.1 act))
      → ReaderMoves shape c (writer_made_of s.reached) me ws homes i f reports
  reads_on i f reports sees b answer next act step head_le seen valid words at_home report =
      let reached = reached_on shape.pages shape.size shape.start c model.reads answer next s.reached step in
      let stays = reader_leaves_writer shape.pages shape.size c model.reads answer next tt (cases_of step) in
      let is_reading : IsReading next (reading_on (reading me.0) next b answer) =
      record {
        order_is = refl;
        spare_is = refl;
        spare_link_is = refl;
        reader_is = refl;
        wish_is = refl;
        observed_is = refl;
      } in
      record {
        next = next;
        after = reading_on (reading me.0) next b answer;
        act = act;
        valid = valid;
        shown = record {
          pages_fit = s.pages_fit;
          reached = reached;
          are_words = words;
          are_homes =
              record { count = at_home.count; closed = at_home.closed; free = at_home.free; spare = at_home.spare };
          is_reading = is_reading;
          reader_made_is =
              reader_then shape.pages shape.size shape.start c model.reads answer next s.reached step (reading me.0)
              (reading_on (reading me.0) next b answer) refl s.reader_made_is is_reading;
          in_time =
              in_time_more shape.pages shape.size shape.start c model.reads answer next s.reached step
              (reading me.0).lessons s.in_time;
        };
        writer_is =
            λ k.
            record {
              made =
                  writer_same shape.pages shape.size shape.start c model.reads answer next s.reached step
                  refl k;
              frames = stays.frames k;
              open_pages = stays.open_pages k;
              history = stays.history k;
              done = stays.done k;
              opened = stays.opened k;
            };
        head_le = head_le;
        reported = report record {
          view = refl;
          within =
              reader_within shape next (reading_on (reading me.0) next b answer)
              (reached_kept shape.pages shape.size shape.start next reached) is_reading;
          keeps_is = refl;
          step = (
            answer,
            record {
              core = c;
              next = next;
              reached = s.reached;
              before_is = s.is_reading;
              seen = seen;
              of_reader = tt;
              step = step;
              after_is = is_reading;
              made_is = s.reader_made_is;
              one_more = refl;
              in_time = s.in_time;
              lessons_are = refl;
            },
          );
        };
      }

module _ (shape : Shape) (me : SeatState) (is : IsSeatOfReader me) (c : Core) (ws : List ℕ) (homes : Homes)
    (s : IsShownBy shape c (reading me.0) ws homes) where
  -- a load, and nothing else
  loads_on : (i : ℕ) (sees : ℕ → Core → Type 0) (answer : model.Answer) (reader : Reader)
      → model.Step shape.pages shape.size c model.reads answer (gone_on c reader c.spare_link)
      → sees (slice_index ws i) c
      → ReaderMoves shape c (writer_made_of s.reached) me ws homes i (λ k. k)
      (λ found after. SeatReported shape (sees found) (reading me.0).keeps_spare me after)
  loads_on i sees answer reader step seen =
      let same = set-get_or ws i 0 in
      let b : Bool = (reading me.0).keeps_spare in
      reads_on shape me c ws homes s i (λ k. k) (λ found after. SeatReported shape (sees found) b me after)
      (sees (slice_index ws i)) b answer (gone_on c reader c.spare_link) keeps step (omega arith) seen tt
      (subst (AreWords shape.pages (gone_on c reader c.spare_link)) (sym same)
      (words_on shape.pages c ws reader s.are_words))
      (homes_on shape.pages shape.size c (reading me.0) homes reader c.spare_link b s.are_homes s.are_homes.spare)
      (λ reported. (record { view = refl; hand = is.hand ∙ ap (kept_slots b) s.is_reading.spare_is }, reported))

  -- the number of closed fills is loaded
  pub load_done_moves : (page fill : ℕ) → (reading me.0).reader.phase ≡ loading_done page fill
      → ReaderMoves shape c (writer_made_of s.reached) me ws homes done_word (λ k. k)
      (λ found after. SeatReported shape (λ core. core.done ≡ found) (reading me.0).keeps_spare me after)
  load_done_moves page fill at = let seen = sym s.are_words.done in
      dite (dec_le c.done fill)
      (λ le.
      loads_on done_word (λ found core. core.done ≡ found) (model.empty c.done)
      (record c.reader { phase = loading_head; seen = c.done })
      (step_in shape me c ws homes s (loading_done page fill) (model.empty c.done) (model.reader_saw c loading_head) at
      (cases.finds_none le refl refl)) seen)
      (λ not.
      loads_on done_word (λ found core. core.done ≡ found) model.reading
      (record c.reader { phase = storing_spare_link page fill; seen = c.done })
      (step_in shape me c ws homes s (loading_done page fill) model.reading
      (model.reader_saw c (storing_spare_link page fill)) at (cases.finds_closed (lt_of_not-le not) refl refl)) seen)

  -- the link into the position of the hint is loaded, and the spare's slot is put home
  pub load_link_moves : (page : ℕ) → (reading me.0).reader.phase ≡ loading_head
      → page ≡ page_before shape.pages (reading me.0).order (reading me.0).reader.hint
      → ReaderMoves shape c (writer_made_of s.reached) me ws homes (page_word page) (λ k. k)
      (λ found after. SeatReported shape (IsWordInto shape (reading me.0).reader.hint found) false me after)
  load_link_moves page at page_is =
      let k = kept shape me c ws homes s in let some_pages = some_position shape me c ws homes s in
      let hint : ℕ = (reading me.0).reader.hint in
      let b : Bool = (reading me.0).keeps_spare in
      let hand : me.1 ≡ kept_slots b c.spare = is.hand ∙ ap (kept_slots b) s.is_reading.spare_is in
      let (answer, behind, made) = each_event_is_a_step shape.pages shape.size shape.start c model.reads k tt in
      let load =
      subst (λ (p : ReaderPhase). cases.ReadStep shape.pages c p answer behind)
      (sym (phase_in shape me c ws homes s loading_head at))
      (reads_of shape.pages shape.size c answer behind (cases_of made)) in
      let (reader, on) = load_on shape.pages c answer behind load in
      let next : Core = gone_on c reader c.spare_link in
      let step : model.Step shape.pages shape.size c model.reads answer next =
      subst (λ (d : Core). model.Step shape.pages shape.size c model.reads answer d) on made in
      reads_on shape me c ws homes s (page_word page) (λ k. k)
      (λ found after. SeatReported shape (IsWordInto shape hint found) false me after)
      (IsWordInto shape hint (slice_index ws (page_word page))) false answer next gives step (omega arith)
      record {
        word_is = sym (word_into shape me c ws homes s page hint page_is);
        fits = link_fits shape.pages shape.size shape.start c hint s.pages_fit k;
      }
      tt
      (subst (AreWords shape.pages next) (sym (set-get_or ws (page_word page) 0))
      (words_on shape.pages c ws reader s.are_words))
      (subst
      (λ (l : List (ℕ × Option Contents)).
      AreHomes shape.pages shape.size next (reading_of next false) (put_back homes l)) (sym hand)
      (homes_given shape.pages shape.size c (reading me.0) homes reader c.spare_link b some_pages k.links.apart
      s.are_homes s.are_homes.spare))
      (λ reported. (record { view = refl; hand = ap rest hand ∙ nothing_left b c.spare }, reported))

  -- the spare's link is stored, and its slot taken
  pub store_moves : (page fill spare new : ℕ) (link : Link) → (reading me.0).reader.phase ≡ storing_spare_link page fill
      → spare ≡ (reading me.0).spare → (reading me.0).keeps_spare ≡ false
      → new ≡ word_of link
      → link ≡ header_link (page_at shape.pages (reading me.0).order (fill + 1)) (fill + 1)
      → ReaderMoves shape c (writer_made_of s.reached) me ws homes (page_word spare) (λ _. new)
      (λ _ after. SeatReported shape (λ _. ⊤) true me after)
  store_moves page fill spare new link at spare_is empty new_is link_is =
      let k = kept shape me c ws homes s in let some_pages = some_position shape me c ws homes s in
      let behind : Link = model.next_header shape.pages c fill in
      let on : suc fill ≡ fill + 1 = omega arith in
      let header : link ≡ behind =
      link_is ∙ (λ i. header_link (page_at shape.pages (s.is_reading.order_is i) (sym on i)) (sym on i)) in
      let reader : Reader = record c.reader { phase = swapping page fill; hint = c.reader.hint } in
      let next : Core = gone_on c reader behind in
      let here : c.spare ≡ spare = sym (spare_is ∙ s.is_reading.spare_is) in
      let none : me.1 ≡ [] = is.hand ∙ ap (λ (b : Bool). kept_slots b (reading me.0).spare) empty in
      reads_on shape me c ws homes s (page_word spare) (λ _. new) (λ _ after. SeatReported shape (λ _. ⊤) true me after)
      (λ _. ⊤) true model.reading next (takes c.spare None)
      (step_in shape me c ws homes s (storing_spare_link page fill) model.reading next at
      record { answer_is = refl; after_is = refl })
      (omega arith) tt
      (s.are_homes.spare empty)
      (subst (λ (w : ℕ). AreWords shape.pages next (slice_set ws (page_word spare) w))
      (ap word_of (sym header) ∙ sym new_is)
      (subst (λ (p : ℕ). AreWords shape.pages next (slice_set ws (page_word p) (word_of behind))) here
      (words_set shape.pages c ws reader behind some_pages k.links.apart s.are_words)))
      (homes_set shape.pages shape.size c (reading me.0) homes reader behind true maybe.none some_pages k.links.apart
      s.are_homes (λ e. absurd (cc)))
      (λ reported.
      (record { view = refl; hand = ap (λ (l : List (ℕ × Option Contents)). (c.spare, None) ∷ l) none }, reported))

  -- a word is loaded, and the spare's slot is put home: no step of the model
  pub gives_back : (i : ℕ)
      → ReaderMoves shape c (writer_made_of s.reached) me ws homes i (λ k. k)
      (λ _ after. after ≡ (reads (without_slot (reading me.0)), []))
  gives_back i =
      let k = kept shape me c ws homes s in let some_pages = some_position shape me c ws homes s in
      let b : Bool = (reading me.0).keeps_spare in
      let hand : me.1 ≡ kept_slots b c.spare = is.hand ∙ ap (kept_slots b) s.is_reading.spare_is in
      let given : AreHomes shape.pages shape.size c (reading_of c false) (put_back homes me.1) =
      subst
      (λ (l : List (ℕ × Option Contents)).
      AreHomes shape.pages shape.size c (reading_of c false) (put_back homes l)) (sym hand)
      (homes_given shape.pages shape.size c (reading me.0) homes c.reader c.spare_link b some_pages k.links.apart
      s.are_homes s.are_homes.spare) in
      record {
        next = c;
        after = without_slot (reading me.0);
        act = gives;
        valid = tt;
        shown = record {
          pages_fit = s.pages_fit;
          reached = s.reached;
          are_words = subst (AreWords shape.pages c) (sym (set-get_or ws i 0)) s.are_words;
          are_homes = record { count = given.count; closed = given.closed; free = given.free; spare = given.spare };
          is_reading = record {
            order_is = s.is_reading.order_is;
            spare_is = s.is_reading.spare_is;
            spare_link_is = s.is_reading.spare_link_is;
            reader_is = s.is_reading.reader_is;
            wish_is = s.is_reading.wish_is;
            observed_is = s.is_reading.observed_is;
          };
          reader_made_is = s.reader_made_is;
          in_time = s.in_time;
        };
        writer_is = refl;
        head_le = omega arith;
        reported =
            ap (λ (l : List (ℕ × Option Contents)). (reads (without_slot (reading me.0)), l))
            (ap rest hand ∙ nothing_left b c.spare);
      }
