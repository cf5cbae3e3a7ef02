-- The writer's private steps and a step of the reader lead to one state, whichever comes first.
use Rattle.std.proofs.Common.{◌≡◌, ◌≢◌, ℕ, suc, ◌+◌, ◌-◌, ◌%◌, ◌<◌, List, [], ◌∷◌, ◌++◌, length, get_or, set, map}
use Rattle.std.proofs.Common.{Option, refl, sym, ap, ◌∙◌, subst, arith}
use Rattle.std.proofs.lemmas.List.{get_or-set_other, map-set, set_comm}
use Rattle.trace_model.specs.History.{HistoryEvent, Reservation}
use Rattle.trace_model.specs.Links.{normal_link}
use Rattle.trace_model.specs.Frames.{Frame}
use Rattle.trace_model.specs.Ring.{PageRecords, empty_page, TakenFill, page_at, link_into, links_with, ReaderPhase}
use Rattle.trace_model.specs.Ring.{loading_head, loading_done, storing_spare_link, swapping, Reader, Core}
use Rattle.trace_model.specs.Steps.{Event, Answer, page_taken, tail_page, held_with_payload, next_header, reader_after}
use Rattle.trace_model.specs.Steps.{after_swap, Step, Exchange}
use Rattle.trace_model.proofs.steps.StepCases.{StepCases, ReadStep, loads_header, loads_update, loads_owed}
use Rattle.trace_model.proofs.steps.StepCases.{loads_passed, finds_none, finds_closed, swaps, swap_fails, push_step}
use Rattle.trace_model.proofs.steps.StepCases.{push_refused, close_step, close_refused, frame_step, frame_lacks}
use Rattle.trace_model.proofs.steps.StepCases.{end_step, end_lacks, end_early, read_step, store_wish_step}
use Rattle.trace_model.proofs.steps.StepSound.{cases_of}
use Rattle.trace_model.proofs.steps.StepIs.{step_by}
use Rattle.ring_model.specs.KeptLinks.{ReaderKept, LinksKept}
use Rattle.ring_model.specs.KeptContents.{OpenPagesKept}
use Rattle.ring_model.specs.RingKept.{IsRingKept}
use Rattle.ring_model.specs.Seats.{IsOfReader, IsPrivate, PrivateRun}
use Rattle.ring_model.proofs.partition.RingsKept.{ring_step}
use Rattle.ring_model.proofs.contents.OtherPageSteps.{ended_empty}
use Rattle.ring_model.proofs.seats.PrivateSteps.{private_state, private_result, changes_privately, ReaderWords}
use Rattle.ring_model.proofs.seats.PrivateSteps.{read_state, held_reserved, TurnsAlike, private_step_there}
use Rattle.ring_model.proofs.seats.PrivateSteps.{private_read}
use Rattle.ring_model.proofs.seats.SeatPages.{IsHeadTaken, head_taken, open_not_spare, open_not_head, result_pages}

-- ---- a step of the reader, and the same after private steps

-- the head, if it is closed, has its contents
abbrev HeadHolds : ℕ → Core → List PageRecords → Type 0
HeadHolds n c held =
    c.head < c.done
    → get_or held (page_at n c.order c.head) empty_page ≡ get_or c.held (page_at n c.order c.head) empty_page

-- What a step of the reader makes of the state: words, its own part, and contents of pages. The same step makes the
-- same of a state with other frames, another history, and other contents of pages but the head's.
record IsReading (n : ℕ) (c : Core) (Made : Core → Core → Type 0) (after : Core) : Type 0 where
  words : ReaderWords
  turned : List PageRecords → List PageRecords
  after_is : after ≡ read_state words turned c
  alike : TurnsAlike turned c
  again : (frames : List Frame) (history : List HistoryEvent) (held : List PageRecords) → HeadHolds n c held
      → Made (private_state c frames history held) (read_state words turned (private_state c frames history held))

-- the words as they are, but the reader is another
abbrev reader_words : Core → Reader → ReaderWords
reader_words c reader =
    record {
      links = c.links;
      spare_link = c.spare_link;
      wish = c.wish;
      head = c.head;
      order = c.order;
      spare = c.spare;
      reader = reader;
    }

-- the contents of pages stay
stay_alike : (c : Core) → TurnsAlike (λ held. held) c
stay_alike c = record { ended = λ number payload. refl; reserved = λ r. refl }

module _ (n : ℕ) (c : Core) (answer : Answer) (after : Core) where
  abbrev ReadsOf : ReaderPhase → Core → Core → Type 0
  ReadsOf phase from to = ReadStep n from phase answer to

  in_reader : (phase : ReaderPhase) (reader : Reader) → after ≡ read_state (reader_words c reader) (λ held. held) c
      → ((frames : List Frame) (history : List HistoryEvent) (held : List PageRecords)
      → ReadsOf phase (private_state c frames history held)
      (read_state (reader_words c reader) (λ h. h) (private_state c frames history held)))
      → IsReading n c (ReadsOf phase) after
  in_reader phase reader is again =
      record {
        words = reader_words c reader;
        turned = λ held. held;
        after_is = is;
        alike = stay_alike c;
        again = λ frames history held same. again frames history held;
      }

  -- the spare's page and the one that is taken are emptied
  abbrev swapped_pages : ℕ → List PageRecords → List PageRecords
  swapped_pages page held = set (set held c.spare empty_page) page empty_page

  swap_ended : (page : ℕ) (number : Option ℕ) (payload : Option (List ℕ))
      → swapped_pages page (map (held_with_payload number payload) c.held)
      ≡ map (held_with_payload number payload) (swapped_pages page c.held)
  swap_ended page number payload = let end = held_with_payload number payload in
      (λ i.
      set (set (map end c.held) c.spare (sym (ended_empty number payload) i)) page
      (sym (ended_empty number payload) i))
      ∙ ap (λ (l : List PageRecords). set l page (end empty_page)) (sym (map-set end c.held c.spare empty_page))
      ∙ sym (map-set end (set c.held c.spare empty_page) page empty_page)

  swap_reserved : (page tail : ℕ) (r : Reservation) → tail ≢ page → tail ≢ c.spare
      → swapped_pages page (held_reserved c.held tail r) ≡ held_reserved (swapped_pages page c.held) tail r
  swap_reserved page tail r not_page not_spare =
      let now : PageRecords =
      record {
        first = (get_or c.held tail empty_page).first;
        records = (get_or c.held tail empty_page).records ++ r ∷ [];
      } in
      ap (λ (l : List PageRecords). set l page empty_page) (set_comm c.held tail c.spare now empty_page not_spare)
      ∙ set_comm (set c.held c.spare empty_page) tail page now empty_page not_page
      ∙ ap (λ (h : PageRecords).
      set (swapped_pages page c.held) tail record { first = h.first; records = h.records ++ r ∷ [] })
      (sym (get_or-set_other (set c.held c.spare empty_page) page tail empty_page empty_page not_page
      ∙ get_or-set_other c.held c.spare tail empty_page empty_page not_spare))

  -- what a swap makes of the ring's words
  abbrev swap_words : (page fill : ℕ) → ReaderWords
  swap_words page fill = record {
    links = links_with n (links_with n c.links fill (normal_link c.spare (fill + n))) (suc fill) c.spare_link;
    spare_link = link_into n c.links (suc fill);
    wish = c.wish;
    head = c.head + 1;
    order = set c.order (fill % n) c.spare;
    spare = page;
    reader = reader_after c page fill;
  }

  reads_alike : LinksKept n c → OpenPagesKept n c → (phase : ReaderPhase)
      → ReaderKept n c.links c.order c.spare_link c.head c.done c.reader.hint phase → ReadStep n c phase answer after
      → IsReading n c (ReadsOf phase) after
  reads_alike k o loading_head facts (loads_header page fill at a is) =
      in_reader loading_head (record c.reader { phase = loading_done page fill; hint = fill }) is
      (λ frames history held. loads_header page fill at a refl)
  reads_alike k o loading_head facts (loads_update page lost at a is) =
      in_reader loading_head (record c.reader { phase = loading_head; hint = suc lost }) is
      (λ frames history held. loads_update page lost at a refl)
  reads_alike k o loading_head facts (loads_owed page at a is) =
      in_reader loading_head (record c.reader { phase = loading_head; hint = c.reader.hint }) is
      (λ frames history held. loads_owed page at a refl)
  reads_alike k o loading_head facts (loads_passed page fill least at more sum a is) =
      in_reader loading_head (record c.reader { phase = loading_head; hint = least }) is
      (λ frames history held. loads_passed page fill least at more sum a refl)
  reads_alike k o (loading_done page fill) facts (finds_none le a is) =
      in_reader (loading_done page fill) (record c.reader { phase = loading_head; seen = c.done }) is
      (λ frames history held. finds_none le a refl)
  reads_alike k o (loading_done page fill) facts (finds_closed below a is) =
      in_reader (loading_done page fill) (record c.reader { phase = storing_spare_link page fill; seen = c.done }) is
      (λ frames history held. finds_closed below a refl)
  reads_alike k o (storing_spare_link page fill) facts step = record {
    words =
        record (reader_words c (record c.reader { phase = swapping page fill; hint = c.reader.hint }))
        { spare_link = next_header n c fill };
    turned = λ held. held;
    after_is = step.after_is;
    alike = stay_alike c;
    again = λ frames history held same. record { answer_is = step.answer_is; after_is = refl };
  }
  reads_alike k o (swapping page fill) facts (swaps at a is) =
      let head = head_taken n c page fill k facts at in let count = o.count in let behind = k.done_lt in
      let last : length c.open_pages - 1 < length c.open_pages = omega arith in record {
        words = swap_words page fill;
        turned = swapped_pages page;
        after_is = is;
        alike = record {
          ended = swap_ended page;
          reserved =
              λ r.
              swap_reserved page (tail_page c) r
              (λ e. open_not_head n c k o (length c.open_pages - 1) last head.closed (e ∙ head.page_is))
              (open_not_spare n c k o (length c.open_pages - 1) last);
        };
        again =
            λ frames history held same.
            swap_again head frames history held
            (ap (λ (p : ℕ). get_or held p empty_page) head.page_is ∙ same head.closed
            ∙ ap (λ (p : ℕ). get_or c.held p empty_page) (sym head.page_is));
      }
    where
      -- the page that is taken is the same after a private step
      swap_again : IsHeadTaken n c page fill
          → (frames : List Frame) (history : List HistoryEvent) (held : List PageRecords)
          → get_or held page empty_page ≡ get_or c.held page empty_page
          → ReadsOf (swapping page fill) (private_state c frames history held)
          (read_state (swap_words page fill) (swapped_pages page) (private_state c frames history held))
      swap_again head frames history held same =
          let taken : PageRecords → TakenFill =
          λ h. record { fill = fill; skipped = h.first - c.reader.expected; held = h } in
          let there : Core = private_state c frames history held in
          swaps at (a ∙ ap (λ (h : PageRecords). page_taken (taken h)) (sym same))
          (ap
          (λ (h : PageRecords).
          record (after_swap n there page fill) {
            reader =
                record {
                  phase = loading_head;
                  hint = suc fill;
                  seen = c.reader.seen;
                  expected = h.first + length h.records;
                  taken = c.reader.taken ++ taken h ∷ [];
                };
          }) (sym same))
  reads_alike k o (swapping page fill) facts (swap_fails at a is) =
      in_reader (swapping page fill) (record c.reader { phase = loading_head; hint = suc fill }) is
      (λ frames history held. swap_fails at a refl)

-- ---- one private step

module _ (n size start : ℕ) (c : Core) (r : IsRingKept n size start c) where
  abbrev StepsOf : Event → Answer → Core → Core → Type 0
  StepsOf event answer from to = StepCases n size from event answer to

  step_alike : (event : Event) (answer : Answer) (after : Core) → IsOfReader event
      → StepCases n size c event answer after → IsReading n c (StepsOf event answer) after
  step_alike event answer after reads (push_step moment len e few short early a is) = absurd (subst IsOfReader e reads)
  step_alike event answer after reads (push_refused moment len why e refused a is) = absurd (subst IsOfReader e reads)
  step_alike event answer after reads (close_step e few a is) = absurd (subst IsOfReader e reads)
  step_alike event answer after reads (close_refused e many a is) = absurd (subst IsOfReader e reads)
  step_alike event answer after reads (frame_step frame below e top step) = absurd (subst IsOfReader e reads)
  step_alike event answer after reads (frame_lacks e none a is) = absurd (subst IsOfReader e reads)
  step_alike event answer after reads (end_step payload frame below number moment len e top at kind slot a is) =
      absurd (subst IsOfReader e reads)
  step_alike event answer after reads (end_lacks payload e none a is) = absurd (subst IsOfReader e reads)
  step_alike event answer after reads (end_early payload frame below e top none a is) =
      absurd (subst IsOfReader e reads)
  step_alike event answer after reads (read_step e step) =
      let m =
      reads_alike n c answer after r.links r.open_pages c.reader.phase r.links.reader step in
      record {
        words = m.words;
        turned = m.turned;
        after_is = m.after_is;
        alike = m.alike;
        again = λ frames history held same. read_step e (m.again frames history held same);
      }
  step_alike event answer after reads (store_wish_step e a is) = record {
    words = record (reader_words c c.reader) { wish = c.reader.seen + 1 };
    turned = λ held. held;
    after_is = is;
    alike = stay_alike c;
    again = λ frames history held same. store_wish_step e a refl;
  }

  abbrev Meets : Event → Answer → Core → Event → Answer → Core → Core → Type 0
  Meets own own_answer between event answer after both =
      IsPrivate after own × Step n size after own own_answer both × Step n size between event answer both

  -- a private step and a step of the reader
  one_meets : (own : Event) (own_answer : Answer) (between : Core) (event : Event) (answer : Answer) (after : Core)
      → IsPrivate c own → Step n size c own own_answer between → IsOfReader event → Step n size c event answer after
      → (both : Core) × Meets own own_answer between event answer after both
  one_meets own own_answer between event answer after may step reads read =
      let m = step_alike event answer after reads (cases_of read) in
      let result = private_result n size c own own_answer between may (cases_of step) in
      let is = changes_privately c between result in
      let holds : HeadHolds n c between.held =
      λ closed.
      result_pages n size start c r between result (page_at n c.order c.head)
      (λ i low. open_not_head n c r.links r.open_pages i low closed) in (
        read_state m.words m.turned between,
        (
          subst (λ (d : Core). IsPrivate d own) (sym m.after_is) (private_read m.words m.turned c own may),
          subst (λ (d : Core). Step n size d own own_answer (read_state m.words m.turned between)) (sym m.after_is)
              (step_by
              (private_step_there n size m.words m.turned c m.alike own own_answer between may (cases_of step))),
          subst (λ (d : Core). Step n size d event answer (read_state m.words m.turned d)) (sym is)
              (step_by (m.again between.frames between.history between.held holds)),
        ),
      )

-- ---- any number of them

pub private_commutes : (n size start : ℕ) (c aside : Core) (exchanges : List Exchange) (event : Event) (answer : Answer)
    (after : Core) → IsRingKept n size start c → PrivateRun n size c exchanges aside → IsOfReader event
    → Step n size c event answer after
    → (both : Core) × PrivateRun n size after exchanges both × Step n size aside event answer both
private_commutes n size start c aside [] event answer after r run reads read =
    (after, refl, subst (λ (d : Core). Step n size d event answer after) run read)
private_commutes n size start c aside (x ∷ exchanges) event answer after r (may, between, step, run) reads read =
    let (next, (may', step', read')) =
    one_meets n size start c r x.event x.answer between event answer after may step reads read in
    let (both, run', last) =
    private_commutes n size start between aside exchanges event answer next
    (ring_step n size start c x.event x.answer between r step) run reads read' in
    (both, (may', next, step', run'), last)
