-- The writer's steps by which it gets pages and by which they go home.
use Rattle.std.specs.Prelude.{⊤, slice_index_or, slice_set, Option, Some, None}
use Rattle.std.proofs.Common.{◌≡◌, ◌≢◌, ℕ, ◌+◌, ◌%◌, ◌<◌, ◌≤◌, false, List, [], ◌∷◌, ◌++◌, drop, set, length, refl, sym}
use Rattle.std.proofs.Common.{ap, ◌∙◌, subst, arith, mod-lt, length-set}
use Rattle.std.proofs.lemmas.List.{get_or-set_other}
use mathlib.Core.Option.{some, none}
use mathlib.Core.Logic.{dite}
use native.Mathlib.Decide.{ℕ_discrete}
use lib.ListN.{get_elem?}
use Rattle.atomic_table.specs.Table.{takes, gives, rest, turned, Allows}
use Rattle.atomic_table.proofs.Lists.{set_here, set_else}
use Rattle.trace_model.specs.Frames.{Purpose, for_record, for_close, Progress, waiting, reserved, left, opening}
use Rattle.trace_model.specs.Frames.{releasing, wishing, Phase, Frame}
use Rattle.trace_model.specs.History.{HistoryEvent}
use Rattle.trace_model.specs.Ring.{PageRecords, Core, empty_page, page_at, fill_of}
use Rattle.trace_model.specs.Steps.{steps, going, Answer, contents_of, with_new_tail, held_with_payload, own_number}
use Rattle.trace_model.specs.Steps.{after_begin, begin_answer, Step}
use Rattle.trace_model.proofs.steps.StepCases.{ReleaseFillStep, releases, releases_last, opens, FrameStep, frame_step}
use Rattle.trace_model.proofs.steps.StepIs.{step_by}
use Rattle.ring_model.specs.RingKept.{IsRingKept}
use Rattle.ring_model.specs.KeptLinks.{passed_spot}
use Rattle.ring_model.proofs.links.FrameChanges.{top_kept}
use Rattle.ring_model.proofs.frames.StackSteps.{releasing_left, top_agrees}
use Rattle.trace_model.proofs.Positions.{page_turn}
use Rattle.ring_model.proofs.contents.PageChanges.{pages_differ, page_below}
use Rattle.ring_model.proofs.contents.OtherPageSteps.{ended_at}
use Rattle.ring_model.proofs.seats.PrivateSteps.{private_state, IsPrivateOf}
use Rattle.ring_model.proofs.seats.SeatSteps.{writer_leaves_reader}
use Rattle.ring_model.proofs.partition.RingsKept.{reached_kept}
use Rattle.page_image.specs.Contents.{Contents}
use Rattle.nested_writer.specs.Released.{IsWrittenPage}
use Rattle.ring_steps.specs.declared.rule.Shape.{Shape}
use Rattle.ring_steps.specs.Made.{writer_made, trace_to, writer_made_of, reader_made_of}
use Rattle.ring_steps.specs.Receipts.{AreInTime}
use Rattle.ring_steps.specs.Views.{Writing, writing_of, Reading, writing, passed}
use Rattle.ring_steps.specs.Shown.{Homes, IsHome, HasBody, AreWords, AreHomes, IsReading, Shows}
use Rattle.ring_steps.specs.Words.{opened_word, done_word}
use Rattle.ring_steps.specs.Seats.{SeatState, emptied, IsWriting, Leads, WriterReported}
use Rattle.ring_steps.specs.Paging.{IsTopIn, begun_answer, OpenReported}
use Rattle.ring_steps.proofs.Made.{reached_on, writer_then, reader_same}
use Rattle.ring_steps.proofs.CountWords as words
use Rattle.ring_steps.proofs.Observed.{first_records, observed_stays}
use Rattle.ring_steps.proofs.Allowing.{IsShownBy, WriterMoves, writer_allows}
use Rattle.ring_steps.proofs.InTime.{in_time_more}

-- ---- the writer's hand

rest_emptied : (pages : List ℕ) → rest (emptied pages) ≡ emptied (drop 1 pages)
rest_emptied [] = refl
rest_emptied (page ∷ pages) = refl

first_emptied : (pages : List ℕ) (number : ℕ) → 0 < length pages → number ≡ slice_index_or pages 0 0
    → emptied pages ≡ (number, None) ∷ rest (emptied pages)
first_emptied [] number filled is = absurd (omega arith)
first_emptied (page ∷ pages) number filled is =
    ap (λ (p : ℕ). let slots : List (ℕ × Option Contents) = (p, None) ∷ emptied pages in slots) (sym is)

-- the slot of its oldest page is the first of the writer's
pub first_slot : (me : SeatState) (number : ℕ) → IsWriting me → 0 < length (writing me.0).open_pages
    → number ≡ slice_index_or (writing me.0).open_pages 0 0 → me.1 ≡ (number, None) ∷ rest me.1
first_slot me number is filled first =
    subst (λ (slots : List (ℕ × Option Contents)). slots ≡ (number, None) ∷ rest slots) (sym is.hand)
    (first_emptied (writing me.0).open_pages number filled first)

emptied_more : (pages : List ℕ) (page : ℕ) → emptied pages ++ (page, None) ∷ [] ≡ emptied (pages ++ page ∷ [])
emptied_more [] page = refl
emptied_more (first ∷ pages) page =
    ap (λ (slots : List (ℕ × Option Contents)). (first, None) ∷ slots) (emptied_more pages page)

-- ---- frames

-- the frame on top, in its phase
pub record HasTop (frames : List Frame) (phase : Phase) : Type 0 where
  pub frame : Frame
  pub below : List Frame
  pub is : frames ≡ frame ∷ below
  pub phase_is : frame.phase ≡ phase

pub top_of : (frames : List Frame) (phase : Phase) → IsTopIn frames phase → HasTop frames phase
top_of [] phase top = absurd top
top_of (frame ∷ below) phase top = record { frame = frame; below = below; is = refl; phase_is = top }

begun_private : (kind : Purpose) (state : Progress) (c : Core) (frame : Frame) (below : List Frame)
    → IsPrivateOf c (after_begin kind state c frame below)
begun_private (for_record moment len) waiting c frame below = refl
begun_private for_close waiting c frame below = refl
begun_private kind (reserved number) c frame below = refl
begun_private kind left c frame below = refl

begun_contents : (kind : Purpose) (state : Progress) (c : Core) (frame : Frame) (below : List Frame) (page : ℕ)
    → frame.kind ≡ kind → contents_of (after_begin kind state c frame below) page ≡ contents_of c page
begun_contents (for_record moment len) waiting c frame below page is = refl
begun_contents for_close waiting c frame below page is = ended_at (own_number frame.kind frame.state) None c.held page
    ∙ ap (λ (kind : Purpose). held_with_payload (own_number kind frame.state) None (contents_of c page)) is
begun_contents kind (reserved number) c frame below page is = refl
begun_contents kind left c frame below page is = refl

-- ---- a state that is shown

module _ (shape : Shape) (c : Core) (r : Reading) (ws : List ℕ) (homes : Homes) (s : IsShownBy shape c r ws homes) where
  kept : IsRingKept shape.pages shape.size shape.start c
  kept = reached_kept shape.pages shape.size shape.start c s.reached

  -- a step of the writer leaves the reader its part
  reads_stay : (answer : Answer) (after : Core) (step : Step shape.pages shape.size c steps answer after)
      → r.made ≡ reader_made_of (reached_on shape.pages shape.size shape.start c steps answer after s.reached step)
  reads_stay answer after step =
      s.reader_made_is ∙ sym (reader_same shape.pages shape.size shape.start c steps answer after s.reached step refl)

  time_stays : (answer : Answer) (after : Core) (step : Step shape.pages shape.size c steps answer after)
      → AreInTime (trace_to (reached_on shape.pages shape.size shape.start c steps answer after s.reached step))
      r.lessons
  time_stays answer after step =
      in_time_more shape.pages shape.size shape.start c steps answer after s.reached step r.lessons s.in_time

  reading_stays : (answer : Answer) (after : Core) → Step shape.pages shape.size c steps answer after
      → IsReading after r
  reading_stays answer after step =
      let stays = writer_leaves_reader shape.pages shape.size c steps answer after (λ own. own) step in
      let observed = observed_stays shape.pages shape.size shape.start c steps answer after kept step in record {
        order_is = s.is_reading.order_is ∙ sym stays.order;
        spare_is = s.is_reading.spare_is ∙ sym stays.spare;
        spare_link_is = s.is_reading.spare_link_is ∙ sym stays.spare_link;
        reader_is = s.is_reading.reader_is ∙ sym stays.reader;
        wish_is = s.is_reading.wish_is ∙ sym stays.wish;
        observed_is =
            s.is_reading.observed_is
            ∙ (sym observed
            ∙ sym (ap (λ (x : Rattle.trace_model.specs.Ring.Reader). first_records x.expected after.history)
            stays.reader));
      }

  some_pages : 1 ≤ shape.pages
  some_pages = let some = kept.links.some_pages in omega arith

  -- the page at the position of this fill is the one of this number
  module _ (number fill : ℕ) (at : number ≡ page_at shape.pages c.order fill) where
    inside : number < length homes
    inside = let count = s.are_homes.count in
        let below = page_below shape.pages c.order c.spare fill some_pages kept.links.apart in
        omega arith

    is_other : (least f : ℕ) → least ≤ f → f < least + shape.pages → least ≤ fill → fill < least + shape.pages
        → f ≢ fill → page_at shape.pages c.order f ≢ number
    is_other least f low high low_fill high_fill ne e =
        pages_differ shape.pages c.order c.spare least f fill some_pages kept.links.apart low high low_fill high_fill ne
        (e ∙ at)

    not_spare : c.spare ≢ number
    not_spare e = kept.links.apart.spare_differs (fill % shape.pages) (mod-lt fill some_pages) (sym (e ∙ at))

    module _ (slot : mathlib.Core.Option.Option (Option Contents)) where
      elsewhere : (page : ℕ) → page ≢ number → get_elem? (set homes number slot) page ≡ get_elem? homes page
      elsewhere page ne = set_else homes number page slot ne

      here : get_elem? (set homes number slot) (page_at shape.pages c.order fill) ≡ some slot
      here =
          subst (λ (page : ℕ). get_elem? (set homes number slot) page ≡ some slot) at
          (set_here homes number slot inside)

      home_stays : (page f : ℕ) (held : PageRecords) → page ≢ number → IsHome homes shape.size page f held
          → IsHome (set homes number slot) shape.size page f held
      home_stays page f held ne (body, home, is) = (body, elsewhere page ne ∙ home, is)

      body_stays : (page : ℕ) → page ≢ number → HasBody homes shape.size page
          → HasBody (set homes number slot) shape.size page
      body_stays page ne (body, home, is) = (body, elsewhere page ne ∙ home, is)

      spare_stays : r.keeps_spare ≡ false → get_elem? (set homes number slot) c.spare ≡ some (some None)
      spare_stays at_home = elsewhere c.spare not_spare ∙ s.are_homes.spare at_home

  -- ---- a fill is closed

  -- the state after it, with these frames
  abbrev released_in : List Frame → Core
  released_in frames = record c { done = c.done + 1; open_pages = drop 1 c.open_pages; frames = frames }

  module _ (number : ℕ) (page : Contents) (oldest : number ≡ slice_index_or c.open_pages 0 0)
      (written : IsWrittenPage shape.size c.done (fill_of c.history shape.start c.done) page) where
    at_done : number ≡ page_at shape.pages c.order c.done
    at_done = let count = kept.open_pages.count in let behind = kept.links.done_lt in
        oldest
        ∙ (kept.open_pages.each 0 (omega arith)
        ∙ ap (page_at shape.pages c.order) (let same : c.done + 0 ≡ c.done = omega arith in same))

    abbrev homes_with : Homes
    homes_with = set homes number (some (Some page))

    holds : IsWrittenPage shape.size c.done (contents_of c (page_at shape.pages c.order c.done)) page
    holds =
        subst (λ (h : PageRecords). IsWrittenPage shape.size c.done h page)
        (sym (kept.contents.each c.done kept.links.head_le kept.links.done_lt)) written

    closed_home : (f : ℕ) → c.head ≤ f → f < c.done + 1
        → IsHome homes_with shape.size (page_at shape.pages c.order f) f (contents_of c (page_at shape.pages c.order f))
    closed_home f low high = let behind = kept.links.done_lt in let within = kept.links.opened_le in
        dite (ℕ_discrete f c.done)
        (λ e.
        subst
        (λ (g : ℕ).
        IsHome homes_with shape.size (page_at shape.pages c.order g) g
        (contents_of c (page_at shape.pages c.order g))) (sym e)
        (page, here number c.done at_done (some (Some page)), holds))
        (λ ne.
        home_stays number c.done at_done (some (Some page)) (page_at shape.pages c.order f) f _
        (is_other number c.done at_done c.head f low (omega arith) (omega arith) (omega arith) ne)
        (s.are_homes.closed f low (omega arith)))

    free_body : (f : ℕ) → c.opened ≤ f → f < c.done + 1 + shape.pages
        → HasBody homes_with shape.size (page_at shape.pages c.order f)
    free_body f low high = let behind = kept.links.done_lt in
        dite (ℕ_discrete f (c.done + shape.pages))
        (λ e. let same : page_at shape.pages c.order f ≡ page_at shape.pages c.order c.done =
        ap (page_at shape.pages c.order) e ∙ page_turn shape.pages c.order c.done in
        (page, ap (get_elem? homes_with) same ∙ here number c.done at_done (some (Some page)), holds.size_is))
        (λ ne.
        body_stays number c.done at_done (some (Some page)) (page_at shape.pages c.order f)
        (is_other number c.done at_done c.done f (omega arith) (omega arith) (omega arith)
        (let some = some_pages in omega arith) (λ e. omega arith)) (s.are_homes.free f low (omega arith)))

    released_shown : (fill : ℕ) (frames : List Frame) → fill ≡ c.done
        → Step shape.pages shape.size c steps going (released_in frames)
        → IsShownBy shape (released_in frames) r (slice_set ws done_word (fill + 1)) homes_with
    released_shown fill frames fill_is step = let w = words.with_done shape.pages c ws (fill + 1) s.are_words in
        record {
          pages_fit = s.pages_fit;
          reached = reached_on shape.pages shape.size shape.start c steps going (released_in frames) s.reached step;
          are_words =
              record {
                count = w.count;
                opened = w.opened;
                done = w.done ∙ ap (λ (k : ℕ). k + 1) fill_is;
                wish = w.wish;
                links = w.links;
                spare = w.spare;
              };
          are_homes = record {
            count = length-set homes number (some (Some page)) ∙ s.are_homes.count;
            closed = closed_home;
            free = free_body;
            spare = spare_stays number c.done at_done (some (Some page));
          };
          is_reading = reading_stays going (released_in frames) step;
          reader_made_is = reads_stay going (released_in frames) step;
          in_time = time_stays going (released_in frames) step;
        }

  -- the frame on top is alone, and goes on in one of two phases
  released_step : HasTop c.frames releasing
      → (frames : List Frame) × Step shape.pages shape.size c steps going (released_in frames)
  released_step top =
      let agree = top_agrees c top.frame top.below top.is kept.stack in
      let alone = agree.1 (releasing_left top.frame.kind top.frame.state top.frame.phase top.phase_is agree.0) in
      let more = (top_kept shape.pages c top.frame top.below kept.links top.is).releases top.phase_is in
      let of_top : (after : Core) → ReleaseFillStep c top.frame top.below going after
      → Step shape.pages shape.size c steps going after =
      λ after step.
      step_by
      (frame_step top.frame top.below refl top.is
      (subst (λ (p : Phase). FrameStep shape.pages shape.size c top.frame top.below p going after)
      (sym top.phase_is) step)) in
      dite (ℕ_discrete (c.done + 2) c.opened)
      (λ last. let frames : List Frame = record top.frame { phase = wishing } ∷ top.below in
      (frames, of_top (released_in frames) (releases_last alone last refl refl)))
      (λ ne. (c.frames, of_top (released_in c.frames) (releases alone (omega arith) refl refl)))

  -- ---- a fill is begun

  module _ (top_frame : Frame) (below : List Frame) (is_top : c.frames ≡ top_frame ∷ below) (number : ℕ)
      (phase_is : top_frame.phase ≡ opening c.opened number) where
    position : (c.done < c.opened) × (c.opened < c.head + shape.pages) × (number ≡ page_at shape.pages c.order c.opened)
    position =
        (top_kept shape.pages c top_frame below kept.links is_top).passed c.opened number (ap passed_spot phase_is)

    abbrev begun : Core
    begun = after_begin top_frame.kind top_frame.state (with_new_tail c number) top_frame below

    abbrev homes_without : Homes
    homes_without = set homes number none

    begun_is : IsPrivateOf (with_new_tail c number) begun
    begun_is = begun_private top_frame.kind top_frame.state (with_new_tail c number) top_frame below

    opened_step : Step shape.pages shape.size c steps (begin_answer top_frame.kind top_frame.state below) begun
    opened_step =
        step_by (frame_step top_frame below refl is_top
        (subst
        (λ (p : Phase).
        FrameStep shape.pages shape.size c top_frame below p
        (begin_answer top_frame.kind top_frame.state below) begun) (sym phase_is)
        (opens refl refl refl)))

    lies_there : HasBody homes shape.size number
    lies_there = let low = kept.links.head_le in let room = position.1 in
        subst (HasBody homes shape.size) (sym position.2) (s.are_homes.free c.opened (omega arith) (omega arith))

    others_hold : (page : ℕ) → page ≢ number → contents_of begun page ≡ contents_of c page
    others_hold page ne =
        begun_contents top_frame.kind top_frame.state (with_new_tail c number) top_frame below page refl
        ∙ get_or-set_other c.held number page _ empty_page ne

    begun_homes : (frames : List Frame) (history : List HistoryEvent) (held : List PageRecords)
        → ((page : ℕ) → page ≢ number → slice_index_or held page empty_page ≡ contents_of c page)
        → AreHomes shape.pages shape.size (private_state (with_new_tail c number) frames history held) r homes_without
    begun_homes frames history held same = let at = position.2 in
        let room = position.1 in
        let low_head = kept.links.head_le in
        let behind = kept.links.done_lt in
        record {
          count = length-set homes number none ∙ s.are_homes.count;
          closed = λ f low high.
              let ne = is_other number c.opened at c.head f low (omega arith) (omega arith) room (λ e. omega arith) in
              subst (IsHome homes_without shape.size (page_at shape.pages c.order f) f)
              (sym (same (page_at shape.pages c.order f) ne))
              (home_stays number c.opened at none (page_at shape.pages c.order f) f
              (contents_of c (page_at shape.pages c.order f)) ne (s.are_homes.closed f low high));
          free = λ f low high. body_stays number c.opened at none (page_at shape.pages c.order f)
              (is_other number c.opened at c.done f (omega arith) (omega arith) (omega arith) (omega arith)
              (λ e. omega arith)) (s.are_homes.free f (omega arith) high);
          spare = spare_stays number c.opened at none;
        }

    begun_shown : (fill : ℕ) → fill ≡ c.opened
        → IsShownBy shape begun r (slice_set ws opened_word (fill + 1)) homes_without
    begun_shown fill fill_is =
        let w = words.with_opened shape.pages c ws (fill + 1) s.are_words in
        let new_words : AreWords shape.pages
        (private_state (with_new_tail c number) begun.frames begun.history begun.held)
        (slice_set ws opened_word (fill + 1)) =
        record {
          count = w.count;
          opened = w.opened ∙ ap (λ (k : ℕ). k + 1) fill_is;
          done = w.done;
          wish = w.wish;
          links = w.links;
          spare = w.spare;
        } in
        record {
          pages_fit = s.pages_fit;
          reached = reached_on shape.pages shape.size shape.start c steps _ begun s.reached opened_step;
          are_words =
              subst (λ (d : Core). AreWords shape.pages d (slice_set ws opened_word (fill + 1))) (sym begun_is)
              new_words;
          are_homes =
              subst (λ (d : Core). AreHomes shape.pages shape.size d r homes_without) (sym begun_is)
              (begun_homes begun.frames begun.history begun.held others_hold);
          is_reading = reading_stays _ begun opened_step;
          reader_made_is = reads_stay _ begun opened_step;
          in_time = time_stays _ begun opened_step;
        }

-- ---- the steps

module _ (shape : Shape) (me : SeatState) (now : Writing) (c : Core) (r : Reading) (ws : List ℕ) (homes : Homes)
    (s : IsShownBy shape c r ws homes) (now_is : writing_of (writer_made_of s.reached) c ≡ now)
    (low : passed me.0 ≤ c.head) where
  made_is : (answer : Answer) (after : Core) (step : Step shape.pages shape.size c steps answer after)
      → writer_made_of (reached_on shape.pages shape.size shape.start c steps answer after s.reached step)
      ≡ now.made ++ writer_made record { event = steps; answer = answer } after ∷ []
  made_is answer after step =
      writer_then shape.pages shape.size shape.start c steps answer after s.reached step now refl now_is

  top_now : (phase : Phase) → IsTopIn now.frames phase → HasTop c.frames phase
  top_now phase top = top_of c.frames phase (subst (λ (w : Writing). IsTopIn w.frames phase) (sym now_is) top)

  release_moves : (number fill : ℕ) (page : Contents) → rest me.1 ≡ emptied (drop 1 c.open_pages)
      → IsTopIn now.frames releasing → number ≡ slice_index_or now.open_pages 0 0
      → IsWrittenPage shape.size now.done (fill_of now.history shape.start now.done) page → fill ≡ now.done
      → WriterMoves shape now r (me.0, (number, Some page) ∷ rest me.1) ws homes done_word (λ _. fill + 1)
      (λ _. WriterReported shape now (passed me.0) (λ _. ⊤) going)
  unfolding released_shown
  release_moves number fill page hand phase oldest written fill_is =
      let (frames, step) = released_step shape c r ws homes s (top_now releasing phase) in
      let oldest_is : number ≡ slice_index_or c.open_pages 0 0 =
      oldest ∙ ap (λ (w : Writing). slice_index_or w.open_pages 0 0) (sym now_is) in
      let written_is : IsWrittenPage shape.size c.done (fill_of c.history shape.start c.done) page =
      subst (λ (w : Writing). IsWrittenPage shape.size w.done (fill_of w.history shape.start w.done) page)
      (sym now_is) written in
      let done_is : fill ≡ c.done = fill_is ∙ ap (λ (w : Writing). w.done) (sym now_is) in record {
        next = released_in shape c r ws homes s frames;
        knows = passed me.0;
        low = low;
        act = gives;
        valid = tt;
        shown = released_shown shape c r ws homes s number page oldest_is written_is fill frames done_is step;
        later =
            writer_made record { event = steps; answer = going } (released_in shape c r ws homes s frames) ∷ [];
        made_is = made_is going (released_in shape c r ws homes s frames) step;
        reported = record {
          seat = record { view = refl; hand = hand };
          knows = omega arith;
          step =
              record {
                core = c;
                next = released_in shape c r ws homes s frames;
                reached = s.reached;
                before_is = now_is;
                seen = tt;
                step = step;
                after_is = refl;
              };
        };
      }

  open_moves : (number fill : ℕ) → me.1 ≡ emptied c.open_pages → IsTopIn now.frames (opening fill number)
      → fill ≡ now.opened
      → WriterMoves shape now r me ws homes opened_word (λ _. fill + 1) (λ _. OpenReported shape now (passed me.0))
  unfolding begun_shown
  open_moves number fill hand phase fill_is =
      let now_opened : fill ≡ c.opened = fill_is ∙ ap (λ (w : Writing). w.opened) (sym now_is) in
      let top = top_now (opening fill number) phase in
      let phase_is : top.frame.phase ≡ opening c.opened number =
      top.phase_is ∙ ap (λ (f : ℕ). opening f number) now_opened in
      let (body, lies, size_is) = lies_there shape c r ws homes s top.frame top.below top.is number phase_is in
      let next : Core = begun shape c r ws homes s top.frame top.below top.is number phase_is in
      let next_is = begun_is shape c r ws homes s top.frame top.below top.is number phase_is in
      let answers : begin_answer top.frame.kind top.frame.state top.below ≡ begun_answer now.frames =
      ap begun_answer (sym top.is ∙ ap (λ (w : Writing). w.frames) now_is) in
      let step : Step shape.pages shape.size c steps (begun_answer now.frames) next =
      subst (λ (a : Answer). Step shape.pages shape.size c steps a next) answers
      (opened_step shape c r ws homes s top.frame top.below top.is number phase_is) in
      let head = ap (λ (d : Core). d.head) next_is in record {
        next = next;
        knows = passed me.0;
        low = omega arith;
        act = takes number (Some body);
        valid = lies;
        shown = begun_shown shape c r ws homes s top.frame top.below top.is number phase_is fill now_opened;
        later = writer_made record { event = steps; answer = begun_answer now.frames } next ∷ [];
        made_is =
            made_is (begin_answer top.frame.kind top.frame.state top.below) next
            (opened_step shape c r ws homes s top.frame top.below top.is number phase_is)
            ∙ ap (λ (a : Answer). now.made ++ writer_made record { event = steps; answer = a } next ∷ []) answers;
        reported = record {
          view = refl;
          knows = omega arith;
          page = number;
          position = subst (λ (f : ℕ). IsTopIn now.frames (opening f number)) fill_is phase;
          body = body;
          size_is = size_is;
          hand =
              ap (λ (slots : List (ℕ × Option Contents)). (number, Some body) ∷ slots)
              (hand ∙ ap (λ (w : Writing). emptied w.open_pages) now_is);
          open_pages_are =
              ap (λ (d : Core). d.open_pages) next_is ∙ ap (λ (w : Writing). w.open_pages ++ number ∷ []) now_is;
          step =
              record {
                core = c;
                next = next;
                reached = s.reached;
                before_is = now_is;
                seen = tt;
                step = step;
                after_is = refl;
              };
        };
      }

-- ---- what the table allows

pub release_allowed : (shape : Shape) (slots id : ℕ) (me mid : SeatState) (now : Writing) (number fill : ℕ)
    (page : Contents)
    → IsWriting me → mid ≡ (me.0, (number, Some page) ∷ rest me.1) → Leads shape (writing me.0) now
    → IsTopIn now.frames releasing → number ≡ slice_index_or now.open_pages 0 0
    → IsWrittenPage shape.size now.done (fill_of now.history shape.start now.done) page → fill ≡ now.done
    → Allows (Shows shape.pages shape.size shape.start) slots id mid done_word (λ _. fill + 1)
    (λ _. WriterReported shape now (passed mid.0) (λ _. ⊤) going)
release_allowed shape slots id me mid now number fill page is mid_is leads phase oldest written fill_is =
    subst
    (λ (m : SeatState).
    Allows (Shows shape.pages shape.size shape.start) slots id m done_word (λ _. fill + 1)
    (λ _. WriterReported shape now (passed m.0) (λ _. ⊤) going)) (sym mid_is)
    (writer_allows shape slots id (me.0, (number, Some page) ∷ rest me.1) now done_word (λ _. fill + 1)
    (λ _. WriterReported shape now (passed me.0) (λ _. ⊤) going) is.view leads
    (λ c r ws homes s now_is pages low. release_moves shape me now c r ws homes s now_is low number fill page
    (ap rest is.hand ∙ (rest_emptied (writing me.0).open_pages ∙ ap (λ (ps : List ℕ). emptied (drop 1 ps)) (sym pages)))
    phase oldest written fill_is))

pub open_allowed : (shape : Shape) (slots id : ℕ) (me : SeatState) (now : Writing) (number fill : ℕ)
    → IsWriting me → Leads shape (writing me.0) now → IsTopIn now.frames (opening fill number) → fill ≡ now.opened
    → Allows (Shows shape.pages shape.size shape.start) slots id me opened_word (λ _. fill + 1)
    (λ _. OpenReported shape now (passed me.0))
open_allowed shape slots id me now number fill is leads phase fill_is =
    writer_allows shape slots id me now opened_word (λ _. fill + 1) (λ _. OpenReported shape now (passed me.0)) is.view
    leads
    (λ c r ws homes s now_is pages low.
    open_moves shape me now c r ws homes s now_is low number fill (is.hand ∙ ap emptied (sym pages)) phase fill_is)

-- ---- the page that the writer got

same_page : (a b p q : ℕ) → opening a p ≡ opening b q → p ≡ q
same_page a b p q e = cc

one_opening : (frames : List Frame) (a b p q : ℕ) → IsTopIn frames (opening a p) → IsTopIn frames (opening b q) → p ≡ q
one_opening [] a b p q top again = absurd top
one_opening (frame ∷ below) a b p q top again = same_page a b p q (sym top ∙ again)

abbrev pub body_of : List (ℕ × Option Contents) → Option Contents
body_of [] = None
body_of (slot ∷ slots) = slot.1

pub same_body : (a b : Contents) → Some a ≡ Some b → a ≡ b
same_body a b e = cc

module _ (shape : Shape) (now : Writing) (known : ℕ) (mid : SeatState) (reported : OpenReported shape now known mid)
    (number fill : ℕ) (phase : IsTopIn now.frames (opening fill number)) where
  page_is : reported.page ≡ number
  page_is = one_opening now.frames now.opened fill reported.page number reported.position phase

  -- its slot is the first of the writer's
  pub opened_slot : mid.1 ≡ (number, Some reported.body) ∷ rest mid.1
  opened_slot = reported.hand ∙ (λ i. (page_is i, Some reported.body) ∷ sym (ap rest reported.hand) i)

  -- and the body is what is there
  pub opened_body : (found : Option Contents) → mid.1 ≡ (number, found) ∷ rest mid.1 → found ≡ Some reported.body
  opened_body found at = sym (ap body_of at) ∙ ap body_of opened_slot

  pub opened_size : (found : Option Contents) (page : Contents) → mid.1 ≡ (number, found) ∷ rest mid.1
      → found ≡ Some page → page.size ≡ shape.size
  opened_size found page at is =
      ap (λ (body : Contents). body.size) (same_body page reported.body (sym is ∙ opened_body found at))
      ∙ reported.size_is

  -- the slot that is emptied goes after the others
  pub opened_seat : (after end : SeatState) → after ≡ (mid.0, (number, None) ∷ rest mid.1)
      → end ≡ (after.0, turned after.1) → WriterReported shape now known (λ _. ⊤) (begun_answer now.frames) end
  opened_seat after end after_is end_is =
      subst (WriterReported shape now known (λ _. ⊤) (begun_answer now.frames))
      (sym (end_is ∙ ap (λ (m : SeatState). let seat : SeatState = (m.0, turned m.1) in seat) after_is)) record {
        seat = record {
          view = reported.view;
          hand = ap (λ (slots : List (ℕ × Option Contents)). rest slots ++ (number, None) ∷ []) reported.hand
              ∙ (emptied_more now.open_pages number
              ∙ ap emptied (ap (λ (p : ℕ). now.open_pages ++ p ∷ []) (sym page_is) ∙ sym reported.open_pages_are));
        };
        knows = reported.knows;
        step = reported.step;
      }
