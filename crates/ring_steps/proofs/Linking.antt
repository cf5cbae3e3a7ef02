-- The writer's steps that load and set links, and load the reader's wish.
use Rattle.std.specs.Prelude.{slice_index_or, slice_set, Some, ◌==◌}
use Rattle.std.specs.List.{slice_index}
use Rattle.std.proofs.Common.{◌≡◌, ◌≢◌, ℕ, suc, ◌+◌, ◌-◌, ◌%◌, ◌<◌, ◌≤◌, Bool, List, [], ◌∷◌, length, refl, sym}
use Rattle.std.proofs.Common.{ap, ◌∙◌, subst, mod-lt, eq-eqb, ne_eqb, arith}
use Rattle.std.proofs.lemmas.List.{set-get_or}
use Rattle.std.proofs.lemmas.List.Elements.{All-get_or}
use mathlib.Core.Logic.{dite}
use native.Mathlib.Decide.{dec_le}
use prog.Atomic.{either}
use Rattle.atomic_table.specs.Table.{keeps}
use Rattle.trace_model.specs.declared.limits.TheConstants.{MAX_PAGES, LINK_PAGES}
use Rattle.trace_model.specs.Links.{Link, word_of, normal_link, header_link, update_link, FitsWord}
use Rattle.trace_model.specs.Frames.{Role, owner, helper, Phase, looking, claiming, looking_next, marking, clearing}
use Rattle.trace_model.specs.Frames.{opening, wishing, Frame, noted_fill}
use Rattle.trace_model.specs.Ring.{Core, link_into, links_with, page_at}
use Rattle.trace_model.specs.Steps.{steps, going, Answer, MayContinue, after_next, in_phase, with_head_claimed}
use Rattle.trace_model.specs.Steps.{with_link, contents_of, Step}
use Rattle.trace_model.proofs.steps.StepCases.{LoadLinkStep, load_link_late, sees_free, sees_header, sees_update}
use Rattle.trace_model.proofs.steps.StepCases.{ClaimHeadStep, claim_late, claims, claim_fails, LoadNextStep}
use Rattle.trace_model.proofs.steps.StepCases.{load_next_late, sees_normal, sees_other, MarkHeadStep, mark_late, marks}
use Rattle.trace_model.proofs.steps.StepCases.{mark_fails, ClearUpdateStep, clears, LoadWishStep, grants, closes_more}
use Rattle.trace_model.proofs.steps.StepCases.{goes_away}
use Rattle.trace_model.proofs.words.LinkWords.{word_reports}
use Rattle.ring_model.specs.KeptLinks.{passed_spot}
use Rattle.ring_model.specs.RingKept.{IsRingKept}
use Rattle.ring_model.specs.Reached.{IsReached}
use Rattle.trace_model.proofs.Positions.{page_turn}
use Rattle.ring_model.proofs.links.FrameChanges.{top_kept}
use Rattle.ring_model.proofs.links.LinksFit.{links_fit_words}
use Rattle.ring_model.proofs.seats.PrivateSteps.{IsPrivateOf}
use Rattle.ring_model.proofs.links.SeenLinks.{claims_fail_once_the_head_moved}
use Rattle.ring_model.proofs.frames.TopSteps.{top_stepped}
use Rattle.ring_model.proofs.partition.RingsKept.{reached_kept}
use Rattle.ring_model.proofs.steps.StepsGiven.{each_event_is_a_step}
use Rattle.ring_steps.specs.declared.rule.Shape.{Shape}
use Rattle.ring_steps.specs.Made.{writer_made, writer_made_of}
use Rattle.ring_steps.specs.Views.{Writing, writing_of, Reading, writing, passed}
use Rattle.ring_steps.specs.Shown.{page_before, AreWords, Homes}
use Rattle.ring_steps.specs.Words.{wish_word, page_word}
use Rattle.ring_steps.specs.Seats.{SeatState, emptied, IsWriting, WriterReported}
use Rattle.ring_steps.specs.Paging.{IsTopIn}
use Rattle.ring_steps.specs.Linking.{tail_in, LooksNext, MarksNext, number_or_zero, noted_on_top, role_in, role_on_top}
use Rattle.ring_steps.specs.Linking.{after_lost_in, SeesLink, LinkReported, ClaimReported, WishReported}
use Rattle.ring_steps.proofs.Made.{reached_on, writer_then, reader_same}
use Rattle.ring_steps.proofs.LinkWords.{with_link_word}
use Rattle.ring_steps.proofs.Private.{stays_shown}
use Rattle.ring_steps.proofs.InTime.{in_time_more}
use Rattle.ring_steps.proofs.Allowing.{IsShownBy, WriterMoves}
use Rattle.ring_steps.proofs.Paging.{top_of}

-- ---- what is passed

-- two numbers that are at most the head
known_with : (known least head : ℕ) → known ≤ head → least ≤ head
    → (knows : ℕ) × (known ≤ knows) × (least ≤ knows) × (knows ≤ head)
known_with known least head low high =
    dite (dec_le known least) (λ le. (least, le, omega arith, high)) (λ not. (known, omega arith, omega arith, low))

-- ---- the fill that is noted, and the one after the lost one

noted_top : (frames : List Frame) (phase : Phase) (noted : ℕ) → IsTopIn frames phase → noted_fill phase ≡ Some noted
    → noted_on_top frames ≡ noted
noted_top [] phase noted top e = absurd top
noted_top (frame ∷ below) phase noted top e =
    ap (λ (p : Phase). number_or_zero (noted_fill p)) top ∙ ap number_or_zero e

top_role : (frames : List Frame) (phase : Phase) → IsTopIn frames phase → role_on_top frames ≡ role_in phase
top_role [] phase top = absurd top
top_role (frame ∷ below) phase top = ap role_in top

-- the frame on top looks at that link, for this fill
pub looks_at : (n : ℕ) (w : Writing) (role : Role) (noted page after_lost : ℕ)
    → IsTopIn w.frames (looking_next role noted page) → MayContinue role noted w.opened → after_lost + n ≡ noted + 1
    → LooksNext n w page after_lost
looks_at n w role noted page after_lost at on sum =
    let mover : role ≡ role_on_top w.frames = sym (top_role w.frames (looking_next role noted page) at) in
    let fill : noted ≡ noted_on_top w.frames = sym (noted_top w.frames (looking_next role noted page) noted at refl) in
    record {
      phase =
          subst (λ (r : Role). IsTopIn w.frames (looking_next r (noted_on_top w.frames) page)) mover
          (subst (λ (f : ℕ). IsTopIn w.frames (looking_next role f page)) fill at);
      goes_on =
          subst (λ (r : Role). MayContinue r (noted_on_top w.frames) w.opened) mover
          (subst (λ (f : ℕ). MayContinue role f w.opened) fill on);
      after_lost_is = omega arith;
    }

pub marks_at_next : (n : ℕ) (w : Writing) (role : Role) (noted page next after_lost : ℕ)
    → IsTopIn w.frames (marking role noted page next) → MayContinue role noted w.opened → after_lost + n ≡ noted + 1
    → MarksNext n w page next after_lost
marks_at_next n w role noted page next after_lost at on sum =
    let mover : role ≡ role_on_top w.frames = sym (top_role w.frames (marking role noted page next) at) in
    let fill : noted ≡ noted_on_top w.frames = sym (noted_top w.frames (marking role noted page next) noted at refl) in
    record {
      phase =
          subst (λ (r : Role). IsTopIn w.frames (marking r (noted_on_top w.frames) page next)) mover
          (subst (λ (f : ℕ). IsTopIn w.frames (marking role f page next)) fill at);
      goes_on =
          subst (λ (r : Role). MayContinue r (noted_on_top w.frames) w.opened) mover
          (subst (λ (f : ℕ). MayContinue role f w.opened) fill on);
      after_lost_is = omega arith;
    }

pub looks_after_lost : (n : ℕ) (w : Writing) (page after_lost : ℕ) → LooksNext n w page after_lost
    → after_lost ≡ after_lost_in n w
looks_after_lost n w page after_lost due = let sum = due.after_lost_is in omega arith

pub marks_after_lost : (n : ℕ) (w : Writing) (page next after_lost : ℕ) → MarksNext n w page next after_lost
    → after_lost ≡ after_lost_in n w
marks_after_lost n w page next after_lost due = let sum = due.after_lost_is in omega arith

pub clears_noted : (w : Writing) (page noted : ℕ) → IsTopIn w.frames (clearing noted page)
    → noted ≡ noted_on_top w.frames
clears_noted w page noted phase = sym (noted_top w.frames (clearing noted page) noted phase refl)

-- ---- words

pub link_fits : (n size start : ℕ) (c : Core) (f : ℕ) → n ≤ MAX_PAGES → IsReached n size start c
    → FitsWord (link_into n c.links f)
link_fits n size start c f few reached =
    let k = reached_kept n size start c reached in let some = k.links.some_pages in let wide = k.links.positions in
    let (all, spare) = links_fit_words n size start c k (omega arith) in
    All-get_or FitsWord c.links (f % n) (normal_link 0 0) (let low : f % n < n = mod-lt f (omega arith) in omega arith)
    all

-- a compare and exchange, done and not done
done_at : (found from to : ℕ) → found ≡ from → either (found == from) to found ≡ to
done_at found from to e = subst (λ (b : Bool). either b to found ≡ to) (sym (eq-eqb found from e)) refl

not_done_at : (found from to : ℕ) → found ≢ from → either (found == from) to found ≡ found
not_done_at found from to ne = subst (λ (b : Bool). either b to found ≡ found) (sym (ne_eqb found from ne)) refl

-- ---- what stays

-- the frames and the links are others, and the head may have gone on
abbrev moved : Core → List Frame → List Link → ℕ → Core
moved c frames links head = record c { frames = frames; links = links; head = head }

module _ (shape : Shape) (me : SeatState) (is : IsWriting me) (now : Writing) (c : Core) (r : Reading) (ws : List ℕ)
    (homes : Homes) (s : IsShownBy shape c r ws homes) (now_is : writing_of (writer_made_of s.reached) c ≡ now)
    (pages : c.open_pages ≡ (writing me.0).open_pages) (known : passed me.0 ≤ c.head) where
  kept : IsRingKept shape.pages shape.size shape.start c
  kept = reached_kept shape.pages shape.size shape.start c s.reached

  moves_on : (i : ℕ) (f : ℕ → ℕ) (sees : ℕ → Core → Type 0) (frames : List Frame) (links : List Link) (head : ℕ)
      → Step shape.pages shape.size c steps going (moved c frames links head)
      → c.head ≤ head
      → sees (slice_index ws i) c
      → AreWords shape.pages (moved c frames links head) (slice_set ws i (f (slice_index ws i)))
      → WriterMoves shape now r me ws homes i f
      (λ found after. WriterReported shape now (passed me.0) (sees found) going after)
  moves_on i f sees frames links head step low seen words = record {
    next = moved c frames links head;
    knows = passed me.0;
    low = omega arith;
    act = keeps;
    valid = tt;
    shown = record {
      pages_fit = s.pages_fit;
      reached = reached_on shape.pages shape.size shape.start c steps going (moved c frames links head) s.reached step;
      are_words = words;
      are_homes =
          record {
            count = s.are_homes.count;
            closed = λ f from below. s.are_homes.closed f (omega arith) below;
            free = s.are_homes.free;
            spare = s.are_homes.spare;
          };
      is_reading = record {
        order_is = s.is_reading.order_is;
        spare_is = s.is_reading.spare_is;
        spare_link_is = s.is_reading.spare_link_is;
        reader_is = s.is_reading.reader_is;
        wish_is = s.is_reading.wish_is;
        observed_is = s.is_reading.observed_is;
      };
      reader_made_is =
          s.reader_made_is
          ∙ sym
          (reader_same shape.pages shape.size shape.start c steps going (moved c frames links head) s.reached
          step refl);
      in_time =
          in_time_more shape.pages shape.size shape.start c steps going (moved c frames links head) s.reached step
          r.lessons s.in_time;
    };
    later = writer_made record { event = steps; answer = going } (moved c frames links head) ∷ [];
    made_is =
        writer_then shape.pages shape.size shape.start c steps going (moved c frames links head) s.reached step now refl
        now_is;
    reported = record {
      seat = record { view = refl; hand = is.hand ∙ ap emptied (sym pages) };
      knows = omega arith;
      step =
          record {
            core = c;
            next = moved c frames links head;
            reached = s.reached;
            before_is = now_is;
            seen = seen;
            step = step;
            after_is = refl;
          };
    };
  }

  -- a load, or an exchange that isn't done
  stays_on : (i : ℕ) (f : ℕ → ℕ) (sees : ℕ → Core → Type 0) (frames : List Frame)
      → Step shape.pages shape.size c steps going (moved c frames c.links c.head)
      → sees (slice_index ws i) c
      → f (slice_index ws i) ≡ slice_index ws i
      → WriterMoves shape now r me ws homes i f
      (λ found after. WriterReported shape now (passed me.0) (sees found) going after)
  stays_on i f sees frames step seen same =
      let a = s.are_words in
      moves_on i f sees frames c.links c.head step (omega arith) seen
      (subst (AreWords shape.pages (moved c frames c.links c.head))
      (sym (ap (λ (k : ℕ). slice_set ws i k) same ∙ set-get_or ws i 0))
      record { count = a.count; opened = a.opened; done = a.done; wish = a.wish; links = a.links; spare = a.spare })

  -- the frame on top goes on in another phase
  goes : (answer : Answer) (after next : Core) → Step shape.pages shape.size c steps answer after → answer ≡ going
      → after ≡ next → Step shape.pages shape.size c steps going next
  goes answer after next step a after_is =
      subst (λ (d : Core). Step shape.pages shape.size c steps going d) after_is
      (subst (λ (x : Answer). Step shape.pages shape.size c steps x after) a step)

  -- ---- where a link's word is

  -- in that of the page before
  front : (f : ℕ) → c.done < f → f ≤ c.opened
      → slice_index_or c.open_pages (f - 1 - c.done) 0 ≡ page_before shape.pages c.order f
  front f low high = let count = kept.open_pages.count in
      kept.open_pages.each (f - 1 - c.done) (omega arith)
      ∙ (ap (page_at shape.pages c.order) (let e : c.done + (f - 1 - c.done) ≡ f - 1 = omega arith in e)
      ∙ (sym (page_turn shape.pages c.order (f - 1))
      ∙ ap (page_at shape.pages c.order) (let e : f - 1 + shape.pages ≡ f + shape.pages - 1 = omega arith in e)))

  opened_is : now.opened ≡ c.opened
  opened_is = ap (λ (w : Writing). w.opened) (sym now_is)

  tail_front : tail_in now ≡ page_before shape.pages c.order now.opened
  tail_front = let count = kept.open_pages.count in let behind = kept.links.done_lt in
      ap tail_in (sym now_is)
      ∙ (ap (λ (i : ℕ). slice_index_or c.open_pages i 0)
      (let e : length c.open_pages - 1 ≡ c.opened - 1 - c.done = omega arith in e)
      ∙ (front c.opened behind (omega arith) ∙ ap (page_before shape.pages c.order) (sym opened_is)))

  -- the page that a frame passed is before the fill after the lost one
  passed_front : (page noted after_lost : ℕ) → page ≡ page_at shape.pages c.order noted
      → after_lost + shape.pages ≡ noted + 1 → page ≡ page_before shape.pages c.order after_lost
  passed_front page noted after_lost page_is sum =
      page_is ∙ ap (page_at shape.pages c.order) (let e : noted ≡ after_lost + shape.pages - 1 = omega arith in e)

  word_there : (page f : ℕ) → page ≡ page_before shape.pages c.order f
      → word_of (link_into shape.pages c.links f) ≡ slice_index ws (page_word page)
  word_there page f e = sym (ap (λ (p : ℕ). slice_index ws (page_word p)) e ∙ s.are_words.links f)

  words_with : (page f : ℕ) (l : Link) (frames : List Frame) (head : ℕ) → page ≡ page_before shape.pages c.order f
      → AreWords shape.pages (moved c frames (links_with shape.pages c.links f l) head)
      (slice_set ws (page_word page) (word_of l))
  words_with page f l frames head e =
      let some = kept.links.some_pages in
      let a = with_link_word shape.pages c ws f l (omega arith) kept.links.positions kept.links.apart s.are_words in
      subst
      (λ (p : ℕ).
      AreWords shape.pages (moved c frames (links_with shape.pages c.links f l) head)
      (slice_set ws (page_word p) (word_of l))) (sym e)
      record { count = a.count; opened = a.opened; done = a.done; wish = a.wish; links = a.links; spare = a.spare }

  -- the word isn't that of a link which isn't there
  other_word : (page f : ℕ) (l : Link) → page ≡ page_before shape.pages c.order f → FitsWord l
      → link_into shape.pages c.links f ≢ l → slice_index ws (page_word page) ≢ word_of l
  other_word page f l e fits differ same =
      differ (word_reports (link_into shape.pages c.links f) l
      (link_fits shape.pages shape.size shape.start c f s.pages_fit s.reached) fits
      (word_there page f e ∙ same))

  -- ---- loads of links

  abbrev Sees : ℕ → ℕ → Core → Type 0
  Sees fill found = SeesLink shape (passed me.0) fill found

  abbrev LoadMoves : (page fill : ℕ) → Type 0
  LoadMoves page fill =
      WriterMoves shape now r me ws homes (page_word page) (λ n. n)
      (λ found after. LinkReported shape now (passed me.0) fill found after)

  loads : (page fill : ℕ) (frame : Frame) (below : List Frame) (phase : Phase) (answer : Answer) (after : Core)
      → page ≡ page_before shape.pages c.order fill
      → Step shape.pages shape.size c steps answer after → answer ≡ going → after ≡ in_phase c frame below phase
      → LoadMoves page fill
  loads page fill frame below phase answer after e step a after_is =
      stays_on (page_word page) (λ n. n) (λ found. Sees fill found) (record frame { phase = phase } ∷ below)
      (goes answer after (in_phase c frame below phase) step a after_is) (known, word_there page fill e) refl

  looks : (page noted : ℕ) (frame : Frame) (below : List Frame) (answer : Answer) (after : Core)
      → page ≡ page_before shape.pages c.order noted → noted ≡ c.opened
      → Step shape.pages shape.size c steps answer after → LoadLinkStep shape.pages c frame below noted answer after
      → LoadMoves page noted
  looks page noted frame below answer after e here step (load_link_late late) = absurd (late.passed here)
  looks page noted frame below answer after e here step (sees_free p x at a after_is) =
      loads page noted frame below (opening noted p) answer after e step a after_is
  looks page noted frame below answer after e here step (sees_header p lost x sum at a after_is) =
      loads page noted frame below (claiming noted p) answer after e step a after_is
  looks page noted frame below answer after e here step (sees_update p lost x sum at a after_is) =
      loads page noted frame below (looking_next helper noted p) answer after e step a after_is

  top_now : (phase : Phase) → IsTopIn now.frames phase → IsTopIn c.frames phase
  top_now phase top = subst (λ (w : Writing). IsTopIn w.frames phase) (sym now_is) top

  pub load_link_moves : (tail : ℕ) → tail ≡ tail_in now → IsTopIn now.frames (looking now.opened)
      → LoadMoves tail now.opened
  load_link_moves tail tail_is phase =
      let top = top_of c.frames (looking now.opened) (top_now (looking now.opened) phase) in
      let (answer, after, step) = each_event_is_a_step shape.pages shape.size shape.start c steps kept tt in
      looks tail now.opened top.frame top.below answer after (tail_is ∙ tail_front) opened_is step
      (top_stepped shape.pages shape.size c top.frame top.below (looking now.opened) answer after top.is top.phase_is
      step)

  nexts : (page after_lost : ℕ) (frame : Frame) (below : List Frame) (role : Role) (noted : ℕ) (answer : Answer)
      (after : Core) → page ≡ page_before shape.pages c.order after_lost → MayContinue role noted c.opened
      → Step shape.pages shape.size c steps answer after
      → LoadNextStep shape.pages c frame below role noted page answer after → LoadMoves page after_lost
  nexts page after_lost frame below role noted answer after e on step (load_next_late helps late) =
      absurd (late.passed (subst (λ (x : Role). MayContinue x noted c.opened) helps on))
  nexts page after_lost frame below role noted answer after e on step (sees_normal lost next x sum at a after_is) =
      loads page after_lost frame below (marking role noted page next) answer after e step a after_is
  nexts page after_lost frame below role noted answer after e on step (sees_other lost x sum other a after_is) =
      loads page after_lost frame below (after_next role noted page) answer after e step a after_is

  -- who moves the head, and for which fill, by the frame on top
  abbrev mover : Role
  mover = role_on_top now.frames

  abbrev noted : ℕ
  noted = noted_on_top now.frames

  pub load_next_moves : (page after_lost : ℕ) → LooksNext shape.pages now page after_lost
      → LoadMoves page (after_lost_in shape.pages now)
  load_next_moves page after_lost due =
      let top = top_of c.frames (looking_next mover noted page) (top_now (looking_next mover noted page) due.phase) in
      let (answer, after, step) = each_event_is_a_step shape.pages shape.size shape.start c steps kept tt in
      let known = top_kept shape.pages c top.frame top.below kept.links top.is in
      let passed = known.passed noted page (ap passed_spot top.phase_is) in
      subst (λ (fill : ℕ). LoadMoves page fill) (looks_after_lost shape.pages now page after_lost due)
      (nexts page after_lost top.frame top.below mover noted answer after
      (passed_front page noted after_lost passed.2 due.after_lost_is)
      (subst (MayContinue mover noted) opened_is due.goes_on) step
      (top_stepped shape.pages shape.size c top.frame top.below (looking_next mover noted page) answer after top.is
      top.phase_is step))

  -- ---- the wish

  asks : (answer : Answer) (after next : Core) → Step shape.pages shape.size c steps answer after → after ≡ next
      → IsPrivateOf c next → ((page : ℕ) → contents_of next page ≡ contents_of c page) → next.open_pages ≡ c.open_pages
      → WriterMoves shape now r me ws homes wish_word (λ n. n)
      (λ found after. WishReported shape now (passed me.0) found after)
  asks answer after next step after_is own holds same =
      let shown =
      stays_shown shape.pages shape.size shape.start c steps answer next r ws homes s
      (subst (λ (d : Core). Step shape.pages shape.size c steps answer d) after_is step) own refl
      (λ f low high. holds (page_at shape.pages c.order f)) in
      let head = ap (λ (d : Core). d.head) own in record {
        next = next;
        knows = passed me.0;
        low = omega arith;
        act = keeps;
        valid = tt;
        shown = record {
          pages_fit = shown.pages_fit;
          reached = shown.reached;
          are_words = subst (AreWords shape.pages next) (sym (set-get_or ws wish_word 0)) shown.are_words;
          are_homes = shown.are_homes;
          is_reading = shown.is_reading;
          reader_made_is = shown.reader_made_is;
          in_time = shown.in_time;
        };
        later = writer_made record { event = steps; answer = answer } next ∷ [];
        made_is =
            writer_then shape.pages shape.size shape.start c steps answer next s.reached
            (subst (λ (d : Core). Step shape.pages shape.size c steps answer d) after_is step) now refl now_is;
        reported = record {
          seat = record { view = refl; hand = is.hand ∙ ap emptied (sym (same ∙ pages)) };
          knows = omega arith;
          answer = answer;
          step = record {
            core = c;
            next = next;
            reached = s.reached;
            before_is = now_is;
            seen = sym s.are_words.wish;
            step = subst (λ (d : Core). Step shape.pages shape.size c steps answer d) after_is step;
            after_is = refl;
          };
        };
      }

  wishes_at : (frame : Frame) (below : List Frame) (answer : Answer) (after : Core)
      → Step shape.pages shape.size c steps answer after → LoadWishStep shape.pages c frame below answer after
      → WriterMoves shape now r me ws homes wish_word (λ n. n)
      (λ found after. WishReported shape now (passed me.0) found after)
  wishes_at frame below answer after step (grants alone granted a after_is) =
      asks answer after _ step after_is refl (λ page. refl) refl
  wishes_at frame below answer after step (closes_more alone denied more a after_is) =
      asks answer after _ step after_is refl (λ page. refl) refl
  wishes_at frame below answer after step (goes_away alone denied last a after_is) =
      asks answer after _ step after_is refl (λ page. refl) refl

  pub load_wish_moves : IsTopIn now.frames wishing
      → WriterMoves shape now r me ws homes wish_word (λ n. n)
      (λ found after. WishReported shape now (passed me.0) found after)
  load_wish_moves phase =
      let top = top_of c.frames wishing (top_now wishing phase) in
      let (answer, after, step) = each_event_is_a_step shape.pages shape.size shape.start c steps kept tt in
      wishes_at top.frame top.below answer after step
      (top_stepped shape.pages shape.size c top.frame top.below wishing answer after top.is top.phase_is step)

  -- ---- exchanges of links

  abbrev ExchangeMoves : (page fill from to : ℕ) → Type 0
  ExchangeMoves page fill from to =
      WriterMoves shape now r me ws homes (page_word page) (λ n. either (n == from) to n)
      (λ found after. LinkReported shape now (passed me.0) fill found after)

  done_on : (page fill from to : ℕ) (old new : Link) (frames : List Frame) (head : ℕ)
      → page ≡ page_before shape.pages c.order fill → from ≡ word_of old → to ≡ word_of new
      → link_into shape.pages c.links fill ≡ old → c.head ≤ head
      → Step shape.pages shape.size c steps going (moved c frames (links_with shape.pages c.links fill new) head)
      → ExchangeMoves page fill from to
  done_on page fill from to old new frames head e from_is to_is at low step =
      let found : slice_index ws (page_word page) ≡ from =
      sym (word_there page fill e) ∙ (ap word_of at ∙ sym from_is) in
      moves_on (page_word page) (λ n. either (n == from) to n) (λ found. Sees fill found) frames
      (links_with shape.pages c.links fill new) head step low (known, word_there page fill e)
      (subst (λ (word : ℕ).
      AreWords shape.pages (moved c frames (links_with shape.pages c.links fill new) head)
      (slice_set ws (page_word page) word))
      (sym (done_at (slice_index ws (page_word page)) from to found ∙ to_is)) (words_with page fill new frames head e))

  fails_on : (page fill from to : ℕ) (old : Link) (frames : List Frame) → page ≡ page_before shape.pages c.order fill
      → from ≡ word_of old → FitsWord old
      → link_into shape.pages c.links fill ≢ old
      → Step shape.pages shape.size c steps going (moved c frames c.links c.head) → ExchangeMoves page fill from to
  fails_on page fill from to old frames e from_is fits differ step =
      stays_on (page_word page) (λ n. either (n == from) to n) (λ found. Sees fill found) frames step
      (known, word_there page fill e)
      (not_done_at (slice_index ws (page_word page)) from to
      (λ same. other_word page fill old e fits differ (same ∙ from_is)))

  abbrev ClaimMoves : (page from to : ℕ) → Type 0
  ClaimMoves page from to =
      WriterMoves shape now r me ws homes (page_word page) (λ n. either (n == from) to n)
      (λ found after. ClaimReported shape now (passed me.0) found after)

  -- the lost fill is passed after the claim, and the writer knows it
  raised : (page from to lost : ℕ) → lost + shape.pages ≡ now.opened → (m : ExchangeMoves page now.opened from to)
      → lost < m.next.head → ClaimMoves page from to
  raised page from to lost sum m behind =
      let (knows, more, least, low) = known_with m.knows (lost + 1) m.next.head m.low (omega arith) in
      let before = m.reported.knows in
      record {
        next = m.next;
        knows = knows;
        low = low;
        act = m.act;
        valid = m.valid;
        shown = m.shown;
        later = m.later;
        made_is = m.made_is;
        reported = record {
          reported =
              record {
                seat = record { view = refl; hand = m.reported.seat.hand };
                knows = omega arith;
                step = m.reported.step;
              };
          lost = omega arith;
        };
      }

  claims_at : (tail page lost from to : ℕ) (frame : Frame) (below : List Frame) (answer : Answer) (after : Core)
      → c.frames ≡ frame ∷ below → frame.phase ≡ claiming now.opened page
      → lost + shape.pages ≡ now.opened → page < LINK_PAGES → from ≡ word_of (header_link page lost)
      → to ≡ word_of (update_link page lost) → tail ≡ page_before shape.pages c.order now.opened
      → Step shape.pages shape.size c steps answer after
      → ClaimHeadStep shape.pages c frame below now.opened page answer after → ClaimMoves tail from to
  unfolding moves_on stays_on done_on fails_on
  claims_at tail page lost from to frame below answer after top at_phase sum fits from_is to_is e step
      (claim_late late) =
      absurd (late.passed opened_is)
  claims_at tail page lost from to frame below answer after top at_phase sum fits from_is to_is e step
      (claims u x u_sum at a after_is) =
      let same : u ≡ lost = omega arith in let here = opened_is in let room = kept.links.opened_le in
      let behind : lost < c.head + 1 = omega arith in
      raised tail from to lost sum
      (done_on tail now.opened from to (header_link page lost) (update_link page lost)
      (record frame { phase = looking_next owner now.opened page } ∷ below) (c.head + 1) e from_is to_is
      (at ∙ ap (header_link page) same) (omega arith)
      (goes answer after
      (in_phase (with_head_claimed shape.pages c now.opened page lost) frame below
      (looking_next owner now.opened page)) step a
      (after_is
      ∙ ap
      (λ (f : ℕ).
      in_phase (with_head_claimed shape.pages c now.opened page f) frame below
      (looking_next owner now.opened page)) same)))
      behind
  claims_at tail page lost from to frame below answer after top at_phase sum fits from_is to_is e step
      (claim_fails x differ a after_is) =
      let some = kept.links.some_pages in let room = kept.links.fits in let here = opened_is in
      raised tail from to lost sum
      (fails_on tail now.opened from to (header_link page lost) (record frame { phase = looking now.opened } ∷ below) e
      from_is record { page_fits = fits; fill_fits = omega arith } (differ lost sum)
      (goes answer after (in_phase c frame below (looking now.opened)) step a after_is))
      (claims_fail_once_the_head_moved shape.pages shape.size shape.start c frame below now.opened page lost s.reached
      top at_phase opened_is sum (differ lost sum))

  pub claim_moves : (tail page lost from to : ℕ) → tail ≡ tail_in now → IsTopIn now.frames (claiming now.opened page)
      → lost + shape.pages ≡ now.opened → page < LINK_PAGES → from ≡ word_of (header_link page lost)
      → to ≡ word_of (update_link page lost) → ClaimMoves tail from to
  claim_moves tail page lost from to tail_is phase sum fits from_is to_is =
      let top = top_of c.frames (claiming now.opened page) (top_now (claiming now.opened page) phase) in
      let (answer, after, step) = each_event_is_a_step shape.pages shape.size shape.start c steps kept tt in
      claims_at tail page lost from to top.frame top.below answer after top.is top.phase_is sum fits from_is to_is
      (tail_is ∙ tail_front) step
      (top_stepped shape.pages shape.size c top.frame top.below (claiming now.opened page) answer after top.is
      top.phase_is step)

  marks_at : (page next after_lost from to : ℕ) (frame : Frame) (below : List Frame) (role : Role) (noted : ℕ)
      (answer : Answer) (after : Core)
      → MayContinue role noted c.opened → after_lost + shape.pages ≡ noted + 1 → FitsWord (normal_link next after_lost)
      → from ≡ word_of (normal_link next after_lost) → to ≡ word_of (header_link next after_lost)
      → page ≡ page_before shape.pages c.order after_lost
      → Step shape.pages shape.size c steps answer after
      → MarkHeadStep shape.pages c frame below role noted page next answer after
      → ExchangeMoves page after_lost from to
  marks_at page next after_lost from to frame below role noted answer after on sum fits from_is to_is e step
      (mark_late helps late) =
      absurd (late.passed (subst (λ (x : Role). MayContinue x noted c.opened) helps on))
  marks_at page next after_lost from to frame below role noted answer after on sum fits from_is to_is e step
      (marks lost x lost_sum at a after_is) =
      let same : suc lost ≡ after_lost = omega arith in
      done_on page after_lost from to (normal_link next after_lost) (header_link next after_lost)
      (record frame { phase = after_next role noted page } ∷ below) c.head e from_is to_is
      (subst (λ (f : ℕ). link_into shape.pages c.links f ≡ normal_link next f) same at) (omega arith)
      (goes answer after
      (in_phase (with_link shape.pages c after_lost (header_link next after_lost)) frame below
      (after_next role noted page)) step a
      (after_is
      ∙ ap
      (λ (f : ℕ).
      in_phase (with_link shape.pages c f (header_link next f)) frame below (after_next role noted page))
      same))
  marks_at page next after_lost from to frame below role noted answer after on sum fits from_is to_is e step
      (mark_fails lost x lost_sum differ a after_is) =
      let same : suc lost ≡ after_lost = omega arith in
      fails_on page after_lost from to (normal_link next after_lost)
      (record frame { phase = after_next role noted page } ∷ below) e from_is fits
      (λ at. differ (subst (λ (f : ℕ). link_into shape.pages c.links f ≡ normal_link next f) (sym same) at))
      (goes answer after (in_phase c frame below (after_next role noted page)) step a after_is)

  pub mark_moves : (page next after_lost from to : ℕ) → MarksNext shape.pages now page next after_lost
      → next < LINK_PAGES → from ≡ word_of (normal_link next after_lost) → to ≡ word_of (header_link next after_lost)
      → ExchangeMoves page (after_lost_in shape.pages now) from to
  mark_moves page next after_lost from to due fits from_is to_is =
      let top = top_of c.frames (marking mover noted page next) (top_now (marking mover noted page next) due.phase) in
      let (answer, after, step) = each_event_is_a_step shape.pages shape.size shape.start c steps kept tt in
      let known = top_kept shape.pages c top.frame top.below kept.links top.is in
      let passed = known.passed noted page (ap passed_spot top.phase_is) in
      let (low, high, room, numbers) = known.noted noted (ap noted_fill top.phase_is) in
      let some = kept.links.some_pages in
      let sum = due.after_lost_is in
      subst (λ (fill : ℕ). ExchangeMoves page fill from to) (marks_after_lost shape.pages now page next after_lost due)
      (marks_at page next after_lost from to top.frame top.below mover noted answer after
      (subst (MayContinue mover noted) opened_is due.goes_on) due.after_lost_is
      record { page_fits = fits; fill_fits = omega arith } from_is to_is
      (passed_front page noted after_lost passed.2 due.after_lost_is) step
      (top_stepped shape.pages shape.size c top.frame top.below (marking mover noted page next) answer after top.is
      top.phase_is step))

  clears_at : (before page lost noted from to : ℕ) (frame : Frame) (below : List Frame) (answer : Answer) (after : Core)
      → lost + shape.pages ≡ noted → from ≡ word_of (update_link page lost) → to ≡ word_of (normal_link page noted)
      → before ≡ page_before shape.pages c.order noted
      → Step shape.pages shape.size c steps answer after
      → ClearUpdateStep shape.pages c frame below noted page answer after → ExchangeMoves before noted from to
  clears_at before page lost noted from to frame below answer after sum from_is to_is e step
      (clears u u_sum at a after_is) =
      let same : u ≡ lost = omega arith in
      done_on before noted from to (update_link page lost) (normal_link page noted)
      (record frame { phase = opening noted page } ∷ below) c.head e from_is to_is
      (at ∙ ap (update_link page) same) (omega arith)
      (goes answer after
      (in_phase (with_link shape.pages c noted (normal_link page noted)) frame below (opening noted page)) step a
      after_is)

  pub clear_moves : (before page lost noted from to : ℕ)
      → before ≡ slice_index_or now.open_pages (noted - 1 - now.done) 0 → IsTopIn now.frames (clearing noted page)
      → lost + shape.pages ≡ noted
      → from ≡ word_of (update_link page lost) → to ≡ word_of (normal_link page noted)
      → ExchangeMoves before (noted_on_top now.frames) from to
  clear_moves before page lost noted from to before_is phase sum from_is to_is =
      let top = top_of c.frames (clearing noted page) (top_now (clearing noted page) phase) in
      let (answer, after, step) = each_event_is_a_step shape.pages shape.size shape.start c steps kept tt in
      let known = top_kept shape.pages c top.frame top.below kept.links top.is in
      let (low, high, room, numbers) = known.noted noted (ap noted_fill top.phase_is) in
      subst (λ (fill : ℕ). ExchangeMoves before fill from to) (clears_noted now page noted phase)
      (clears_at before page lost noted from to top.frame top.below answer after sum from_is to_is
      (before_is
      ∙ (ap (λ (w : Writing). slice_index_or w.open_pages (noted - 1 - w.done) 0) (sym now_is) ∙ front noted low high))
      step
      (top_stepped shape.pages shape.size c top.frame top.below (clearing noted page) answer after top.is top.phase_is
      step))
