-- What each of the writer's steps makes of its part: it is determined by what the step finds.
use Rattle.std.specs.Prelude.{Some, ◌==◌, ◌↔◌}
use Rattle.std.proofs.Common.{◌≡◌, ◌≢◌, ℕ, ◌+◌, Bool, true, false, List, [], ◌∷◌, refl, sym, ap, ◌∙◌, subst, arith}
use Rattle.std.proofs.lemmas.Bool.{eqb-true, eqb-false}
use Rattle.trace_model.specs.Links.{Mark, normal, header, update, Link, normal_link, header_link, update_link}
use Rattle.trace_model.specs.Frames.{Purpose, for_record, for_close, Progress, waiting, reserved, left, looking}
use Rattle.trace_model.specs.Frames.{claiming, looking_next, marking, clearing, opening, releasing, wishing, Phase}
use Rattle.trace_model.specs.Frames.{Frame}
use Rattle.trace_model.specs.Ring.{Core, link_into}
use Rattle.trace_model.specs.Steps.{steps, going, Answer, MayContinue, IsGranted, in_phase, after_next, after_begin}
use Rattle.trace_model.specs.Steps.{with_new_tail, step_of}
use Rattle.trace_model.proofs.steps.StepCases.{FrameStep, frame_step, LoadLinkStep, load_link_late, sees_free}
use Rattle.trace_model.proofs.steps.StepCases.{sees_header, sees_update, OpenFillStep, open_late, opens}
use Rattle.trace_model.proofs.steps.StepCases.{ReleaseFillStep, releases, releases_last, LoadWishStep, grants}
use Rattle.trace_model.proofs.steps.StepCases.{closes_more, goes_away}
use Rattle.trace_model.proofs.steps.StepIs.{step_by}
use Rattle.ring_model.proofs.frames.TopSteps.{top_stepped}
use Rattle.ring_steps.specs.declared.rule.Shape.{Shape}
use Rattle.ring_steps.specs.Made.{WriterMade, writer_made_of}
use Rattle.ring_steps.specs.Views.{Writing, writing_of, writing_after}
use Rattle.ring_steps.specs.Seats.{IsWriterStep}
use Rattle.ring_steps.specs.Paging.{IsTopIn}
use Rattle.ring_steps.specs.Linking.{noted_on_top, role_on_top, LooksNext, MarksNext, frames_in, part_in, found_at}
use Rattle.ring_steps.specs.Linking.{claimed_at, next_at}
use Rattle.ring_steps.specs.Notes.{alone, part_of, part_after, part_after_wish}
use Rattle.ring_steps.proofs.Made.{part_here}
use Rattle.ring_steps.proofs.Paging.{HasTop, top_of}
use Rattle.ring_steps.proofs.LinkMoves.{looked, claimed, not_claimed, waits, is_passed, marked, cleared}

-- ---- the link into the position of the fill to open

-- what fill it states
abbrev pub StatesFill : (n noted : ℕ) → Link → Type 0
StatesFill n noted l = (l.mark ≡ normal → l.fill ≡ noted) × (l.mark ≢ normal → l.fill + n ≡ noted)

states_lost : (n noted lost : ℕ) (l k : Link) → k ≡ l → (k.mark ≡ normal → ⊥) → k.fill ≡ lost → lost + n ≡ noted
    → StatesFill n noted l
states_lost n noted lost l k same other fill sum = (
  (λ is. absurd (other (ap (λ (x : Link). x.mark) same ∙ is))),
  (λ _. let here : k.fill ≡ l.fill = ap (λ (x : Link). x.fill) same in omega arith),
)

states_fill : (n : ℕ) (c : Core) (frame : Frame) (below : List Frame) (noted : ℕ) (answer : Answer) (after : Core)
    (l : Link) → noted ≡ c.opened → link_into n c.links noted ≡ l → LoadLinkStep n c frame below noted answer after
    → StatesFill n noted l
states_fill n c frame below noted answer after l now link (load_link_late late) = absurd (late.passed now)
states_fill n c frame below noted answer after l now link (sees_free page x at a is) =
    let same : normal_link page noted ≡ l =
    sym at ∙ link in (
      (λ _. sym (ap (λ (k : Link). k.fill) same)),
      (λ other. absurd (other (sym (ap (λ (k : Link). k.mark) same)))),
    )
states_fill n c frame below noted answer after l now link (sees_header page lost x sum at a is) =
    states_lost n noted lost l (header_link page lost) (sym at ∙ link) (λ e. cc) refl sum
states_fill n c frame below noted answer after l now link (sees_update page lost x sum at a is) =
    states_lost n noted lost l (update_link page lost) (sym at ∙ link) (λ e. cc) refl sum

-- ---- steps that are a function of the part, and of the wish

-- the frame's step is computed in any state with it on top
computed : (n size : ℕ) (d : Core) (frame : Frame) (below : List Frame) (phase : Phase) (answer : Answer) (after : Core)
    → d.frames ≡ frame ∷ below → frame.phase ≡ phase → FrameStep n size d frame below phase answer after
    → step_of n size d steps ≡ Some (answer, after)
computed n size d frame below phase answer after top at step =
    (step_by (frame_step frame below refl top
    (subst (λ (p : Phase). FrameStep n size d frame below p answer after) (sym at) step))).is

begun_alone : (kind : Purpose) (state : Progress) (c : Core) (page : ℕ) (frame : Frame) (below : List Frame)
    → writing_of [] (after_begin kind state (with_new_tail c page) frame below)
    ≡ writing_of [] (after_begin kind state (with_new_tail (alone (writing_of [] c)) page) frame below)
begun_alone (for_record moment len) waiting c page frame below = refl
begun_alone for_close waiting c page frame below = refl
begun_alone kind (reserved number) c page frame below = refl
begun_alone kind left c page frame below = refl

module _ (shape : Shape) (made : List WriterMade) (c : Core) (frame : Frame) (below : List Frame)
    (top : c.frames ≡ frame ∷ below) (answer : Answer) (after : Core) where
  abbrev there : Core
  there = alone (writing_of made c)

  -- this part, as the one after the step
  abbrev after_step : Writing → Writing
  after_step w = writing_after made record { event = steps; answer = answer } w

  -- the part after the step is computed from the part before it
  abbrev IsPartAfter : Type 0
  IsPartAfter = after_step (writing_of [] after) ≡ part_after shape (writing_of made c) steps

  is_part_after : (phase : Phase) (next : Core) → frame.phase ≡ phase
      → FrameStep shape.pages shape.size there frame below phase answer next → writing_of [] after ≡ writing_of [] next
      → IsPartAfter
  is_part_after phase next at step same =
      ap after_step same
      ∙ sym (ap (part_of (writing_of made c) steps)
      (computed shape.pages shape.size there frame below phase answer next top at step))

  begun : (page : ℕ) → frame.phase ≡ opening c.opened page
      → OpenFillStep shape.pages c frame below c.opened page answer after → IsPartAfter
  begun page at (open_late late) = absurd (late.passed refl)
  begun page at (opens now a is) =
      is_part_after (opening c.opened page) (after_begin frame.kind frame.state (with_new_tail there page) frame below)
      at (opens refl a refl)
      (ap (writing_of []) is ∙ begun_alone frame.kind frame.state c page frame below)

  closed : frame.phase ≡ releasing → ReleaseFillStep c frame below answer after → IsPartAfter
  closed at (releases last more a is) = is_part_after releasing _ at (releases last more a refl) (ap (writing_of []) is)
  closed at (releases_last last more a is) =
      is_part_after releasing _ at (releases_last last more a refl) (ap (writing_of []) is)

  -- ---- the wish

  abbrev wished_there : Core
  wished_there = record (alone (writing_of made c)) { wish = c.wish }

  granted_there : IsGranted shape.pages c → IsGranted shape.pages wished_there
  granted_there g = record { asks_tail = g.asks_tail; holds_record = g.holds_record; numbers_left = g.numbers_left }

  granted_here : IsGranted shape.pages wished_there → IsGranted shape.pages c
  granted_here g = record { asks_tail = g.asks_tail; holds_record = g.holds_record; numbers_left = g.numbers_left }

  is_part_after_wish : (next : Core) → frame.phase ≡ wishing
      → LoadWishStep shape.pages wished_there frame below answer next → writing_of [] after ≡ writing_of [] next
      → after_step (writing_of [] after) ≡ part_after_wish shape (writing_of made c) c.wish
  is_part_after_wish next at step same =
      ap after_step same
      ∙ sym (ap (part_of (writing_of made c) steps)
      (computed shape.pages shape.size wished_there frame below wishing answer next top at step))

  asked : frame.phase ≡ wishing → LoadWishStep shape.pages c frame below answer after
      → after_step (writing_of [] after) ≡ part_after_wish shape (writing_of made c) c.wish
  asked at (grants last granted a is) =
      is_part_after_wish _ at (grants last (granted_there granted) a refl) (ap (writing_of []) is)
  asked at (closes_more last denied more a is) =
      is_part_after_wish _ at (closes_more last (λ g. denied (granted_here g)) more a refl) (ap (writing_of []) is)
  asked at (goes_away last denied more a is) =
      is_part_after_wish _ at (goes_away last (λ g. denied (granted_here g)) more a refl) (ap (writing_of []) is)

-- ---- the steps that a seat shows

module _ {shape : Shape} {w : Writing} {sees : Core → Type 0} {answer : Answer} {after : Writing}
    (s : IsWriterStep shape w sees answer after) where
  opened_there : w.opened ≡ s.core.opened
  opened_there = ap (λ (x : Writing). x.opened) (sym s.before_is)

  top_there : (phase : Phase) → IsTopIn w.frames phase → HasTop s.core.frames phase
  top_there phase at = top_of s.core.frames phase (subst (λ (x : Writing). IsTopIn x.frames phase) (sym s.before_is) at)

  stepped : (phase : Phase) (top : HasTop s.core.frames phase)
      → FrameStep shape.pages shape.size s.core top.frame top.below phase answer s.next
  stepped phase top =
      top_stepped shape.pages shape.size s.core top.frame top.below phase answer s.next top.is top.phase_is s.step

  before_here : writing_of w.made s.core ≡ w
  before_here = part_here (writer_made_of s.reached) s.core w s.before_is

  -- ---- counts, and the wish
  pub part_begun : (page fill : ℕ) → IsTopIn w.frames (opening fill page) → fill ≡ w.opened
      → after ≡ part_after shape w steps
  part_begun page fill at fill_is =
      let top =
      top_there (opening s.core.opened page)
      (subst (λ (f : ℕ). IsTopIn w.frames (opening f page)) (fill_is ∙ opened_there) at) in
      sym s.after_is
      ∙ (begun shape w.made s.core top.frame top.below top.is answer s.next page top.phase_is
      (stepped (opening s.core.opened page) top)
      ∙ ap (λ (x : Writing). part_after shape x steps) before_here)

  pub part_closed : IsTopIn w.frames releasing → after ≡ part_after shape w steps
  part_closed at = let top = top_there releasing at in
      sym s.after_is
      ∙ (closed shape w.made s.core top.frame top.below top.is answer s.next top.phase_is (stepped releasing top)
      ∙ ap (λ (x : Writing). part_after shape x steps) before_here)

  pub part_asked : (wish : ℕ) → IsTopIn w.frames wishing → s.core.wish ≡ wish → after ≡ part_after_wish shape w wish
  part_asked wish at is = let top = top_there wishing at in
      sym s.after_is
      ∙ (asked shape w.made s.core top.frame top.below top.is answer s.next top.phase_is (stepped wishing top)
      ∙ (λ i. part_after_wish shape (before_here i) (is i)))

-- ---- the steps on links

module _ {shape : Shape} {w : Writing} {sees : Core → Type 0} {after : Writing}
    (s : IsWriterStep shape w sees going after) where
  -- the frame on top goes on in this phase
  goes_on_in : (frame : Frame) (below : List Frame) (phase : Phase) → s.core.frames ≡ frame ∷ below
      → writing_of [] s.next ≡ writing_of [] (in_phase s.core frame below phase) → after ≡ part_in w phase
  goes_on_in frame below phase top moved =
      sym s.after_is ∙ ap (writing_after w.made record { event = steps; answer = going })
      (moved
      ∙ (ap
      (λ (frames : List Frame). let part : Writing =
      record (writing_of [] s.core) { frames = frames_in frames phase } in
      part) (sym top)
      ∙ ap (λ (x : Writing). let part : Writing = record x { frames = frames_in x.frames phase; made = [] } in part)
      s.before_is))

  module _ (l : Link) (at : IsTopIn w.frames (looking w.opened))
      (link : link_into shape.pages s.core.links w.opened ≡ l) where
    pub part_found : after ≡ part_in w (found_at l.mark w.opened l.page)
    part_found = let top = top_there s (looking w.opened) at in
        goes_on_in top.frame top.below (found_at l.mark w.opened l.page) top.is
        (looked shape.pages s.core top.frame top.below going s.next w.opened l (opened_there s) link
        (stepped s (looking w.opened) top))

    pub fill_found : StatesFill shape.pages w.opened l
    fill_found = let top = top_there s (looking w.opened) at in
        states_fill shape.pages s.core top.frame top.below w.opened going s.next l (opened_there s) link
        (stepped s (looking w.opened) top)

  pub part_claimed : (done : Bool) (page lost : ℕ) → IsTopIn w.frames (claiming w.opened page)
      → lost + shape.pages ≡ w.opened
      → ((done ≡ true) ↔ (link_into shape.pages s.core.links w.opened ≡ header_link page lost))
      → after ≡ part_in w (claimed_at done w.opened page)
  part_claimed true page lost at sum is = let top = top_there s (claiming w.opened page) at in
      goes_on_in top.frame top.below (looking_next Rattle.trace_model.specs.Frames.owner w.opened page) top.is
      (claimed shape.pages s.core top.frame top.below going s.next w.opened page lost (opened_there s) sum (is.0 refl)
      (stepped s (claiming w.opened page) top))
  part_claimed false page lost at sum is = let top = top_there s (claiming w.opened page) at in
      goes_on_in top.frame top.below (looking w.opened) top.is
      (not_claimed shape.pages s.core top.frame top.below going s.next w.opened page lost (opened_there s) sum
      (λ there. let e : false ≡ true = is.1 there in cc) (stepped s (claiming w.opened page) top))

  module _ (page after_lost : ℕ) (l : Link) (due : LooksNext shape.pages w page after_lost)
      (link : link_into shape.pages s.core.links after_lost ≡ l) where
    next_on : (phase : Phase)
        → ((frame : Frame) (below : List Frame)
        → MayContinue (role_on_top w.frames) (noted_on_top w.frames) s.core.opened
        → FrameStep shape.pages shape.size s.core frame below
        (looking_next (role_on_top w.frames) (noted_on_top w.frames) page) going s.next
        → writing_of [] s.next ≡ writing_of [] (in_phase s.core frame below phase))
        → after ≡ part_in w phase
    next_on phase moves =
        let top =
        top_there s (looking_next (role_on_top w.frames) (noted_on_top w.frames) page) due.phase in
        goes_on_in top.frame top.below phase top.is
        (moves top.frame top.below
        (subst (MayContinue (role_on_top w.frames) (noted_on_top w.frames)) (opened_there s) due.goes_on)
        (stepped s (looking_next (role_on_top w.frames) (noted_on_top w.frames) page) top))

    passes : ((page : ℕ) → l ≢ normal_link page after_lost)
        → after ≡ part_in w (after_next (role_on_top w.frames) (noted_on_top w.frames) page)
    passes differ = next_on (after_next (role_on_top w.frames) (noted_on_top w.frames) page)
        (λ frame below on step.
        is_passed shape.pages s.core frame below going s.next (role_on_top w.frames) (noted_on_top w.frames) page
        after_lost l on due.after_lost_is link differ step)

    other_mark : (mark : Mark) → l.mark ≡ mark → (mark ≡ normal → ⊥) → (page : ℕ) → l ≢ normal_link page after_lost
    other_mark mark is other page e = other (sym is ∙ ap (λ (k : Link). k.mark) e)

    pub part_next : (mark : Mark) (same : Bool) → l.mark ≡ mark → (l.fill == after_lost) ≡ same
        → after ≡ part_in w (next_at mark same (role_on_top w.frames) (noted_on_top w.frames) page l.page)
    part_next normal true is same = next_on (marking (role_on_top w.frames) (noted_on_top w.frames) page l.page)
        (λ frame below on step.
        waits shape.pages s.core frame below going s.next (role_on_top w.frames) (noted_on_top w.frames) page
        after_lost l on due.after_lost_is link
        (let fill : l.fill ≡ after_lost = eqb-true l.fill after_lost same in
        λ i. record { mark = is i; page = l.page; fill = fill i }) step)
    part_next normal false is same = passes (λ page e. eqb-false l.fill after_lost same (ap (λ (k : Link). k.fill) e))
    part_next header same is x = passes (other_mark header is (λ e. cc))
    part_next update same is x = passes (other_mark update is (λ e. cc))

  pub part_marked : (page next after_lost : ℕ) → MarksNext shape.pages w page next after_lost
      → after ≡ part_in w (after_next (role_on_top w.frames) (noted_on_top w.frames) page)
  part_marked page next after_lost due =
      let top =
      top_there s (marking (role_on_top w.frames) (noted_on_top w.frames) page next) due.phase in
      goes_on_in top.frame top.below (after_next (role_on_top w.frames) (noted_on_top w.frames) page) top.is
      (marked shape.pages s.core top.frame top.below going s.next (role_on_top w.frames) (noted_on_top w.frames) page
      next (subst (MayContinue (role_on_top w.frames) (noted_on_top w.frames)) (opened_there s) due.goes_on)
      (stepped s (marking (role_on_top w.frames) (noted_on_top w.frames) page next) top))

  pub part_cleared : (page noted : ℕ) → IsTopIn w.frames (clearing noted page) → after ≡ part_in w (opening noted page)
  part_cleared page noted at = let top = top_there s (clearing noted page) at in
      goes_on_in top.frame top.below (opening noted page) top.is
      (cleared shape.pages s.core top.frame top.below going s.next noted page (stepped s (clearing noted page) top))
