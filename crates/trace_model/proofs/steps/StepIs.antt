-- Each case is the step that the function makes.
use Rattle.std.proofs.Common.{◌≡◌, ◌≢◌, ℕ, suc, ◌+◌, ◌-◌, ◌++◌, ⊎_elim, Bool, true, false, if◌then◌else◌, ◌&&◌, ◌==◌}
use Rattle.std.proofs.Common.{nat_lt, nat_le, List, [], ◌∷◌, length, Some, refl, sym, ap, ◌∙◌, subst, arith}
use Rattle.std.proofs.lemmas.Bool.{leb-true, lt-ltb, le-leb, lt-leb, eq-eqb, ne_eqb, and_parts, and_from, or_left}
use Rattle.std.proofs.lemmas.Bool.{or_right, false_from_ne_true}
use Rattle.trace_model.specs.declared.limits.TheConstants.{MAX_FRAMES, MOMENT_LIMIT, LINK_FILLS}
use Rattle.trace_model.specs.Words.{encoded_len, slot_len}
use Rattle.trace_model.specs.History.{Reservation, wished, reserved_records}
use Rattle.trace_model.specs.Packing.{fill_len, FitsBehind, tail_of}
use Rattle.trace_model.specs.Links.{Link, normal_link, header_link, update_link, same_link}
use Rattle.trace_model.specs.Frames.{Purpose, for_record, for_close, Progress, waiting, reserved, left, number_of, Role}
use Rattle.trace_model.specs.Frames.{owner, helper, Phase, looking, looking_next, marking, releasing, wishing, Frame}
use Rattle.trace_model.specs.Frames.{WriteFault}
use Rattle.trace_model.specs.Ring.{ReaderPhase, loading_head, loading_done, storing_spare_link, swapping, Core}
use Rattle.trace_model.specs.Ring.{link_into}
use Rattle.trace_model.specs.Events.{Event, Answer, refused, Outcome, only_if}
use Rattle.trace_model.specs.WriterSteps.{with_history_event, in_phase, with_link, new_reservation, with_reservation}
use Rattle.trace_model.specs.WriterSteps.{in_reserved, with_released, with_new_tail, tail_holds, unless_begun}
use Rattle.trace_model.specs.WriterSteps.{push_record, note_fill, reserve, sees_link, load_link, open_fill, idle_step}
use Rattle.trace_model.specs.WriterSteps.{end_frame, end_top, release_fill, is_granted, load_wish}
use Rattle.trace_model.specs.HeadMove.{with_head_claimed, after_next, claim_head, unless_late, load_next, mark_head}
use Rattle.trace_model.specs.HeadMove.{clear_update}
use Rattle.trace_model.specs.ReaderSteps.{reader_at, reads_link, load_head}
use Rattle.trace_model.specs.StepConditions.{MayContinue, NeedsPage, IsGranted, IsTooLong}
use Rattle.trace_model.specs.Steps.{frame_step_of, top_step_of, read_step_of, step_of, Step}
use Rattle.trace_model.proofs.steps.StepWords.{is_full, is_too_long, fits_in_tail, begins_as}
use Rattle.trace_model.proofs.steps.StepCases.{BeginsAgain, ReserveStep, reserves, finds_nothing, is_crowded, is_worn}
use Rattle.trace_model.proofs.steps.StepCases.{notes, LoadLinkStep, load_link_late, sees_free, sees_header, sees_update}
use Rattle.trace_model.proofs.steps.StepCases.{ClaimHeadStep, claim_late, claims, claim_fails, LoadNextStep}
use Rattle.trace_model.proofs.steps.StepCases.{load_next_late, sees_normal, sees_other, MarkHeadStep, mark_late, marks}
use Rattle.trace_model.proofs.steps.StepCases.{mark_fails, ClearUpdateStep, clears, OpenFillStep, open_late, opens}
use Rattle.trace_model.proofs.steps.StepCases.{ReleaseFillStep, releases, releases_last, LoadWishStep, grants}
use Rattle.trace_model.proofs.steps.StepCases.{closes_more, goes_away, IdleStep, FrameStep, by_phase, LoadHeadStep}
use Rattle.trace_model.proofs.steps.StepCases.{loads_header, loads_update, loads_owed, loads_passed, LoadDoneStep}
use Rattle.trace_model.proofs.steps.StepCases.{finds_none, finds_closed, SwapHeadStep, swaps, swap_fails, ReadStep}
use Rattle.trace_model.proofs.steps.StepCases.{PushRefused, all_stand, has_no_room, comes_late, StepCases, push_step}
use Rattle.trace_model.proofs.steps.StepCases.{push_refused, close_step, close_refused, frame_step, frame_lacks}
use Rattle.trace_model.proofs.steps.StepCases.{end_step, end_lacks, end_early, read_step, store_wish_step}
use Rattle.trace_model.proofs.steps.StepSound.{same_link_true, same_link_from, holds_some, granted_true, granted_from}
use Rattle.trace_model.proofs.steps.StepSound.{too_long_true}

-- what is computed is this answer and this state
abbrev Is : Outcome → Answer → Core → Type 0
Is o answer after = o ≡ Some (answer, after)

here : (x answer : Answer) (y after : Core) → answer ≡ x → after ≡ y → Is (Some (x, y)) answer after
here x answer y after a is = λ i. Some (sym a i, sym is i)

if_yes : (b : Bool) (x y : Outcome) → b ≡ true → (if b then x else y) ≡ x
if_yes b x y e = ap (λ (t : Bool). if t then x else y) e

if_no : (b : Bool) (x y : Outcome) → b ≡ false → (if b then x else y) ≡ y
if_no b x y e = ap (λ (t : Bool). if t then x else y) e

only : (b : Bool) (x : Outcome) → b ≡ true → only_if b x ≡ x
only b x e = ap (λ (t : Bool). only_if t x) e

same_no : (a b : Link) → a ≢ b → same_link a b ≡ false
same_no a b ne = false_from_ne_true (same_link a b) (λ e. ne (same_link_true a b e))

-- ---- the steps of a frame

module _ (n size : ℕ) (c : Core) (frame : Frame) (below : List Frame) (answer : Answer) (after : Core) where
  needs_is : (kind : Purpose) → NeedsPage size c kind → reserve n size c frame below kind ≡ note_fill n c frame below
  needs_is (for_record moment len) needs =
      let r = new_reservation c moment len in
      if_no (fits_in_tail size c r) _ _
      (false_from_ne_true (fits_in_tail size c r)
      (λ e. needs (leb-true (fill_len (tail_of c.history ++ r ∷ [])) size e)))
  needs_is for_close needs = if_yes (tail_holds c) _ _ (holds_some (tail_of c.history) needs)

  none_holds : tail_of c.history ≡ [] → tail_holds c ≡ false
  none_holds none = ap (λ (l : List Reservation). nat_lt 0 (length l)) none

  reserve_is : ReserveStep n size c frame below answer after → Is (reserve n size c frame below frame.kind) answer after
  reserve_is (reserves moment len r kind r_is fits a is) =
      ap (reserve n size c frame below) kind
      ∙ if_yes (fits_in_tail size c (new_reservation c moment len)) _ _
      (le-leb (fill_len (tail_of c.history ++ new_reservation c moment len ∷ [])) size
      (subst (FitsBehind size (tail_of c.history)) r_is fits))
      ∙ here _ answer _ after a
      (is
      ∙ ap
      (λ (res : Reservation).
      in_reserved (with_reservation c res) frame below (length (reserved_records c.history))) r_is)
  reserve_is (finds_nothing kind none a is) =
      ap (reserve n size c frame below) kind ∙ if_no (tail_holds c) _ _ (none_holds none) ∙ here _ answer _ after a is
  reserve_is (is_crowded needs full a is) =
      needs_is frame.kind needs ∙ if_yes (c.opened == c.done + n) _ _ (eq-eqb c.opened (c.done + n) full)
      ∙ here _ answer _ after a is
  reserve_is (is_worn needs room last a is) =
      needs_is frame.kind needs ∙ if_no (c.opened == c.done + n) _ _ (ne_eqb c.opened (c.done + n) room)
      ∙ if_yes (nat_le LINK_FILLS (c.opened + n)) _ _ (le-leb LINK_FILLS (c.opened + n) last)
      ∙ here _ answer _ after a is
  reserve_is (notes needs room small a is) =
      needs_is frame.kind needs ∙ if_no (c.opened == c.done + n) _ _ (ne_eqb c.opened (c.done + n) room)
      ∙ if_no (nat_le LINK_FILLS (c.opened + n)) _ _ (lt-leb LINK_FILLS (c.opened + n) small)
      ∙ here _ answer _ after a is

  late_is : (noted : ℕ) (o : Outcome) → BeginsAgain c frame below noted answer after
      → Is (unless_begun noted c frame below o) answer after
  late_is noted o step = if_no (noted == c.opened) _ _ (ne_eqb noted c.opened step.passed)
      ∙ begins_as frame.kind frame.state c frame below ∙ here _ answer _ after step.answer_is step.after_is

  now_is : (noted : ℕ) (o : Outcome) → noted ≡ c.opened → unless_begun noted c frame below o ≡ o
  now_is noted o now = if_yes (noted == c.opened) _ _ (eq-eqb noted c.opened now)

  passed_is : (role : Role) (noted : ℕ) (o : Outcome) → role ≡ helper → BeginsAgain c frame below noted answer after
      → Is (unless_late role noted c frame below o) answer after
  passed_is role noted o helps step =
      ap (λ (r : Role). unless_late r noted c frame below o) helps ∙ late_is noted o step

  on_is : (role : Role) (noted : ℕ) (o : Outcome) → MayContinue role noted c.opened
      → unless_late role noted c frame below o ≡ o
  on_is owner noted o on = refl
  on_is helper noted o on = now_is noted o on

  seen_is : (noted : ℕ) (l : Link) → noted ≡ c.opened → link_into n c.links noted ≡ l
      → load_link n c frame below noted ≡ sees_link n c frame below noted l.mark l.page l.fill
  seen_is noted l now at =
      now_is noted _ now ∙ ap (λ (k : Link). sees_link n c frame below noted k.mark k.page k.fill) at

  load_link_is : (noted : ℕ) → LoadLinkStep n c frame below noted answer after
      → Is (load_link n c frame below noted) answer after
  load_link_is noted (load_link_late step) = late_is noted _ step
  load_link_is noted (sees_free page now at a is) =
      seen_is noted (normal_link page noted) now at ∙ only (noted == noted) _ (eq-eqb noted noted refl)
      ∙ here _ answer _ after a is
  load_link_is noted (sees_header page lost now sum at a is) =
      seen_is noted (header_link page lost) now at ∙ only (lost + n == noted) _ (eq-eqb (lost + n) noted sum)
      ∙ here _ answer _ after a is
  load_link_is noted (sees_update page lost now sum at a is) =
      seen_is noted (update_link page lost) now at ∙ only (lost + n == noted) _ (eq-eqb (lost + n) noted sum)
      ∙ here _ answer _ after a is

  claim_head_is : (noted page : ℕ) → ClaimHeadStep n c frame below noted page answer after
      → Is (claim_head n c frame below noted page) answer after
  claim_head_is noted page (claim_late step) = late_is noted _ step
  claim_head_is noted page (claims lost now sum at a is) =
      let fill : lost ≡ noted - n = omega arith in
      let l = link_into n c.links noted in
      let own = header_link page (noted - n) in
      now_is noted _ now
      ∙ if_yes (nat_le n noted && same_link l own) _ _
      (and_from (nat_le n noted) (same_link l own) (le-leb n noted (omega arith))
      (same_link_from l own (at ∙ ap (header_link page) fill)))
      ∙ here _ answer _ after a
      (is
      ∙ ap (λ (f : ℕ). in_phase (with_head_claimed n c noted page f) frame below (looking_next owner noted page))
      fill)
  claim_head_is noted page (claim_fails now other a is) =
      let l = link_into n c.links noted in
      let own = header_link page (noted - n) in
      now_is noted _ now
      ∙ if_no (nat_le n noted && same_link l own) _ _ (false_from_ne_true (nat_le n noted && same_link l own)
      (λ e. let (turn, same) = and_parts (nat_le n noted) (same_link l own) e in
      let le = leb-true n noted turn in
      other (noted - n) (omega arith) (same_link_true l own same)))
      ∙ here _ answer _ after a is

  load_next_is : (role : Role) (noted page : ℕ) → LoadNextStep n c frame below role noted page answer after
      → Is (load_next n c frame below role noted page) answer after
  load_next_is role noted page (load_next_late helps step) = passed_is role noted _ helps step
  load_next_is role noted page (sees_normal lost next on sum at a is) =
      let fill : lost ≡ noted - n = omega arith in
      let l = link_into n c.links (suc (noted - n)) in
      let owing = normal_link l.page (suc (noted - n)) in
      let at' : link_into n c.links (suc (noted - n)) ≡ normal_link next (suc (noted - n)) =
      subst (λ (f : ℕ). link_into n c.links (suc f) ≡ normal_link next (suc f)) fill at in
      let page_is = ap (λ (k : Link). k.page) at' in
      on_is role noted _ on
      ∙ only (nat_le n noted) _ (le-leb n noted (omega arith))
      ∙ if_yes (same_link l owing) _ _
      (same_link_from l owing (at' ∙ ap (λ (p : ℕ). normal_link p (suc (noted - n))) (sym page_is)))
      ∙ here _ answer _ after a (is ∙ ap (λ (p : ℕ). in_phase c frame below (marking role noted page p)) (sym page_is))
  load_next_is role noted page (sees_other lost on sum other a is) =
      let fill : lost ≡ noted - n = omega arith in
      let l = link_into n c.links (suc (noted - n)) in
      let owing = normal_link l.page (suc (noted - n)) in
      let other' : (next : ℕ) → link_into n c.links (suc (noted - n)) ≢ normal_link next (suc (noted - n)) =
      subst (λ (f : ℕ). (next : ℕ) → link_into n c.links (suc f) ≢ normal_link next (suc f)) fill other in
      on_is role noted _ on
      ∙ only (nat_le n noted) _ (le-leb n noted (omega arith))
      ∙ if_no (same_link l owing) _ _ (same_no l owing (other' l.page))
      ∙ here _ answer _ after a is

  mark_head_is : (role : Role) (noted page next : ℕ) → MarkHeadStep n c frame below role noted page next answer after
      → Is (mark_head n c frame below role noted page next) answer after
  mark_head_is role noted page next (mark_late helps step) = passed_is role noted _ helps step
  mark_head_is role noted page next (marks lost on sum at a is) =
      let fill : lost ≡ noted - n = omega arith in
      let l = link_into n c.links (suc (noted - n)) in
      let owing = normal_link next (suc (noted - n)) in
      let at' : link_into n c.links (suc (noted - n)) ≡ normal_link next (suc (noted - n)) =
      subst (λ (f : ℕ). link_into n c.links (suc f) ≡ normal_link next (suc f)) fill at in
      on_is role noted _ on
      ∙ only (nat_le n noted) _ (le-leb n noted (omega arith))
      ∙ if_yes (same_link l owing) _ _ (same_link_from l owing at')
      ∙ here _ answer _ after a
      (is
      ∙ ap
      (λ (f : ℕ).
      in_phase (with_link n c (suc f) (header_link next (suc f))) frame below (after_next role noted page))
      fill)
  mark_head_is role noted page next (mark_fails lost on sum other a is) =
      let fill : lost ≡ noted - n = omega arith in
      let l = link_into n c.links (suc (noted - n)) in
      let owing = normal_link next (suc (noted - n)) in
      let other' : link_into n c.links (suc (noted - n)) ≢ normal_link next (suc (noted - n)) =
      subst (λ (f : ℕ). link_into n c.links (suc f) ≢ normal_link next (suc f)) fill other in
      on_is role noted _ on
      ∙ only (nat_le n noted) _ (le-leb n noted (omega arith))
      ∙ if_no (same_link l owing) _ _ (same_no l owing other')
      ∙ here _ answer _ after a is

  clear_update_is : (noted page : ℕ) → ClearUpdateStep n c frame below noted page answer after
      → Is (clear_update n c frame below noted page) answer after
  clear_update_is noted page (clears lost sum at a is) =
      let fill : lost ≡ noted - n = omega arith in
      let l = link_into n c.links noted in
      let own = update_link page (noted - n) in
      only (nat_le n noted && same_link l own) _
      (and_from (nat_le n noted) (same_link l own) (le-leb n noted (omega arith))
      (same_link_from l own (at ∙ ap (update_link page) fill)))
      ∙ here _ answer _ after a is

  open_fill_is : (noted page : ℕ) → OpenFillStep n c frame below noted page answer after
      → Is (open_fill c frame below noted page) answer after
  open_fill_is noted page (open_late step) = late_is noted _ step
  open_fill_is noted page (opens now a is) =
      now_is noted _ now ∙ begins_as frame.kind frame.state (with_new_tail c page) frame below
      ∙ here _ answer _ after a is

  release_fill_is : ReleaseFillStep c frame below answer after → Is (release_fill c frame below) answer after
  release_fill_is (releases alone more a is) =
      ap (release_fill c frame) alone
      ∙ if_no (c.done + 2 == c.opened) _ _ (ne_eqb (c.done + 2) c.opened (λ e. omega arith))
      ∙ only (nat_lt (c.done + 2) c.opened) _ (lt-ltb (c.done + 2) c.opened more) ∙ here _ answer _ after a is
  release_fill_is (releases_last alone last a is) =
      ap (release_fill c frame) alone ∙ if_yes (c.done + 2 == c.opened) _ _ (eq-eqb (c.done + 2) c.opened last)
      ∙ here _ answer _ after a (is ∙ ap (λ (fs : List Frame). in_phase (with_released c) frame fs wishing) alone)

  denied_is : (IsGranted n c → ⊥) → is_granted n c ≡ false
  denied_is denied = false_from_ne_true (is_granted n c) (λ e. denied (granted_true n c e))

  load_wish_is : LoadWishStep n c frame below answer after → Is (load_wish n c frame below) answer after
  load_wish_is (grants alone granted a is) =
      ap (load_wish n c frame) alone ∙ if_yes (is_granted n c) _ _ (granted_from n c granted)
      ∙ here _ answer _ after a
      (is ∙ ap (λ (fs : List Frame). in_phase (with_history_event c wished) frame fs (looking c.opened)) alone)
  load_wish_is (closes_more alone denied more a is) =
      ap (load_wish n c frame) alone ∙ if_no (is_granted n c) _ _ (denied_is denied)
      ∙ if_no (c.done + 1 == c.opened) _ _ (ne_eqb (c.done + 1) c.opened (λ e. omega arith))
      ∙ only (nat_lt (c.done + 1) c.opened) _ (lt-ltb (c.done + 1) c.opened more)
      ∙ here _ answer _ after a (is ∙ ap (λ (fs : List Frame). in_phase c frame fs releasing) alone)
  load_wish_is (goes_away alone denied last a is) =
      ap (load_wish n c frame) alone ∙ if_no (is_granted n c) _ _ (denied_is denied)
      ∙ if_yes (c.done + 1 == c.opened) _ _ (eq-eqb (c.done + 1) c.opened last) ∙ here _ answer _ after a is

  idle_is : (state : Progress) → IdleStep n size c frame below state answer after
      → Is (idle_step n size c frame below state) answer after
  idle_is waiting step = reserve_is step
  idle_is (reserved number) step = here _ answer _ after step.0 step.1
  idle_is left step = absurd step

  frame_is : (phase : Phase) → FrameStep n size c frame below phase answer after
      → Is (frame_step_of n size c frame below phase) answer after
  frame_is =
      by_phase n size c frame below answer after (λ phase. Is (frame_step_of n size c frame below phase) answer after)
      (idle_is frame.state) load_link_is claim_head_is load_next_is mark_head_is clear_update_is open_fill_is
      release_fill_is load_wish_is

-- ---- the steps of the reader

module _ (n : ℕ) (c : Core) (answer : Answer) (after : Core) where
  read_is_at : (l : Link) → link_into n c.links c.reader.hint ≡ l → load_head n c ≡ reads_link n c l.mark l.page l.fill
  read_is_at l at = ap (λ (k : Link). reads_link n c k.mark k.page k.fill) at

  load_head_is : LoadHeadStep n c answer after → Is (load_head n c) answer after
  load_head_is (loads_header page fill at a is) = read_is_at (header_link page fill) at ∙ here _ answer _ after a is
  load_head_is (loads_update page lost at a is) = read_is_at (update_link page lost) at ∙ here _ answer _ after a is
  load_head_is (loads_owed page at a is) =
      read_is_at (normal_link page c.reader.hint) at
      ∙ if_yes (c.reader.hint == c.reader.hint) _ _ (eq-eqb c.reader.hint c.reader.hint refl)
      ∙ here _ answer _ after a is
  load_head_is (loads_passed page fill least at more sum a is) =
      read_is_at (normal_link page fill) at
      ∙ if_no (fill == c.reader.hint) _ _ (ne_eqb fill c.reader.hint (λ e. omega arith))
      ∙ only (nat_lt c.reader.hint fill && nat_le n (suc fill)) _
      (and_from (nat_lt c.reader.hint fill) (nat_le n (suc fill)) (lt-ltb c.reader.hint fill more)
      (le-leb n (suc fill) (omega arith)))
      ∙ here _ answer _ after a
      (is ∙ ap (λ (f : ℕ). reader_at c loading_head f) (let e : least ≡ suc fill - n = omega arith in e))

  load_done_is : (page fill : ℕ) → LoadDoneStep c page fill answer after
      → Is (read_step_of n c (loading_done page fill)) answer after
  load_done_is page fill (finds_none le a is) =
      if_yes (nat_le c.done fill) _ _ (le-leb c.done fill le) ∙ here _ answer _ after a is
  load_done_is page fill (finds_closed closed a is) =
      if_no (nat_le c.done fill) _ _ (lt-leb c.done fill closed) ∙ here _ answer _ after a is

  swap_head_is : (page fill : ℕ) → SwapHeadStep n c page fill answer after
      → Is (read_step_of n c (swapping page fill)) answer after
  swap_head_is page fill (swaps at a is) = let l = link_into n c.links fill in
      if_yes (same_link l (header_link page fill)) _ _ (same_link_from l (header_link page fill) at)
      ∙ here _ answer _ after a is
  swap_head_is page fill (swap_fails at a is) = let l = link_into n c.links fill in
      if_no (same_link l (header_link page fill)) _ _ (same_no l (header_link page fill) at)
      ∙ here _ answer _ after a is

  read_is : (phase : ReaderPhase) → ReadStep n c phase answer after → Is (read_step_of n c phase) answer after
  read_is loading_head step = load_head_is step
  read_is (loading_done page fill) step = load_done_is page fill step
  read_is (storing_spare_link page fill) step = here _ answer _ after step.answer_is step.after_is
  read_is (swapping page fill) step = swap_head_is page fill step

-- ---- the whole

too_long_yes : (size len : ℕ) → IsTooLong size len → is_too_long size len ≡ true
too_long_yes size len long =
    ⊎_elim (λ more. or_left (nat_lt size len) (nat_lt size (encoded_len len 0 true)) (lt-ltb size len more))
    (λ more.
    or_right (nat_lt size len) (nat_lt size (encoded_len len 0 true)) (lt-ltb size (encoded_len len 0 true) more))
    long

too_long_no : (size len : ℕ) → (IsTooLong size len → ⊥) → is_too_long size len ≡ false
too_long_no size len short = false_from_ne_true (is_too_long size len) (λ e. short (too_long_true size len e))

refused_is : (size : ℕ) (c : Core) (moment len : ℕ) (why : WriteFault) → PushRefused size c moment len why
    → push_record size c moment len ≡ Some (refused why, c)
refused_is size c moment len why (all_stand many) = if_yes (is_full c) _ _ (le-leb MAX_FRAMES (length c.frames) many)
refused_is size c moment len why (has_no_room few long) =
    if_no (is_full c) _ _ (lt-leb MAX_FRAMES (length c.frames) few)
    ∙ if_yes (is_too_long size len) _ _ (too_long_yes size len long)
refused_is size c moment len why (comes_late few short late) =
    if_no (is_full c) _ _ (lt-leb MAX_FRAMES (length c.frames) few)
    ∙ if_no (is_too_long size len) _ _ (too_long_no size len short)
    ∙ if_yes (nat_le MOMENT_LIMIT moment) _ _ (le-leb MOMENT_LIMIT moment late)

step_is : (n size : ℕ) (c : Core) (event : Event) (answer : Answer) (after : Core)
    → StepCases n size c event answer after → Is (step_of n size c event) answer after
step_is n size c event answer after (push_step moment len e few short early a is) =
    ap (step_of n size c) e ∙ if_no (is_full c) _ _ (lt-leb MAX_FRAMES (length c.frames) few)
    ∙ if_no (is_too_long size len) _ _ (too_long_no size len short)
    ∙ if_no (nat_le MOMENT_LIMIT moment) _ _ (lt-leb MOMENT_LIMIT moment early) ∙ here _ answer _ after a is
step_is n size c event answer after (push_refused moment len why e refusal a is) =
    ap (step_of n size c) e ∙ refused_is size c moment len why refusal ∙ here _ answer _ after a is
step_is n size c event answer after (close_step e few a is) =
    ap (step_of n size c) e ∙ if_no (is_full c) _ _ (lt-leb MAX_FRAMES (length c.frames) few)
    ∙ here _ answer _ after a is
step_is n size c event answer after (close_refused e many a is) =
    ap (step_of n size c) e ∙ if_yes (is_full c) _ _ (le-leb MAX_FRAMES (length c.frames) many)
    ∙ here _ answer _ after a is
step_is n size c event answer after (frame_step frame below e top step) =
    ap (step_of n size c) e ∙ ap (top_step_of n size c) top
    ∙ frame_is n size c frame below answer after frame.phase step
step_is n size c event answer after (frame_lacks e none a is) =
    ap (step_of n size c) e ∙ ap (top_step_of n size c) none ∙ here _ answer _ after a is
step_is n size c event answer after (end_step payload frame below number moment len e top at kind size_is a is) =
    ap (step_of n size c) e ∙ ap (end_top c payload) top
    ∙ ap (λ (s : Progress). end_frame c payload frame below frame.kind (number_of s)) at
    ∙ ap (λ (k : Purpose). end_frame c payload frame below k (Some number)) kind
    ∙ only (slot_len (length payload) == slot_len len) _ (eq-eqb (slot_len (length payload)) (slot_len len) size_is)
    ∙ here _ answer _ after a is
step_is n size c event answer after (end_lacks payload e none a is) =
    ap (step_of n size c) e ∙ ap (end_top c payload) none ∙ here _ answer _ after a is
step_is n size c event answer after (end_early payload frame below e top none a is) =
    ap (step_of n size c) e ∙ ap (end_top c payload) top ∙ ap (end_frame c payload frame below frame.kind) none
    ∙ here _ answer _ after a is
step_is n size c event answer after (read_step e step) =
    ap (step_of n size c) e ∙ read_is n c answer after c.reader.phase step
step_is n size c event answer after (store_wish_step e a is) = ap (step_of n size c) e ∙ here _ answer _ after a is

-- A case is a step.
pub step_by : {n size : ℕ} {c : Core} {event : Event} {answer : Answer} {after : Core}
    → StepCases n size c event answer after → Step n size c event answer after
step_by {n} {size} {c} {event} {answer} {after} s = record { is = step_is n size c event answer after s }
