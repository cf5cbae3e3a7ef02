-- What the function makes of an event is one of the cases.
use Rattle.std.proofs.Common.{◌≡◌, ◌≢◌, ℕ, suc, ◌+◌, ◌-◌, ◌++◌, inl, inr, ⊎_elim, Bool, true, false, if◌then◌else◌}
use Rattle.std.proofs.Common.{◌&&◌, ◌||◌, ◌==◌, nat_lt, nat_le, List, [], ◌∷◌, length, Some, None, refl, sym, ap, ◌∙◌}
use Rattle.std.proofs.Common.{subst, arith}
use Rattle.std.proofs.lemmas.Bool.{ltb-true, ltb-false, leb-true, leb-false, le-leb, lt-ltb, eqb-true, eqb-false}
use Rattle.std.proofs.lemmas.Bool.{eq-eqb, both_ways, and_parts, and_from, or_parts}
use Rattle.trace_model.specs.declared.limits.TheConstants.{MAX_FRAMES, MOMENT_LIMIT, LINK_FILLS}
use Rattle.trace_model.specs.Words.{encoded_len, slot_len}
use Rattle.trace_model.specs.History.{Reservation}
use Rattle.trace_model.specs.Packing.{fill_len, tail_of}
use Rattle.trace_model.specs.Links.{Mark, normal, header, update, Link, normal_link, header_link, update_link}
use Rattle.trace_model.specs.Links.{mark_code, same_link}
use Rattle.trace_model.specs.Frames.{Purpose, for_record, for_close, Progress, waiting, reserved, left, number_of, Role}
use Rattle.trace_model.specs.Frames.{owner, helper, Phase, idle, looking, claiming, looking_next, marking, clearing}
use Rattle.trace_model.specs.Frames.{opening, releasing, wishing, Frame, too_deep, too_long, late_moment}
use Rattle.trace_model.specs.Ring.{ReaderPhase, loading_head, loading_done, storing_spare_link, swapping, Core}
use Rattle.trace_model.specs.Ring.{link_into}
use Rattle.trace_model.specs.Events.{Event, pushes, pushes_close, steps, ends, reads, wishes, Answer, Outcome, only_if}
use Rattle.trace_model.specs.WriterSteps.{begins_again, with_new_tail, new_reservation, tail_holds, unless_begun}
use Rattle.trace_model.specs.WriterSteps.{push_record, push_close_frame, note_fill, reserve, sees_link, load_link}
use Rattle.trace_model.specs.WriterSteps.{open_fill, idle_step, end_frame, end_top, release_fill, is_granted, load_wish}
use Rattle.trace_model.specs.HeadMove.{claim_head, unless_late, load_next, mark_head, clear_update}
use Rattle.trace_model.specs.ReaderSteps.{reads_link}
use Rattle.trace_model.specs.StepConditions.{MayContinue, NeedsPage, IsGranted, IsTooLong, begin_answer, after_begin}
use Rattle.trace_model.specs.Steps.{frame_step_of, top_step_of, read_step_of, step_of, Step}
use Rattle.trace_model.proofs.words.LinkWords.{mark_of}
use Rattle.trace_model.proofs.steps.StepWords.{is_full, is_too_long, fits_in_tail, begins_as}
use Rattle.trace_model.proofs.steps.StepCases.{BeginsAgain, ReserveStep, reserves, finds_nothing, is_crowded, is_worn}
use Rattle.trace_model.proofs.steps.StepCases.{notes, LoadLinkStep, load_link_late, sees_free, sees_header, sees_update}
use Rattle.trace_model.proofs.steps.StepCases.{ClaimHeadStep, claim_late, claims, claim_fails, LoadNextStep}
use Rattle.trace_model.proofs.steps.StepCases.{load_next_late, sees_normal, sees_other, MarkHeadStep, mark_late, marks}
use Rattle.trace_model.proofs.steps.StepCases.{mark_fails, ClearUpdateStep, clears, OpenFillStep, open_late, opens}
use Rattle.trace_model.proofs.steps.StepCases.{ReleaseFillStep, releases, releases_last, LoadWishStep, grants}
use Rattle.trace_model.proofs.steps.StepCases.{closes_more, goes_away, IdleStep, FrameStep, LoadHeadStep, loads_header}
use Rattle.trace_model.proofs.steps.StepCases.{loads_update, loads_owed, loads_passed, LoadDoneStep, finds_none}
use Rattle.trace_model.proofs.steps.StepCases.{finds_closed, SwapHeadStep, swaps, swap_fails, ReadStep, all_stand}
use Rattle.trace_model.proofs.steps.StepCases.{has_no_room, comes_late, StepCases, push_step, push_refused, close_step}
use Rattle.trace_model.proofs.steps.StepCases.{close_refused, frame_step, frame_lacks, end_step, end_lacks, end_early}
use Rattle.trace_model.proofs.steps.StepCases.{read_step, store_wish_step}

-- what an outcome says, if there is one
abbrev pub Sound : (Answer → Core → Type 0) → Outcome → Type 0
Sound P None = Unit {0}
Sound P (Some o) = P o.0 o.1

by_if : (P : Answer → Core → Type 0) (b : Bool) (x y : Outcome) → (b ≡ true → Sound P x) → (b ≡ false → Sound P y)
    → Sound P (if b then x else y)
by_if P true x y holds fails = holds refl
by_if P false x y holds fails = fails refl

pub by_only : (P : Answer → Core → Type 0) (b : Bool) (x : Outcome) → (b ≡ true → Sound P x) → Sound P (only_if b x)
by_only P true x holds = holds refl
by_only P false x holds = tt

sound_as : (P Q : Answer → Core → Type 0) (o : Outcome)
    → ((answer : Answer) (after : Core) → P answer after → Q answer after) → Sound P o → Sound Q o
sound_as P Q None f s = tt
sound_as P Q (Some o) f s = f o.0 o.1 s

-- ---- links

link_is : (l : Link) (mark : Mark) (page fill : ℕ) → l.mark ≡ mark → l.page ≡ page → l.fill ≡ fill
    → ◌≡◌ {A = Link} l record { mark = mark; page = page; fill = fill }
link_is l mark page fill m p f = λ i. record { mark = m i; page = p i; fill = f i }

pub same_link_true : (a b : Link) → same_link a b ≡ true → a ≡ b
same_link_true a b e =
    let (mp, f) = and_parts (mark_code a.mark == mark_code b.mark && a.page == b.page) (a.fill == b.fill) e in
    let (m, p) = and_parts (mark_code a.mark == mark_code b.mark) (a.page == b.page) mp in
    link_is a b.mark b.page b.fill (mark_of a.mark b.mark (eqb-true (mark_code a.mark) (mark_code b.mark) m))
    (eqb-true a.page b.page p) (eqb-true a.fill b.fill f)

same_link_refl : (a : Link) → same_link a a ≡ true
same_link_refl a =
    and_from (mark_code a.mark == mark_code a.mark && a.page == a.page) (a.fill == a.fill)
    (and_from (mark_code a.mark == mark_code a.mark) (a.page == a.page)
    (eq-eqb (mark_code a.mark) (mark_code a.mark) refl) (eq-eqb a.page a.page refl))
    (eq-eqb a.fill a.fill refl)

pub same_link_from : (a b : Link) → a ≡ b → same_link a b ≡ true
same_link_from a b e = ap (same_link a) (sym e) ∙ same_link_refl a

pub same_link_false : (a b : Link) → same_link a b ≡ false → a ≢ b
same_link_false a b differ e = both_ways (same_link a b) differ (same_link_from a b e)

-- ---- the tail

pub tail_holds_true : (c : Core) → tail_holds c ≡ true → tail_of c.history ≢ []
tail_holds_true c e none = let some = ltb-true 0 (length (tail_of c.history)) e in
    let z = ap (λ (l : List Reservation). length l) none in
    omega arith

is_none : (records : List Reservation) → nat_lt 0 (length records) ≡ false → records ≡ []
is_none [] e = refl
is_none (r ∷ records) e = let le = ltb-false 0 (length (r ∷ records)) e in absurd (omega arith)

pub tail_holds_false : (c : Core) → tail_holds c ≡ false → tail_of c.history ≡ []
tail_holds_false c e = is_none (tail_of c.history) e

-- ---- the steps of a frame

module _ (n size : ℕ) (c : Core) (frame : Frame) (below : List Frame) where
  needs_page_sound : NeedsPage size c frame.kind → Sound (ReserveStep n size c frame below) (note_fill n c frame below)
  needs_page_sound needs = let P = ReserveStep n size c frame below in by_if P (c.opened == c.done + n) _ _
      (λ full. is_crowded needs (eqb-true c.opened (c.done + n) full) refl refl)
      (λ room. by_if P (nat_le LINK_FILLS (c.opened + n)) _ _
      (λ last. is_worn needs (eqb-false c.opened (c.done + n) room) (leb-true LINK_FILLS (c.opened + n) last) refl refl)
      (λ small.
      notes needs (eqb-false c.opened (c.done + n) room) (leb-false LINK_FILLS (c.opened + n) small) refl refl))

  reserve_sound : (kind : Purpose) → frame.kind ≡ kind
      → Sound (ReserveStep n size c frame below) (reserve n size c frame below kind)
  reserve_sound (for_record moment len) e =
      let r = new_reservation c moment len in
      by_if (ReserveStep n size c frame below) (fits_in_tail size c r) _ _
      (λ fits. reserves moment len r e refl (leb-true (fill_len (tail_of c.history ++ r ∷ [])) size fits) refl refl)
      (λ lacks.
      needs_page_sound (subst (NeedsPage size c) (sym e)
      (λ fits. let more = leb-false (fill_len (tail_of c.history ++ r ∷ [])) size lacks in
      omega arith)))
  reserve_sound for_close e = by_if (ReserveStep n size c frame below) (tail_holds c) _ _
      (λ holds. needs_page_sound (subst (NeedsPage size c) (sym e) (tail_holds_true c holds)))
      (λ none. finds_nothing e (tail_holds_false c none) refl refl)

  -- what a frame does once its fill is begun, in this state
  begun_by : (P : Answer → Core → Type 0) (d : Core)
      → P (begin_answer frame.kind frame.state below) (after_begin frame.kind frame.state d frame below)
      → Sound P (begins_again frame.kind frame.state d frame below)
  begun_by P d holds = subst (Sound P) (sym (begins_as frame.kind frame.state d frame below)) holds

  begun_sound : (P : Answer → Core → Type 0) (noted : ℕ) (o : Outcome) → (noted ≡ c.opened → Sound P o)
      → ((answer : Answer) (after : Core) → BeginsAgain c frame below noted answer after → P answer after)
      → Sound P (unless_begun noted c frame below o)
  begun_sound P noted o now late = by_if P (noted == c.opened) _ _ (λ e. now (eqb-true noted c.opened e))
      (λ e.
      begun_by P c
      (late (begin_answer frame.kind frame.state below) (after_begin frame.kind frame.state c frame below)
      record { passed = eqb-false noted c.opened e; answer_is = refl; after_is = refl }))

  passed_sound : (P : Answer → Core → Type 0) (role : Role) (noted : ℕ) (o : Outcome)
      → (MayContinue role noted c.opened → Sound P o)
      → (role ≡ helper → (answer : Answer) (after : Core) → BeginsAgain c frame below noted answer after
      → P answer after)
      → Sound P (unless_late role noted c frame below o)
  passed_sound P owner noted o on late = on tt
  passed_sound P helper noted o on late = begun_sound P noted o on (late refl)

  sees_link_sound : (noted : ℕ) (mark : Mark) (page fill : ℕ) → noted ≡ c.opened
      → link_into n c.links noted ≡ record { mark = mark; page = page; fill = fill }
      → Sound (LoadLinkStep n c frame below noted) (sees_link n c frame below noted mark page fill)
  sees_link_sound noted normal page fill now at = by_only (LoadLinkStep n c frame below noted) (fill == noted) _
      (λ e. sees_free page now (at ∙ ap (normal_link page) (eqb-true fill noted e)) refl refl)
  sees_link_sound noted header page fill now at = by_only (LoadLinkStep n c frame below noted) (fill + n == noted) _
      (λ e. sees_header page fill now (eqb-true (fill + n) noted e) at refl refl)
  sees_link_sound noted update page fill now at = by_only (LoadLinkStep n c frame below noted) (fill + n == noted) _
      (λ e. sees_update page fill now (eqb-true (fill + n) noted e) at refl refl)

  load_link_sound : (noted : ℕ) → Sound (LoadLinkStep n c frame below noted) (load_link n c frame below noted)
  load_link_sound noted = let l = link_into n c.links noted in begun_sound (LoadLinkStep n c frame below noted) noted _
      (λ now. sees_link_sound noted l.mark l.page l.fill now refl)
      (λ answer after late. load_link_late late)

  claim_head_sound : (noted page : ℕ)
      → Sound (ClaimHeadStep n c frame below noted page) (claim_head n c frame below noted page)
  claim_head_sound noted page =
      let P = ClaimHeadStep n c frame below noted page in
      let l = link_into n c.links noted in
      let own = header_link page (noted - n) in
      begun_sound P noted _
      (λ now. by_if P (nat_le n noted && same_link l own) _ _
      (λ e. let (turn, at) = and_parts (nat_le n noted) (same_link l own) e in let le = leb-true n noted turn in
      claims (noted - n) now (omega arith) (same_link_true l own at) refl refl)
      (λ e. claim_fails now
      (λ lost sum is. both_ways (nat_le n noted && same_link l own) e
      (and_from (nat_le n noted) (same_link l own) (le-leb n noted (omega arith))
      (same_link_from l own (is ∙ ap (header_link page) (let s : lost ≡ noted - n = omega arith in s)))))
      refl refl))
      (λ answer after late. claim_late late)

  load_next_sound : (role : Role) (noted page : ℕ)
      → Sound (LoadNextStep n c frame below role noted page) (load_next n c frame below role noted page)
  load_next_sound role noted page =
      let P = LoadNextStep n c frame below role noted page in
      let l = link_into n c.links (suc (noted - n)) in
      let owing = normal_link l.page (suc (noted - n)) in
      passed_sound P role noted _
      (λ on. by_only P (nat_le n noted) _
      (λ turn. let le = leb-true n noted turn in by_if P (same_link l owing) _ _
      (λ at. sees_normal (noted - n) l.page on (omega arith) (same_link_true l owing at) refl refl)
      (λ at. sees_other (noted - n) on (omega arith)
      (λ next is.
      same_link_false l owing at
      (is ∙ ap (λ (p : ℕ). normal_link p (suc (noted - n))) (ap (λ (k : Link). k.page) (sym is))))
      refl refl)))
      (λ helps answer after late. load_next_late helps late)

  mark_head_sound : (role : Role) (noted page next : ℕ)
      → Sound (MarkHeadStep n c frame below role noted page next) (mark_head n c frame below role noted page next)
  mark_head_sound role noted page next =
      let P = MarkHeadStep n c frame below role noted page next in
      let l = link_into n c.links (suc (noted - n)) in
      let owing = normal_link next (suc (noted - n)) in
      passed_sound P role noted _
      (λ on. by_only P (nat_le n noted) _
      (λ turn. let le = leb-true n noted turn in by_if P (same_link l owing) _ _
      (λ at. marks (noted - n) on (omega arith) (same_link_true l owing at) refl refl)
      (λ at. mark_fails (noted - n) on (omega arith) (same_link_false l owing at) refl refl)))
      (λ helps answer after late. mark_late helps late)

  clear_update_sound : (noted page : ℕ)
      → Sound (ClearUpdateStep n c frame below noted page) (clear_update n c frame below noted page)
  clear_update_sound noted page =
      let l = link_into n c.links noted in
      let own = update_link page (noted - n) in
      by_only (ClearUpdateStep n c frame below noted page) (nat_le n noted && same_link l own) _
      (λ e. let (turn, at) = and_parts (nat_le n noted) (same_link l own) e in let le = leb-true n noted turn in
      clears (noted - n) (omega arith) (same_link_true l own at) refl refl)

  open_fill_sound : (noted page : ℕ)
      → Sound (OpenFillStep n c frame below noted page) (open_fill c frame below noted page)
  open_fill_sound noted page = begun_sound (OpenFillStep n c frame below noted page) noted _
      (λ now. begun_by (OpenFillStep n c frame below noted page) (with_new_tail c page) (opens now refl refl))
      (λ answer after late. open_late late)

release_fill_sound : (c : Core) (frame : Frame) (below : List Frame)
    → Sound (ReleaseFillStep c frame below) (release_fill c frame below)
release_fill_sound c frame [] = by_if (ReleaseFillStep c frame []) (c.done + 2 == c.opened) _ _
    (λ last. releases_last refl (eqb-true (c.done + 2) c.opened last) refl refl)
    (λ e.
    by_only (ReleaseFillStep c frame []) (nat_lt (c.done + 2) c.opened) _
    (λ more. releases refl (ltb-true (c.done + 2) c.opened more) refl refl))
release_fill_sound c frame (next ∷ below) = tt

pub granted_true : (n : ℕ) (c : Core) → is_granted n c ≡ true → IsGranted n c
granted_true n c e =
    let (asked, numbers) = and_parts (c.wish == c.opened && tail_holds c) (nat_lt (c.opened + n) LINK_FILLS) e in
    let (asks, holds) = and_parts (c.wish == c.opened) (tail_holds c) asked in
    record {
      asks_tail = eqb-true c.wish c.opened asks;
      holds_record = tail_holds_true c holds;
      numbers_left = ltb-true (c.opened + n) LINK_FILLS numbers;
    }

pub holds_some : (records : List Reservation) → records ≢ [] → nat_lt 0 (length records) ≡ true
holds_some [] some = absurd (some refl)
holds_some (r ∷ records) some = lt-ltb 0 (length (r ∷ records)) (omega arith)

pub granted_from : (n : ℕ) (c : Core) → IsGranted n c → is_granted n c ≡ true
granted_from n c g =
    and_from (c.wish == c.opened && tail_holds c) (nat_lt (c.opened + n) LINK_FILLS)
    (and_from (c.wish == c.opened) (tail_holds c) (eq-eqb c.wish c.opened g.asks_tail)
    (holds_some (tail_of c.history) g.holds_record))
    (lt-ltb (c.opened + n) LINK_FILLS g.numbers_left)

load_wish_sound : (n : ℕ) (c : Core) (frame : Frame) (below : List Frame)
    → Sound (LoadWishStep n c frame below) (load_wish n c frame below)
load_wish_sound n c frame [] = let P = LoadWishStep n c frame [] in by_if P (is_granted n c) _ _
    (λ e. grants refl (granted_true n c e) refl refl)
    (λ e. let denied = (λ (g : IsGranted n c). both_ways (is_granted n c) e (granted_from n c g)) in
    by_if P (c.done + 1 == c.opened) _ _
    (λ last. goes_away refl denied (eqb-true (c.done + 1) c.opened last) refl refl)
    (λ some.
    by_only P (nat_lt (c.done + 1) c.opened) _
    (λ more. closes_more refl denied (ltb-true (c.done + 1) c.opened more) refl refl)))
load_wish_sound n c frame (next ∷ below) = tt

idle_sound : (n size : ℕ) (c : Core) (frame : Frame) (below : List Frame) (state : Progress)
    → Sound (IdleStep n size c frame below state) (idle_step n size c frame below state)
idle_sound n size c frame below waiting = reserve_sound n size c frame below frame.kind refl
idle_sound n size c frame below (reserved number) = (refl, refl)
idle_sound n size c frame below left = tt

pub frame_sound : (n size : ℕ) (c : Core) (frame : Frame) (below : List Frame) (phase : Phase)
    → Sound (FrameStep n size c frame below phase) (frame_step_of n size c frame below phase)
frame_sound n size c frame below idle = idle_sound n size c frame below frame.state
frame_sound n size c frame below (looking noted) = load_link_sound n size c frame below noted
frame_sound n size c frame below (claiming noted page) = claim_head_sound n size c frame below noted page
frame_sound n size c frame below (looking_next role noted page) = load_next_sound n size c frame below role noted page
frame_sound n size c frame below (marking role noted page next) =
    mark_head_sound n size c frame below role noted page next
frame_sound n size c frame below (clearing noted page) = clear_update_sound n size c frame below noted page
frame_sound n size c frame below (opening noted page) = open_fill_sound n size c frame below noted page
frame_sound n size c frame below releasing = release_fill_sound c frame below
frame_sound n size c frame below wishing = load_wish_sound n c frame below

-- ---- the steps of the reader

reads_link_sound : (n : ℕ) (c : Core) (mark : Mark) (page fill : ℕ)
    → link_into n c.links c.reader.hint ≡ record { mark = mark; page = page; fill = fill }
    → Sound (LoadHeadStep n c) (reads_link n c mark page fill)
reads_link_sound n c header page fill at = loads_header page fill at refl refl
reads_link_sound n c update page fill at = loads_update page fill at refl refl
reads_link_sound n c normal page fill at = by_if (LoadHeadStep n c) (fill == c.reader.hint) _ _
    (λ e. loads_owed page (at ∙ ap (normal_link page) (eqb-true fill c.reader.hint e)) refl refl)
    (λ e. by_only (LoadHeadStep n c) (nat_lt c.reader.hint fill && nat_le n (suc fill)) _
    (λ both. let (more, turn) = and_parts (nat_lt c.reader.hint fill) (nat_le n (suc fill)) both in
    let le = leb-true n (suc fill) turn in
    loads_passed page fill (suc fill - n) at (ltb-true c.reader.hint fill more) (omega arith) refl refl))

pub read_sound : (n : ℕ) (c : Core) (phase : ReaderPhase) → Sound (ReadStep n c phase) (read_step_of n c phase)
read_sound n c loading_head = let l = link_into n c.links c.reader.hint in
    reads_link_sound n c l.mark l.page l.fill refl
read_sound n c (loading_done page fill) = by_if (LoadDoneStep c page fill) (nat_le c.done fill) _ _
    (λ e. finds_none (leb-true c.done fill e) refl refl)
    (λ e. finds_closed (leb-false c.done fill e) refl refl)
read_sound n c (storing_spare_link page fill) = record { answer_is = refl; after_is = refl }
read_sound n c (swapping page fill) =
    by_if (SwapHeadStep n c page fill) (same_link (link_into n c.links fill) (header_link page fill)) _ _
    (λ e. swaps (same_link_true (link_into n c.links fill) (header_link page fill) e) refl refl)
    (λ e. swap_fails (same_link_false (link_into n c.links fill) (header_link page fill) e) refl refl)

-- ---- the whole

pub too_long_true : (size len : ℕ) → is_too_long size len ≡ true → IsTooLong size len
too_long_true size len e = by_len (nat_lt size len) refl e
  where
    by_len : (b : Bool) → nat_lt size len ≡ b → (b || nat_lt size (encoded_len len 0 true)) ≡ true → IsTooLong size len
    by_len true is t = inl (ltb-true size len is)
    by_len false is t = inr (ltb-true size (encoded_len len 0 true) t)

too_long_false : (size len : ℕ) → is_too_long size len ≡ false → IsTooLong size len → ⊥
too_long_false size len e long =
    let (short, fits) = or_parts (nat_lt size len) (nat_lt size (encoded_len len 0 true)) e in
    let room = ltb-false size len short in
    let less = ltb-false size (encoded_len len 0 true) fits in
    ⊎_elim (λ a. let x = a in omega arith) (λ b. let x = b in omega arith) long

push_sound : (n size : ℕ) (c : Core) (moment len : ℕ)
    → Sound (StepCases n size c (pushes moment len)) (push_record size c moment len)
push_sound n size c moment len = let P = StepCases n size c (pushes moment len) in by_if P (is_full c) _ _
    (λ many. push_refused moment len too_deep refl (all_stand (leb-true MAX_FRAMES (length c.frames) many)) refl refl)
    (λ room. let few = leb-false MAX_FRAMES (length c.frames) room in by_if P (is_too_long size len) _ _
    (λ long. push_refused moment len too_long refl (has_no_room few (too_long_true size len long)) refl refl)
    (λ short. by_if P (nat_le MOMENT_LIMIT moment) _ _
    (λ late.
    push_refused moment len late_moment refl
    (comes_late few (too_long_false size len short) (leb-true MOMENT_LIMIT moment late)) refl refl)
    (λ early.
    push_step moment len refl few (too_long_false size len short) (leb-false MOMENT_LIMIT moment early) refl refl)))

push_close_sound : (n size : ℕ) (c : Core) → Sound (StepCases n size c pushes_close) (push_close_frame c)
push_close_sound n size c = by_if (StepCases n size c pushes_close) (is_full c) _ _
    (λ many. close_refused refl (leb-true MAX_FRAMES (length c.frames) many) refl refl)
    (λ room. close_step refl (leb-false MAX_FRAMES (length c.frames) room) refl refl)

top_sound : (n size : ℕ) (c : Core) (frames : List Frame) → c.frames ≡ frames
    → Sound (StepCases n size c steps) (top_step_of n size c frames)
top_sound n size c [] none = frame_lacks refl none refl refl
top_sound n size c (frame ∷ below) top =
    sound_as (FrameStep n size c frame below frame.phase) (StepCases n size c steps)
    (frame_step_of n size c frame below frame.phase)
    (λ answer after step. frame_step frame below refl top step) (frame_sound n size c frame below frame.phase)

module _ (n size : ℕ) (c : Core) (payload : List ℕ) where
  end_reserved_sound : (frame : Frame) (below : List Frame) (number : ℕ) (kind : Purpose) → c.frames ≡ frame ∷ below
      → frame.state ≡ reserved number → frame.kind ≡ kind
      → Sound (StepCases n size c (ends payload)) (end_frame c payload frame below kind (Some number))
  end_reserved_sound frame below number (for_record moment len) top at is =
      by_only (StepCases n size c (ends payload)) (slot_len (length payload) == slot_len len) _
      (λ e.
      end_step payload frame below number moment len refl top at is
      (eqb-true (slot_len (length payload)) (slot_len len) e) refl refl)
  end_reserved_sound frame below number for_close top at is = tt

  end_frame_sound : (frame : Frame) (below : List Frame) (state : Progress) → c.frames ≡ frame ∷ below
      → frame.state ≡ state
      → Sound (StepCases n size c (ends payload)) (end_frame c payload frame below frame.kind (number_of state))
  end_frame_sound frame below waiting top at = end_early payload frame below refl top (ap number_of at) refl refl
  end_frame_sound frame below (reserved number) top at = end_reserved_sound frame below number frame.kind top at refl
  end_frame_sound frame below left top at = end_early payload frame below refl top (ap number_of at) refl refl

  end_sound : (frames : List Frame) → c.frames ≡ frames
      → Sound (StepCases n size c (ends payload)) (end_top c payload frames)
  end_sound [] none = end_lacks payload refl none refl refl
  end_sound (frame ∷ below) top = end_frame_sound frame below frame.state top refl

pub step_sound : (n size : ℕ) (c : Core) (event : Event) → Sound (StepCases n size c event) (step_of n size c event)
step_sound n size c (pushes moment len) = push_sound n size c moment len
step_sound n size c pushes_close = push_close_sound n size c
step_sound n size c steps = top_sound n size c c.frames refl
step_sound n size c (ends payload) = end_sound n size c payload c.frames refl
step_sound n size c reads =
    sound_as (ReadStep n c c.reader.phase) (StepCases n size c reads) (read_step_of n c c.reader.phase)
    (λ answer after step. read_step refl step) (read_sound n c c.reader.phase)
step_sound n size c wishes = store_wish_step refl refl refl

-- A step is one of the cases.
pub cases_of : {n size : ℕ} {c : Core} {event : Event} {answer : Answer} {after : Core}
    → Step n size c event answer after → StepCases n size c event answer after
cases_of {n} {size} {c} {event} {answer} {after} s =
    subst (Sound (StepCases n size c event)) s.is (step_sound n size c event)
