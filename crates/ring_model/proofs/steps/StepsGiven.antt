-- The function that computes a step gives one from every state that has what steps keep.
use Rattle.std.proofs.Common.{◌≡◌, ◌≢◌, ℕ, suc, ◌+◌, ◌-◌, ◌%◌, ◌<◌, ◌≤◌, Bool, true, false, if◌then◌else◌, ◌&&◌, ◌==◌}
use Rattle.std.proofs.Common.{nat_lt, nat_le, List, [], ◌∷◌, length, get_or, Some, None, refl, sym, ap, ◌∙◌, subst}
use Rattle.std.proofs.Common.{mod-lt, mod-eq_of_lt, arith}
use Rattle.std.proofs.lemmas.Bool.{ltb-false, leb-false, le-leb, lt-ltb, eqb-true, eqb-false, both_ways, and_from}
use mathlib.Core.Logic.{dite}
use native.Mathlib.Decide.{ℕ_discrete, dec_lt}
use Rattle.trace_model.specs.declared.limits.TheConstants.{MOMENT_LIMIT, LINK_FILLS}
use Rattle.trace_model.specs.Words.{slot_len}
use Rattle.trace_model.specs.Links.{Mark, normal, header, update, normal_link, header_link, update_link}
use Rattle.trace_model.specs.Frames.{Purpose, for_record, for_close, Progress, waiting, reserved, left, number_of, Role}
use Rattle.trace_model.specs.Frames.{owner, helper, Phase, idle, looking, claiming, looking_next, marking, clearing}
use Rattle.trace_model.specs.Frames.{opening, releasing, wishing, Frame}
use Rattle.trace_model.specs.Ring.{ReaderPhase, loading_head, loading_done, storing_spare_link, swapping, Core}
use Rattle.trace_model.specs.Ring.{link_into}
use Rattle.trace_model.specs.Links.{same_link}
use Rattle.trace_model.specs.Events.{Event, pushes, pushes_close, steps, ends, reads, wishes, Answer, Outcome, only_if}
use Rattle.trace_model.specs.WriterSteps.{begins_again, with_new_tail, unless_begun, new_reservation, tail_holds}
use Rattle.trace_model.specs.WriterSteps.{push_record, push_close_frame, note_fill, reserve, sees_link, load_link}
use Rattle.trace_model.specs.WriterSteps.{open_fill, idle_step, end_frame, end_top, release_fill, is_granted, load_wish}
use Rattle.trace_model.specs.HeadMove.{claim_head, unless_late, load_next, mark_head, clear_update}
use Rattle.trace_model.specs.ReaderSteps.{reads_link}
use Rattle.trace_model.specs.Steps.{frame_step_of, top_step_of, read_step_of, step_of, Step}
use Rattle.trace_model.proofs.steps.StepSound.{same_link_from}
use Rattle.ring_model.specs.KeptLinks.{PhaseKept, LinksKept}
use Rattle.ring_model.specs.KeptStack.{IsForRecord, MayBeIn, StackKept}
use Rattle.ring_model.specs.KeptProgress.{PhaseAdvances, FramesAdvance, ProgressKept}
use Rattle.ring_model.specs.RingLaws.{MayAsk, EachEventIsAStep}
use Rattle.trace_model.proofs.Positions.{at_position, link_round}
use Rattle.ring_model.proofs.links.LinkFills.{normal_reports, header_reports, update_reports, owned_by}
use Rattle.ring_model.proofs.links.FrameChanges.{top_kept}
use Rattle.trace_model.proofs.steps.StepWords.{is_full, is_too_long, fits_in_tail, begins_as}
use Rattle.ring_model.proofs.frames.StackSteps.{top_agrees, releasing_left, wishing_left}

abbrev pub Given : Outcome → Type 0
Given None = ⊥
Given (Some o) = Unit {0}

given_if : (b : Bool) (x y : Outcome) → (b ≡ true → Given x) → (b ≡ false → Given y) → Given (if b then x else y)
given_if true x y holds fails = holds refl
given_if false x y holds fails = fails refl

given_only : (b : Bool) (x : Outcome) → (b ≡ false → ⊥) → Given x → Given (only_if b x)
given_only true x holds g = g
given_only false x holds g = holds refl

-- ---- the steps of a frame

module _ (n size : ℕ) (c : Core) (frame : Frame) (below : List Frame) (k : LinksKept n c) (r : ProgressKept n c)
    (top : c.frames ≡ frame ∷ below) where
  needs_page_given : Given (note_fill n c frame below)
  needs_page_given =
      given_if (c.opened == c.done + n) _ _ (λ e. tt)
      (λ e. given_if (nat_le LINK_FILLS (c.opened + n)) _ _ (λ s. tt) (λ s. tt))

  reserve_given : (kind : Purpose) → Given (reserve n size c frame below kind)
  reserve_given (for_record moment len) =
      given_if (fits_in_tail size c (new_reservation c moment len)) _ _ (λ e. tt) (λ e. needs_page_given)
  reserve_given for_close = given_if (tail_holds c) _ _ (λ e. needs_page_given) (λ e. tt)

  again_given : (d : Core) → Given (begins_again frame.kind frame.state d frame below)
  again_given d = subst Given (sym (begins_as frame.kind frame.state d frame below)) tt

  begun_given : (noted : ℕ) (o : Outcome) → (noted ≡ c.opened → Given o) → Given (unless_begun noted c frame below o)
  begun_given noted o now = given_if (noted == c.opened) _ _ (λ e. now (eqb-true noted c.opened e)) (λ e. again_given c)

  passed_given : (role : Role) (noted : ℕ) (o : Outcome) → Given o → Given (unless_late role noted c frame below o)
  passed_given owner noted o given = given
  passed_given helper noted o given = begun_given noted o (λ now. given)

  sees_link_given : (noted : ℕ) (mark : Mark) (page fill : ℕ) → noted ≡ c.opened
      → link_into n c.links noted ≡ record { mark = mark; page = page; fill = fill }
      → Given (sees_link n c frame below noted mark page fill)
  sees_link_given noted normal page fill now at = given_only (fill == noted) _ (λ e. eqb-false fill noted e fill_is) tt
    where
      fill_is : fill ≡ noted
      fill_is = let some_pages = k.some_pages in
          let unread = k.head_le in
          let behind = k.done_lt in
          let within = k.opened_le in
          dite (ℕ_discrete noted (c.head + n))
          (λ e. let here = sym (link_round n c.links c.head) ∙ ap (link_into n c.links) (sym e) ∙ at in
          let reported =
          normal_reports n c.links c.order c.head c.frames c.head page fill
          (k.each c.head (omega arith) (omega arith)) here in
          let more = r.room page (here ∙ ap (normal_link page) reported.0) in absurd (omega arith))
          (λ ne.
          (normal_reports n c.links c.order c.head c.frames noted page fill
          (k.each noted (omega arith) (omega arith)) at).0)
  sees_link_given noted header page fill now at =
      given_only (fill + n == noted) _ (λ e. eqb-false (fill + n) noted e fill_is) tt
    where
      fill_is : fill + n ≡ noted
      fill_is = let some_pages = k.some_pages in
          let unread = k.head_le in
          let behind = k.done_lt in
          let within = k.opened_le in
          dite (ℕ_discrete noted (c.head + n))
          (λ e. let here = sym (link_round n c.links c.head) ∙ ap (link_into n c.links) (sym e) ∙ at in
          let reported =
          header_reports n c.links c.order c.head c.frames c.head page fill
          (k.each c.head (omega arith) (omega arith)) here in
          let it = reported.0 in
          omega arith)
          (λ ne. let reported =
          header_reports n c.links c.order c.head c.frames noted page fill
          (k.each noted (omega arith) (omega arith)) at in
          let it = reported.1 in
          absurd (omega arith))
  sees_link_given noted update page fill now at =
      given_only (fill + n == noted) _ (λ e. eqb-false (fill + n) noted e fill_is) tt
    where
      fill_is : fill + n ≡ noted
      fill_is = let some_pages = k.some_pages in
          let unread = k.head_le in
          let behind = k.done_lt in
          let within = k.opened_le in
          dite (ℕ_discrete noted (c.head + n))
          (λ e. let here = sym (link_round n c.links c.head) ∙ ap (link_into n c.links) (sym e) ∙ at in
          let reported =
          update_reports n c.links c.order c.head c.frames c.head page fill
          (k.each c.head (omega arith) (omega arith)) here in
          let (u, sum, low, open_yet, there) = owned_by n c k c.head reported.2 in absurd (omega arith))
          (λ ne.
          (update_reports n c.links c.order c.head c.frames noted page fill
          (k.each noted (omega arith) (omega arith)) at).0)

  load_link_given : (noted : ℕ) → Given (load_link n c frame below noted)
  load_link_given noted = let l = link_into n c.links noted in
      begun_given noted _ (λ now. sees_link_given noted l.mark l.page l.fill now refl)

  claim_head_given : (noted page : ℕ) → Given (claim_head n c frame below noted page)
  claim_head_given noted page = begun_given noted _
      (λ now.
      given_if (nat_le n noted && same_link (link_into n c.links noted) (header_link page (noted - n))) _ _
      (λ at. tt) (λ at. tt))

  -- there was a fill before it
  turned : (noted : ℕ) → n ≤ noted → nat_le n noted ≡ false → ⊥
  turned noted turn e = let less = leb-false n noted e in omega arith

  load_next_given : (role : Role) (noted page : ℕ) → n ≤ noted → Given (load_next n c frame below role noted page)
  load_next_given role noted page turn = let l = link_into n c.links (suc (noted - n)) in
      passed_given role noted _ (given_only (nat_le n noted) _ (turned noted turn)
      (given_if (same_link l (normal_link l.page (suc (noted - n)))) _ _ (λ at. tt) (λ at. tt)))

  mark_head_given : (role : Role) (noted page next : ℕ) → n ≤ noted
      → Given (mark_head n c frame below role noted page next)
  mark_head_given role noted page next turn =
      passed_given role noted _ (given_only (nat_le n noted) _ (turned noted turn)
      (given_if (same_link (link_into n c.links (suc (noted - n))) (normal_link next (suc (noted - n)))) _ _ (λ at. tt)
      (λ at. tt)))

  -- the UPDATE that the frame owns is still there
  clear_update_given : (noted page : ℕ) → PhaseKept n c.links c.order c.head c.done c.opened (clearing noted page)
      → Given (clear_update n c frame below noted page)
  clear_update_given noted page kept =
      let (lost, sum, low, open_yet, at) = kept.moves noted refl in
      let page_is = (kept.passed noted page refl).2 in
      let l = link_into n c.links noted in
      let own = update_link page (noted - n) in
      let is : l ≡ own =
      at ∙ ap (λ (p : ℕ). update_link p lost) (sym page_is)
      ∙ ap (update_link page) (let s : lost ≡ noted - n = omega arith in s) in
      given_only (nat_le n noted && same_link l own) _
      (λ e.
      both_ways (nat_le n noted && same_link l own) e
      (and_from (nat_le n noted) (same_link l own) (le-leb n noted (omega arith)) (same_link_from l own is))) tt

  open_fill_given : (noted page : ℕ) → Given (open_fill c frame below noted page)
  open_fill_given noted page = begun_given noted _ (λ now. again_given (with_new_tail c page))

  release_fill_given : (fs : List Frame) → fs ≡ [] → c.done + 1 < c.opened → Given (release_fill c frame fs)
  release_fill_given [] alone more = given_if (c.done + 2 == c.opened) _ _ (λ e. tt)
      (λ e.
      given_only (nat_lt (c.done + 2) c.opened) _
      (λ s. let less = ltb-false (c.done + 2) c.opened s in
      let ne = eqb-false (c.done + 2) c.opened e in
      ne (omega arith)) tt)
  release_fill_given (next ∷ fs) alone more = let z = ap (λ (l : List Frame). length l) alone in absurd (omega arith)

  load_wish_given : (fs : List Frame) → fs ≡ [] → Given (load_wish n c frame fs)
  load_wish_given [] alone = let behind = k.done_lt in
      given_if (is_granted n c) _ _ (λ e. tt) (λ e. given_if (c.done + 1 == c.opened) _ _ (λ last. tt)
      (λ some.
      given_only (nat_lt (c.done + 1) c.opened) _
      (λ none. let less = ltb-false (c.done + 1) c.opened none in
      let ne = eqb-false (c.done + 1) c.opened some in
      ne (omega arith)) tt))
  load_wish_given (next ∷ fs) alone = let z = ap (λ (l : List Frame). length l) alone in absurd (omega arith)

  -- a frame that rests hasn't left
  idle_given : (state : Progress) → MayBeIn frame.kind state idle → Given (idle_step n size c frame below state)
  idle_given waiting may = reserve_given frame.kind
  idle_given (reserved number) may = tt
  idle_given left may = may refl

  frame_given : (phase : Phase) → PhaseKept n c.links c.order c.head c.done c.opened phase
      → PhaseAdvances n c.links c.head phase → MayBeIn frame.kind frame.state phase → (frame.state ≡ left → below ≡ [])
      → Given (frame_step_of n size c frame below phase)
  frame_given idle kept advances may alone = idle_given frame.state may
  frame_given (looking noted) kept advances may alone = load_link_given noted
  frame_given (claiming noted page) kept advances may alone = claim_head_given noted page
  frame_given (looking_next role noted page) kept advances may alone = load_next_given role noted page advances
  frame_given (marking role noted page next) kept advances may alone = mark_head_given role noted page next advances
  frame_given (clearing noted page) kept advances may alone = clear_update_given noted page kept
  frame_given (opening noted page) kept advances may alone = open_fill_given noted page
  frame_given releasing kept advances may alone =
      release_fill_given below (alone (releasing_left frame.kind frame.state releasing refl may)) (kept.releases refl)
  frame_given wishing kept advances may alone =
      load_wish_given below (alone (wishing_left frame.kind frame.state wishing refl may))

-- ---- the steps of the reader

module _ (n : ℕ) (c : Core) (k : LinksKept n c) where
  reads_link_given : (mark : Mark) (page fill : ℕ)
      → link_into n c.links c.reader.hint ≡ record { mark = mark; page = page; fill = fill }
      → Given (reads_link n c mark page fill)
  reads_link_given header page fill at = tt
  reads_link_given update page fill at = tt
  reads_link_given normal page fill at = let (low, turn) = behind in
      given_if (fill == c.reader.hint) _ _ (λ e. tt)
      (λ e. let ne = eqb-false fill c.reader.hint e in given_only (nat_lt c.reader.hint fill && nat_le n (suc fill)) _
      (λ s. both_ways (nat_lt c.reader.hint fill && nat_le n (suc fill)) s
      (and_from (nat_lt c.reader.hint fill) (nat_le n (suc fill)) (lt-ltb c.reader.hint fill (over ne low))
      (le-leb n (suc fill) (whole ne turn)))) tt)
    where
      -- the fill is the hint, or a whole turn after it
      behind : (c.reader.hint ≤ fill) × (fill < n → fill ≡ c.reader.hint)
      behind = let some_pages = k.some_pages in let hint = k.hint_le in
          let (g, low, high, position) =
          at_position c.head n (c.reader.hint % n) (mod-lt c.reader.hint (omega arith)) in
          let there = ap (λ (i : ℕ). get_or c.links i (normal_link 0 0)) position ∙ at in
          let reported = (normal_reports n c.links c.order c.head c.frames g page fill (k.each g low high) there).0 in (
            omega arith,
            λ first.
                reported ∙ sym (mod-eq_of_lt (let x : g < n = omega arith in x)) ∙ position
                ∙ mod-eq_of_lt (let x : c.reader.hint < n = omega arith in x),
          )

      over : fill ≢ c.reader.hint → c.reader.hint ≤ fill → c.reader.hint < fill
      over ne low = dite (dec_lt c.reader.hint fill) (λ more. more) (λ none. absurd (ne (omega arith)))

      whole : fill ≢ c.reader.hint → (fill < n → fill ≡ c.reader.hint) → n ≤ suc fill
      whole ne turn = dite (dec_lt fill n) (λ less. absurd (ne (turn less))) (λ more. omega arith)

  read_given : (phase : ReaderPhase) → Given (read_step_of n c phase)
  read_given loading_head = let l = link_into n c.links c.reader.hint in reads_link_given l.mark l.page l.fill refl
  read_given (loading_done page fill) = given_if (nat_le c.done fill) _ _ (λ e. tt) (λ e. tt)
  read_given (storing_spare_link page fill) = tt
  read_given (swapping page fill) =
      given_if (same_link (link_into n c.links fill) (header_link page fill)) _ _ (λ e. tt) (λ e. tt)

-- ---- the whole

push_given : (size : ℕ) (c : Core) (moment len : ℕ) → Given (push_record size c moment len)
push_given size c moment len = given_if (is_full c) _ _ (λ many. tt)
    (λ few.
    given_if (is_too_long size len) _ _ (λ long. tt)
    (λ short. given_if (nat_le MOMENT_LIMIT moment) _ _ (λ late. tt) (λ early. tt)))

push_close_given : (c : Core) → Given (push_close_frame c)
push_close_given c = given_if (is_full c) _ _ (λ many. tt) (λ few. tt)

steps_given : (n size : ℕ) (c : Core) (frames : List Frame) → LinksKept n c → StackKept c → ProgressKept n c
    → c.frames ≡ frames → Given (top_step_of n size c frames)
steps_given n size c [] k q r none = tt
steps_given n size c (frame ∷ below) k q r top = let agree = top_agrees c frame below top q in
    frame_given n size c frame below k r top frame.phase (top_kept n c frame below k top)
    (subst (FramesAdvance n c.links c.head) top r.advance).0 agree.0 agree.1

end_frame_given : (c : Core) (frame : Frame) (below : List Frame) (payload : List ℕ) (number : ℕ) (kind : Purpose)
    → IsForRecord kind → ((moment len : ℕ) → kind ≡ for_record moment len → slot_len (length payload) ≡ slot_len len)
    → Given (end_frame c payload frame below kind (Some number))
end_frame_given c frame below payload number (for_record moment len) is fits =
    given_only (slot_len (length payload) == slot_len len) _
    (λ e. eqb-false (slot_len (length payload)) (slot_len len) e (fits moment len refl)) tt
end_frame_given c frame below payload number for_close is fits = absurd is

end_in_given : (c : Core) (frame : Frame) (below : List Frame) (payload : List ℕ) (state : Progress)
    → MayBeIn frame.kind state frame.phase → frame.state ≡ state
    → ((number moment len : ℕ) → frame.state ≡ reserved number → frame.kind ≡ for_record moment len
    → slot_len (length payload) ≡ slot_len len)
    → Given (end_frame c payload frame below frame.kind (number_of state))
end_in_given c frame below payload waiting may at fits = tt
end_in_given c frame below payload (reserved number) may at fits =
    end_frame_given c frame below payload number frame.kind may.0 (λ moment len kind. fits number moment len at kind)
end_in_given c frame below payload left may at fits = tt

end_given : (c : Core) (payload : List ℕ) (frames : List Frame) → StackKept c → c.frames ≡ frames
    → MayAsk c (ends payload) → Given (end_top c payload frames)
end_given c payload [] q none ask = tt
end_given c payload (frame ∷ below) q top ask =
    end_in_given c frame below payload frame.state (top_agrees c frame below top q).0 refl
    (λ number moment len at kind. ask frame below number moment len top at kind)

step_given : (n size : ℕ) (c : Core) (event : Event) → LinksKept n c → StackKept c → ProgressKept n c → MayAsk c event
    → Given (step_of n size c event)
step_given n size c (pushes moment len) k q r ask = push_given size c moment len
step_given n size c pushes_close k q r ask = push_close_given c
step_given n size c steps k q r ask = steps_given n size c c.frames k q r refl
step_given n size c (ends payload) k q r ask = end_given c payload c.frames q refl ask
step_given n size c reads k q r ask = read_given n c k c.reader.phase
step_given n size c wishes k q r ask = tt

is_step : (n size : ℕ) (c : Core) (event : Event) (o : Outcome) → step_of n size c event ≡ o → Given o
    → (answer : Answer) × (after : Core) × Step n size c event answer after
is_step n size c event None is given = absurd given
is_step n size c event (Some o) is given = (o.0, o.1, record { is = is })

pub each_event_is_a_step : EachEventIsAStep
each_event_is_a_step n size start c event r ask =
    is_step n size c event (step_of n size c event) refl (step_given n size c event r.links r.stack r.progress ask)
