-- Each step keeps what was done packed in pages: a frame that noted the fill to open still needs it when it
-- opens it.
use Rattle.std.proofs.Common.{◌≡◌, ◌≢◌, ℕ, ◌+◌, ◌<◌, ◌≤◌, Bool, true, List, [], ◌∷◌, ◌++◌, length, map, Option, Some}
use Rattle.std.proofs.Common.{None, refl, sym, ap, ◌∙◌, subst, inr, arith}
use Rattle.std.specs.Prelude.{◌==◌}
use Rattle.std.proofs.lemmas.Bool.{cond_both}
use Rattle.std.proofs.lemmas.Option.{same_Some}
use mathlib.Core.Logic.{dite}
use native.Mathlib.Decide.{dec_le}
use Rattle.trace_model.specs.Words.{encoded_len}
use Rattle.trace_model.specs.History.{HistoryEvent, push, push_close, open_fill, reserve, leave, wished, Reservation}
use Rattle.trace_model.specs.History.{PushedFrame, writer_after, reserved_records, reservation_for}
use Rattle.trace_model.specs.Packing.{opens_of, FitsBehind, is_wished}
use Rattle.trace_model.specs.Fitting.{tail_at, IsFit, FitsPage, NeedsFill}
use Rattle.trace_model.specs.Frames.{Purpose, for_record, for_close, Progress, waiting, reserved, left, Role, owner}
use Rattle.trace_model.specs.Frames.{helper, Phase, idle, looking, claiming, looking_next, marking, clearing, opening}
use Rattle.trace_model.specs.Frames.{releasing, wishing, Frame, pushed_onto, pushed_frames, noted_fill}
use Rattle.trace_model.specs.Ring.{ReaderPhase, loading_head, loading_done, storing_spare_link, swapping, Core, IsStart}
use Rattle.trace_model.specs.Steps.{Event, Answer, IsTooLong, NeedsPage, closing_phase, in_phase, after_leave}
use Rattle.trace_model.specs.Steps.{after_next, frames_after_leave, own_number, with_new_tail, after_begin}
use Rattle.trace_model.proofs.steps.StepCases.{StepCases, BeginsAgain, IdleStep, ReserveStep, reserves, finds_nothing}
use Rattle.trace_model.proofs.steps.StepCases.{is_crowded, is_worn, notes, load_link_late, sees_free, sees_header}
use Rattle.trace_model.proofs.steps.StepCases.{sees_update, claim_late, claims, claim_fails, load_next_late}
use Rattle.trace_model.proofs.steps.StepCases.{sees_normal, sees_other, mark_late, marks, mark_fails, clears}
use Rattle.trace_model.proofs.steps.StepCases.{OpenFillStep, open_late, opens, releases, releases_last, grants}
use Rattle.trace_model.proofs.steps.StepCases.{closes_more, goes_away, FrameStep, push_step, push_refused, close_step}
use Rattle.trace_model.proofs.steps.StepCases.{close_refused, frame_step, frame_lacks, end_step, end_lacks, end_early}
use Rattle.trace_model.proofs.steps.StepCases.{read_step, store_wish_step, loads_header, loads_update, loads_owed}
use Rattle.trace_model.proofs.steps.StepCases.{loads_passed, finds_none, finds_closed, swaps, swap_fails, ReadStep}
use Rattle.trace_model.proofs.histories.NextEvent.{opened_stack}
use Rattle.trace_model.proofs.histories.NextRecords.{records_snoc, records_reserved, records_left_by}
use Rattle.trace_model.proofs.packing.FillCuts.{opens_of-push, opens_of-push_close, opens_of-reserve, opens_of-leave}
use Rattle.trace_model.proofs.packing.FillCuts.{opens_of-wished, opens_of-open_fill}
use Rattle.trace_model.proofs.packing.PackedHistories.{plain, plain-finished, tail_is, wanted_record, is_wished-push}
use Rattle.trace_model.proofs.packing.PackedHistories.{is_wished-push_close, is_wished-reserve, is_wished-leave}
use Rattle.trace_model.proofs.packing.PackedHistories.{is_wished-wished, room_none, refilled, room_reserved}
use Rattle.trace_model.proofs.packing.PackedHistories.{room_opened, fit_none, fit_more, needs_alike, needs_reserved}
use Rattle.trace_model.proofs.packing.PackedHistories.{fit_open}
use Rattle.ring_model.specs.KeptLinks.{FramesKept, LinksKept}
use Rattle.ring_model.specs.KeptStack.{MayBeIn, StackKept}
use Rattle.ring_model.specs.KeptHistory.{HistoryKept}
use Rattle.ring_model.specs.KeptContents.{ContentsKept}
use Rattle.ring_model.specs.KeptPacking.{FramesNeed, PackedAt, PackedKept}
use Rattle.ring_model.proofs.links.FramePhases.{none_some}
use Rattle.ring_model.proofs.histories.HistorySteps.{top_agrees, top_stack, wishing_left}

-- ---- the frames that are about to open a fill

needs_same : (size : ℕ) (cuts cuts' : List ℕ) (xs xs' : List Reservation) (found found' : Bool) (opened : ℕ)
    (frames : List Frame)
    → ((kind : Purpose) (state : Progress) → NeedsFill size cuts xs found kind state
    → NeedsFill size cuts' xs' found' kind state)
    → FramesNeed size cuts xs found opened frames
    → FramesNeed size cuts' xs' found' opened frames
needs_same size cuts cuts' xs xs' found found' opened [] step k = tt
needs_same size cuts cuts' xs xs' found found' opened (frame ∷ below) step k = (
  k.0,
  (λ is. step frame.kind frame.state (k.1 is)),
  needs_same size cuts cuts' xs xs' found found' opened below step k.2,
)

-- where a fill was begun, no frame has noted the next one yet
needs_opened : (n : ℕ) (c : Core) (size : ℕ) (cuts cuts' : List ℕ) (xs xs' : List Reservation) (found found' : Bool)
    (frames : List Frame) → FramesKept n c.links c.order c.head c.done c.opened frames
    → FramesNeed size cuts xs found c.opened frames → FramesNeed size cuts' xs' found' (c.opened + 1) frames
needs_opened n c size cuts cuts' xs xs' found found' [] kept k = tt
needs_opened n c size cuts cuts' xs xs' found found' (frame ∷ below) kept k = (
  k.0,
  (λ is. let (a, b, x, y) = kept.0.noted (c.opened + 1) is in absurd (omega arith)),
  needs_opened n c size cuts cuts' xs xs' found found' below kept.1 k.2,
)

-- a frame that closes fills, or looks for a wish, has noted nothing
closing_notes : (c : Core) → noted_fill (closing_phase c) ≡ None
closing_notes c =
    cond_both ((c.done + 1) == c.opened) wishing releasing (λ (p : Phase). noted_fill p ≡ None) (λ _. refl) (λ _. refl)

needs_left : (size : ℕ) (cuts : List ℕ) (xs : List Reservation) (found : Bool) (opened : ℕ) (c : Core) (frame : Frame)
    (below : List Frame) → FitsPage size frame.kind → FramesNeed size cuts xs found opened below
    → FramesNeed size cuts xs found opened (frames_after_leave c frame below)
needs_left size cuts xs found opened c frame [] fits k =
    (fits, (λ is. absurd (none_some (sym (closing_notes c) ∙ is))), tt)
needs_left size cuts xs found opened c frame (next ∷ below) fits k = k

-- ---- what is kept

reneeded : (size : ℕ) (cuts cuts' : List ℕ) (xs xs' : List Reservation) (found found' : Bool) (opened : ℕ)
    (frames : List Frame) → cuts' ≡ cuts → map plain xs' ≡ map plain xs → found' ≡ found
    → FramesNeed size cuts xs found opened frames → FramesNeed size cuts' xs' found' opened frames
reneeded size cuts cuts' xs xs' found found' opened frames a b f k =
    subst (λ (l : List ℕ). FramesNeed size l xs' found' opened frames) (sym a)
    (subst (λ (w : Bool). FramesNeed size cuts xs' w opened frames) (sym f)
    (needs_same size cuts cuts xs xs' found found opened frames
    (λ kind state. needs_alike size cuts xs xs' found kind state b) k))

-- a history event that begins no fill, reserves nothing and finds no wish
acts_by : (size : ℕ) (h : List HistoryEvent) (a : HistoryEvent) (opened : ℕ) (frames frames' : List Frame)
    → opens_of (h ++ a ∷ []) ≡ opens_of h → map plain (reserved_records (h ++ a ∷ [])) ≡ map plain (reserved_records h)
    → is_wished (h ++ a ∷ []) ≡ is_wished h → IsFit size h a → PackedAt size h opened frames
    → FramesNeed size (opens_of h) (reserved_records h) (is_wished h) opened frames'
    → PackedAt size (h ++ a ∷ []) opened frames'
acts_by size h a opened frames frames' cuts records found allowed p needs = record {
  room =
      refilled size (opens_of h) (opens_of (h ++ a ∷ [])) (reserved_records h) (reserved_records (h ++ a ∷ [])) cuts
      records p.room;
  fit = fit_more size h a p.fit allowed;
  needs =
      reneeded size (opens_of h) (opens_of (h ++ a ∷ [])) (reserved_records h) (reserved_records (h ++ a ∷ []))
      (is_wished h) (is_wished (h ++ a ∷ [])) opened frames' cuts records found needs;
}

-- ---- the frame on top

module _ (size : ℕ) (c : Core) (frame : Frame) (below : List Frame) (rest : List PushedFrame)
    (p : PackedAt size c.history c.opened (frame ∷ below)) where
  -- it goes on, and where it has noted the next fill it needs it
  packed_goes : (phase : Phase)
      → (noted_fill phase ≡ Some c.opened
      → NeedsFill size (opens_of c.history) (reserved_records c.history) (is_wished c.history) frame.kind
      frame.state) → PackedKept size (in_phase c frame below phase)
  packed_goes phase needs = record { room = p.room; fit = p.fit; needs = (p.needs.0, needs, p.needs.2) }

  packed_notes : (phase : Phase) → noted_fill phase ≡ noted_fill frame.phase
      → PackedKept size (in_phase c frame below phase)
  packed_notes phase same = packed_goes phase (λ is. p.needs.1 (sym same ∙ is))

  packed_rests : (phase : Phase) → noted_fill phase ≡ None → PackedKept size (in_phase c frame below phase)
  packed_rests phase none = packed_goes phase (λ is. absurd (none_some (sym none ∙ is)))

  packed_leaves : (payload : Option (List ℕ)) → (writer_after c.history).stack ≡ pushed_onto frame.kind frame.state rest
      → frame.state ≢ left → PackedKept size (after_leave c frame below payload)
  packed_leaves payload stack stands =
      acts_by size c.history (leave payload) c.opened (frame ∷ below) (frames_after_leave c frame below)
      (opens_of-leave c.history payload)
      (ap (map plain) (records_left_by c.history frame.kind frame.state rest payload stack stands)
      ∙ plain-finished (own_number frame.kind frame.state) payload (reserved_records c.history))
      (is_wished-leave c.history payload)
      tt p
      (needs_left size (opens_of c.history) (reserved_records c.history) (is_wished c.history) c.opened c frame
      below p.needs.0 p.needs.2)

  packed_after_begin : (kind : Purpose) (state : Progress) → frame.state ≡ state
      → (writer_after c.history).stack ≡ pushed_onto frame.kind frame.state rest
      → PackedKept size (after_begin kind state c frame below)
  packed_after_begin (for_record moment len) waiting same stack = packed_rests idle refl
  packed_after_begin for_close waiting same stack = packed_leaves None stack (λ e. differ (sym same ∙ e))
    where
      differ : waiting ≢ left
      differ e = cc
  packed_after_begin kind (reserved number) same stack = packed_rests idle refl
  packed_after_begin kind left same stack = packed_rests (closing_phase c) (closing_notes c)

module _ (n size start : ℕ) (c : Core) (frame : Frame) (below : List Frame) (k : LinksKept n c) (s : StackKept c)
    (h : HistoryKept n start c) (t : ContentsKept n start c) (q : PackedKept size c) (top : c.frames ≡ frame ∷ below)
  where
    p : PackedAt size c.history c.opened (frame ∷ below)
    p = subst (PackedAt size c.history c.opened) top q

    stack_top : (writer_after c.history).stack ≡ pushed_onto frame.kind frame.state (pushed_frames below)
    stack_top = top_stack n start c frame below h top

    packs_leave : (after : Core) (state : Progress) (payload : Option (List ℕ)) → frame.state ≡ state → state ≢ left
        → after ≡ after_leave c frame below payload → PackedKept size after
    packs_leave after state payload same stands is =
        subst (PackedKept size) (sym is)
        (packed_leaves size c frame below (pushed_frames below) p payload stack_top (λ e. stands (sym same ∙ e)))

    packs_notes : (after : Core) (old phase : Phase) → frame.phase ≡ old → noted_fill phase ≡ noted_fill old
        → after ≡ in_phase c frame below phase → PackedKept size after
    packs_notes after old phase same noted is =
        subst (PackedKept size) (sym is)
        (packed_notes size c frame below (pushed_frames below) p phase (noted ∙ sym (ap noted_fill same)))

    packs_again : (noted : ℕ) (answer : Answer) (after : Core) → BeginsAgain c frame below noted answer after
        → PackedKept size after
    packs_again noted answer after step =
        subst (PackedKept size) (sym step.after_is)
        (packed_after_begin size c frame below (pushed_frames below) p frame.kind frame.state refl stack_top)

    -- a page is needed, by what the tail holds
    needs_page : (kind : Purpose) (found : Bool) → NeedsPage size c kind
        → NeedsFill size (opens_of c.history) (reserved_records c.history) found kind waiting
    needs_page (for_record moment len) found needs =
        λ fits.
        needs (subst
        (λ (l : List Reservation).
        FitsBehind size l (reservation_for moment len (reserved_records c.history)))
        (sym (tail_is c.history)) fits)
    needs_page for_close found needs = λ none. needs (tail_is c.history ∙ none)

    packs_reserve : (answer : Answer) (after : Core) → frame.state ≡ waiting
        → ReserveStep n size c frame below answer after → PackedKept size after
    packs_reserve answer after same (reserves moment len r kind r_is fits a is) =
        let h0 : List HistoryEvent = c.history in
        let cuts : List ℕ = opens_of c.history in
        let xs : List Reservation = reserved_records c.history in
        let found : Bool = is_wished c.history in
        let new : Reservation = reservation_for moment len xs in
        let stack =
        stack_top ∙ ap (λ (x : Progress). pushed_onto frame.kind x (pushed_frames below)) same
        ∙ ap (λ (x : Purpose). pushed_onto x waiting (pushed_frames below)) kind in
        let records : reserved_records (h0 ++ reserve ∷ []) ≡ xs ++ new ∷ [] =
        records_reserved c.history moment len (pushed_frames below) stack in
        let room_for : FitsBehind size (tail_at cuts xs) new =
        subst (FitsBehind size (tail_at cuts xs)) r_is
        (subst (λ (l : List Reservation). FitsBehind size l r) (tail_is c.history) fits) in
        subst (PackedKept size) (sym is) record {
          room =
              refilled size cuts (opens_of (h0 ++ reserve ∷ [])) (xs ++ new ∷ [])
              (reserved_records (h0 ++ reserve ∷ []))
              (opens_of-reserve c.history) (ap (map plain) records)
              (room_reserved size cuts xs new t.rising room_for p.room);
          fit =
              fit_more size c.history reserve p.fit
              (λ r' wants.
              subst (λ (l : List Reservation). FitsBehind size l r') (sym (tail_is c.history))
              (subst (FitsBehind size (tail_at cuts xs))
              (same_Some new r'
              (sym (wanted_record c.history moment len (pushed_frames below) stack) ∙ wants)) room_for));
          needs =
              reneeded size cuts (opens_of (h0 ++ reserve ∷ [])) (xs ++ new ∷ [])
              (reserved_records (h0 ++ reserve ∷ []))
              found (is_wished (h0 ++ reserve ∷ [])) c.opened
              (record { kind = frame.kind; state = reserved (length xs); phase = idle } ∷ below)
              (opens_of-reserve c.history) (ap (map plain) records) (is_wished-reserve c.history) (
                p.needs.0,
                (λ noted. absurd (none_some noted)),
                needs_same size cuts cuts xs (xs ++ new ∷ []) found found c.opened below
                    (λ x y. needs_reserved size cuts xs new found x y t.rising) p.needs.2,
              );
        }
    packs_reserve answer after same (finds_nothing kind none a is) = packs_leave after waiting None same (λ e. cc) is
    packs_reserve answer after same (is_crowded needs full a is) = packs_leave after waiting None same (λ e. cc) is
    packs_reserve answer after same (is_worn needs full last a is) = packs_leave after waiting None same (λ e. cc) is
    packs_reserve answer after same (notes needs room small a is) =
        subst (PackedKept size) (sym is) (packed_goes size c frame below (pushed_frames below) p (looking c.opened)
        (λ _.
        subst (NeedsFill size (opens_of c.history) (reserved_records c.history) (is_wished c.history) frame.kind)
        (sym same) (needs_page frame.kind (is_wished c.history) needs)))

    packs_idle : (state : Progress) (answer : Answer) (after : Core) → frame.state ≡ state
        → IdleStep n size c frame below state answer after → PackedKept size after
    packs_idle waiting answer after same step = packs_reserve answer after same step
    packs_idle (reserved number) answer after same step = subst (PackedKept size) (sym step.1) q
    packs_idle left answer after same step = absurd step

    packs_open : (noted page : ℕ) (answer : Answer) (after : Core) → frame.phase ≡ opening noted page
        → OpenFillStep n c frame below noted page answer after → PackedKept size after
    packs_open noted page answer after same (open_late step) = packs_again noted answer after step
    packs_open noted page answer after same (opens now a is) =
        let h0 : List HistoryEvent = c.history in
        let cuts : List ℕ = opens_of c.history in
        let xs : List Reservation = reserved_records c.history in
        let records : reserved_records (h0 ++ open_fill ∷ []) ≡ xs = records_snoc c.history open_fill in
        let alone = (top_agrees c frame below s top).1 in
        let begins : PackedAt size (h0 ++ open_fill ∷ []) (c.opened + 1) (frame ∷ below) = record {
          room =
              refilled size (cuts ++ length xs ∷ []) (opens_of (h0 ++ open_fill ∷ [])) xs
              (reserved_records (h0 ++ open_fill ∷ [])) (opens_of-open_fill c.history) (ap (map plain) records)
              (room_opened size cuts xs p.room);
          fit =
              fit_more size c.history open_fill p.fit
              (fit_open size c.history frame.kind frame.state (pushed_frames below) stack_top
              (λ gone. ap pushed_frames (alone gone)) p.needs.0 (p.needs.1 (ap noted_fill same ∙ ap Some now)));
          needs =
              needs_opened n c size cuts (opens_of (h0 ++ open_fill ∷ [])) xs (reserved_records (h0 ++ open_fill ∷ []))
              (is_wished c.history) (is_wished (h0 ++ open_fill ∷ [])) (frame ∷ below)
              (subst (FramesKept n c.links c.order c.head c.done c.opened) top k.frames) p.needs;
        } in
        subst (PackedKept size) (sym is)
        (packed_after_begin size (with_new_tail c page) frame below (pushed_frames below) begins frame.kind
        frame.state refl
        (opened_stack c.history (pushed_onto frame.kind frame.state (pushed_frames below)) stack_top))

    packs_after : (role : Role) (noted page : ℕ) (old : Phase) → frame.phase ≡ old → noted_fill old ≡ Some noted
        → PackedKept size (in_phase c frame below (after_next role noted page))
    packs_after owner noted page old same noted_is =
        packed_notes size c frame below (pushed_frames below) p (clearing noted page)
        (sym (ap noted_fill same ∙ noted_is))
    packs_after helper noted page old same noted_is =
        packed_notes size c frame below (pushed_frames below) p (opening noted page)
        (sym (ap noted_fill same ∙ noted_is))

    -- the reader's wish is found: the tail holds a record
    packs_wished : below ≡ [] → frame.state ≡ left → tail_at (opens_of c.history) (reserved_records c.history) ≢ []
        → PackedKept size
        (record c { frames = record frame { phase = looking c.opened } ∷ below; history = c.history ++ wished ∷ [] })
    packs_wished alone gone holds =
        let h0 : List HistoryEvent = c.history in
        let records : reserved_records (h0 ++ wished ∷ []) ≡ reserved_records h0 = records_snoc c.history wished in
        let tails : tail_at (opens_of (h0 ++ wished ∷ [])) (reserved_records (h0 ++ wished ∷ []))
        ≡ tail_at (opens_of h0) (reserved_records h0) =
        λ i. tail_at (opens_of-wished c.history i) (records i) in
        let still : NeedsFill size (opens_of (h0 ++ wished ∷ [])) (reserved_records (h0 ++ wished ∷ []))
        (is_wished (h0 ++ wished ∷ [])) frame.kind left =
        ((λ none. holds (sym tails ∙ none)), is_wished-wished c.history) in record {
          room =
              refilled size (opens_of h0) (opens_of (h0 ++ wished ∷ [])) (reserved_records h0)
              (reserved_records (h0 ++ wished ∷ [])) (opens_of-wished c.history) (ap (map plain) records) p.room;
          fit = fit_more size c.history wished p.fit tt;
          needs = (
            p.needs.0,
            (λ _.
                subst
                (NeedsFill size (opens_of (h0 ++ wished ∷ [])) (reserved_records (h0 ++ wished ∷ []))
                (is_wished (h0 ++ wished ∷ [])) frame.kind) (sym gone) still),
            subst
                (FramesNeed size (opens_of (h0 ++ wished ∷ [])) (reserved_records (h0 ++ wished ∷ []))
                (is_wished (h0 ++ wished ∷ [])) c.opened) (sym alone) tt,
          );
        }

    has_left : frame.phase ≡ wishing → frame.state ≡ left
    has_left same =
        wishing_left frame.kind frame.state
        (subst (MayBeIn frame.kind frame.state) same (top_agrees c frame below s top).0)

    packs_frame : (phase : Phase) (answer : Answer) (after : Core) → frame.phase ≡ phase
        → FrameStep n size c frame below phase answer after → PackedKept size after
    packs_frame idle answer after same step = packs_idle frame.state answer after refl step
    packs_frame (looking noted) answer after same (load_link_late step) = packs_again noted answer after step
    packs_frame (looking noted) answer after same (sees_free page now at a is) =
        packs_notes after (looking noted) (opening noted page) same refl is
    packs_frame (looking noted) answer after same (sees_header page lost now sum at a is) =
        packs_notes after (looking noted) (claiming noted page) same refl is
    packs_frame (looking noted) answer after same (sees_update page lost now sum at a is) =
        packs_notes after (looking noted) (looking_next helper noted page) same refl is
    packs_frame (claiming noted page) answer after same (claim_late step) = packs_again noted answer after step
    packs_frame (claiming noted page) answer after same (claims lost now sum at a is) =
        subst (PackedKept size) (sym is)
        (packed_notes size c frame below (pushed_frames below) p (looking_next owner noted page)
        (sym (ap noted_fill same)))
    packs_frame (claiming noted page) answer after same (claim_fails now other a is) =
        packs_notes after (claiming noted page) (looking noted) same refl is
    packs_frame (looking_next role noted page) answer after same (load_next_late helps step) =
        packs_again noted answer after step
    packs_frame (looking_next role noted page) answer after same (sees_normal lost next goes_on sum at a is) =
        packs_notes after (looking_next role noted page) (marking role noted page next) same refl is
    packs_frame (looking_next role noted page) answer after same (sees_other lost goes_on sum other a is) =
        subst (PackedKept size) (sym is) (packs_after role noted page (looking_next role noted page) same refl)
    packs_frame (marking role noted page next) answer after same (mark_late helps step) =
        packs_again noted answer after step
    packs_frame (marking role noted page next) answer after same (marks lost goes_on sum at a is) =
        subst (PackedKept size) (sym is) (packs_after role noted page (marking role noted page next) same refl)
    packs_frame (marking role noted page next) answer after same (mark_fails lost goes_on sum other a is) =
        subst (PackedKept size) (sym is) (packs_after role noted page (marking role noted page next) same refl)
    packs_frame (clearing noted page) answer after same (clears lost sum at a is) =
        subst (PackedKept size) (sym is)
        (packed_notes size c frame below (pushed_frames below) p (opening noted page) (sym (ap noted_fill same)))
    packs_frame (opening noted page) answer after same step = packs_open noted page answer after same step
    packs_frame releasing answer after same (releases alone more a is) = subst (PackedKept size) (sym is) q
    packs_frame releasing answer after same (releases_last alone last a is) =
        subst (PackedKept size) (sym is) (packed_rests size c frame below (pushed_frames below) p wishing refl)
    packs_frame wishing answer after same (grants alone granted a is) =
        subst (PackedKept size) (sym is)
        (packs_wished alone (has_left same) (λ none. granted.holds_record (tail_is c.history ∙ none)))
    packs_frame wishing answer after same (closes_more alone none more a is) =
        subst (PackedKept size) (sym is) (packed_rests size c frame below (pushed_frames below) p releasing refl)
    packs_frame wishing answer after same (goes_away alone none last a is) =
        subst (PackedKept size) (sym is) record { room = q.room; fit = q.fit; needs = tt }

-- ---- every step

packs_read : (n size : ℕ) (c : Core) (phase : ReaderPhase) (answer : Answer) (after : Core) → PackedKept size c
    → ReadStep n c phase answer after → PackedKept size after
packs_read n size c loading_head answer after q (loads_header page fill at a is) = subst (PackedKept size) (sym is) q
packs_read n size c loading_head answer after q (loads_update page lost at a is) = subst (PackedKept size) (sym is) q
packs_read n size c loading_head answer after q (loads_owed page at a is) = subst (PackedKept size) (sym is) q
packs_read n size c loading_head answer after q (loads_passed page fill least at more sum a is) =
    subst (PackedKept size) (sym is) q
packs_read n size c (loading_done page fill) answer after q (finds_none le a is) = subst (PackedKept size) (sym is) q
packs_read n size c (loading_done page fill) answer after q (finds_closed below a is) =
    subst (PackedKept size) (sym is) q
packs_read n size c (storing_spare_link page fill) answer after q step = subst (PackedKept size) (sym step.after_is) q
packs_read n size c (swapping page fill) answer after q (swaps at a is) = subst (PackedKept size) (sym is) q
packs_read n size c (swapping page fill) answer after q (swap_fails at a is) = subst (PackedKept size) (sym is) q

fits_page : (size len : ℕ) → (IsTooLong size len → ⊥) → encoded_len len 0 true ≤ size
fits_page size len fits = no_more (encoded_len len 0 true) (λ long. fits (inr long))
  where
    no_more : (k : ℕ) → (size < k → ⊥) → k ≤ size
    no_more k none = dite (dec_le k size) (λ yes. yes) (λ no. absurd (none (omega arith)))

packs_pushed : (size : ℕ) (c after : Core) (kind : Purpose) (a : HistoryEvent) → PackedKept size c → FitsPage size kind
    → opens_of (c.history ++ a ∷ []) ≡ opens_of c.history
    → reserved_records (c.history ++ a ∷ []) ≡ reserved_records c.history
    → is_wished (c.history ++ a ∷ []) ≡ is_wished c.history → IsFit size c.history a
    → after
    ≡ record c
    { frames = record { kind = kind; state = waiting; phase = idle } ∷ c.frames; history = c.history ++ a ∷ [] }
    → PackedKept size after
packs_pushed size c after kind a q fits cuts records found allowed is = subst (PackedKept size) (sym is)
    (acts_by size c.history a c.opened c.frames (record { kind = kind; state = waiting; phase = idle } ∷ c.frames) cuts
    (ap (map plain) records) found allowed q (fits, (λ noted. absurd (none_some noted)), q.needs))

pub packs_step : (n size start : ℕ) (c : Core) (event : Event) (answer : Answer) (after : Core) → LinksKept n c
    → StackKept c → HistoryKept n start c → ContentsKept n start c → PackedKept size c
    → StepCases n size c event answer after → PackedKept size after
packs_step n size start c event answer after k s h t q (push_step moment len e few fits early a is) =
    packs_pushed size c after (for_record moment len) (push moment len) q (fits_page size len fits)
    (opens_of-push c.history moment len) (records_snoc c.history (push moment len))
    (is_wished-push c.history moment len) tt is
packs_step n size start c event answer after k s h t q (push_refused moment len why e refused a is) =
    subst (PackedKept size) (sym is) q
packs_step n size start c event answer after k s h t q (close_step e few a is) =
    packs_pushed size c after for_close push_close q tt (opens_of-push_close c.history)
    (records_snoc c.history push_close) (is_wished-push_close c.history) tt is
packs_step n size start c event answer after k s h t q (close_refused e many a is) = subst (PackedKept size) (sym is) q
packs_step n size start c event answer after k s h t q (frame_step frame below e top step) =
    packs_frame n size start c frame below k s h t q top frame.phase answer after refl step
packs_step n size start c event answer after k s h t q (frame_lacks e none a is) = subst (PackedKept size) (sym is) q
packs_step n size start c event answer after k s h t q
    (end_step payload frame below number moment len e top state kind slot a is) =
    packs_leave n size start c frame below k s h t q top after (reserved number) (Some payload) state (λ e'. cc) is
packs_step n size start c event answer after k s h t q (end_lacks payload e none a is) =
    subst (PackedKept size) (sym is) q
packs_step n size start c event answer after k s h t q (end_early payload frame below e top none a is) =
    subst (PackedKept size) (sym is) q
packs_step n size start c event answer after k s h t q (read_step e step) =
    packs_read n size c c.reader.phase answer after q step
packs_step n size start c event answer after k s h t q (store_wish_step e a is) = subst (PackedKept size) (sym is) q

-- ---- the start

nothing_packed : (size opened : ℕ) → PackedAt size [] opened []
nothing_packed size opened = record { room = room_none size; fit = fit_none size; needs = tt }

pub packed_start : (n size start : ℕ) (c : Core) → IsStart n start c → PackedKept size c
packed_start n size start c s =
    subst (λ (frames : List Frame). PackedAt size c.history c.opened frames) (sym s.frames)
    (subst (λ (h : List HistoryEvent). PackedAt size h c.opened []) (sym s.history) (nothing_packed size c.opened))
