-- What a call of a writer's stack promises, from what it made of the stack.
use Rattle.std.specs.Prelude.{◌↔◌, IfOk, IfErr, OnOk}
use Rattle.std.proofs.Common.{rules, ◌≡◌, ℕ, suc, ◌<◌, ◌≤◌, List, [], ◌∷◌, ◌++◌, length, None, Result, Ok, Err, refl}
use Rattle.std.proofs.Common.{sym, ap, ◌∙◌, subst, append-nil, arith}
use Rattle.trace_model.specs.declared.limits.TheConstants.{MAX_FRAMES, MOMENT_LIMIT}
use Rattle.trace_model.specs.History.{HistoryEvent, push}
use Rattle.trace_model.specs.Steps.{IsTooLong}
use Rattle.nested_writer.specs.declared.fault.WriteFault.{WriteFault}
use Rattle.nested_writer.specs.declared.fault.WriteFault.TheVariants.{Crowded, Worn, NoFrame, NotReserved}
use Rattle.record_words.specs.declared.put.Place.{Place}
use Rattle.nested_writer.specs.declared.stack.allot.Allot.{Allot}
use Rattle.nested_writer.specs.declared.stack.allot.Allot.TheVariants as allot
use Rattle.nested_writer.specs.declared.stack.allot.Allot.TheVariants.{Fits}
use Rattle.nested_writer.specs.declared.stack.leave.Ended.{Ended}
use Rattle.nested_writer.specs.declared.stack.leave.Ended.TheVariants.{Pending, Full}
use Rattle.nested_writer.specs.declared.frame.Frame.{Frame}
use Rattle.nested_writer.specs.declared.frame.Purpose.{Purpose}
use Rattle.nested_writer.specs.declared.frame.Purpose.TheVariants.{Record, Close}
use Rattle.nested_writer.specs.declared.frame.Progress.{Progress}
use Rattle.nested_writer.specs.declared.frame.Progress.TheVariants.{Waiting, Through, Reserved, Left}
use Rattle.nested_writer.specs.Stack.{Stack}
use Rattle.nested_writer.specs.Calls.{with_frame, after_leave, IsAtBottom, IsCrowded, IsWorn, WantsPage, NeedsPage}
use Rattle.nested_writer.specs.Calls.{HasLeft, HasTopLeft}
use Rattle.nested_writer.specs.AtOnce.{MayStand, with_left}
use Rattle.nested_writer.specs.Allotted.{HasEvents, IsAllotted}
use Rattle.nested_writer.specs.Answered.{IsAllotAnswer}
use Rattle.nested_writer.specs.Kept.{SameFills}
use Rattle.nested_writer.specs.Ends.{MayEnd, MayEndTop, MayNotEndTop, HasEnded, IsEnd}
use Rattle.nested_writer.specs.Next.{below_top, IsPlaced, IsReadyForPage, IsAllottedTo, IsSameFrame, IsRefusedTo}
use Rattle.nested_writer.specs.IsStack.{IsStack, IsReachedStack}
use Rattle.nested_writer.specs.Promises.{Begins, Allots, EndsTop, StandsAgain}
use Rattle.nested_writer.proofs.AtOnce.{fits_page, stands_again}
use Rattle.nested_writer.proofs.Keeping.{left_bottom, left_below, ended_to}
use Rattle.nested_writer.proofs.Pushing.{pushed_record}
use Rattle.nested_writer.proofs.Staying.{has_events_stays, allotted_stays, ended_stays}

-- the frame of a record is pushed
pub begins : (moment len : ℕ) (s after : Stack) → length s.frames < MAX_FRAMES → (IsTooLong s.size len → ⊥)
    → moment < MOMENT_LIMIT → after ≡ with_frame s record { purpose = Record moment len; progress = Waiting None }
    → Begins moment len s (Ok (tt {0})) after
begins moment len s after room short early is =
    let pushed : (start : ℕ) (history : List HistoryEvent) → IsStack start history s
    → IsStack start (history ++ push moment len ∷ []) after =
    λ start history k.
    subst (IsStack start (history ++ push moment len ∷ [])) (sym is)
    (pushed_record start history s moment len (fits_page s.size len short) early k) in
    record {
      too_deep = search rules;
      too_long = search rules;
      late = search rules;
      begun = search rules;
      ok = is;
      err = search rules;
      stays = has_events_stays s after (push moment len ∷ []) pushed;
      pushed = pushed;
      kept = search rules;
      top = search rules;
    }

-- the frame of a record that was written is put back
pub stands_alone : (moment len : ℕ) (s after : Stack) → s.frames ≡ [] → MayStand s moment len
    → after ≡ with_left s moment len → StandsAgain moment len s after
stands_alone moment len s after none may is =
    let stack : HasEvents s [] after =
    λ start history k.
    subst (IsStack start (history ++ [])) (sym is)
    (subst (λ (g : List HistoryEvent). IsStack start g (with_left s moment len))
    (sym (append-nil history)) (stands_again start history s moment len none may k)) in
    record {
      left = is;
      stack = stack;
      stays = has_events_stays s after [] stack;
      kept = search rules;
      bottom = search rules;
    }

-- the frame on top ends
pub ends_top : (s after : Stack) (top : Frame) (below : List Frame) (ended : Ended) → s.frames ≡ top ∷ below
    → MayEnd top.progress → HasEnded s top.progress after → after ≡ after_leave s top below → IsReachedStack s
    → (ended ≡ Pending → below ≡ [] → ⊥) → (ended ≡ Full → below ≡ []) → EndsTop s (Ok ended) after
ends_top s after top below ended frames may has is stands pending full =
    let end : IsEnd s s.frames after = subst (λ (fs : List Frame). IsEnd s fs after) (sym frames) (is, has) in
    let under : ended ≡ Pending → after.frames ≡ below_top s.frames =
    λ e. ap (λ (x : Stack). x.frames) is ∙ left_below top below (pending e) ∙ sym (ap below_top frames) in
    let bottom : ended ≡ Full → IsAtBottom after.frames =
    λ e. subst (λ (x : Stack). IsAtBottom x.frames) (sym is) (left_bottom top below (full e)) in
    let may_end : MayEndTop s.frames = subst MayEndTop (sym frames) may in
    let depth : (ended ≡ Pending → 1 < length s.frames) × (ended ≡ Full → length s.frames ≤ 1) = (
      (λ e. subst (λ (fs : List Frame). 1 < length fs) (sym frames) (longer below (pending e))),
      (λ e. subst (λ (fs : List Frame). length fs ≤ 1) (sym frames) (let none = ap length (full e) in omega arith)),
    ) in
    record {
      no_frame = ((λ e. absurd (let no = e in cc)), (λ none. absurd (some_frame s top below frames none)));
      not_reserved = ((λ e. absurd (let no = e in cc)), (λ not. absurd (not_both s.frames may_end not)));
      pending = ((λ e. (may_end, depth.0 (ok_is e))), (λ (may', deep). by_depth s ended depth deep));
      full = ((λ e. (may_end, depth.1 (ok_is e))), (λ (may', flat). by_flat s ended depth flat));
      stays = ended_stays s after end stands;
      ok = end;
      err = search rules;
      kept = search rules;
      below = λ e. under (ok_is e);
      bottom = λ e. bottom (ok_is e);
      next = ended_to s after ended under bottom;
    }
  where
    longer : (frames : List Frame) → (frames ≡ [] → ⊥) → 1 < suc (length frames)
    longer [] some = absurd (some refl)
    longer (f ∷ rest) some = omega arith

    some_frame : (x : Stack) (f : Frame) (rest : List Frame) → x.frames ≡ f ∷ rest → x.frames ≡ [] → ⊥
    some_frame x f rest some none = let no = sym some ∙ none in cc

    not_both : (frames : List Frame) → MayEndTop frames → MayNotEndTop frames → ⊥
    not_both [] may not = may
    not_both (f ∷ rest) may not = not may

    ok_is : {a b : Ended} → ◌≡◌ {A = Result Ended WriteFault} (Ok a) (Ok b) → a ≡ b
    ok_is e = cc

    by_depth : (x : Stack) (e : Ended) → (e ≡ Pending → 1 < length x.frames) × (e ≡ Full → length x.frames ≤ 1)
        → 1 < length x.frames → ◌≡◌ {A = Result Ended WriteFault} (Ok e) (Ok Pending)
    by_depth x Pending depth deep = refl
    by_depth x Full depth deep = absurd (let flat = depth.1 refl in omega arith)

    by_flat : (x : Stack) (e : Ended) → (e ≡ Pending → 1 < length x.frames) × (e ≡ Full → length x.frames ≤ 1)
        → length x.frames ≤ 1 → ◌≡◌ {A = Result Ended WriteFault} (Ok e) (Ok Full)
    by_flat x Pending depth flat = absurd (let deep = depth.0 refl in omega arith)
    by_flat x Full depth flat = refl

-- the frame on top gets its place
pub allots_place : (s after : Stack) (place : Place) → (NeedsPage s s.frames → ⊥) → (s.frames ≡ [] → ⊥)
    → (HasTopLeft s.frames → ⊥) → IsAllotted s s.frames (Ok (Fits place)) after
    → ((start : ℕ) (history : List HistoryEvent) → IsStack start history s
    → IsAllotAnswer s history s.frames (Ok (Fits place))) → SameFills s after → IsPlaced s after place
    → IsSameFrame s after → IsReachedStack s → Allots s (Ok (Fits place)) after
allots_place s after place needs_none some stays is answered kept placed same stands = record {
  crowded = ((λ e. absurd (let no = e in cc)), (λ n. absurd (needs_none n.0)));
  worn = ((λ e. absurd (let no = e in cc)), (λ n. absurd (needs_none n.0)));
  no_frame = ((λ e. absurd (let no = e in cc)), (λ none. absurd (some none)));
  not_reserved = ((λ e. absurd (let no = e in cc)), (λ left. absurd (stays left)));
  needs_page = ((λ e. absurd (let no = e in cc)), (λ n. absurd (needs_none n.0)));
  after = is;
  stays = allotted_stays s after (Ok (Fits place)) is stands;
  answered = answered;
  kept = kept;
  fits = λ other e. let at : place ≡ other = cc in subst (IsPlaced s after) at placed;
  page = λ e. absurd (let no = e in cc);
  next = placed;
  same = same;
  refused = tt;
}

-- What the answer is for a frame that needs a page.
pub record MeetsNeed (s : Stack) (result : Result Allot WriteFault) (after : Stack) : Type 0 where
  pub crowded : result ≡ Err Crowded ↔ IsCrowded s
  pub worn : result ≡ Err Worn ↔ ((IsCrowded s → ⊥) × IsWorn s)
  pub noted : result ≡ Ok allot.NeedsPage ↔ ((IsCrowded s → ⊥) × (IsWorn s → ⊥))
  pub allotted : IsAllotted s s.frames result after
  pub answered : (start : ℕ) (history : List HistoryEvent) → IsStack start history s
      → IsAllotAnswer s history s.frames result
  pub kept : SameFills s after
  pub page : result ≡ Ok allot.NeedsPage → IsReadyForPage s after
  pub next : IfOk result (λ a. IsAllottedTo s after a)
  pub same : OnOk result (IsSameFrame s after)
  pub refused : IfErr result (λ fault. IsRefusedTo s after fault)

-- the frame on top needs a page
pub allots_page : (s after : Stack) (result : Result Allot WriteFault) → NeedsPage s s.frames → MeetsNeed s result after
    → IsReachedStack s → Allots s result after
allots_page s after result needs meets stands = record {
  crowded = ((λ e. (needs, meets.crowded.0 e)), (λ n. meets.crowded.1 n.1));
  worn = ((λ e. let n = meets.worn.0 e in (needs, n.0, n.1)), (λ n. meets.worn.1 (n.1, n.2)));
  no_frame = (
    (λ e. absurd (no_other (Err NoFrame) e (λ no. cc) (λ no. cc) (λ no. cc))),
    (λ none. absurd (subst (NeedsPage s) none needs)),
  );
  not_reserved = (
    (λ e. absurd (no_other (Err NotReserved) e (λ no. cc) (λ no. cc) (λ no. cc))),
    (λ left. absurd (has_not_left s.frames needs left)),
  );
  needs_page = ((λ e. let n = meets.noted.0 e in (needs, n.0, n.1)), (λ n. meets.noted.1 (n.1, n.2)));
  after = meets.allotted;
  stays = allotted_stays s after result meets.allotted stands;
  answered = meets.answered;
  kept = meets.kept;
  fits = λ place e. absurd (no_other (Ok (Fits place)) e (λ no. cc) (λ no. cc) (λ no. cc));
  page = meets.page;
  next = meets.next;
  same = meets.same;
  refused = meets.refused;
}
  where
    -- it is answered that no page is released, that no fill is left, or that a page is needed
    no_other : (other : Result Allot WriteFault) → result ≡ other → (other ≡ Err Crowded → ⊥) → (other ≡ Err Worn → ⊥)
        → (other ≡ Ok allot.NeedsPage → ⊥) → ⊥
    no_other other is crowded worn noted =
        let spare : IsCrowded s → ⊥ = λ full. crowded (sym is ∙ meets.crowded.1 full) in
        let last : IsWorn s → ⊥ = λ gone. worn (sym is ∙ meets.worn.1 (spare, gone)) in
        noted (sym is ∙ meets.noted.1 (spare, last))

    wants_not_left : (purpose : Purpose) (progress : Progress) → WantsPage s purpose progress → HasLeft progress → ⊥
    wants_not_left purpose (Waiting noted) wants left = left
    wants_not_left purpose (Through noted) wants left = left
    wants_not_left purpose (Reserved slot) wants left = left
    wants_not_left (Record moment len) (Left noted) wants left = wants
    wants_not_left Close (Left noted) wants left = wants

    has_not_left : (frames : List Frame) → NeedsPage s frames → HasTopLeft frames → ⊥
    has_not_left [] needs left = needs
    has_not_left (top ∷ below) needs left = wants_not_left top.purpose top.progress needs left
