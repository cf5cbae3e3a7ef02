-- A script whose lines ask for no single steps has one account of each CPU.
use Rattle.std.proofs.Common.{◌≡◌, ◌≢◌, ℕ, zero, suc, ◌+◌, ◌-◌, ◌<◌, ◌≤◌, ◌⊎◌, true, false, List, [], ◌∷◌, ◌++◌, length}
use Rattle.std.proofs.Common.{get_or, refl, sym, ap, ◌∙◌, subst, inl, inr, append_assoc, arith}
use Rattle.std.specs.Prelude.{⊤}
use Rattle.std.proofs.lemmas.Option.{slice_get-get_or}
use Rattle.trace_model.specs.History.{HistoryEvent}
use Rattle.trace_model.specs.Window.{Window, RingEvent, acts, takes}
use Rattle.trace_model.proofs.Positions.{one_position}
use Rattle.text_model.specs.Script.{Command, begin_frame, step_frame, finish_frame, write, close, step_reader}
use Rattle.text_model.specs.Script.{take_page, wish, deliver, Script}
use Rattle.line_model.specs.Due.{window_at, situation_after}
use Rattle.line_model.specs.Accounts.{resting, moving, LineFrame, CpuState, new_cpu, Does, HasGone, with_own, IsIdle}
use Rattle.line_model.specs.Accounts.{new_frame, Begins, refuses_frame, pushes_frame, FinishesTop, lacks_to_finish}
use Rattle.line_model.specs.Accounts.{finishes_it, WritesWhole, refuses_whole, writes_it, Take, to_find, to_see}
use Rattle.line_model.specs.Accounts.{to_prepare, to_take, IsMovedFor, IsAtHint, IsMovedTo, GoesOn, EndsTake, ReadsOn}
use Rattle.line_model.specs.Accounts.{TakesPage, Asks, Adds, IsLine, IsAccount}
use Rattle.line_model.specs.WholeScripts.{IsWholeLine, HasWholeLines, OneAccount}
use Rattle.line_model.proofs.AccountWindows.{goes_same}
use Rattle.line_model.proofs.DueRuns.{DueFrom, all_due}
use Rattle.line_model.proofs.OneDue.{IsKept, kept_on, kept_all, same_own}

-- ---- frames that have made no step

-- no frame on the stack has made a step
abbrev AreStill : List LineFrame → Type 0
AreStill [] = ⊤
AreStill (frame ∷ frames) = (frame.stage ≡ resting) × AreStill frames

-- so none is moving the head
still_not_moving : (frames : List LineFrame) → AreStill frames → (fill : ℕ) × IsMovedFor fill frames → ⊥
still_not_moving [] still (fill, (frame, (k, within, at), more, moves)) = omega arith
still_not_moving (top ∷ frames) still (fill, (frame, (zero, within, at), more, moves)) =
    let both : moving fill more ≡ resting = sym moves ∙ ap (λ (f : LineFrame). f.stage) (sym at) ∙ still.0 in cc
still_not_moving (top ∷ frames) still (fill, (frame, (suc k, within, at), more, moves)) =
    still_not_moving frames still.1 (fill, (frame, (k, omega arith, at), more, moves))

-- ---- the steps of a take, while no frame moves the head

module _ (pages : ℕ) (w : Window) (before : CpuState) where
  module _ (still : AreStill before.frames) where
    none_for : (fill : ℕ) → IsMovedFor fill before.frames → ⊥
    none_for fill moved = still_not_moving before.frames still (fill, moved)

    none_to : IsMovedTo pages w before.frames → ⊥
    none_to (fill, sum, moved) = none_for fill moved

    one_fill : (fill other : ℕ)
        → IsAtHint pages w before.hint fill
        → IsAtHint pages w before.hint other
        → fill ≡ other
    one_fill fill other (low, high, at) (least, most, here) =
        one_position w.head pages fill other low high least most (at ∙ sym here)

    no_later : (fill : ℕ)
        → IsAtHint pages w before.hint w.head
        → IsAtHint pages w before.hint fill
        → (w.head < fill) ⊎ IsMovedTo pages w before.frames
        → ⊥
    no_later fill at here (inl later) =
        let same : w.head ≡ fill = one_fill w.head fill at here in omega (arith, same, later)
    no_later fill at here (inr moved) = none_to moved

    one_goes : (take : Take) (one two : CpuState)
        → GoesOn pages w take before one
        → GoesOn pages w take before two
        → one ≡ two
    one_goes to_find one two (inl (at, is)) (inl (here, be)) = is ∙ sym be
    one_goes to_find one two (inl (at, is)) (inr (fill, here, more, later, apart, be)) =
        absurd (no_later fill at here later)
    one_goes to_find one two (inr (fill, at, more, later, apart, is)) (inl (here, be)) =
        absurd (no_later fill here at later)
    one_goes to_find one two (inr (fill, at, more, later, apart, is)) (inr (other, here, less, past, off, be)) =
        is
        ∙ ap (λ (f : ℕ). let s : CpuState = record before { hint = f + 1 - pages } in s)
        (one_fill fill other at here)
        ∙ sym be
    one_goes to_see one two (closed, is) (known, be) = is ∙ sym be
    one_goes to_prepare one two is be = is ∙ sym be
    one_goes to_take one two (away, is) (gone, be) = is ∙ sym be

    goes_or_ends : (take : Take) (one two : CpuState) (own : List RingEvent)
        → GoesOn pages w take before one
        → EndsTake pages w take before own two
        → ⊥
    goes_or_ends to_find one two own going (none, inl (fill, at, moved, is)) = none_for fill moved
    goes_or_ends to_find one two own going (none, inr (here, moved, is)) = none_to moved
    goes_or_ends to_see one two own (closed, is) (up, none, be) = omega (arith, closed, up)
    goes_or_ends to_prepare one two own going none = none
    goes_or_ends to_take one two own (away, is) (here, took, be) = away here

    one_ends : (take : Take) (own other : List RingEvent) (one two : CpuState)
        → EndsTake pages w take before own one
        → EndsTake pages w take before other two
        → one ≡ two
    one_ends to_find own other one two (none, inl (fill, at, moved, is)) end = absurd (none_for fill moved)
    one_ends to_find own other one two (none, inr (here, moved, is)) end = absurd (none_to moved)
    one_ends to_see own other one two (up, none, is) (low, nothing, be) = is ∙ sym be
    one_ends to_prepare own other one two none end = absurd none
    one_ends to_take own other one two (here, took, is) (there, taken, be) = is ∙ sym be

module _ (script : Script) where
  abbrev now : CpuState → Window
  now state = window_at script.start state.events

  still_on : (before between : CpuState)
      → GoesOn script.pages (now before) before.take before between
      → AreStill before.frames
      → AreStill between.frames
  still_on before between going still =
      subst AreStill (sym (goes_same script.pages (now before) before before.take between going).frames) still

  -- takes end alike
  one_reads : (count more : ℕ) (before between last : CpuState) (own other : List RingEvent) (one two : CpuState)
      → AreStill before.frames
      → ReadsOn script count before between
      → EndsTake script.pages (now between) between.take between own one
      → ReadsOn script more before last
      → EndsTake script.pages (now last) last.take last other two
      → one ≡ two
  one_reads zero zero before between last own other one two still same ends here end =
      one_ends script.pages (now before) before still before.take own other one two
      (subst (λ (s : CpuState). EndsTake script.pages (now s) s.take s own one) (sym same) ends)
      (subst (λ (s : CpuState). EndsTake script.pages (now s) s.take s other two) (sym here) end)
  one_reads zero (suc more) before between last own other one two still same ends (next, going, rest) end =
      absurd (goes_or_ends script.pages (now before) before still before.take next one own going
      (subst (λ (s : CpuState). EndsTake script.pages (now s) s.take s own one) (sym same) ends))
  one_reads (suc count) zero before between last own other one two still (next, going, rest) ends here end =
      absurd (goes_or_ends script.pages (now before) before still before.take next two other going
      (subst (λ (s : CpuState). EndsTake script.pages (now s) s.take s other two) (sym here) end))
  one_reads (suc count) (suc more) before between last own other one two still (next, going, rest) ends
      (then, goes, others) end =
      let same = one_goes script.pages (now before) before still before.take next then going goes in
      one_reads count more next between last own other one two (still_on before next going still) rest ends
      (subst (λ (s : CpuState). ReadsOn script more s last) (sym same) others) end

  -- what is kept by the steps of a take
  abbrev IsKeptIn : CpuState → Type 0
  IsKeptIn state = IsKept script.start state.wish state.seen state.events

  saw_all : (state : CpuState) → IsKeptIn state → IsKept script.start state.wish (now state).done state.events
  saw_all state kept = record { seen_le = omega arith; wish_le = kept.wish_le; tail_only = kept.tail_only }

  goes_kept : (take : Take) (before after : CpuState)
      → GoesOn script.pages (now before) take before after
      → IsKeptIn before
      → IsKeptIn after
  goes_kept to_find before after (inl (at, is)) kept = subst IsKeptIn (sym is) kept
  goes_kept to_find before after (inr (fill, at, more, later, apart, is)) kept = subst IsKeptIn (sym is) kept
  goes_kept to_see before after (closed, is) kept = subst IsKeptIn (sym is) (saw_all before kept)
  goes_kept to_prepare before after is kept = subst IsKeptIn (sym is) kept
  goes_kept to_take before after (away, is) kept = subst IsKeptIn (sym is) kept

  abbrev IsWholeIn : CpuState → Type 0
  IsWholeIn state = IsKeptIn state × (state.take ≡ to_find) × AreStill state.frames

  ends_kept : (take : Take) (before after : CpuState) (own : List RingEvent)
      → before.take ≡ take
      → EndsTake script.pages (now before) take before own after
      → DueFrom script before.wish before.events own
      → IsKeptIn before
      → AreStill before.frames
      → IsWholeIn after
  ends_kept to_find before after own at (none, inl (fill, here, moved, is)) due kept still =
      subst IsWholeIn (sym is) (kept, at, still)
  ends_kept to_find before after own at (none, inr (here, moved, is)) due kept still =
      subst IsWholeIn (sym is) (kept, at, still)
  ends_kept to_see before after own at (up, none, is) due kept still =
      subst IsWholeIn (sym is) (saw_all before kept, refl, still)
  ends_kept to_prepare before after own at none due kept still = absurd none
  ends_kept to_take before after own at (here, took, is) due kept still =
      subst IsWholeIn (sym is) (
        kept_on script before.wish before.seen before.events takes
            (subst (DueFrom script before.wish before.events) took due).0 kept,
        refl,
        still,
      )

  takes_kept : (count : ℕ) (before between after : CpuState) (own : List RingEvent)
      → ReadsOn script count before between
      → EndsTake script.pages (now between) between.take between own after
      → DueFrom script before.wish before.events own
      → IsKeptIn before
      → AreStill before.frames
      → IsWholeIn after
  takes_kept zero before between after own same ends due kept still =
      ends_kept before.take before after own refl
      (subst (λ (s : CpuState). EndsTake script.pages (now s) s.take s own after) (sym same) ends) due kept still
  takes_kept (suc count) before between after own (next, going, rest) ends due kept still =
      let same = goes_same script.pages (now before) before before.take next going in
      takes_kept count next between after own rest ends
      (subst (λ (asked : ℕ). DueFrom script asked next.events own) (sym same.wish)
      (subst (λ (l : List RingEvent). DueFrom script before.wish l own) (sym same.events) due))
      (goes_kept before.take before next going kept) (still_on before next going still)

-- ---- a line

-- A CPU between two lines that aren't of single steps.
record IsWhole (start : ℕ) (state : CpuState) : Type 0 where
  kept : IsKept start state.wish state.seen state.events
  at_rest : state.take ≡ to_find
  still : AreStill state.frames

module _ (script : Script) (before : CpuState) (whole : IsWhole script.start before) where
  -- it is the same if nothing is done
  whole_idle : (own : List RingEvent) (after : CpuState) → IsIdle before own after → IsWhole script.start after
  whole_idle own after idle = subst (IsWhole script.start) (sym idle.1) whole

  one_idle : (own other : List RingEvent) (one two : CpuState)
      → IsIdle before own one
      → IsIdle before other two
      → one ≡ two
  one_idle own other one two first second = first.1 ∙ sym second.1

  -- `b`
  one_begin : (Refused : Type 0) (event : HistoryEvent) (payload : List ℕ) (own other : List RingEvent)
      (one two : CpuState)
      → Begins Refused event payload before own one
      → Begins Refused event payload before other two
      → one ≡ two
  one_begin Refused event payload own other one two (refuses_frame so idle) (refuses_frame be idles) =
      one_idle own other one two idle idles
  one_begin Refused event payload own other one two (refuses_frame so idle) (pushes_frame not is at) = absurd (not so)
  one_begin Refused event payload own other one two (pushes_frame not is at) (refuses_frame so idle) = absurd (not so)
  one_begin Refused event payload own other one two (pushes_frame not is at) (pushes_frame still be stands) =
      at
      ∙ ap (λ (l : List RingEvent). with_own before l (new_frame payload ∷ before.frames)) (is ∙ sym be)
      ∙ sym stands

  whole_begin : (Refused : Type 0) (event : HistoryEvent) (payload : List ℕ) (own : List RingEvent) (after : CpuState)
      → DueFrom script before.wish before.events own
      → Begins Refused event payload before own after
      → IsWhole script.start after
  whole_begin Refused event payload own after due (refuses_frame so idle) = whole_idle own after idle
  whole_begin Refused event payload own after due (pushes_frame not is at) = subst (IsWhole script.start) (sym at)
      record {
        kept = kept_all script before.wish before.seen before.events own due whole.kept;
        at_rest = whole.at_rest;
        still = (refl, whole.still);
      }

  -- `f`
  one_finish : (own other : List RingEvent) (one two : CpuState)
      → DueFrom script before.wish before.events own
      → DueFrom script before.wish before.events other
      → FinishesTop script before own one
      → FinishesTop script before other two
      → one ≡ two
  one_finish own other one two due dues (lacks_to_finish none idle) (lacks_to_finish nothing idles) =
      one_idle own other one two idle idles
  one_finish own other one two due dues (lacks_to_finish none idle) (finishes_it top next below is does gone at) =
      absurd (let both : [] ≡ top ∷ below = sym none ∙ is in cc)
  one_finish own other one two due dues (finishes_it top next below is does gone at) (lacks_to_finish none idle) =
      absurd (let both : [] ≡ top ∷ below = sym none ∙ is in cc)
  one_finish own other one two due dues (finishes_it top next below is does gone at)
      (finishes_it first last under be did went stands) =
      let both : first ∷ under ≡ top ∷ below = sym be ∙ is in
      let tops : first ≡ top = cc in
      let belows : under ≡ below = cc in
      let same : own ≡ other =
      same_own script before.wish before.seen below before.events top own other next last whole.kept does
      (subst (λ (f : LineFrame). Does below f other last) tops
      (subst (λ (l : List LineFrame). Does l first other last) belows did))
      due dues gone
      (subst (λ (l : List LineFrame). HasGone (situation_after script before.wish (before.events ++ other)) l last)
      belows went) in
      at
      ∙ ap (λ (l : List RingEvent). with_own before l below) same
      ∙ ap (λ (l : List LineFrame). with_own before other l) (sym belows)
      ∙ sym stands

  whole_finish : (own : List RingEvent) (after : CpuState)
      → DueFrom script before.wish before.events own
      → FinishesTop script before own after
      → IsWhole script.start after
  whole_finish own after due (lacks_to_finish none idle) = whole_idle own after idle
  whole_finish own after due (finishes_it top next below is does gone at) = subst (IsWhole script.start) (sym at)
      record {
        kept = kept_all script before.wish before.seen before.events own due whole.kept;
        at_rest = whole.at_rest;
        still = (subst AreStill is whole.still).1;
      }

  -- `w` and `c`
  after_push : (event : HistoryEvent) (own rest : List RingEvent)
      → own ≡ acts event ∷ rest
      → before.events ++ own ≡ (before.events ++ acts event ∷ []) ++ rest
  after_push event own rest is =
      ap (λ (l : List RingEvent). before.events ++ l) is ∙ sym (append_assoc before.events (acts event ∷ []) rest)

  one_write : (Refused : Type 0) (event : HistoryEvent) (payload : List ℕ) (own other : List RingEvent)
      (one two : CpuState)
      → DueFrom script before.wish before.events own
      → DueFrom script before.wish before.events other
      → WritesWhole script Refused event payload before own one
      → WritesWhole script Refused event payload before other two
      → one ≡ two
  one_write Refused event payload own other one two due dues (refuses_whole so idle) (refuses_whole be idles) =
      one_idle own other one two idle idles
  one_write Refused event payload own other one two due dues (refuses_whole so idle)
      (writes_it rest next not is does gone at) = absurd (not so)
  one_write Refused event payload own other one two due dues (writes_it rest next not is does gone at)
      (refuses_whole so idle) = absurd (not so)
  one_write Refused event payload own other one two due dues (writes_it rest next not is does gone at)
      (writes_it others last still be did went stands) =
      let here = subst (DueFrom script before.wish before.events) is due in
      let there = subst (DueFrom script before.wish before.events) be dues in
      let same : rest ≡ others =
      same_own script before.wish before.seen before.frames (before.events ++ acts event ∷ []) (new_frame payload) rest
      others next last (kept_on script before.wish before.seen before.events (acts event) here.0 whole.kept) does did
      here.1 there.1
      (subst (λ (l : List RingEvent). HasGone (situation_after script before.wish l) before.frames next)
      (after_push event own rest is) gone)
      (subst (λ (l : List RingEvent). HasGone (situation_after script before.wish l) before.frames last)
      (after_push event other others be) went) in
      at
      ∙ ap (λ (l : List RingEvent). with_own before l before.frames)
      (is ∙ ap (λ (l : List RingEvent). acts event ∷ l) same ∙ sym be)
      ∙ sym stands

  whole_write : (Refused : Type 0) (event : HistoryEvent) (payload : List ℕ) (own : List RingEvent) (after : CpuState)
      → DueFrom script before.wish before.events own
      → WritesWhole script Refused event payload before own after
      → IsWhole script.start after
  whole_write Refused event payload own after due (refuses_whole so idle) = whole_idle own after idle
  whole_write Refused event payload own after due (writes_it rest next not is does gone at) =
      subst (IsWhole script.start) (sym at)
      record {
        kept = kept_all script before.wish before.seen before.events own due whole.kept;
        at_rest = whole.at_rest;
        still = whole.still;
      }

  -- `t`
  one_take : (own other : List RingEvent) (one two : CpuState)
      → TakesPage script before own one
      → TakesPage script before other two
      → one ≡ two
  one_take own other one two first second =
      one_reads script first.count second.count before first.between second.between own other one two whole.still
      first.reads first.ends second.reads second.ends

  whole_take : (own : List RingEvent) (after : CpuState)
      → DueFrom script before.wish before.events own
      → TakesPage script before own after
      → IsWhole script.start after
  whole_take own after due part =
      let (kept, none, still) =
      takes_kept script part.count before part.between after own part.reads part.ends due whole.kept whole.still in
      record { kept = kept; at_rest = none; still = still }

  -- `a`
  whole_ask : (own : List RingEvent) (after : CpuState) → Asks before own after → IsWhole script.start after
  whole_ask own after part = subst (IsWhole script.start) (sym part.1)
      record {
        kept = record {
          seen_le = whole.kept.seen_le;
          wish_le = let low = whole.kept.seen_le in omega arith;
          tail_only = whole.kept.tail_only;
        };
        at_rest = whole.at_rest;
        still = whole.still;
      }

  -- a line of this CPU, or of another one
  one_at : {Part Parts : Type 0} (cpu at : ℕ) (own other : List RingEvent) (one two : CpuState)
      → (Part → Parts → one ≡ two)
      → ((at ≡ cpu) × Part) ⊎ ((at ≢ cpu) × IsIdle before own one)
      → ((at ≡ cpu) × Parts) ⊎ ((at ≢ cpu) × IsIdle before other two)
      → one ≡ two
  one_at cpu at own other one two same (inl (here, part)) (inl (there, parts)) = same part parts
  one_at cpu at own other one two same (inl (here, part)) (inr (away, idle)) = absurd (away here)
  one_at cpu at own other one two same (inr (away, idle)) (inl (here, part)) = absurd (away here)
  one_at cpu at own other one two same (inr (away, idle)) (inr (afar, idles)) =
      one_idle own other one two idle idles

  whole_at : {Part : Type 0} (cpu at : ℕ) (own : List RingEvent) (after : CpuState)
      → (Part → IsWhole script.start after)
      → ((at ≡ cpu) × Part) ⊎ ((at ≢ cpu) × IsIdle before own after)
      → IsWhole script.start after
  whole_at cpu at own after kept (inl (here, part)) = kept part
  whole_at cpu at own after kept (inr (away, idle)) = whole_idle own after idle

  -- what a line adds is one thing
  one_adds : (cpu : ℕ) (command : Command) (own other : List RingEvent) (one two : CpuState)
      → IsWholeLine command
      → DueFrom script before.wish before.events own
      → DueFrom script before.wish before.events other
      → Adds script cpu command before own one
      → Adds script cpu command before other two
      → one ≡ two
  one_adds cpu (begin_frame at moment payload) own other one two line due dues first second =
      one_at cpu at own other one two (one_begin _ _ _ own other one two) first second
  one_adds cpu (step_frame at count) own other one two line due dues first second = absurd line
  one_adds cpu (finish_frame at) own other one two line due dues first second =
      one_at cpu at own other one two (one_finish own other one two due dues) first second
  one_adds cpu (write at moment payload) own other one two line due dues first second =
      one_at cpu at own other one two (one_write _ _ _ own other one two due dues) first second
  one_adds cpu (close at) own other one two line due dues first second =
      one_at cpu at own other one two (one_write _ _ _ own other one two due dues) first second
  one_adds cpu (step_reader at count) own other one two line due dues first second = absurd line
  one_adds cpu (take_page at) own other one two line due dues first second =
      one_at cpu at own other one two (one_take own other one two) first second
  one_adds cpu (wish at) own other one two line due dues first second =
      one_at cpu at own other one two (λ part parts. part.1 ∙ sym parts.1) first second
  one_adds cpu (deliver collector at fill) own other one two line due dues first second =
      one_idle own other one two first second

  whole_adds : (cpu : ℕ) (command : Command) (own : List RingEvent) (after : CpuState)
      → IsWholeLine command
      → DueFrom script before.wish before.events own
      → Adds script cpu command before own after
      → IsWhole script.start after
  whole_adds cpu (begin_frame at moment payload) own after line due adds =
      whole_at cpu at own after (whole_begin _ _ _ own after due) adds
  whole_adds cpu (step_frame at count) own after line due adds = absurd line
  whole_adds cpu (finish_frame at) own after line due adds = whole_at cpu at own after (whole_finish own after due) adds
  whole_adds cpu (write at moment payload) own after line due adds =
      whole_at cpu at own after (whole_write _ _ _ own after due) adds
  whole_adds cpu (close at) own after line due adds = whole_at cpu at own after (whole_write _ _ _ own after due) adds
  whole_adds cpu (step_reader at count) own after line due adds = absurd line
  whole_adds cpu (take_page at) own after line due adds = whole_at cpu at own after (whole_take own after due) adds
  whole_adds cpu (wish at) own after line due adds = whole_at cpu at own after (whole_ask own after) adds
  whole_adds cpu (deliver collector at fill) own after line due adds = whole_idle own after adds

  one_line : (cpu : ℕ) (command : Command) (one two : CpuState)
      → IsWholeLine command
      → IsLine script cpu command before one
      → IsLine script cpu command before two
      → one ≡ two
  one_line cpu command one two line first second =
      one_adds cpu command first.own second.own one two line
      (all_due script before.wish before.events first.own first.due)
      (all_due script before.wish before.events second.own second.due) first.adds second.adds

  whole_on : (cpu : ℕ) (command : Command) (after : CpuState)
      → IsWholeLine command
      → IsLine script cpu command before after
      → IsWhole script.start after
  whole_on cpu command after line is =
      whole_adds cpu command is.own after line (all_due script before.wish before.events is.own is.due) is.adds

-- ---- all lines

-- before the first line
whole_new : (start : ℕ) → IsWhole start (new_cpu start)
whole_new start = record {
  kept = record {
    seen_le = omega arith;
    wish_le = omega arith;
    tail_only = λ none. absurd (let f : false ≡ true = none in cc);
  };
  at_rest = refl;
  still = tt;
}

module _ (script : Script) (cpu : ℕ) (lines : HasWholeLines script) (one other : ℕ → CpuState)
    (first : IsAccount script cpu one) (second : IsAccount script cpu other) where
  -- after each line the two are one
  same_after : (k : ℕ) → k ≤ length script.commands → (one k ≡ other k) × IsWhole script.start (one k)
  same_after zero le = (
    first.first ∙ sym second.first,
    subst (IsWhole script.start) (sym first.first) (whole_new script.start),
  )
  same_after (suc k) le =
      let (same, whole) = same_after k (omega arith) in
      let lt : k < length script.commands = omega arith in
      let line : ℕ × Command = get_or script.commands k (0, wish 0) in
      let at = slice_get-get_or script.commands k (0, wish 0) lt in
      let here = first.lines k line.0 line.1 at in
      let there = second.lines k line.0 line.1 at in
      let is_whole = lines k (0, wish 0) lt in (
        one_line script (one k) whole cpu line.1 (one (suc k)) (other (suc k)) is_whole here
            (subst (λ (state : CpuState). IsLine script cpu line.1 state (other (suc k))) (sym same) there),
        whole_on script (one k) whole cpu line.1 (one (suc k)) is_whole here,
      )

pub one_account : OneAccount
one_account script cpu one other within lines first second k le =
    (same_after script cpu lines one other first second k le).0
