-- The bytes in the slots of frames that have reserved: each step keeps them, and a slot is reserved with zeros.
use Rattle.std.proofs.Common.{◌≡◌, ℕ, ◌+◌, ◌-◌, ◌≤◌, max, ◌^◌, ltb, Bool, true, false, List, [], ◌∷◌, ◌++◌, length}
use Rattle.std.proofs.Common.{take, drop, replicate, Some, inl, inr, refl, sym, ap, ◌∙◌, subst, arith, rules}
use Rattle.std.proofs.Common.{length-append, append_assoc}
use Rattle.std.specs.Prelude.{Result, Ok, Err}
use Rattle.std.specs.List.{slice_get}
use Rattle.std.proofs.lemmas.Bool.{cond_both}
use Rattle.std.proofs.lemmas.List.{same_lists, places, take_all, drop_at, append-nil, length_push, length-replicate}
use Rattle.trace_model.specs.Words.{Word, data_word, time_extend, bytes_of_word, joined, encoding, slot_len}
use Rattle.trace_model.specs.Overwriting.{bytes_at}
use Rattle.trace_model.specs.History.{HistoryEvent, Reservation, reserve, reserved_records}
use Rattle.trace_model.specs.Packing.{opens_of, is_wished}
use Rattle.trace_model.proofs.collections.Elements.{get_in_front, get_behind}
use Rattle.trace_model.proofs.words.Appended.{data_word-IsData, data_word-payload}
use Rattle.trace_model.proofs.words.Overwritten.{head_of, bytes_of_word-data, place-within}
use Rattle.page_image.specs.Contents.{Contents, is_blank}
use Rattle.record_words.specs.declared.put.Place.{Place}
use Rattle.nested_writer.specs.declared.fault.WriteFault.{WriteFault}
use Rattle.nested_writer.specs.declared.fault.WriteFault.TheVariants.{TooDeep, TooLong, LateMoment, Crowded, Worn}
use Rattle.nested_writer.specs.declared.fault.WriteFault.TheVariants.{NoFrame, NotReserved}
use Rattle.nested_writer.specs.declared.stack.allot.Allot.{Allot}
use Rattle.nested_writer.specs.declared.stack.allot.Allot.TheVariants.{Fits, NeedsPage}
use Rattle.nested_writer.specs.declared.frame.Slot.{Slot}
use Rattle.nested_writer.specs.declared.frame.Purpose.{Purpose}
use Rattle.nested_writer.specs.declared.frame.Purpose.TheVariants.{Record, Close}
use Rattle.nested_writer.specs.declared.frame.Progress.{Progress}
use Rattle.nested_writer.specs.declared.frame.Progress.TheVariants.{Waiting, Through, Reserved, Left}
use Rattle.nested_writer.specs.declared.frame.Frame.{Frame}
use Rattle.nested_writer.specs.Stack.{Stack, opened, tail_fill, next_number, blank_page, kind_of}
use Rattle.nested_writer.specs.Calls.{with_frame, with_progress, with_tail, frames_after_leave, HasLeft, HasNoSlot}
use Rattle.nested_writer.specs.Calls.{IsAtBottom, LacksSlot, IsTopSlot, ReservesRecord}
use Rattle.nested_writer.specs.Allotted.{HasEvents, HasFit, IsAllotted}
use Rattle.nested_writer.specs.Answered.{WantsFill, IsAllotAnswer}
use Rattle.nested_writer.specs.Ends.{IsEnd}
use Rattle.nested_writer.specs.IsStack.{IsOpenPage, is_tail, is_older, IsUnwritten, StandsAt, FramesStand, IsStack}
use Rattle.nested_writer.specs.Next.{below_top}
use Rattle.ring_frames.specs.Value.{FramesValue}
use Rattle.ring_frames.specs.Answers.{bytes_in, HoldSlot, KeepsPayloads, EndsPayload}
use Rattle.ring_frames.proofs.Ended.{page_found}

-- ---- the same pages

-- every place has the same bytes in both
abbrev pub SameBytes : Stack → Stack → Type 0
SameBytes old new = (slot : Slot) → bytes_in old slot ≡ bytes_in new slot

pub other_frames : (old new : Stack) (frames : List Frame) → new ≡ record old { frames = frames } → SameBytes old new
other_frames old new frames is slot = sym (ap (λ (s : Stack). bytes_in s slot) is)

-- each slot that one of the old frames has reserved, one of the new ones has
abbrev StayHeld : List Frame → List Frame → Type 0
StayHeld old new = (slot : Slot) → HoldSlot old slot → HoldSlot new slot

pub same_stack : (old new : Stack) → new ≡ old → KeepsPayloads old new
same_stack old new is slot held =
    (subst (λ (s : Stack). HoldSlot s.frames slot) (sym is) held, sym (ap (λ (s : Stack). bytes_in s slot) is))

pub kept_same : (old new : Stack) → SameBytes old new → StayHeld old.frames new.frames → KeepsPayloads old new
kept_same old new same stay slot held = (stay slot held, same slot)

pub kept_then : (old mid new : Stack) → KeepsPayloads old mid → KeepsPayloads mid new → KeepsPayloads old new
kept_then old mid new first then slot held =
    let (there, same) = first slot held in
    let (still, more) = then slot there in
    (still, same ∙ more)

-- of a value whose view is that one
pub kept_called : {v x : FramesValue} → v ≡ x → (after : Stack) → KeepsPayloads v.stack after
    → KeepsPayloads x.stack after
kept_called view_is after kept = subst (λ (y : FramesValue). KeepsPayloads y.stack after) view_is kept

pub pushed_kept : (old new : Stack) (f : Frame) → new ≡ with_frame old f → KeepsPayloads old new
pushed_kept old new f is =
    kept_same old new (other_frames old new _ is)
    (λ slot held. subst (λ (s : Stack). HoldSlot s.frames slot) (sym is) (inr held))

-- ---- frames that go on or leave

no_slot : (progress : Progress) → HasNoSlot progress → (slot : Slot) → progress ≡ Reserved slot → ⊥
no_slot (Waiting noted) none slot is = cc
no_slot (Through noted) none slot is = cc
no_slot (Reserved other) none slot is = none
no_slot (Left noted) none slot is = cc

-- what frames below a top that has reserved none have reserved
went_on : (old : List Frame) (top : Frame) (below new : List Frame) → old ≡ top ∷ below → HasNoSlot top.progress
    → StayHeld below new → StayHeld old new
went_on old top below new is none stay slot held = by_top (subst (λ (fs : List Frame). HoldSlot fs slot) is held)
  where
    by_top : HoldSlot (top ∷ below) slot → HoldSlot new slot
    by_top (inl has) = absurd (no_slot top.progress none slot has)
    by_top (inr there) = stay slot there

left_held : (top : Frame) (below : List Frame) → StayHeld below (frames_after_leave top below)
left_held top [] slot none = absurd none
left_held top (next ∷ below) slot there = there

pub below_held : (frames : List Frame) (slot : Slot) → HoldSlot (below_top frames) slot → HoldSlot frames slot
below_held [] slot none = none
below_held (top ∷ below) slot there = inr there

pub ended_same : (old new : Stack) → IsEnd old old.frames new → SameBytes old new
ended_same old new is = by_frames old.frames is
  where
    by_frames : (frames : List Frame) → IsEnd old frames new → SameBytes old new
    by_frames [] end = absurd end
    by_frames (top ∷ below) end = other_frames old new _ end.0

-- what the frames below have reserved stays reserved as the one on top leaves
ended_below : (old new : Stack) (frames : List Frame) → IsEnd old frames new → StayHeld (below_top frames) new.frames
ended_below old new [] end slot there = absurd end
ended_below old new (top ∷ below) end slot there =
    subst (λ (s : Stack). HoldSlot s.frames slot) (sym end.0) (left_held top below slot there)

pub ended_payload : (old new : Stack) → IsEnd old old.frames new → EndsPayload old new
ended_payload old new is slot held = (ended_same old new is slot, ended_below old new old.frames is slot)

pub same_payload : (old new : Stack) → new ≡ old → EndsPayload old new
same_payload old new is slot held = (
  sym (ap (λ (s : Stack). bytes_in s slot) is),
  λ there. subst (λ (s : Stack). HoldSlot s.frames slot) (sym is) (below_held old.frames slot there),
)

-- one leaves that has reserved none
pub ended_kept : (old new : Stack) → IsEnd old old.frames new → ((slot : Slot) → IsTopSlot old.frames slot → ⊥)
    → KeepsPayloads old new
ended_kept old new is lacks slot held =
    (ended_below old new old.frames is slot (not_on_top old.frames held lacks), ended_same old new is slot)
  where
    not_on_top : (frames : List Frame) → HoldSlot frames slot → ((other : Slot) → IsTopSlot frames other → ⊥)
        → HoldSlot (below_top frames) slot
    not_on_top [] none lacks = none
    not_on_top (top ∷ below) (inl has) lacks = absurd (lacks slot has)
    not_on_top (top ∷ below) (inr there) lacks = there

-- ---- if nothing is reserved

-- no frame is on the stack
pub none_held : (old new : Stack) → old.frames ≡ [] → KeepsPayloads old new
none_held old new none slot held = absurd (subst (λ (fs : List Frame). HoldSlot fs slot) none held)

-- the frame on top is a close frame that is through
pub through_lacks : (s after : Stack) (top : Frame) (below : List Frame) (noted : ℕ)
    → after ≡ with_progress s top below (Through noted) → (slot : Slot) → IsTopSlot after.frames slot → ⊥
through_lacks s after top below noted is slot at =
    no_slot (Through noted) tt slot (subst (λ (t : Stack). IsTopSlot t.frames slot) is at)

-- the bottom frame has left
pub bottom_held : (old new : Stack) → IsAtBottom old.frames → KeepsPayloads old new
bottom_held old new bottom slot held = absurd (by_frames old.frames bottom held)
  where
    left_not : (progress : Progress) → HasLeft progress → progress ≡ Reserved slot → ⊥
    left_not (Waiting noted) left is = left
    left_not (Through noted) left is = left
    left_not (Reserved other) left is = left
    left_not (Left noted) left is = cc

    by_frames : (frames : List Frame) → IsAtBottom frames → HoldSlot frames slot → ⊥
    by_frames [] at held = held
    by_frames (f ∷ []) at (inl is) = left_not f.progress at is
    by_frames (f ∷ []) at (inr none) = none
    by_frames (f ∷ next ∷ below) at held = at

-- ---- where slots are

-- A slot is in the page of an open fill.
record LiesIn (s : Stack) (slot : Slot) : Type 0 where
  page : Contents
  open_page : IsOpenPage s.done s.older s.tail slot.fill page
  inside : slot.place.start + slot.place.len ≤ length page.bytes

lies_in : (s : Stack) (slot : Slot) (records : List Reservation) (len : ℕ)
    → IsUnwritten s.done s.older s.tail records len slot → LiesIn s slot
lies_in s slot records len lies =
    record {
      page = lies.page;
      open_page = lies.open_page;
      inside = place-within lies.page.bytes slot.place.start slot.place.len lies.place.place;
    }

-- its record is in an open page
pub held_open : (start : ℕ) (h : List HistoryEvent) (s : Stack) (slot : Slot) → IsStack start h s
    → HoldSlot s.frames slot → (len : ℕ) × IsUnwritten s.done s.older s.tail (reserved_records h) len slot
held_open start h s slot k held = by_frames s.frames held k.holds.frames_are
  where
    by_frames : (frames : List Frame) → HoldSlot frames slot
        → FramesStand s.size s.done s.older s.tail (opens_of h) (reserved_records h) (is_wished h) frames
        → (len : ℕ) × IsUnwritten s.done s.older s.tail (reserved_records h) len slot
    by_frames [] none st = absurd none
    by_frames (f ∷ below) (inl is) st =
        let (moment, len, kind, lies) =
        subst
        (StandsAt s.size s.done s.older s.tail (opens_of h) (reserved_records h) (is_wished h)
        (kind_of f.purpose)) is st.1 in
        (len, lies)
    by_frames (f ∷ below) (inr there) st = by_frames below there st.4

slot_lies : (start : ℕ) (h : List HistoryEvent) (s : Stack) (slot : Slot) → IsStack start h s → HoldSlot s.frames slot
    → LiesIn s slot
slot_lies start h s slot k held = let (len, lies) = held_open start h s slot k held in
    lies_in s slot (reserved_records h) len lies

-- the bytes in a slot, by its page
pub by_page : (s : Stack) (slot : Slot) (page : Contents) → s.tail.fill ≡ tail_fill s
    → IsOpenPage s.done s.older s.tail slot.fill page
    → bytes_in s slot ≡ bytes_at slot.place.start slot.place.len page.bytes
by_page s slot page fill there =
    ap (λ (p : Contents). bytes_at slot.place.start slot.place.len p.bytes) (page_found s slot.fill page fill there)

-- ---- a record more

appended : (a b : List ℕ) (start len : ℕ) → start + len ≤ length a → bytes_at start len a ≡ bytes_at start len (a ++ b)
appended a b start len low = same_lists _ _ (search (rules, places)) (λ k d h. grind (arith, places))

-- the tail has more bytes after its own
pub grown : (start : ℕ) (h : List HistoryEvent) (s after : Stack) (more : List ℕ) → IsStack start h s
    → after.done ≡ s.done → after.older ≡ s.older → after.tail.fill ≡ tail_fill after
    → after.tail.bytes ≡ s.tail.bytes ++ more → StayHeld s.frames after.frames → KeepsPayloads s after
grown start h s after more k done older fill bytes stay slot held =
    (stay slot held, kept lies.page lies.open_page lies.inside)
  where
    lies : LiesIn s slot
    lies = slot_lies start h s slot k held

    kept : (page : Contents) → IsOpenPage s.done s.older s.tail slot.fill page
        → slot.place.start + slot.place.len ≤ length page.bytes → bytes_in s slot ≡ bytes_in after slot
    kept page (is_tail at is) low =
        by_page s slot page k.holds.tail_is.fill_is (is_tail at is)
        ∙ ap (λ (p : Contents). bytes_at slot.place.start slot.place.len p.bytes) is
        ∙ appended s.tail.bytes more slot.place.start slot.place.len
        (subst (λ (p : Contents). slot.place.start + slot.place.len ≤ length p.bytes) is low)
        ∙ ap (bytes_at slot.place.start slot.place.len) (sym bytes)
        ∙ sym (by_page after slot after.tail fill (is_tail (at ∙ (λ i. sym done i + length (sym older i))) refl))
    kept page (is_older j at is) low =
        by_page s slot page k.holds.tail_is.fill_is (is_older j at is)
        ∙ sym (by_page after slot page fill
        (is_older j (at ∙ ap (λ (d : ℕ). d + j) (sym done))
        (ap (λ (ps : List Contents). slice_get ps j) older ∙ is)))

record_kept : (start : ℕ) (h : List HistoryEvent) (s after : Stack) (top : Frame) (below : List Frame) (moment len : ℕ)
    (place : Place) → IsStack start h s → s.frames ≡ top ∷ below → HasNoSlot top.progress
    → ReservesRecord s top below moment len place after → HasEvents s (reserve ∷ []) after → KeepsPayloads s after
record_kept start h s after top below moment len place k at none is has_events =
    grown start h s after _ k (ap (λ (t : Stack). t.done) is.others) (ap (λ (t : Stack). t.older) is.others)
    (has_events start h k).holds.tail_is.fill_is is.bytes
    (went_on s.frames top below after.frames at none
    (λ slot there. subst (λ (t : Stack). HoldSlot t.frames slot) (sym is.others) (inr there)))

wants_none : (s : Stack) (h : List HistoryEvent) (purpose : Purpose) (progress : Progress)
    → WantsFill s h purpose progress → HasNoSlot progress
wants_none s h purpose (Waiting noted) wants = tt
wants_none s h purpose (Through noted) wants = tt
wants_none s h (Record moment len) (Reserved slot) wants = wants
wants_none s h Close (Reserved slot) wants = wants
wants_none s h purpose (Left noted) wants = tt

-- a place is answered for what fits, whichever it is
pub fits_anywhere : (s : Stack) (h : List HistoryEvent) (frames : List Frame) (one other : Place)
    → IsAllotAnswer s h frames (Ok (Fits one)) → IsAllotAnswer s h frames (Ok (Fits other))
fits_anywhere s h [] one other none = absurd (not_both none)
  where
    not_both : ◌≡◌ {A = Result Allot WriteFault} (Ok (Fits one)) (Err NoFrame) → ⊥
    not_both e = cc
fits_anywhere s h (top ∷ below) one other fits = fits

-- whatever is allotted
pub allotted_kept : (start : ℕ) (h : List HistoryEvent) (s after : Stack) (result : Result Allot WriteFault)
    → IsStack start h s → IsAllotAnswer s h s.frames result → IsAllotted s s.frames result after → KeepsPayloads s after
allotted_kept start h s after result k = by_frames s.frames refl
  where
    framed : (top : Frame) (below frames : List Frame) → s.frames ≡ top ∷ below → HasNoSlot top.progress
        → StayHeld below frames → after ≡ record s { frames = frames } → KeepsPayloads s after
    framed top below frames at none stay same =
        kept_same s after (other_frames s after frames same)
        (went_on s.frames top below after.frames at none
        (λ slot there. subst (λ (t : Stack). HoldSlot t.frames slot) (sym same) (stay slot there)))

    by_fit : (top : Frame) (below : List Frame) (place : Place) (purpose : Purpose) (progress : Progress)
        → s.frames ≡ top ∷ below → top.progress ≡ progress → HasFit s top below purpose progress place after
        → KeepsPayloads s after
    by_fit top below place (Record moment len) (Waiting noted) at now fit =
        record_kept start h s after top below moment len place k at (subst HasNoSlot (sym now) tt) fit.0 fit.1
    by_fit top below place Close (Waiting noted) at now fit =
        framed top below _ at (subst HasNoSlot (sym now) tt) (λ slot there. inr there) fit.1
    by_fit top below place (Record moment len) (Through noted) at now fit = absurd fit
    by_fit top below place Close (Through noted) at now fit =
        framed top below _ at (subst HasNoSlot (sym now) tt) (λ slot there. inr there) fit.1
    by_fit top below place (Record moment len) (Reserved slot) at now fit = same_stack s after fit.0
    by_fit top below place Close (Reserved slot) at now fit = same_stack s after fit.0
    by_fit top below place (Record moment len) (Left noted) at now fit = absurd fit
    by_fit top below place Close (Left noted) at now fit = absurd fit

    by_result : (top : Frame) (below : List Frame) (result : Result Allot WriteFault) → s.frames ≡ top ∷ below
        → IsAllotAnswer s h (top ∷ below) result → IsAllotted s (top ∷ below) result after → KeepsPayloads s after
    by_result top below (Ok (Fits place)) at answered fit = by_fit top below place top.purpose top.progress at refl fit
    by_result top below (Ok NeedsPage) at answered (same, has_events) =
        framed top below _ at (wants_none s h top.purpose top.progress answered.0) (λ slot there. inr there) same
    by_result top below (Err Crowded) at answered (same, has_events) =
        framed top below _ at (wants_none s h top.purpose top.progress answered.0) (left_held top below) same
    by_result top below (Err Worn) at answered (same, has_events) =
        framed top below _ at (wants_none s h top.purpose top.progress answered.0) (left_held top below) same
    by_result top below (Err NotReserved) at answered same = same_stack s after same
    by_result top below (Err NoFrame) at answered none = absurd none
    by_result top below (Err TooDeep) at answered none = absurd none
    by_result top below (Err TooLong) at answered none = absurd none
    by_result top below (Err LateMoment) at answered none = absurd none

    by_frames : (frames : List Frame) → s.frames ≡ frames → IsAllotAnswer s h frames result
        → IsAllotted s frames result after → KeepsPayloads s after
    by_frames [] at answered (refused, same) = same_stack s after same
    by_frames (top ∷ below) at answered allotted = by_result top below result at answered allotted

-- ---- a page more

module _ (start : ℕ) (h : List HistoryEvent) (s : Stack) (k : IsStack start h s) where
  abbrev added : Stack
  added = with_tail s (blank_page s.size (next_number s) (opened s))

  added_fill : added.tail.fill ≡ tail_fill added
  added_fill = let long = length_push s.older s.tail in omega arith

  still_open : (fill : ℕ) (page : Contents) → IsOpenPage s.done s.older s.tail fill page
      → IsOpenPage added.done added.older added.tail fill page
  still_open fill page (is_tail at same) =
      let last : slice_get (s.older ++ s.tail ∷ []) (length s.older) ≡ Some s.tail =
      ap (slice_get (s.older ++ s.tail ∷ [])) (let e : length s.older ≡ length s.older + 0 = omega arith in e)
      ∙ get_behind s.older (s.tail ∷ []) 0 in
      is_older (length s.older) at (last ∙ ap Some (sym same))
  still_open fill page (is_older j at there) = is_older j at (get_in_front s.older (s.tail ∷ []) j page there)

  pub added_kept : (after : Stack) → after ≡ added → KeepsPayloads s after
  added_kept after is = kept_then s added after stays (same_stack added after is)
    where
      stays : KeepsPayloads s added
      stays slot held =
          let lies = slot_lies start h s slot k held in (
            held,
            by_page s slot lies.page k.holds.tail_is.fill_is lies.open_page
                ∙ sym (by_page added slot lies.page added_fill (still_open slot.fill lies.page lies.open_page)),
          )

-- ---- zeros

-- a data word ends with its payload, and so does all that is written of a record
word_ends : (delta : ℕ) (payload : List ℕ)
    → (front : List ℕ) × (joined (data_word delta payload ∷ []) ≡ front ++ payload)
word_ends delta payload =
    let w : Word = data_word delta payload in (
      head_of w,
      append-nil (bytes_of_word w) ∙ bytes_of_word-data w (data_word-IsData delta payload)
          ∙ ap (λ (b : List ℕ). head_of w ++ b) (data_word-payload delta payload),
    )

encoding_ends : (delta : ℕ) (first : Bool) (payload : List ℕ)
    → (front : List ℕ) × (encoding delta first payload ≡ front ++ payload)
encoding_ends delta true payload = word_ends 0 payload
encoding_ends delta false payload =
    let extend : List ℕ = bytes_of_word (time_extend delta) in
    cond_both (ltb delta (2 ^ 27)) (data_word delta payload ∷ []) (time_extend delta ∷ data_word 0 payload ∷ [])
    (λ (ws : List Word). (front : List ℕ) × (joined ws ≡ front ++ payload))
    (λ short. word_ends delta payload)
    (λ long. let (front, is) = word_ends 0 payload in
    (extend ++ front, ap (λ (b : List ℕ). extend ++ b) is ∙ sym (append_assoc extend front payload)))

-- the last bytes
last_bytes : (bytes front last : List ℕ) (start len : ℕ) → bytes ≡ front ++ last → start + len ≡ length bytes
    → len ≡ length last → bytes_at start len bytes ≡ last
last_bytes bytes front last start len is end long =
    let at : length front ≡ start = omega (arith, ap length is, length-append front last) in
    ap (take len) (ap (drop start) is ∙ drop_at front last start at) ∙ take_all len last (omega (arith, long))

-- the place of a record that is put into the tail holds zeros
pub zeros_put : (start : ℕ) (h : List HistoryEvent) (s after : Stack) (top : Frame) (below : List Frame)
    (moment len : ℕ) (place : Place) (number : ℕ) → IsStack start h s
    → ReservesRecord s top below moment len place after → HasEvents s (reserve ∷ []) after
    → bytes_in after record { number = number; fill = tail_fill s; place = place } ≡ replicate place.len 0
zeros_put start h s after top below moment len place number k is has_events =
    let zeros : List ℕ = replicate (slot_len len) 0 in
    let (front, ends) = encoding_ends (max moment s.last_moment - s.last_moment) (is_blank s.tail.bytes) zeros in
    let same : tail_fill s ≡ tail_fill after =
    (λ i. sym (ap (λ (t : Stack). t.done) is.others) i + length (sym (ap (λ (t : Stack). t.older) is.others) i)) in
    let page : Contents = after.tail in
    by_page after record { number = number; fill = tail_fill s; place = place } page
    (has_events start h k).holds.tail_is.fill_is (is_tail same refl)
    ∙ last_bytes page.bytes (s.tail.bytes ++ front) zeros place.start place.len
    (is.bytes ∙ ap (λ (b : List ℕ). s.tail.bytes ++ b) ends ∙ sym (append_assoc s.tail.bytes front zeros))
    is.place_end (is.place_len ∙ sym (length-replicate (slot_len len) 0))
    ∙ ap (λ (n : ℕ). replicate n 0) (sym is.place_len)

-- so a slot that is reserved first
pub zeros_reserved : (start : ℕ) (h : List HistoryEvent) (s after : Stack) (place : Place) → IsStack start h s
    → IsAllotted s s.frames (Ok (Fits place)) after → LacksSlot s.frames → (slot : Slot) → IsTopSlot after.frames slot
    → bytes_in after slot ≡ replicate slot.place.len 0
zeros_reserved start h s after place k is lacks slot top_slot = by_frames s.frames is lacks
  where
    slot_is : (one other : Slot) → Reserved one ≡ Reserved other → one ≡ other
    slot_is one other e = cc

    top_of_these : (frames : List Frame) → after.frames ≡ frames → IsTopSlot frames slot
    top_of_these frames same = subst (λ (fs : List Frame). IsTopSlot fs slot) same top_slot

    by_fit : (top : Frame) (below : List Frame) (purpose : Purpose) (progress : Progress)
        → HasFit s top below purpose progress place after → HasNoSlot progress
        → bytes_in after slot ≡ replicate slot.place.len 0
    by_fit top below (Record moment len) (Waiting noted) fit none =
        let own : Slot = record { number = next_number s; fill = tail_fill s; place = place } in
        let same = slot_is own slot (top_of_these _ (ap (λ (t : Stack). t.frames) fit.0.others)) in
        subst (λ (z : Slot). bytes_in after z ≡ replicate z.place.len 0) same
        (zeros_put start h s after top below moment len place (next_number s) k fit.0 fit.1)
    by_fit top below Close (Waiting noted) fit none =
        absurd (no_slot (Through _) tt slot (top_of_these _ (ap (λ (t : Stack). t.frames) fit.1)))
    by_fit top below (Record moment len) (Through noted) fit none = absurd fit
    by_fit top below Close (Through noted) fit none =
        absurd (no_slot (Through _) tt slot (top_of_these _ (ap (λ (t : Stack). t.frames) fit.1)))
    by_fit top below (Record moment len) (Reserved own) fit none = absurd none
    by_fit top below Close (Reserved own) fit none = absurd none
    by_fit top below (Record moment len) (Left noted) fit none = absurd fit
    by_fit top below Close (Left noted) fit none = absurd fit

    by_frames : (frames : List Frame) → IsAllotted s frames (Ok (Fits place)) after → LacksSlot frames
        → bytes_in after slot ≡ replicate slot.place.len 0
    by_frames [] allotted none = absurd none
    by_frames (top ∷ below) fit none = by_fit top below top.purpose top.progress fit none
