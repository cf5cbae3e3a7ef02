-- The slot of the frame on top, which is lent.
use Rattle.std.proofs.Common.{◌≡◌, ℕ, ◌+◌, ◌-◌, ◌<◌, ◌≤◌, eqb, List, [], ◌∷◌, length, Some, sym, ap, ◌∙◌, subst, arith}
use Rattle.std.proofs.Common.{drop, length-drop, length-take-le}
use Rattle.std.specs.Prelude.{slice_set, slice_range}
use Rattle.std.specs.List.{slice_get}
use Rattle.std.proofs.lemmas.Bool.{cond-true, cond-false, ne_eqb, eq-eqb}
use Rattle.std.proofs.lemmas.Option.{slice_get_within, get_or_from_slice_get}
use Rattle.trace_model.specs.History.{HistoryEvent, reserved_records}
use Rattle.trace_model.specs.Reading.{IsPlaceIn}
use Rattle.trace_model.proofs.words.Overwritten.{place-within}
use Rattle.trace_model.specs.Packing.{opens_of, is_wished}
use Rattle.page_image.specs.Contents.{Contents}
use Rattle.page_image.specs.Lending.{with_payload}
use Rattle.nested_writer.specs.declared.frame.Slot.{Slot}
use Rattle.nested_writer.specs.declared.frame.Frame.{Frame}
use Rattle.nested_writer.specs.Stack.{Stack, tail_fill, kind_of}
use Rattle.nested_writer.specs.Calls.{IsTopSlot}
use Rattle.nested_writer.specs.Lending.{with_slot}
use Rattle.nested_writer.proofs.Ending.{open_page_is}
use Rattle.nested_writer.specs.IsStack.{IsOpenPage, is_tail, is_older, IsUnwritten, StandsAt, FramesStand, IsStack}

-- its record is in an open page
pub slot_lies : (start : ℕ) (h : List HistoryEvent) (s : Stack) (slot : Slot) → IsTopSlot s.frames slot
    → IsStack start h s → (len : ℕ) × IsUnwritten s.done s.older s.tail (reserved_records h) len slot
slot_lies start h s slot is k = by_frames s.frames is k.holds.frames_are
  where
    by_frames : (frames : List Frame) → IsTopSlot frames slot
        → FramesStand s.size s.done s.older s.tail (opens_of h) (reserved_records h) (is_wished h) frames
        → (len : ℕ) × IsUnwritten s.done s.older s.tail (reserved_records h) len slot
    by_frames [] none st = absurd none
    by_frames (top ∷ below) has st =
        let (moment, len, kind, lies) =
        subst
        (StandsAt s.size s.done s.older s.tail (opens_of h) (reserved_records h) (is_wished h)
        (kind_of top.purpose)) has st.1 in
        (len, lies)

-- a page that isn't the tail is an older one, at the place that its fill states
pub record IsOlder (s : Stack) (slot : Slot) (page : Contents) : Type 0 where
  pub from : s.done ≤ slot.fill
  pub inside : slot.fill - s.done < length s.older
  pub at : slice_get s.older (slot.fill - s.done) ≡ Some page

pub older_page : (s : Stack) (slot : Slot) (page : Contents) → (slot.fill ≡ tail_fill s → ⊥)
    → IsOpenPage s.done s.older s.tail slot.fill page → IsOlder s slot page
older_page s slot page other (is_tail at is) = absurd (other at)
older_page s slot page other (is_older j at is) = let same : slot.fill - s.done ≡ j = omega arith in
    let low = slice_get_within s.older j page is in
    record {
      from = omega arith;
      inside = omega arith;
      at = ap (slice_get s.older) same ∙ is;
    }

pub in_tail : (s : Stack) (slot : Slot) (part : List ℕ) → slot.fill ≡ s.tail.fill
    → record s { tail = with_payload s.tail slot.place.start part } ≡ with_slot s slot part
in_tail s slot part same = sym (cond-true (eqb slot.fill s.tail.fill) _ _ (eq-eqb slot.fill s.tail.fill same))

pub in_older : (s : Stack) (slot : Slot) (part : List ℕ) (page : Contents) → (slot.fill ≡ s.tail.fill → ⊥)
    → slice_get s.older (slot.fill - s.done) ≡ Some page
    → record s { older = slice_set s.older (slot.fill - s.done) (with_payload page slot.place.start part) }
    ≡ with_slot s slot part
in_older s slot part page other at =
    ap
    (λ (p : Contents). let t : Stack =
    record s { older = slice_set s.older (slot.fill - s.done) (with_payload p slot.place.start part) } in
    t) (sym (get_or_from_slice_get s.older (slot.fill - s.done) page s.tail at))
    ∙ sym (cond-false (eqb slot.fill s.tail.fill) _ _ (ne_eqb slot.fill s.tail.fill other))

-- what is there is as long as the slot
pub lent_len : (start : ℕ) (h : List HistoryEvent) (s : Stack) (slot : Slot) (page : Contents) → IsTopSlot s.frames slot
    → IsOpenPage s.done s.older s.tail slot.fill page → IsStack start h s
    → length (slice_range page.bytes slot.place.start (slot.place.start + slot.place.len)) ≡ slot.place.len
lent_len start h s slot page is there k =
    let (len, lies) = slot_lies start h s slot is k in
    let same : lies.page ≡ page = open_page_is s.done s.older s.tail slot.fill lies.page page lies.open_page there in
    let within =
    place-within page.bytes slot.place.start slot.place.len
    (subst (λ (p : Contents). IsPlaceIn p.bytes slot.place.start slot.place.len) same lies.place.place) in
    let behind = length-drop slot.place.start page.bytes in
    let long =
    length-take-le (slot.place.start + slot.place.len - slot.place.start) (drop slot.place.start page.bytes)
    (omega arith) in
    omega arith
