-- The slots of the frames below the one on top: what is written in the top's slot leaves their bytes as they are.
use Rattle.std.proofs.Common.{◌≡◌, ◌≢◌, ℕ, ◌+◌, ◌-◌, ◌<◌, ◌≤◌, cond, eqb, List, [], ◌∷◌, length, take, inl, inr, sym}
use Rattle.std.proofs.Common.{ap, ◌∙◌, subst, arith, rules}
use Rattle.std.specs.Prelude.{IfSome, slice_index_or}
use Rattle.std.proofs.lemmas.Bool.{cond-true, cond-false, eq-eqb, ne_eqb}
use Rattle.std.proofs.lemmas.List.{same_lists, places, get_or-set_other}
use Rattle.std.proofs.lemmas.Option.{slice_get_within}
use mathlib.Core.Logic.{dite}
use native.Mathlib.Decide.{ℕ_discrete}
use Rattle.trace_model.specs.Overwriting.{overwritten, bytes_at, IsPlaceOf}
use Rattle.trace_model.specs.History.{HistoryEvent, reserved_records}
use Rattle.trace_model.specs.Packing.{opens_of, is_wished}
use Rattle.trace_model.specs.Frames.{number_of}
use Rattle.trace_model.proofs.words.Overwritten.{place-within}
use Rattle.trace_model.proofs.words.Places.{same_place, earlier, later, places-apart}
use Rattle.page_image.specs.Contents.{Contents}
use Rattle.page_image.specs.Lending.{with_payload}
use Rattle.nested_writer.specs.declared.frame.Slot.{Slot}
use Rattle.nested_writer.specs.declared.frame.Progress.{Progress}
use Rattle.nested_writer.specs.declared.frame.Progress.TheVariants.{Reserved}
use Rattle.nested_writer.specs.declared.frame.Frame.{Frame}
use Rattle.nested_writer.specs.Stack.{Stack, tail_fill, state_of}
use Rattle.nested_writer.specs.Calls.{IsTopSlot}
use Rattle.nested_writer.specs.Lending.{with_slot}
use Rattle.nested_writer.specs.IsStack.{IsOpenPage, is_tail, is_older, IsUnwritten, AreBefore, FramesStand, IsStack}
use Rattle.ring_frames.specs.Answers.{open_page, bytes_in, HoldSlot}
use Rattle.ring_frames.specs.Lending.{LeavesOthers}
use Rattle.ring_frames.proofs.Ended.{page_found}
use Rattle.ring_frames.proofs.Lent.{page_written}
use Rattle.ring_frames.proofs.Payloads.{held_open, by_page}

-- ---- in the same page

-- bytes before those that are overwritten stay
front_stays : (bytes : List ℕ) (start at len : ℕ) (part : List ℕ) → at + len ≤ start → start ≤ length bytes
    → bytes_at at len (take (length bytes) (overwritten bytes start part)) ≡ bytes_at at len bytes
front_stays bytes start at len part low within =
    same_lists _ _ (search (rules, places)) (λ k d h. grind (arith, places))

-- a record of a smaller number ends before the other's payload
ends_before : (bytes : List ℕ) (number start len other at size : ℕ) → IsPlaceOf bytes number start len
    → IsPlaceOf bytes other at size → other < number → at + size ≤ start
ends_before bytes number start len other at size place there low =
    elim (places-apart bytes other at size number start len there place) [
      | same_place same starts lens ↦ absurd (omega arith)
      | earlier less apart ↦ omega arith
      | later more apart ↦ absurd (omega arith)
    ]

-- ---- in another page

from_done : (done : ℕ) (older : List Contents) (tail : Contents) (fill : ℕ) (page : Contents)
    → IsOpenPage done older tail fill page → done ≤ fill
from_done done older tail fill page (is_tail at is) = omega arith
from_done done older tail fill page (is_older k at is) = omega arith

-- the page of another fill than the slot's
other_page : (s : Stack) (slot : Slot) (part : List ℕ) (fill : ℕ) (page other : Contents) → s.tail.fill ≡ tail_fill s
    → IsOpenPage s.done s.older s.tail slot.fill page → IsOpenPage s.done s.older s.tail fill other → fill ≢ slot.fill
    → open_page (with_slot s slot part) fill ≡ open_page s fill
other_page s slot part fill page other tail_fill_is (is_tail at is) (is_tail at' is') ne = absurd (ne (at' ∙ sym at))
other_page s slot part fill page other tail_fill_is (is_tail at is) (is_older k at' is') ne =
    ap (λ (t : Stack). open_page t fill) (cond-true _ _ _ (eq-eqb slot.fill s.tail.fill (at ∙ sym tail_fill_is)))
    ∙ page_found (record s { tail = with_payload s.tail slot.place.start part }) fill other tail_fill_is
    (is_older k at' is')
    ∙ sym (page_found s fill other tail_fill_is (is_older k at' is'))
other_page s slot part fill page other tail_fill_is (is_older j at is) there ne =
    let inside = slice_get_within s.older j page is in
    let low = from_done s.done s.older s.tail fill other there in
    let old : Contents = with_payload (slice_index_or s.older (slot.fill - s.done) s.tail) slot.place.start part in
    ap (λ (t : Stack). open_page t fill)
    (cond-false _ _ _ (ne_eqb slot.fill s.tail.fill (λ same. omega (arith, same, tail_fill_is))))
    ∙ ap (cond (eqb fill s.tail.fill) s.tail)
    (get_or-set_other s.older (slot.fill - s.done) (fill - s.done) old s.tail (λ same. ne (omega arith)))

-- ---- the frames below

-- a slot of one of these frames has a smaller number
number_before : (number : ℕ) (frames : List Frame) (slot : Slot) → HoldSlot frames slot → AreBefore number frames
    → slot.number < number
number_before number [] slot none before = absurd none
number_before number (f ∷ below) slot (inl is) before =
    subst (λ (p : Progress). IfSome (number_of (state_of p)) (λ n. n < number)) is before.0
number_before number (f ∷ below) slot (inr there) before = number_before number below slot there before.1

pub leaves_others : (start : ℕ) (h : List HistoryEvent) (s : Stack) (slot : Slot) → IsStack start h s
    → IsTopSlot s.frames slot → LeavesOthers s slot
leaves_others start h s slot k is top below other part stack_is held =
    dite (ℕ_discrete other.fill slot.fill) in_page elsewhere
  where
    has : top.progress ≡ Reserved slot
    has = subst (λ (fs : List Frame). IsTopSlot fs slot) stack_is is

    fill_is : s.tail.fill ≡ tail_fill s
    fill_is = k.holds.tail_is.fill_is

    lies : (len : ℕ) × IsUnwritten s.done s.older s.tail (reserved_records h) len slot
    lies = held_open start h s slot k (subst (λ (fs : List Frame). HoldSlot fs slot) (sym stack_is) (inl has))

    there : (len : ℕ) × IsUnwritten s.done s.older s.tail (reserved_records h) len other
    there = held_open start h s other k (subst (λ (fs : List Frame). HoldSlot fs other) (sym stack_is) (inr held))

    low : other.number < slot.number
    low =
        let all =
        subst (FramesStand s.size s.done s.older s.tail (opens_of h) (reserved_records h) (is_wished h)) stack_is
        k.holds.frames_are in
        number_before slot.number below other held
        (subst (λ (p : Progress). IfSome (number_of (state_of p)) (λ number. AreBefore number below)) has all.2)

    in_page : other.fill ≡ slot.fill → bytes_in (with_slot s slot part) other ≡ bytes_in s other
    in_page e =
        let page : Contents = lies.1.page in
        let same : there.1.page ≡ page =
        sym (page_found s other.fill there.1.page fill_is there.1.open_page) ∙ ap (open_page s) e
        ∙ page_found s slot.fill page fill_is lies.1.open_page in
        let place =
        subst (λ (p : Contents). IsPlaceOf p.bytes (other.number - p.first) other.place.start other.place.len) same
        there.1.place in
        let from = subst (λ (p : Contents). p.first ≤ other.number) same there.1.first_le in
        let within = place-within page.bytes slot.place.start slot.place.len lies.1.place.place in
        let apart =
        ends_before page.bytes (slot.number - page.first) slot.place.start slot.place.len
        (other.number - page.first) other.place.start other.place.len lies.1.place place
        (let less = low in omega arith) in
        ap (λ (fill : ℕ). bytes_at other.place.start other.place.len (open_page (with_slot s slot part) fill).bytes) e
        ∙ ap (bytes_at other.place.start other.place.len) (page_written s slot part page fill_is lies.1.open_page)
        ∙ front_stays page.bytes slot.place.start other.place.start other.place.len part apart (omega arith)
        ∙ ap (λ (p : Contents). bytes_at other.place.start other.place.len p.bytes) (sym same)
        ∙ sym (by_page s other there.1.page fill_is there.1.open_page)

    elsewhere : other.fill ≢ slot.fill → bytes_in (with_slot s slot part) other ≡ bytes_in s other
    elsewhere ne =
        ap (λ (p : Contents). bytes_at other.place.start other.place.len p.bytes)
        (other_page s slot part other.fill lies.1.page there.1.page fill_is lies.1.open_page there.1.open_page ne)
