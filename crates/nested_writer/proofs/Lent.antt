-- The payload of the frame on top, which is lent.
use Rattle.std.proofs.Common.{◌≡◌, ◌⊎◌, inl, ℕ, ◌+◌, ◌-◌, ◌≤◌, eqb, Bool, true, false, cond, List, [], ◌∷◌, ◌++◌}
use Rattle.std.proofs.Common.{length, take, drop, length-take-le, length-set, Option, None, Some, refl, sym, ap, ◌∙◌}
use Rattle.std.proofs.Common.{subst, arith}
use Rattle.std.specs.Prelude.{◌↔◌, slice_set, IsOk, Result, Ok, Err}
use Rattle.std.specs.List.{slice_get}
use Rattle.std.proofs.lemmas.List.{drop-take, drop_at, set-get_or, take-take, take_at}
use Rattle.std.proofs.lemmas.Option.{get_or_from_slice_get}
use Rattle.std.proofs.lemmas.Bool.{cond-true, cond-false, ne_eqb, eq-eqb}
use Rattle.trace_model.specs.History.{HistoryEvent, reserved_records}
use Rattle.trace_model.specs.Packing.{opens_of, is_wished}
use Rattle.trace_model.specs.Words.{slot_len}
use Rattle.trace_model.specs.Frames.{for_record}
use Rattle.trace_model.specs.Overwriting.{overwritten, bytes_at}
use Rattle.trace_model.proofs.words.Lengths.{slot_len_ge_four}
use Rattle.trace_model.proofs.collections.Elements.{some_is}
use Rattle.trace_model.proofs.words.Overwritten.{place-within}
use Rattle.record_words.specs.declared.put.Place.{Place}
use Rattle.page_image.specs.Contents.{Contents}
use Rattle.page_image.specs.Lending.{with_payload}
use Rattle.nested_writer.specs.declared.fault.WriteFault.{WriteFault}
use Rattle.nested_writer.specs.declared.fault.WriteFault.TheVariants.{NoFrame, NotReserved}
use Rattle.nested_writer.specs.declared.frame.Slot.{Slot}
use Rattle.nested_writer.specs.declared.frame.Purpose.{Purpose}
use Rattle.nested_writer.specs.declared.frame.Purpose.TheVariants.{Record, Close}
use Rattle.nested_writer.specs.declared.frame.Frame.{Frame}
use Rattle.nested_writer.specs.Stack.{Stack, kind_of}
use Rattle.nested_writer.specs.Calls.{HasNoSlot, LacksSlot, IsTopSlot, slot_of, top_slot}
use Rattle.nested_writer.specs.Next.{len_of, pushed_len, place_of, top_place}
use Rattle.nested_writer.specs.Lent.{Lent, lent_bytes, with_bytes}
use Rattle.nested_writer.specs.Lending.{older_with, tail_with, with_top, IsLent}
use Rattle.nested_writer.specs.IsStack.{IsOpenPage, is_tail, is_older, StandsAt, FramesStand, IsStack, IsReachedStack}
use Rattle.nested_writer.proofs.Ending.{open_page_is}
use Rattle.nested_writer.proofs.Lending.{IsOlder, slot_lies, older_page, in_tail, in_older, lent_len}
use Rattle.nested_writer.proofs.Written.{written}

-- ---- the stack with a page in place of that of the slot

top_slot_is : (frames : List Frame) (slot : Slot) → IsTopSlot frames slot → top_slot frames ≡ Some slot
top_slot_is [] slot none = absurd none
top_slot_is (top ∷ below) slot has = ap slot_of has

-- that is the tail
pub top_in_tail : (s : Stack) (slot : Slot) (payload : Lent) → IsTopSlot s.frames slot → slot.fill ≡ s.tail.fill
    → record s { tail = payload.page } ≡ with_top s payload
unfolding older_with tail_with
top_in_tail s slot payload is same =
    let at = top_slot_is s.frames slot is in
    let yes = eq-eqb slot.fill s.tail.fill same in
    let older = ap (λ (o : Option Slot). older_with s o payload) at ∙ cond-true (eqb slot.fill s.tail.fill) _ _ yes in
    let tail = ap (λ (o : Option Slot). tail_with s o payload) at ∙ cond-true (eqb slot.fill s.tail.fill) _ _ yes in
    λ i. record s { older = sym older i; tail = sym tail i }

-- or an older one
pub top_in_older : (s : Stack) (slot : Slot) (payload : Lent) → IsTopSlot s.frames slot → (slot.fill ≡ s.tail.fill → ⊥)
    → record s { older = slice_set s.older (slot.fill - s.done) payload.page } ≡ with_top s payload
unfolding older_with tail_with
top_in_older s slot payload is other =
    let at = top_slot_is s.frames slot is in
    let no = ne_eqb slot.fill s.tail.fill other in
    let older = ap (λ (o : Option Slot). older_with s o payload) at ∙ cond-false (eqb slot.fill s.tail.fill) _ _ no in
    let tail = ap (λ (o : Option Slot). tail_with s o payload) at ∙ cond-false (eqb slot.fill s.tail.fill) _ _ no in
    λ i. record s { older = sym older i; tail = sym tail i }

-- the page that is there already changes nothing
pub tail_stays : (s : Stack) (slot : Slot) (payload : Lent) → IsTopSlot s.frames slot → slot.fill ≡ s.tail.fill
    → payload.page ≡ s.tail → with_top s payload ≡ s
tail_stays s slot payload is same page = sym (top_in_tail s slot payload is same) ∙ (λ i. record s { tail = page i })

pub older_stays : (s : Stack) (slot : Slot) (payload : Lent) → IsTopSlot s.frames slot → (slot.fill ≡ s.tail.fill → ⊥)
    → slice_get s.older (slot.fill - s.done) ≡ Some payload.page → with_top s payload ≡ s
older_stays s slot payload is other at =
    let index : ℕ = slot.fill - s.done in
    let found =
    ap (slice_set s.older index) (sym (get_or_from_slice_get s.older index payload.page s.tail at))
    ∙ set-get_or s.older index s.tail in
    sym (top_in_older s slot payload is other) ∙ (λ i. record s { older = found i })

-- both borrows of one name leave the same, if each value does
pub same_ends : {N P S : Type 0} (name : N) (f g : P → S) → ((w : P) → f w ≡ g w)
    → ◌≡◌ {A = (N × (P → S)) ⊎ S} (inl (name, f)) (inl (name, g))
same_ends name f g same = λ i. inl (name, λ w. same w i)

-- ---- the slot

pub some_frame : (frames : List Frame) (slot : Slot) → IsTopSlot frames slot → frames ≡ [] → ⊥
some_frame [] slot is none = is
some_frame (top ∷ below) slot is none = absurd (let e = none in cc)

pub has_slot : (frames : List Frame) (slot : Slot) → IsTopSlot frames slot → LacksSlot frames → ⊥
has_slot [] slot is lacks = is
has_slot (top ∷ below) slot is lacks = subst HasNoSlot is lacks

-- a record frame was pushed for the length that its kind states
len_is : (purpose : Purpose) (len moment' len' : ℕ) → len_of purpose ≡ Some len
    → kind_of purpose ≡ for_record moment' len' → len ≡ len'
len_is (Record moment len'') len moment' len' is kind =
    let same : for_record moment len'' ≡ for_record moment' len' =
    kind in
    let lens : len'' ≡ len' = cc in
    sym (some_is len'' len is) ∙ lens
len_is Close len moment' len' is kind = absurd (let e = is in cc)

-- its place
pub slot_at : (frames : List Frame) (slot : Slot) → IsTopSlot frames slot → top_place frames ≡ Some slot.place
slot_at [] slot is = absurd is
slot_at (top ∷ below) slot is = ap place_of is

pub slot_place : (frames : List Frame) (slot : Slot) (place : Place) → IsTopSlot frames slot
    → top_place frames ≡ Some place → slot.place ≡ place
slot_place [] slot place none at = absurd none
slot_place (top ∷ below) slot place has at = some_is slot.place place (ap place_of (sym has) ∙ at)

-- two lists of equal length: whichever of them is taken has it
cond_long : (b : Bool) (xs ys : List Contents) → length xs ≡ length ys → length (cond b xs ys) ≡ length xs
cond_long true xs ys same = refl
cond_long false xs ys same = sym same

pub older_long : (s : Stack) (top : Option Slot) (payload : Lent) → length (older_with s top payload) ≡ length s.older
unfolding older_with
older_long s None payload = refl
older_long s (Some slot) payload =
    cond_long (eqb slot.fill s.tail.fill) s.older _ (sym (length-set s.older (slot.fill - s.done) payload.page))

no_items : (xs : List Contents) → 0 ≡ length xs → xs ≡ []
no_items [] e = refl
no_items (x ∷ xs) e = absurd (omega (arith, e))

pub older_none : (s : Stack) (top : Option Slot) (payload : Lent) → s.older ≡ [] → older_with s top payload ≡ []
older_none s top payload none = no_items (older_with s top payload) (sym (older_long s top payload ∙ ap length none))

-- ---- what is lent

-- the page of the slot, which contains its place
pub record HasPage (s : Stack) (slot : Slot) : Type 0 where
  pub page : Contents
  pub there : IsOpenPage s.done s.older s.tail slot.fill page
  pub within : slot.place.start + slot.place.len ≤ length page.bytes

module _ (start : ℕ) (h : List HistoryEvent) (s : Stack) (slot : Slot) (is : IsTopSlot s.frames slot)
    (k : IsStack start h s) where
  pub slot_page : HasPage s slot
  slot_page = let (len, lies) = slot_lies start h s slot is k in record {
    page = lies.page;
    there = lies.open_page;
    within = place-within lies.page.bytes slot.place.start slot.place.len lies.place.place;
  }

  -- of the tail, if its fill is that of the slot
  pub tail_within : slot.fill ≡ s.tail.fill → slot.place.start + slot.place.len ≤ length s.tail.bytes
  tail_within same = let found = slot_page in
      subst (λ (p : Contents). slot.place.start + slot.place.len ≤ length p.bytes)
      (open_page_is s.done s.older s.tail slot.fill found.page s.tail found.there
      (is_tail (same ∙ k.holds.tail_is.fill_is) refl)) found.within

  pub tail_lent : slot.fill ≡ s.tail.fill → IsLent s (record { page = s.tail; place = slot.place })
  tail_lent same = record {
    slot = slot;
    on_top = is;
    open_page = is_tail (same ∙ k.holds.tail_is.fill_is) refl;
    place_is = refl;
    long = lent_len start h s slot s.tail is (is_tail (same ∙ k.holds.tail_is.fill_is) refl) k;
    in_slot =
        λ part.
        sym (top_in_tail s slot (with_bytes (record { page = s.tail; place = slot.place }) part) is same)
        ∙ in_tail s slot part same;
  }

  -- the page of a slot that isn't in the tail
  pub other_page : (slot.fill ≡ s.tail.fill → ⊥) → IsOlder s slot slot_page.page
  other_page other =
      older_page s slot slot_page.page (λ same. other (same ∙ sym k.holds.tail_is.fill_is)) slot_page.there

  pub older_within : (slot.fill ≡ s.tail.fill → ⊥) → (page : Contents)
      → slice_get s.older (slot.fill - s.done) ≡ Some page → slot.place.start + slot.place.len ≤ length page.bytes
  older_within other page at = subst (λ (p : Contents). slot.place.start + slot.place.len ≤ length p.bytes)
      (some_is slot_page.page page (sym (other_page other).at ∙ at)) slot_page.within

  pub older_lent : (slot.fill ≡ s.tail.fill → ⊥) → (page : Contents)
      → slice_get s.older (slot.fill - s.done) ≡ Some page → IsLent s (record { page = page; place = slot.place })
  older_lent other page at =
      let found = other_page other in
      let there : IsOpenPage s.done s.older s.tail slot.fill page =
      is_older (slot.fill - s.done) (let from = found.from in omega arith) at in
      record {
        slot = slot;
        on_top = is;
        open_page = there;
        place_is = refl;
        long = lent_len start h s slot page is there k;
        in_slot =
            λ part.
            sym (top_in_older s slot (with_bytes (record { page = page; place = slot.place }) part) is other)
            ∙ in_older s slot part page other at;
      }

  -- its record's slot, of one word at least
  fits_kind : (len : ℕ) → (frames : List Frame) → IsTopSlot frames slot → pushed_len frames ≡ Some len
      → FramesStand s.size s.done s.older s.tail (opens_of h) (reserved_records h) (is_wished h) frames
      → slot.place.len ≡ slot_len len
  fits_kind len [] none is st = absurd none
  fits_kind len (top ∷ below) has is st =
      let (moment', len', kind, lies) =
      subst
      (StandsAt s.size s.done s.older s.tail (opens_of h) (reserved_records h) (is_wished h)
      (kind_of top.purpose)) has st.1 in
      lies.fills_slot ∙ ap slot_len (sym (len_is top.purpose len moment' len' is kind))

  pub slot_fits : (len : ℕ) → pushed_len s.frames ≡ Some len → slot.place.len ≡ slot_len len
  slot_fits len is' = fits_kind len s.frames is is' k.holds.frames_are

  pub slot_word : 4 ≤ slot.place.len
  slot_word = let (len, lies) = slot_lies start h s slot is k in
      let word = slot_len_ge_four len in
      let long = lies.fills_slot in
      omega arith

-- the bytes that are put over others are there
pub overwritten_there : (bytes : List ℕ) (start len : ℕ) (part : List ℕ) → length part ≡ len
    → start + len ≤ length bytes → bytes_at start len (take (length bytes) (overwritten bytes start part)) ≡ part
overwritten_there bytes start len part long within =
    let more : ℕ = length bytes - start in
    let behind : List ℕ = drop (start + length part) bytes in
    ap (λ (k : ℕ). take len (drop start (take k (overwritten bytes start part))))
    (let sum : length bytes ≡ start + more = omega arith in sum)
    ∙ ap (take len) (drop-take start more (overwritten bytes start part))
    ∙ ap (λ (l : List ℕ). take len (take more l))
    (drop_at (take start bytes) (part ++ behind) start (length-take-le start bytes (omega arith)))
    ∙ take-take len more (part ++ behind) (omega arith)
    ∙ take_at part behind len long

pub lent_there : (payload : Lent) (part : List ℕ) → payload.place.start + payload.place.len ≤ length payload.page.bytes
    → length part ≡ payload.place.len → lent_bytes (with_bytes payload part) ≡ part
lent_there payload part within long =
    let start : ℕ = payload.place.start in
    let len : ℕ = payload.place.len in
    ap (λ (m : ℕ). take m (drop start (with_payload payload.page start part).bytes))
    (let same : (start + len) - start ≡ len = omega arith in same)
    ∙ overwritten_there payload.page.bytes start len part long within

-- what is written there leaves the stack that of its history
pub lent_written : (start : ℕ) (h : List HistoryEvent) (s : Stack) (payload : Lent) (part : List ℕ) → IsLent s payload
    → length part ≡ length (lent_bytes payload) → IsStack start h s
    → IsStack start h (with_top s (with_bytes payload part))
lent_written start h s payload part lent fills k =
    subst (IsStack start h) (sym (lent.in_slot part))
    (written start h s lent.slot part lent.on_top (fills ∙ lent.long ∙ ap (λ (p : Place). p.len) lent.place_is) k)

pub lent_stays : (s : Stack) (payload : Lent) (part : List ℕ) → IsLent s payload
    → length part ≡ length (lent_bytes payload) → IsReachedStack s
    → IsReachedStack (with_top s (with_bytes payload part))
unfolding IsReachedStack
lent_stays s payload part lent fills (start, h, k) = (start, h, lent_written start h s payload part lent fills k)

-- All that is promised of it, in whichever page it is.
pub lends_top : {R : Type 0} (r : R) (s : Stack) (slot : Slot) (payload : Lent) → IsTopSlot s.frames slot
    → payload.place ≡ slot.place → payload.place.start + payload.place.len ≤ length payload.page.bytes
    → IsLent s payload → with_top s payload ≡ s → IsReachedStack s
    → record {
      lends : Unit {0};
      no_frame : ◌≡◌ {A = Result R WriteFault} (Ok r) (Err NoFrame) ↔ s.frames ≡ [];
      not_reserved : ◌≡◌ {A = Result R WriteFault} (Ok r) (Err NotReserved) ↔ LacksSlot s.frames;
      place : (place : Place) → top_place s.frames ≡ Some place → payload.place ≡ place;
      here : top_place s.frames ≡ Some payload.place;
      lent : IsLent s payload;
      unwritten : with_top s payload ≡ s;
      held : (place : Place) → top_place s.frames ≡ Some place → IsOk {T = R} {E = WriteFault} (Ok r);
      fits : (len : ℕ) → pushed_len s.frames ≡ Some len → length (lent_bytes payload) ≡ slot_len len;
      long : length (lent_bytes payload) ≡ payload.place.len;
      word : 4 ≤ length (lent_bytes payload);
      holds : (part : List ℕ) → length part ≡ length (lent_bytes payload) → lent_bytes (with_bytes payload part) ≡ part;
      older : (last : Lent) → length (with_top s last).older ≡ length s.older;
      alone : (last : Lent) → s.older ≡ [] → (with_top s last).older ≡ [];
      written : (start : ℕ) (history : List HistoryEvent) → IsStack start history s → (part : List ℕ)
          → length part ≡ length (lent_bytes payload) → IsStack start history (with_top s (with_bytes payload part));
      stays : (part : List ℕ) → length part ≡ length (lent_bytes payload)
          → IsReachedStack (with_top s (with_bytes payload part));
    }
unfolding IsReachedStack
lends_top r s slot payload is place within lent unwritten stands =
    let (start, h, k) = stands in
    let len : length (lent_bytes payload) ≡ slot.place.len = lent.long ∙ ap (λ (p : Place). p.len) place in
    record {
      lends = tt;
      no_frame = ((λ e. absurd (let no = e in cc)), (λ none. absurd (some_frame s.frames slot is none)));
      not_reserved = ((λ e. absurd (let no = e in cc)), (λ lacks. absurd (has_slot s.frames slot is lacks)));
      place = λ there at. place ∙ slot_place s.frames slot there is at;
      here = slot_at s.frames slot is ∙ ap Some (sym place);
      lent = lent;
      unwritten = unwritten;
      held = λ there at. refl;
      fits = λ pushed is'. len ∙ slot_fits start h s slot is k pushed is';
      long = lent.long;
      word = let word = slot_word start h s slot is k in omega arith;
      holds = λ part fills. lent_there payload part within (fills ∙ lent.long);
      older = λ last. older_long s (top_slot s.frames) last;
      alone = λ last none. older_none s (top_slot s.frames) last none;
      written = λ from history old part fills. lent_written from history s payload part lent fills old;
      stays = λ part fills. lent_stays s payload part lent fills stands;
    }
