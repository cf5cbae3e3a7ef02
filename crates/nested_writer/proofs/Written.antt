-- A payload written into the slot of the frame on top.
use Rattle.std.proofs.Common.{◌≡◌, ◌≢◌, ℕ, zero, suc, ◌+◌, ◌-◌, ◌<◌, ◌≤◌, ◌⊎◌, Bool, true, false, cond, eqb, List, []}
use Rattle.std.proofs.Common.{◌∷◌, length, get_or, take, drop, Some, None, refl, sym, ap, ◌∙◌, subst, ⊎_elim, inl, inr}
use Rattle.std.proofs.Common.{arith}
use Rattle.std.specs.Prelude.{slice_set}
use Rattle.std.specs.List.{slice_get}
use Rattle.std.proofs.lemmas.List.{take_all, length-set}
use Rattle.std.proofs.lemmas.Option.{none-some, slice_get_within}
use mathlib.Core.Logic.{dite}
use native.Mathlib.Decide.{ℕ_discrete}
use Rattle.trace_model.specs.Overwriting.{overwritten, IsPlaceOf}
use Rattle.trace_model.specs.History.{HistoryEvent, Reservation, reserved_records}
use Rattle.trace_model.specs.Packing.{opens_of, cut_from, is_wished}
use Rattle.trace_model.specs.Fitting.{AreFit}
use Rattle.trace_model.specs.OpenPages.{HoldsRecords}
use Rattle.trace_model.specs.Reading.{records_in}
use Rattle.trace_model.proofs.collections.Elements.{some_is}
use Rattle.trace_model.proofs.words.Overwritten.{length-overwritten}
use Rattle.trace_model.proofs.words.Places.{IsPlaceOf-overwritten}
use Rattle.trace_model.proofs.packing.OpenPages.{AreOf-length, holds_written}
use Rattle.page_image.specs.Contents.{Contents}
use Rattle.page_image.specs.Lending.{with_payload}
use Rattle.trace_model.specs.Frames.{pushed_of}
use Rattle.nested_writer.specs.declared.frame.Slot.{Slot}
use Rattle.nested_writer.specs.declared.frame.Frame.{Frame}
use Rattle.nested_writer.specs.Stack.{Stack, tail_fill, model_frames}
use Rattle.nested_writer.specs.Calls.{IsTopSlot}
use Rattle.nested_writer.specs.Lending.{with_slot}
use Rattle.nested_writer.specs.IsStack.{IsPageOf, is_tail, is_older, IsUnwritten, IsStackOf, IsStack}
use Rattle.nested_writer.proofs.Standing.{unwritten_in, as_many, frames_on, all_before}
use Rattle.nested_writer.proofs.Ending.{place_inside}
use Rattle.nested_writer.proofs.Lending.{slot_lies, in_tail, in_older}

-- ---- a record of a fill among all

get_drop : (n k : ℕ) (xs : List Reservation) → slice_get (drop n xs) k ≡ slice_get xs (n + k)
get_drop zero k xs = ap (slice_get xs) (let e : k ≡ 0 + k = omega arith in e)
get_drop (suc n) k [] = refl
get_drop (suc n) k (x ∷ xs) =
    get_drop n k xs ∙ ap (slice_get (x ∷ xs)) (let e : suc (n + k) ≡ suc n + k = omega arith in e)

get_take : (n k : ℕ) (xs : List Reservation) → k < length (take n xs) → slice_get (take n xs) k ≡ slice_get xs k
get_take zero k xs low = absurd (omega arith)
get_take (suc n) k [] low = refl
get_take (suc n) zero (x ∷ xs) low = refl
get_take (suc n) (suc k) (x ∷ xs) low = get_take n k xs (omega arith)

cut_get : (from : ℕ) (cuts : List ℕ) (xs : List Reservation) (i k : ℕ)
    → k < length (get_or (cut_from from cuts xs) i [])
    → slice_get (get_or (cut_from from cuts xs) i []) k ≡ slice_get xs (get_or (from ∷ cuts) i 0 + k)
cut_get from [] xs zero k low = get_drop from k xs
cut_get from [] xs (suc i) k low = absurd (omega arith)
cut_get from (cut ∷ cuts) xs zero k low = get_take (cut - from) k (drop from xs) low ∙ get_drop from k xs
cut_get from (cut ∷ cuts) xs (suc i) k low = cut_get cut cuts xs i k low

-- ---- the page

module _ (size fill : ℕ) (cuts : List ℕ) (xs : List Reservation) (index : ℕ) (page : Contents)
    (q : IsPageOf size fill cuts xs index page) (number start len : ℕ) (r : Reservation) (part : List ℕ)
    (low : page.first ≤ number) (place : IsPlaceOf page.bytes (number - page.first) start len)
    (at : slice_get xs number ≡ Some r) (unwritten : r.bytes ≡ None) (fills : length part ≡ len) where
  same_bytes : (with_payload page start part).bytes ≡ overwritten page.bytes start part
  same_bytes =
      take_all (length page.bytes) (overwritten page.bytes start part)
      (let same = length-overwritten page.bytes start len place.place part fills in omega arith)

  pub page_written : IsPageOf size fill cuts xs index (with_payload page start part)
  page_written =
      let first = q.first_is in
      let inside =
      place_inside page.time page.bytes (number - page.first) start len (get_or (cut_from 0 cuts xs) index [])
      q.holds place in
      let found : slice_get (get_or (cut_from 0 cuts xs) index []) (number - page.first) ≡ Some r =
      cut_get 0 cuts xs index (number - page.first) inside
      ∙ ap (slice_get xs)
      (let e : get_or (0 ∷ cuts) index 0 + (number - page.first) ≡ number = omega arith in e) ∙ at in
      let holds : HoldsRecords page.time (with_payload page start part).bytes (get_or (cut_from 0 cuts xs) index []) =
      subst (λ (b : List ℕ). HoldsRecords page.time b (get_or (cut_from 0 cuts xs) index [])) (sym same_bytes)
      (holds_written page.time page.bytes (get_or (cut_from 0 cuts xs) index []) (number - page.first) start len r part
      q.holds place found unwritten fills) in
      record {
        page_reads = record {
          reads = holds.reads;
          counted =
              q.page_reads.counted
              ∙ AreOf-length (records_in page.time page.bytes) (get_or (cut_from 0 cuts xs) index []) q.holds.each
              ∙ sym
              (AreOf-length (records_in page.time (with_payload page start part).bytes)
              (get_or (cut_from 0 cuts xs) index []) holds.each);
          in_time = q.page_reads.in_time;
        };
        size_is = q.size_is;
        fill_is = q.fill_is;
        first_is = q.first_is;
        holds = holds;
      }

  -- places stay
  pub place_stays : (other at' size' : ℕ) → IsPlaceOf page.bytes other at' size'
      → IsPlaceOf (with_payload page start part).bytes other at' size'
  place_stays other at' size' there =
      subst (λ (b : List ℕ). IsPlaceOf b other at' size') (sym same_bytes)
      (IsPlaceOf-overwritten page.bytes other at' size' start len part there place.place fills)

-- ---- one of the older pages

get_set : (pages : List Contents) (i : ℕ) (page : Contents) (j : ℕ) (other : Contents)
    → slice_get (slice_set pages i page) j ≡ Some other
    → ((j ≡ i) × (other ≡ page)) ⊎ ((j ≢ i) × (slice_get pages j ≡ Some other))
get_set [] i page j other at = absurd (none-some other at)
get_set (p ∷ pages) zero page zero other at = inl (refl, sym (some_is page other at))
get_set (p ∷ pages) zero page (suc j) other at = inr ((λ e. absurd (omega arith)), at)
get_set (p ∷ pages) (suc i) page zero other at = inr ((λ e. absurd (omega arith)), at)
get_set (p ∷ pages) (suc i) page (suc j) other at =
    ⊎_elim (λ (e, is). inl (ap suc e, is)) (λ (ne, there). inr ((λ e. ne (omega arith)), there))
    (get_set pages i page j other at)

set_here : (pages : List Contents) (i : ℕ) (page old : Contents) → slice_get pages i ≡ Some old
    → slice_get (slice_set pages i page) i ≡ Some page
set_here [] i page old at = absurd (none-some old at)
set_here (p ∷ pages) zero page old at = refl
set_here (p ∷ pages) (suc i) page old at = set_here pages i page old at

set_other : (pages : List Contents) (i : ℕ) (page : Contents) (j : ℕ) (other : Contents) → j ≢ i
    → slice_get pages j ≡ Some other → slice_get (slice_set pages i page) j ≡ Some other
set_other [] i page j other ne at = absurd (none-some other at)
set_other (p ∷ pages) zero page zero other ne at = absurd (ne refl)
set_other (p ∷ pages) zero page (suc j) other ne at = at
set_other (p ∷ pages) (suc i) page zero other ne at = at
set_other (p ∷ pages) (suc i) page (suc j) other ne at = set_other pages i page j other (λ e. ne (ap suc e)) at

-- ---- the stack

module _ (start : ℕ) (cuts : List ℕ) (xs : List Reservation) (found : Bool) (s : Stack)
    (k : IsStackOf start cuts xs found s) (slot : Slot) (len : ℕ) (lies : IsUnwritten s.done s.older s.tail xs len slot)
    (part : List ℕ) (fills : length part ≡ slot.place.len) where
  module _ (is : lies.page ≡ s.tail) where
    abbrev tail' : Contents
    tail' = with_payload s.tail slot.place.start part

    tail_low : s.tail.first ≤ slot.number
    tail_low = let low = lies.first_le in let e = ap (λ (p : Contents). p.first) is in omega arith

    tail_place : IsPlaceOf s.tail.bytes (slot.number - s.tail.first) slot.place.start slot.place.len
    tail_place =
        subst (λ (p : Contents). IsPlaceOf p.bytes (slot.number - p.first) slot.place.start slot.place.len) is
        lies.place

    lies_in_tail : (n : ℕ) (l : Slot) → l.number < length xs → IsUnwritten s.done s.older s.tail xs n l
        → IsUnwritten s.done s.older tail' xs n l
    lies_in_tail n l low other = elim other.open_page [
      | is_tail at page_is ↦ unwritten_in tail' other (is_tail at refl)
          (let le = other.first_le in let e = ap (λ (p : Contents). p.first) page_is in omega arith)
          (place_stays s.size (tail_fill s) cuts xs (length cuts) s.tail k.tail_is slot.number slot.place.start
          slot.place.len lies.reservation part tail_low tail_place lies.at lies.unwritten fills
          (l.number - s.tail.first) l.place.start l.place.len
          (subst (λ (p : Contents). IsPlaceOf p.bytes (l.number - p.first) l.place.start l.place.len) page_is
          other.place))
          other.at
      | is_older j at there ↦ unwritten_in other.page other (is_older j at there) other.first_le other.place other.at
    ]

    pub of_tail_written : IsStackOf start cuts xs found (record s { tail = with_payload s.tail slot.place.start part })
    of_tail_written = assumption (
      page_written s.size (tail_fill s) cuts xs (length cuts) s.tail k.tail_is slot.number slot.place.start
          slot.place.len lies.reservation part tail_low tail_place lies.at lies.unwritten fills,
      frames_on s.size s.done s.older s.tail cuts xs found s.done s.older tail' cuts xs found (length xs)
          (as_many refl (λ kind state needs. needs)) lies_in_tail
          s.frames (all_before s.size s.done s.older s.tail cuts xs found s.frames k.frames_are) k.frames_are,
      k,
    )

  module _ (i : ℕ) (is : slice_get s.older i ≡ Some lies.page) where
    abbrev page' : Contents
    page' = with_payload lies.page slot.place.start part

    abbrev older' : List Contents
    older' = slice_set s.older i page'

    long : length older' ≡ length s.older
    long = length-set s.older i page'

    lies_in_older : (n : ℕ) (l : Slot) → l.number < length xs → IsUnwritten s.done s.older s.tail xs n l
        → IsUnwritten s.done older' s.tail xs n l
    lies_in_older n l low other = elim other.open_page [
      | is_tail at page_is ↦ unwritten_in other.page other (is_tail (let e = long in omega arith) page_is)
          other.first_le other.place other.at
      | is_older j at there ↦ by_index j at there (dite (ℕ_discrete j i) (λ e. inl e) (λ ne. inr ne))
    ]
      where
        by_index : (j : ℕ) → l.fill ≡ s.done + j → slice_get s.older j ≡ Some other.page → (j ≡ i) ⊎ (j ≢ i)
            → IsUnwritten s.done older' s.tail xs n l
        by_index j at there (inl e) =
            let same : other.page ≡ lies.page =
            some_is other.page lies.page (sym there ∙ ap (slice_get s.older) e ∙ is) in
            unwritten_in page' other (is_older j at (ap (slice_get older') e ∙ set_here s.older i page' lies.page is))
            (let le = other.first_le in let f = ap (λ (p : Contents). p.first) same in omega arith)
            (place_stays s.size (s.done + i) cuts xs (s.done - start + i) lies.page (k.older_are i lies.page is)
            slot.number slot.place.start slot.place.len lies.reservation part lies.first_le lies.place lies.at
            lies.unwritten fills (l.number - lies.page.first) l.place.start l.place.len
            (subst (λ (p : Contents). IsPlaceOf p.bytes (l.number - p.first) l.place.start l.place.len) same
            other.place))
            other.at
        by_index j at there (inr ne) =
            unwritten_in other.page other (is_older j at (set_other s.older i page' j other.page ne there))
            other.first_le other.place other.at

    pub of_older_written : IsStackOf start cuts xs found
        (record s { older = slice_set s.older i (with_payload lies.page slot.place.start part) })
    of_older_written = record {
      begun = let begun = k.begun in let e = long in omega arith;
      from_start = k.from_start;
      rising = k.rising;
      room = k.room;
      last_is = k.last_is;
      in_time = k.in_time;
      large = k.large;
      older_are = λ j page at. ⊎_elim
          (λ (e, is').
          subst (λ (m : ℕ). IsPageOf s.size (s.done + m) cuts xs (s.done - start + m) page) (sym e)
          (subst (IsPageOf s.size (s.done + i) cuts xs (s.done - start + i)) (sym is')
          (page_written s.size (s.done + i) cuts xs (s.done - start + i) lies.page (k.older_are i lies.page is)
          slot.number slot.place.start slot.place.len lies.reservation part lies.first_le lies.place lies.at
          lies.unwritten fills)))
          (λ (ne, there). k.older_are j page there)
          (get_set s.older i page' j page at);
      tail_is =
          subst (λ (f : ℕ). IsPageOf s.size f cuts xs (length cuts) s.tail) (ap (λ (m : ℕ). s.done + m) (sym long))
          k.tail_is;
      frames_are =
          frames_on s.size s.done s.older s.tail cuts xs found s.done older' s.tail cuts xs found (length xs)
          (as_many (ap (λ (m : ℕ). s.done + m) long) (λ kind state needs. needs)) lies_in_older
          s.frames (all_before s.size s.done s.older s.tail cuts xs found s.frames k.frames_are) k.frames_are;
    }

  -- whichever page it is
  pub of_written : IsStackOf start cuts xs found (with_slot s slot part)
  of_written = elim lies.open_page [
    | is_tail at is ↦ subst (IsStackOf start cuts xs found) (in_tail s slot part (at ∙ sym k.tail_is.fill_is))
        (of_tail_written is)
    | is_older j at is ↦
        let low = slice_get_within s.older j lies.page is in
        let index : slot.fill - s.done ≡ j = omega arith in
        let there : slice_get s.older (slot.fill - s.done) ≡ Some lies.page = ap (slice_get s.older) index ∙ is in
        subst (IsStackOf start cuts xs found)
        (in_older s slot part lies.page (λ same. absurd (let fill = k.tail_is.fill_is in omega arith)) there)
        (of_older_written (slot.fill - s.done) there)
  ]

same_frames : (s : Stack) (slot : Slot) (part : List ℕ) (test : Bool) (one other : Stack) → one.frames ≡ s.frames
    → other.frames ≡ s.frames → (cond test one other).frames ≡ s.frames
same_frames s slot part true one other a b = a
same_frames s slot part false one other a b = b

same_size : (s : Stack) (test : Bool) (one other : Stack) → one.size ≡ s.size → other.size ≡ s.size
    → (cond test one other).size ≡ s.size
same_size s true one other a b = a
same_size s false one other a b = b

-- a payload of the right length, whatever it is
pub written : (start : ℕ) (h : List HistoryEvent) (s : Stack) (slot : Slot) (part : List ℕ) → IsTopSlot s.frames slot
    → length part ≡ slot.place.len → IsStack start h s → IsStack start h (with_slot s slot part)
written start h s slot part top fills k =
    let (len, lies) = slot_lies start h s slot top k in
    record {
      keeps = k.keeps;
      stack_is =
          k.stack_is
          ∙ ap (λ (fs : List Frame). pushed_of (model_frames fs))
          (sym (same_frames s slot part (eqb slot.fill s.tail.fill) _ _ refl refl));
      fit = subst (λ (n : ℕ). AreFit n h) (sym (same_size s (eqb slot.fill s.tail.fill) _ _ refl refl)) k.fit;
      holds = of_written start (opens_of h) (reserved_records h) (is_wished h) s k.holds slot len lies part fills;
    }
