-- Records that are put one after the other, and the lines of those that are left.
use Rattle.std.proofs.Common.{◌≡◌, ℕ, zero, suc, ◌+◌, ◌<◌, ◌≤◌, List, [], ◌∷◌, ◌++◌, length, map, drop, slice_index_or}
use Rattle.std.proofs.Common.{◌-◌, take, Some, All, refl, sym, ap, ap₂, ◌∙◌, arith, slice_range, length-append}
use Rattle.std.proofs.Common.{length-drop}
use Rattle.std.specs.List.{enumerate_from}
use Rattle.std.proofs.lemmas.List.{length-map, map-append, take_all, take-append-le, drop-append-le}
use Rattle.std.proofs.lemmas.List.Elements.{All-head, All-tail, All-push, All-weaker}
use Rattle.trace_model.specs.declared.numbers.Moment.{Moment}
use Rattle.trace_model.specs.Record.{Record}
use Rattle.trace_model.specs.Listing.{Line as ModelLine}
use Rattle.time_merge.specs.Heads.{first_in}
use Rattle.time_merge.specs.LineOrder.{line_of}
use Rattle.page_borrow.specs.declared.entries.Entry.{Entry}
use Rattle.page_borrow.specs.Entries.{numbered_record}
use Rattle.page_lines.specs.declared.at_hand.Place.{Place}
use Rattle.page_lines.specs.Sources.{line_at, IsWithin}
use Rattle.page_lines.proofs.Values.{values, more_values}

-- ---- the lines that are left

pub first_at : {X : Type 0} (f : X → ModelLine) (xs : List X) (at : ℕ) (d : X) → at < length xs
    → first_in (drop at (map f xs)) ≡ Some (f (slice_index_or xs at d))
first_at f [] at d there = absurd (omega (arith, there))
first_at f (x ∷ xs) zero d there = refl
first_at f (x ∷ xs) (suc at) d there = first_at f xs at d (omega (arith, there))

behind_one : {X : Type 0} (at : ℕ) (xs : List X) → drop (suc at) xs ≡ drop 1 (drop at xs)
behind_one zero xs = refl
behind_one (suc at) [] = refl
behind_one (suc at) (x ∷ xs) = behind_one at xs

pub one_less : {X : Type 0} (at : ℕ) (xs : List X) → drop (at + 1) xs ≡ drop 1 (drop at xs)
one_less at xs =
    ap (λ (n : ℕ). drop n xs) (let one : at + 1 ≡ suc at = omega arith in one) ∙ behind_one at xs

-- ---- records that are put

-- with more bytes behind, a line is what it was
same_line : (cpu : ℕ) (bytes more : List ℕ) (place : Place) → IsWithin (length bytes) place
    → line_at cpu (bytes ++ more) place ≡ line_at cpu bytes place
same_line cpu bytes more place within =
    let low : place.start ≤ length bytes = omega (arith, within.forward, within.inside) in
    let own : place.end - place.start ≤ length (drop place.start bytes) =
    omega (arith, within.forward, within.inside, length-drop place.start bytes) in
    ap (λ (xs : List ℕ). record {
      moment = place.moment.0;
      cpu = cpu;
      number = place.number.0;
      bytes = take (place.end - place.start) xs;
    }) (drop-append-le place.start bytes more low)
    ∙ ap (λ (xs : List ℕ). record { moment = place.moment.0; cpu = cpu; number = place.number.0; bytes = xs })
    (take-append-le (place.end - place.start) (drop place.start bytes) more own)

same_lines : (cpu : ℕ) (bytes more : List ℕ) (places : List Place) → All (IsWithin (length bytes)) places
    → map (line_at cpu (bytes ++ more)) places ≡ map (line_at cpu bytes) places
same_lines cpu bytes more [] within = refl
same_lines cpu bytes more (place ∷ places) within =
    ap₂ (λ (line : ModelLine) (lines : List ModelLine). line ∷ lines)
    (same_line cpu bytes more place (All-head (IsWithin (length bytes)) place places within))
    (same_lines cpu bytes more places (All-tail (IsWithin (length bytes)) place places within))

numbered_more : (cpu first : ℕ) (records : List Record) (r : Record)
    → map (line_of cpu) (enumerate_from first (records ++ r ∷ []))
    ≡ map (line_of cpu) (enumerate_from first records) ++ line_of cpu (first + length records, r) ∷ []
numbered_more cpu first [] r =
    ap (λ (n : ℕ). line_of cpu (n, r) ∷ []) (let same : first ≡ first + 0 = omega arith in same)
numbered_more cpu first (x ∷ records) r =
    ap (λ (lines : List ModelLine). line_of cpu (first, x) ∷ lines)
    (numbered_more cpu (first + 1) records r
    ∙ ap (λ (n : ℕ). map (line_of cpu) (enumerate_from (first + 1) records) ++ line_of cpu (n, r) ∷ [])
    (let same : first + 1 + length records ≡ first + suc (length records) = omega arith in same))

-- These entries were put, the first of them under this number; the next one is under `number`.
pub record HavePut (first : ℕ) (entries : List Entry) (places : List Place) (bytes : List ℕ) (number : ℕ) : Type 0
  where
    pub within : All (IsWithin (length bytes)) places
    pub lines : (cpu : ℕ) → map (line_at cpu bytes) places ≡ map (line_of cpu) (enumerate_from first (values entries))
    pub number_is : number ≡ first + length entries

drop-append : (xs ys : List ℕ) → drop (length xs) (xs ++ ys) ≡ ys
drop-append [] ys = refl
drop-append (x ∷ xs) ys = drop-append xs ys

-- the line of an entry that is put behind others
own_line : (cpu number : ℕ) (bytes : List ℕ) (entry : Entry) (place : Place) → place.number.0 ≡ number
    → place.moment ≡ entry.moment → place.start ≡ length bytes → place.end ≡ length (bytes ++ entry.bytes.now)
    → line_at cpu (bytes ++ entry.bytes.now) place ≡ line_of cpu (number, (numbered_record entry).1)
own_line cpu number bytes entry place numbered moment start end =
    let more = entry.bytes.now in
    let count : place.end - place.start ≡ length more =
    omega (arith, start, end, length-append bytes more) in
    ap₂ (λ (m : Moment) (n : ℕ).
    record { moment = m.0; cpu = cpu; number = n; bytes = slice_range (bytes ++ more) place.start place.end })
    moment numbered
    ∙ ap (λ (xs : List ℕ). record { moment = entry.moment.0; cpu = cpu; number = number; bytes = xs })
    (ap₂ (λ (n k : ℕ). take n (drop k (bytes ++ more))) count start
    ∙ ap (take (length more)) (drop-append bytes more)
    ∙ take_all (length more) more (omega arith))

pub put_more : (first number : ℕ) (entries : List Entry) (places : List Place) (bytes : List ℕ) (entry : Entry)
    (place : Place)
    → HavePut first entries places bytes number → place.number.0 ≡ number → place.moment ≡ entry.moment
    → place.start ≡ length bytes → place.end ≡ length (bytes ++ entry.bytes.now)
    → HavePut first (entries ++ entry ∷ []) (places ++ place ∷ []) (bytes ++ entry.bytes.now) (number + 1)
put_more first number entries places bytes entry place was numbered moment start end =
    let more = entry.bytes.now in
    let long : length bytes ≤ length (bytes ++ more) = omega (arith, length-append bytes more) in
    let here : number ≡ first + length (values entries) =
    omega (
      arith,
      was.number_is,
      length-map entries numbered_record,
      length-map (map numbered_record entries) (λ (pair : ℕ × Record). pair.1),
    ) in
    record {
      within =
          All-push (IsWithin (length (bytes ++ more))) places place
          (All-weaker (IsWithin (length bytes)) (IsWithin (length (bytes ++ more)))
          (λ p w. record { forward = w.forward; inside = omega (arith, w.inside, long) }) places was.within)
          record { forward = omega (arith, start, end, long); inside = omega (arith, end) };
      lines = λ cpu.
          map-append (line_at cpu (bytes ++ more)) places (place ∷ [])
          ∙ ap₂ (λ (front back : List ModelLine). front ++ back)
          (same_lines cpu bytes more places was.within ∙ was.lines cpu)
          (ap (λ (line : ModelLine). line ∷ []) (own_line cpu number bytes entry place numbered moment start end)
          ∙ ap (λ (n : ℕ). line_of cpu (n, (numbered_record entry).1) ∷ []) here)
          ∙ sym (numbered_more cpu first (values entries) (numbered_record entry).1)
          ∙ ap (λ (rs : List Record). map (line_of cpu) (enumerate_from first rs)) (sym (more_values entries entry));
      number_is = omega (arith, was.number_is, length-append entries (entry ∷ []));
    }
