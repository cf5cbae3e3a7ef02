-- The pages still hold their fills where a record is reserved or ended, a fill is begun, or the head goes on.
use Rattle.std.proofs.Common.{◌≡◌, ◌≢◌, ℕ, suc, ◌+◌, ◌-◌, ◌%◌, ◌<◌, ◌≤◌, List, [], ◌∷◌, ◌++◌, length, get_or, set, map}
use Rattle.std.proofs.Common.{Option, sym, ap, ◌∙◌, subst, mod-lt, arith, length-append, length-set}
use Rattle.std.proofs.lemmas.List.{get_or-set_same, get_or-set_other, get_or-map, length-map}
use Rattle.std.proofs.Math.ListN.{get_or-append}
use Rattle.std.proofs.Math.Seq.{get_or-append_seam}
use mathlib.Core.Logic.{dite}
use native.Mathlib.Decide.{ℕ_discrete}
use Rattle.trace_model.specs.History.{Reservation, records_with_payload}
use Rattle.trace_model.specs.Packing.{cut_from}
use Rattle.trace_model.specs.Ring.{PageRecords, page_at, AreApart}
use Rattle.trace_model.specs.Steps.{held_with_payload}
use Rattle.trace_model.specs.Fitting.{IsRising}
use Rattle.trace_model.proofs.histories.NextRecords.{length-records_with_payload}
use Rattle.trace_model.proofs.packing.FillCuts.{IsRising-more, IsRising-snoc, reserved_before, reserved_last}
use Rattle.trace_model.proofs.packing.FillCuts.{opened_before, opened_last, finished_fill}
use Rattle.ring_model.specs.KeptContents.{PagesKept}
use Rattle.trace_model.proofs.Positions.{apart, page_else}

abbrev pub nothing : PageRecords
nothing = record { first = 0; records = [] }

-- pages at the positions of two fills of the row differ
pub pages_differ : (n : ℕ) (order : List ℕ) (spare head f g : ℕ) → 1 ≤ n → AreApart n order spare → head ≤ f
    → f < head + n → head ≤ g → g < head + n → f ≢ g → page_at n order f ≢ page_at n order g
pages_differ n order spare head f g some a lf hf lg hg ne same =
    apart head n f g lf hf lg hg ne (a.differ (f % n) (g % n) (mod-lt f some) (mod-lt g some) same)

pub page_below : (n : ℕ) (order : List ℕ) (spare f : ℕ) → 1 ≤ n → AreApart n order spare → page_at n order f < n + 1
page_below n order spare f some a = a.each (f % n) (mod-lt f some)

module _ (n start : ℕ) (order : List ℕ) (spare : ℕ) (held : List PageRecords) (cuts : List ℕ) (xs : List Reservation)
    (head opened : ℕ) (some : 1 ≤ n) (a : AreApart n order spare) (k : PagesKept n start order held cuts xs head opened)
  where
    -- the head goes on, over the same pages
    pub pages_later : (head' : ℕ) → head ≤ head' → PagesKept n start order held cuts xs head' opened
    pages_later head' le =
        record {
          begun = k.begun;
          from_start = (let low = k.from_start in omega arith);
          bodies = k.bodies;
          rising = k.rising;
          each = λ f low high. k.each f (omega arith) high;
        }

    -- a record is reserved in the tail
    pub pages_reserved : (r : Reservation) (tail : ℕ) → suc tail ≡ opened → head ≤ tail → opened ≤ head + n
        → PagesKept n start order
        (set held (page_at n order tail)
        record {
          first = (get_or held (page_at n order tail) nothing).first;
          records = (get_or held (page_at n order tail) nothing).records ++ r ∷ [];
        }) cuts (xs ++ r ∷ []) head
        opened
    pages_reserved r tail last low_tail within =
        let count = k.begun in let wide = k.bodies in let from_start = k.from_start in
        let page : ℕ = page_at n order tail in
        let at : tail - start ≡ length cuts = omega arith in
        let was = k.each tail low_tail (omega arith) in record {
          begun = k.begun;
          from_start = k.from_start;
          bodies = length-set held page _ ∙ k.bodies;
          rising =
              IsRising-more 0 cuts (length xs) (length (xs ++ r ∷ [])) (omega (arith, length-append xs (r ∷ [])))
              k.rising;
          each = λ f low high. dite (ℕ_discrete f tail)
              (λ e.
              ap
              (λ (g : ℕ).
              get_or
              (set held page
              record {
                first = (get_or held page nothing).first;
                records = (get_or held page nothing).records ++ r ∷ [];
              }) (page_at n order g)
              nothing) e
              ∙ get_or-set_same held page
              record {
                first = (get_or held page nothing).first;
                records = (get_or held page nothing).records ++ r ∷ [];
              } nothing
              (let below = page_below n order spare tail some a in omega arith)
              ∙ ap
              (λ (h : PageRecords). let g : PageRecords = record { first = h.first; records = h.records ++ r ∷ [] } in
              g) was
              ∙ ap
              (λ (i : ℕ). let g : PageRecords =
              record { first = get_or (0 ∷ cuts) i 0; records = get_or (cut_from 0 cuts xs) i [] ++ r ∷ [] } in
              g) at
              ∙ ap
              (λ (l : List Reservation). let g : PageRecords =
              record { first = get_or (0 ∷ cuts) (length cuts) 0; records = l } in
              g) (sym (reserved_last 0 cuts xs r k.rising))
              ∙ ap
              (λ (i : ℕ). let g : PageRecords =
              record { first = get_or (0 ∷ cuts) i 0; records = get_or (cut_from 0 cuts (xs ++ r ∷ [])) i [] } in
              g) (sym at ∙ ap (λ (g : ℕ). g - start) (sym e)))
              (λ ne.
              get_or-set_other held page (page_at n order f) _ nothing
              (pages_differ n order spare head f tail some a low (omega arith) low_tail (omega arith) ne)
              ∙ k.each f low high
              ∙ ap
              (λ (l : List Reservation). let g : PageRecords =
              record { first = get_or (0 ∷ cuts) (f - start) 0; records = l } in
              g) (sym (reserved_before 0 cuts xs r (f - start) k.rising (omega arith))));
        }

    -- a fill is begun, on an empty page
    pub pages_begun : opened < head + n → head ≤ opened
        → PagesKept n start order (set held (page_at n order opened) record { first = length xs; records = [] })
        (cuts ++ length xs ∷ []) xs head (opened + 1)
    pages_begun room le =
        let count = k.begun in let wide = k.bodies in let from_start = k.from_start in
        let page : ℕ = page_at n order opened in
        let at : opened - start ≡ suc (length cuts) = omega arith in record {
          begun = omega (arith, length-append cuts (length xs ∷ []));
          from_start = k.from_start;
          bodies = length-set held page _ ∙ k.bodies;
          rising = IsRising-snoc 0 cuts (length xs) k.rising;
          each = λ f low high. dite (ℕ_discrete f opened)
              (λ e.
              ap
              (λ (g : ℕ).
              get_or (set held page record { first = length xs; records = [] }) (page_at n order g) nothing) e
              ∙ get_or-set_same held page record { first = length xs; records = [] } nothing
              (let below = page_below n order spare opened some a in omega arith)
              ∙ ap (λ (m : ℕ). let g : PageRecords = record { first = m; records = [] } in g)
              (sym (get_or-append_seam (0 ∷ cuts) (length xs) [] 0))
              ∙ ap
              (λ (l : List Reservation). let g : PageRecords =
              record { first = get_or (0 ∷ (cuts ++ length xs ∷ [])) (suc (length cuts)) 0; records = l } in
              g) (sym (opened_last 0 cuts xs))
              ∙ ap
              (λ (i : ℕ). let g : PageRecords =
              record {
                first = get_or (0 ∷ (cuts ++ length xs ∷ [])) i 0;
                records = get_or (cut_from 0 (cuts ++ length xs ∷ []) xs) i [];
              } in
              g) (sym at ∙ ap (λ (g : ℕ). g - start) (sym e)))
              (λ ne.
              get_or-set_other held page (page_at n order f) _ nothing
              (pages_differ n order spare head f opened some a low (omega arith) le room ne)
              ∙ k.each f low (omega arith)
              ∙ ap
              (λ (m : ℕ). let g : PageRecords =
              record { first = m; records = get_or (cut_from 0 cuts xs) (f - start) [] } in
              g)
              (sym (get_or-append (0 ∷ cuts) (length xs ∷ []) 0 (f - start)
              (let low : f - start < suc (length cuts) = omega arith in low)))
              ∙ ap
              (λ (l : List Reservation). let g : PageRecords =
              record { first = get_or (0 ∷ (cuts ++ length xs ∷ [])) (f - start) 0; records = l } in
              g) (sym (opened_before 0 cuts xs (f - start) (omega arith))));
        }

    -- a record is ended
    pub pages_finished : (number : Option ℕ) (payload : Option (List ℕ))
        → PagesKept n start order (map (held_with_payload number payload) held) cuts
        (records_with_payload number payload xs) head opened
    pages_finished number payload = let count = k.begun in
        let wide = k.bodies in
        let from_start = k.from_start in
        record {
          begun = k.begun;
          from_start = k.from_start;
          bodies = length-map held (held_with_payload number payload) ∙ k.bodies;
          rising = subst (IsRising 0 cuts) (sym (length-records_with_payload number payload xs)) k.rising;
          each =
              λ f low high.
              get_or-map (held_with_payload number payload) held (page_at n order f) nothing nothing
              (let below = page_below n order spare f some a in omega arith)
              ∙ ap (held_with_payload number payload) (k.each f low high)
              ∙ finished_fill number payload cuts xs (f - start) (omega arith);
        }

    -- the head is taken: its page is the spare, and the spare is at its position, both empty
    pub pages_swapped : (page : ℕ) → 2 ≤ n → page ≡ page_at n order head → opened ≤ head + n
        → PagesKept n start (set order (head % n) spare) (set (set held spare nothing) page nothing) cuts xs (head + 1)
        opened
    pages_swapped page two is within = let from_start = k.from_start in record {
      begun = k.begun;
      from_start = omega arith;
      bodies = length-set (set held spare nothing) page nothing ∙ (length-set held spare nothing ∙ k.bodies);
      rising = k.rising;
      each = λ f low high.
          let here : page_at n (set order (head % n) spare) f ≡ page_at n order f =
          page_else head n order f head spare (omega arith) (omega arith) (omega arith) (omega arith)
          (λ e. omega arith) in
          ap (λ (p : ℕ). get_or (set (set held spare nothing) page nothing) p nothing) here
          ∙ get_or-set_other (set held spare nothing) page (page_at n order f) nothing nothing
          (λ e.
          pages_differ n order spare head f head some a (omega arith) (omega arith) (omega arith) (omega arith)
          (λ e'. omega arith) (e ∙ is))
          ∙ get_or-set_other held spare (page_at n order f) nothing nothing (a.spare_differs (f % n) (mod-lt f some))
          ∙ k.each f (omega arith) high;
    }
