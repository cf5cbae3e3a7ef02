-- A capture that is cut into pages, and one piece more.
use Rattle.std.proofs.Common.{◌≡◌, ◌∙◌, ℕ, suc, ◌+◌, ◌*◌, ◌≤◌, ◌<◌, List, [], ◌∷◌, ◌++◌, length, drop, refl, sym, ap}
use Rattle.std.proofs.Common.{subst, arith, length-append, length-drop, append-nil, append_assoc, ⊎_elim}
use Rattle.std.specs.Prelude.{map}
use Rattle.std.proofs.lemmas.List.{take_all, drop_all, take-append-le, drop-append-le, map-append}
use Rattle.trace_model.specs.Image.{Missed}
use Rattle.capture.specs.Pages.{Page, IsPageOf, AreCut, told, Fit}
use Rattle.capture.specs.Captures.{IsCapture, AddsPage, AddsRest, PassesNumbers}
use Rattle.capture.specs.declared.pages.Capture.{Capture}

pub cut-append : (size : ℕ) (bytes piece : List ℕ) (pages : List Page) (page : Page) → AreCut size bytes pages
    → length bytes ≡ size * length pages → 0 < length piece → length piece ≤ size → IsPageOf piece page
    → AreCut size (bytes ++ piece) (pages ++ page ∷ [])
cut-append size bytes piece [] page cut whole some fits is =
    subst (λ (front : List ℕ). AreCut size (front ++ piece) (page ∷ [])) (sym cut)
    (some, subst (λ (xs : List ℕ). IsPageOf xs page) (sym (take_all size piece fits)) is, drop_all size piece fits)
cut-append size bytes piece (first ∷ pages) page (some_there, first_is, more) whole some fits is =
    let long : size ≤ length bytes = omega (arith, whole) in
    let rest : length (drop size bytes) ≡ size * length pages = omega (arith, whole, length-drop size bytes) in (
      omega (arith, length-append bytes piece),
      subst (λ (xs : List ℕ). IsPageOf xs first) (sym (take-append-le size bytes piece long)) first_is,
      subst (λ (xs : List ℕ). AreCut size xs (pages ++ page ∷ [])) (sym (drop-append-le size bytes piece long))
          (cut-append size (drop size bytes) piece pages page more rest some fits is),
    )

whole_more : (size n a b : ℕ) → a ≡ size * n → b ≡ size → a + b ≡ size * suc n
whole_more size n a b whole one = omega arith

-- after these pages whole pages were read, which have these bytes
pub record AreWhole (size : ℕ) (known : Missed) (before : List Page) (front : List ℕ) (capture : Capture) : Type 0 where
  pub more : List Page
  pub cut : AreCut size front more
  pub capture_is : IsCapture capture (before ++ map (told known) more)
  pub whole : length front ≡ size * length more

pub whole-none : (size : ℕ) (known : Missed) (before : List Page) (capture : Capture) → IsCapture capture before
    → AreWhole size known before [] capture
whole-none size known before capture is = record {
  more = [];
  cut = refl;
  capture_is = subst (IsCapture capture) (sym (append-nil before)) is;
  whole = omega arith;
}

-- the pages with one more
told_more : (known : Missed) (before more : List Page) (page : Page)
    → (before ++ map (told known) more) ++ told known page ∷ [] ≡ before ++ map (told known) (more ++ page ∷ [])
told_more known before more page =
    append_assoc before (map (told known) more) (told known page ∷ [])
    ∙ ap (λ (ps : List Page). before ++ ps) (sym (map-append (told known) more (page ∷ [])))

pub whole-page : (size : ℕ) (known : Missed) (before : List Page) (front piece : List ℕ) (capture new : Capture)
    (was : AreWhole size known before front capture)
    → 0 < size → length piece ≡ size → AddsPage known piece (before ++ map (told known) was.more) new
    → AreWhole size known before (front ++ piece) new
whole-page size known before front piece capture new was some long adds = record {
  more = was.more ++ adds.page ∷ [];
  cut =
      cut-append size front piece was.more adds.page was.cut was.whole (omega (arith, long, some)) (omega (arith, long))
      adds.page_is;
  capture_is = subst (IsCapture new) (told_more known before was.more adds.page) adds.capture_is;
  whole = length-append front piece ∙ whole_more size (length was.more) (length front) (length piece) was.whole long
      ∙ ap (λ (n : ℕ). size * n)
      (let one : suc (length was.more) ≡ length (was.more ++ adds.page ∷ []) =
      omega (arith, length-append was.more (adds.page ∷ [])) in
      one);
}

-- pages were read after these, and have these bytes
pub record AreRead (size : ℕ) (known : Missed) (before : List Page) (bytes : List ℕ) (capture : Capture) : Type 0 where
  pub more : List Page
  pub cut : AreCut size bytes more
  pub capture_is : IsCapture capture (before ++ map (told known) more)

pub whole-rest : (size : ℕ) (known : Missed) (before : List Page) (front piece : List ℕ) (capture new : Capture)
    (was : AreWhole size known before front capture)
    → length piece ≤ size → AddsRest known piece (before ++ map (told known) was.more) new
    → AreRead size known before (front ++ piece) new
whole-rest size known before front piece capture new was fits adds = ⊎_elim
    (λ none. record {
      more = was.more;
      cut = subst (λ (xs : List ℕ). AreCut size xs was.more)
          (sym (append-nil front) ∙ ap (λ (xs : List ℕ). front ++ xs) (sym none.0)) was.cut;
      capture_is = none.1;
    })
    (λ page. record {
      more = was.more ++ page.1.page ∷ [];
      cut = cut-append size front piece was.more page.1.page was.cut was.whole page.0 fits page.1.page_is;
      capture_is = subst (IsCapture new) (told_more known before was.more page.1.page) page.1.capture_is;
    })
    adds

-- pages after these have these bytes, and with them the numbers don't fit
pub record ArePast (size : ℕ) (known : Missed) (before : List Page) (bytes : List ℕ) : Type 0 where
  pub more : List Page
  pub cut : AreCut size bytes more
  pub past : Fit (before ++ map (told known) more) → ⊥

pub whole-past : (size : ℕ) (known : Missed) (before : List Page) (front piece : List ℕ) (capture : Capture)
    (was : AreWhole size known before front capture)
    → 0 < length piece → length piece ≤ size → PassesNumbers known piece (before ++ map (told known) was.more)
    → ArePast size known before (front ++ piece)
whole-past size known before front piece capture was some fits passes = record {
  more = was.more ++ passes.page ∷ [];
  cut = cut-append size front piece was.more passes.page was.cut was.whole some fits passes.page_is;
  past = λ fit. passes.past (subst Fit (sym (told_more known before was.more passes.page)) fit);
}
