-- Pages that lie in memory are added to a capture.
use Rattle.std.proofs.Common.{◌≡◌, ◌∙◌, ℕ, ◌≤◌, ◌<◌, List, ◌++◌, length, sym, ap, subst, append_assoc, ⊎_elim, arith}
use Rattle.std.specs.Prelude.{map}
use Rattle.trace_model.specs.Image.{Missed}
use Rattle.capture.specs.Pages.{Page, told, AreCut}
use Rattle.capture.specs.Captures.{IsCapture, AddsPage, AddsRest, PassesNumbers, AddsPages, PassesWithin}
use Rattle.capture.specs.declared.pages.Capture.{Capture}
use Rattle.capture.proofs.Cut.{AreWhole, whole-page, whole-rest, whole-past}

-- a beginning of the bytes was added as whole pages, and this is left
pub record AddsWhole (size : ℕ) (known : Missed) (bytes rest : List ℕ) (old capture : Capture) : Type 0 where
  pub front : List ℕ
  pub parts : bytes ≡ front ++ rest
  pub cpu_is : capture.cpu ≡ old.cpu
  pub are : (before : List Page) → IsCapture old before → AreWhole size known before front capture

-- bytes that are some are a page
page_of : (known : Missed) (piece : List ℕ) (pages : List Page) (capture : Capture) → 0 < length piece
    → AddsRest known piece pages capture
    → AddsPage known piece pages capture
page_of known piece pages capture some adds =
    ⊎_elim (λ none. absurd (let lengths = ap length none.0 in omega (arith, lengths, some))) (λ page. page.1) adds

pub adds-page : (size : ℕ) (known : Missed) (bytes rest piece after : List ℕ) (old capture new : Capture)
    → AddsWhole size known bytes rest old capture → 0 < size → length piece ≡ size → rest ≡ piece ++ after
    → new.cpu ≡ capture.cpu → ((pages : List Page) → IsCapture capture pages → AddsRest known piece pages new)
    → AddsWhole size known bytes after old new
adds-page size known bytes rest piece after old capture new was some long parted cpu adds = record {
  front = was.front ++ piece;
  parts = was.parts ∙ ap (λ (xs : List ℕ). was.front ++ xs) parted ∙ sym (append_assoc was.front piece after);
  cpu_is = cpu ∙ was.cpu_is;
  are = λ before is.
      let w = was.are before is in
      let pages : List Page = before ++ map (told known) w.more in
      whole-page size known before was.front piece capture new w some long
      (page_of known piece pages new (let there : 0 < length piece = omega (arith, some, long) in there)
      (adds pages w.capture_is));
}

pub adds-all : (size : ℕ) (known : Missed) (bytes rest : List ℕ) (old capture new : Capture)
    (was : AddsWhole size known bytes rest old capture) (before : List Page) (is : IsCapture old before)
    → length rest ≤ size
    → AddsRest known rest (before ++ map (told known) (was.are before is).more) new
    → AddsPages size known bytes before new
adds-all size known bytes rest old capture new was before is fits adds =
    let r = whole-rest size known before was.front rest capture new (was.are before is) fits adds in
    record {
      more = r.more;
      cut = subst (λ (xs : List ℕ). AreCut size xs r.more) (sym was.parts) r.cut;
      capture_is = r.capture_is;
    }

pub adds-past : (size : ℕ) (known : Missed) (bytes rest piece after : List ℕ) (old capture : Capture)
    → AddsWhole size known bytes rest old capture → length piece ≤ size → rest ≡ piece ++ after
    → ((pages : List Page) → IsCapture capture pages → (0 < length piece) × PassesNumbers known piece pages)
    → (before : List Page) → IsCapture old before → PassesWithin size known bytes before
adds-past size known bytes rest piece after old capture was fits parted passes before is =
    let w = was.are before is in
    let past = passes (before ++ map (told known) w.more) w.capture_is in
    let p = whole-past size known before was.front piece capture w past.0 fits past.1 in
    record {
      front = was.front ++ piece;
      behind = after;
      more = p.more;
      parts = was.parts ∙ ap (λ (xs : List ℕ). was.front ++ xs) parted ∙ sym (append_assoc was.front piece after);
      cut = p.cut;
      past = p.past;
    }
