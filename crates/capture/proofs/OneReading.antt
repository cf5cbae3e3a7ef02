-- Bytes are one list of pages at most.
use Rattle.std.proofs.Common.{◌≡◌, ℕ, ◌<◌, List, [], ◌∷◌, length, take, drop, refl, sym, ap, ap₂, ◌∙◌, arith}
use Rattle.trace_model.specs.Record.{Record}
use Rattle.trace_model.specs.Image.{Missed}
use Rattle.trace_model.proofs.images.Images.{DecodesImage-unique, DecodesImage-FirstImageFault, FirstImageFault-unique}
use Rattle.capture.specs.stamps.Restored.{restored_image}
use Rattle.capture.specs.Pages.{Page, intact, damaged, loss_stated, IsPageOf, AreCut}

one_page : (bytes : List ℕ) (page other : Page) → IsPageOf bytes page → IsPageOf bytes other → page ≡ other
one_page bytes (intact read) (intact other) (time, size, stated, is, lost)
    (time_too, size_too, stated_too, is_too, lost_too) =
    let same =
    DecodesImage-unique (restored_image bytes) time time_too size size_too stated stated_too read.records
    other.records is is_too in
    ap₂ (λ (missed : Missed) (records : List Record). intact record { missed = missed; records = records })
    (lost ∙ ap loss_stated same.2 ∙ sym lost_too) same.3
one_page bytes (intact read) (damaged cause) (time, size, stated, is, lost) fault =
    absurd (DecodesImage-FirstImageFault (restored_image bytes) time size stated read.records cause is fault)
one_page bytes (damaged cause) (intact read) fault (time, size, stated, is, lost) =
    absurd (DecodesImage-FirstImageFault (restored_image bytes) time size stated read.records cause is fault)
one_page bytes (damaged cause) (damaged other) fault fault_too =
    ap damaged (FirstImageFault-unique (restored_image bytes) cause other fault fault_too)

no_bytes : (bytes : List ℕ) → bytes ≡ [] → 0 < length bytes → ⊥
no_bytes bytes none some = let lengths = ap (length {A = ℕ}) none in omega (arith, lengths, some)

pub one-reading : (size : ℕ) (bytes : List ℕ) (pages others : List Page) → AreCut size bytes pages
    → AreCut size bytes others → pages ≡ others
one-reading size bytes [] [] cut too = refl
one-reading size bytes [] (other ∷ others) cut too = absurd (no_bytes bytes cut too.0)
one-reading size bytes (page ∷ pages) [] cut too = absurd (no_bytes bytes too cut.0)
one-reading size bytes (page ∷ pages) (other ∷ others) (some, is, more) (some_too, is_too, more_too) =
    ap₂ (λ (p : Page) (ps : List Page). p ∷ ps) (one_page (take size bytes) page other is is_too)
    (one-reading size (drop size bytes) pages others more more_too)
