-- Plain pages are raw pages of their size, none of which shows smaller ones.
use Rattle.std.proofs.Common.{◌≡◌, ◌∙◌, ℕ, zero, suc, ◌<◌, ◌≤◌, false, List, [], ◌∷◌, length, take, drop}
use Rattle.std.proofs.Common.{None, sym, ap, ap₂, arith, length-drop, take-append-drop}
use Rattle.std.proofs.lemmas.List.{nil_from_length, length-take}
use Rattle.capture.specs.Pages.{Page, AreCut}
use Rattle.capture.specs.Smaller.{first_of_both, smaller_within, smaller_pages}
use Rattle.capture.specs.files.Files.{is_dat}
use Rattle.capture.proofs.SmallerPages.{within-nil}
use Rattle.capture.proofs.Prefixes.{raw-more}
use Rattle.page_lines.specs.Sources.{ArePlain}

pub plain_cut : (size : ℕ) (bytes : List ℕ) (pages : List Page) → ArePlain size bytes pages → AreCut size bytes pages
plain_cut size bytes [] none = none
plain_cut size bytes (page ∷ pages) (some, raw, plain, is, others) =
    (some, is, plain_cut size (drop size bytes) pages others)

none_within : (count size : ℕ) (bytes : List ℕ) (pages : List Page) → 0 < size → length bytes ≤ count
    → ArePlain size bytes pages → smaller_within count size bytes ≡ None
none_within count size bytes [] some few none =
    ap (smaller_within count size) none ∙ within-nil count size
none_within zero size bytes (page ∷ pages) some few (there, raw, plain, is, others) =
    absurd (omega (arith, few, there))
none_within (suc count) size bytes (page ∷ pages) some few (there, raw, plain, is, others) =
    ap₂ first_of_both plain
    (none_within count size (drop size bytes) pages some
    (omega (arith, few, some, there, length-drop size bytes)) others)

pub plain_smaller : (size : ℕ) (bytes : List ℕ) (pages : List Page) → 0 < size → ArePlain size bytes pages
    → smaller_pages size bytes ≡ None
plain_smaller size bytes pages some are = none_within (length bytes) size bytes pages some (omega arith) are

pub plain_raw : (size : ℕ) (bytes : List ℕ) (pages : List Page) → 48 ≤ size → ArePlain size bytes pages
    → is_dat [] bytes ≡ false
plain_raw size bytes [] large none = ap (is_dat []) none
plain_raw size bytes (page ∷ pages) large (some, raw, plain, is, others) =
    ap (is_dat []) (sym (take-append-drop size bytes))
    ∙ raw-more size [] (take size bytes) (drop size bytes) large
    (λ short. nil_from_length (drop size bytes)
    (omega (arith, short, length-take size bytes, length-drop size bytes))) raw
