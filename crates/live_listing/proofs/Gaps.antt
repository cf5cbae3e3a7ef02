-- What was lost of all CPUs.
use Rattle.std.proofs.Common.{◌≡◌, ℕ, suc, ◌+◌, ◌<◌, ◌≤◌, List, [], ◌∷◌, ◌++◌, length, map, take, Option, sym, ap, ◌∙◌}
use Rattle.std.proofs.Common.{append_assoc, append-nil, arith}
use Rattle.std.proofs.lemmas.List.{length-map, length-take-le, map-append}
use Rattle.capture_text.specs.declared.form.Form.{Form}
use Rattle.capture_text.specs.Window.{KnownBound}
use Rattle.live_listing.specs.declared.pages.CpuPages.{CpuPages}
use Rattle.live_listing.specs.Gaps.{gap_seen}
use Rattle.live_listing.specs.Pages.{Reached, reached}
use Rattle.live_listing.specs.Printing.{gap_text}
use Rattle.live_listing.specs.Following.{last_gaps}

none_before : (n : ℕ) → n + 0 ≡ n
none_before n = omega arith

one_before : (n m : ℕ) → suc n + m ≡ n + suc m
one_before n m = omega arith

gaps_append : (form : Form) (bounds : ℕ → Option KnownBound) (size first : ℕ) (front : List Reached) (last : Reached)
    → last_gaps form bounds size first (front ++ last ∷ [])
    ≡ last_gaps form bounds size first front
    ++ gap_text form (bounds (first + length front)) size (first + length front) last.lost
gaps_append form bounds size first [] last =
    append-nil (gap_text form (bounds first) size first last.lost)
    ∙ ap (λ (n : ℕ). gap_text form (bounds n) size n last.lost) (sym (none_before first))
gaps_append form bounds size first (r ∷ front) last =
    ap (λ (rest : List ℕ). gap_text form (bounds first) size first r.lost ++ rest)
    (gaps_append form bounds size (suc first) front last
    ∙ ap (λ (n : ℕ). last_gaps form bounds size (suc first) front ++ gap_text form (bounds n) size n last.lost)
    (one_before first (length front)))
    ∙ sym (append_assoc (gap_text form (bounds first) size first r.lost) (last_gaps form bounds size (suc first) front)
    (gap_text form (bounds (first + suc (length front))) size (first + suc (length front)) last.lost))

at_least : (n m : ℕ) → n < m → n ≤ m
at_least n m below = omega (arith, below)

from_zero : (n m : ℕ) → m ≡ n → 0 + m ≡ n
from_zero n m is = omega (arith, is)

-- with one CPU more
pub one_gap_more : (form : Form) (bounds : ℕ → Option KnownBound) (size n : ℕ) (cpus : List CpuPages) (found : CpuPages)
    → n < length cpus
    → last_gaps form bounds size 0 (map reached (take n cpus)) ++ gap_text form (bounds n) size n (gap_seen found.gap)
    ≡ last_gaps form bounds size 0 (map reached (take n cpus ++ found ∷ []))
one_gap_more form bounds size n cpus found below =
    let front = map reached (take n cpus) in
    let long : 0 + length front ≡ n =
    from_zero n (length front)
    (length-map (take n cpus) reached ∙ length-take-le n cpus (at_least n (length cpus) below)) in
    ap (λ (k : ℕ). last_gaps form bounds size 0 front ++ gap_text form (bounds k) size k (gap_seen found.gap))
    (sym long)
    ∙ sym (gaps_append form bounds size 0 front (reached found))
    ∙ ap (last_gaps form bounds size 0) (sym (map-append reached (take n cpus) (found ∷ [])))
