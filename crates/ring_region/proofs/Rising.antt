-- The pages that are kept of a region rise, and so do the parcels that are recovered.
use Rattle.std.proofs.Common.{◌≡◌, ℕ, zero, suc, ◌+◌, ◌-◌, ◌≤◌, Bool, true, false, List, [], ◌∷◌, None, Some, Option}
use Rattle.std.proofs.Common.{refl, subst, arith}
use Rattle.std.specs.Prelude.{if◌then◌else◌, nat_lt, nat_le, ◌&&◌}
use Rattle.std.specs.List.{slice_get}
use Rattle.trace_model.specs.Parcel.{Parcel}
use Rattle.trace_model.proofs.collections.Elements.{some_is}
use Rattle.std.proofs.lemmas.Option.{none-some}
use borrow.Author.Tests.{leb-true}
use Rattle.ring_region.specs.declared.order.Span.{Span}
use Rattle.ring_region.specs.declared.faults.Damaged.{Damaged}
use Rattle.ring_region.specs.Order.{Found, end_of, span_of, may_follow, kept_behind, recovered_from, recovered}

-- each page begins at or above the end of the one before it, and the first one at or above this number
abbrev pub AreRising : (low : ℕ) → List Parcel → Type 0
AreRising low [] = Unit {0}
AreRising low (parcel ∷ parcels) = (low ≤ parcel.first) × AreRising (end_of parcel) parcels

-- the number below which no page may begin that follows
abbrev pub low_of : Option Span → ℕ
low_of None = 0
low_of (Some last) = last.end

and_right : (a b : Bool) → (a && b) ≡ true → b ≡ true
and_right true b is = is
and_right false b is = cc

pub follows_above : (last : Option Span) (parcel : Parcel) → may_follow last parcel ≡ true → low_of last ≤ parcel.first
follows_above None parcel is = omega arith
follows_above (Some last) parcel is =
    leb-true last.end parcel.first (and_right (nat_lt last.fill parcel.fill) (nat_le last.end parcel.first) is)

kept_each : (last : Option Span) (page : Found) (found : List Found) (follows : Bool)
    → may_follow last page.parcel ≡ follows
    → AreRising (end_of page.parcel) (kept_behind (Some (span_of page.parcel)) found)
    → AreRising (low_of last) (kept_behind last found)
    → AreRising (low_of last)
    (if follows then page.parcel ∷ kept_behind (Some (span_of page.parcel)) found else kept_behind last found)
kept_each last page found true is behind without = (follows_above last page.parcel is, behind)
kept_each last page found false is behind without = without

pub kept-rising : (last : Option Span) (found : List Found) → AreRising (low_of last) (kept_behind last found)
kept-rising last [] = tt
kept-rising last (page ∷ found) =
    kept_each last page found (may_follow last page.parcel) refl (kept-rising (Some (span_of page.parcel)) found)
    (kept-rising last found)

-- before each parcel is room for the numbers that it misses, above the end of the one before it
abbrev pub AreApart : (low : ℕ) → List Parcel → Type 0
AreApart low [] = Unit {0}
AreApart low (parcel ∷ parcels) = (low + parcel.missed ≤ parcel.first) × AreApart (end_of parcel) parcels

pub recovered-apart : (low taken : ℕ) (parcels : List Parcel) → low ≤ taken → AreRising low parcels
    → AreApart low (recovered_from taken parcels)
recovered-apart low taken [] under rising = tt
recovered-apart low taken (parcel ∷ parcels) under rising =
    let above = rising.0 in
    (omega arith, recovered-apart (end_of parcel) (end_of parcel) parcels (omega arith) rising.1)

-- of each nothing is missing, and it is of this CPU
abbrev pub ArePlain : (cpu : ℕ) → List Parcel → Type 0
ArePlain cpu parcels =
    (k : ℕ) (parcel : Parcel) → slice_get parcels k ≡ Some parcel → (parcel.cpu ≡ cpu) × (parcel.missed ≡ 0)

plain-apart : (low cpu : ℕ) (parcels : List Parcel) → ArePlain cpu parcels → AreRising low parcels
    → AreApart low parcels
plain-apart low cpu [] plain rising = tt
plain-apart low cpu (parcel ∷ parcels) plain rising =
    let above = rising.0 in let none = (plain 0 parcel refl).1 in
    (omega (arith, none, above), plain-apart (end_of parcel) cpu parcels (λ k p at. plain (suc k) p at) rising.1)

pub all-apart : (cpu taken : ℕ) (damaged : List Damaged) (parcels : List Parcel) → ArePlain cpu parcels
    → AreRising 0 parcels → AreApart 0 (recovered taken damaged parcels)
all-apart cpu taken [] parcels plain rising = recovered-apart 0 taken parcels (omega arith) rising
all-apart cpu taken (damage ∷ damaged) parcels plain rising = plain-apart 0 cpu parcels plain rising

-- what is recovered is of the same CPU
recovered-cpu : (cpu taken : ℕ) (parcels : List Parcel) → ArePlain cpu parcels → (k : ℕ) (parcel : Parcel)
    → slice_get (recovered_from taken parcels) k ≡ Some parcel → parcel.cpu ≡ cpu
recovered-cpu cpu taken [] plain k parcel at = absurd (none-some parcel at)
recovered-cpu cpu taken (first ∷ parcels) plain zero parcel at =
    subst (λ (p : Parcel). p.cpu ≡ cpu) (some_is (record first { missed = first.first - taken }) parcel at)
    (plain 0 first refl).0
recovered-cpu cpu taken (first ∷ parcels) plain (suc k) parcel at =
    recovered-cpu cpu (end_of first) parcels (λ j p there. plain (suc j) p there) k parcel at

pub all-cpu : (cpu taken : ℕ) (damaged : List Damaged) (parcels : List Parcel) → ArePlain cpu parcels
    → (k : ℕ) (parcel : Parcel) → slice_get (recovered taken damaged parcels) k ≡ Some parcel → parcel.cpu ≡ cpu
all-cpu cpu taken [] parcels plain k parcel at = recovered-cpu cpu taken parcels plain k parcel at
all-cpu cpu taken (damage ∷ damaged) parcels plain k parcel at = (plain k parcel at).0

-- the parcel is that of one of these pages
abbrev pub WasFound : List Found → Parcel → Type 0
WasFound found parcel = (j : ℕ) × (page : Found) × (slice_get found j ≡ Some page) × (page.parcel ≡ parcel)

found_behind : (page : Found) (found : List Found) (parcel : Parcel) → WasFound found parcel
    → WasFound (page ∷ found) parcel
found_behind page found parcel (j, other, there, same) = (suc j, other, there, same)

-- each page that is kept was found
pub kept_was_found : (last : Option Span) (found : List Found) (k : ℕ) (parcel : Parcel)
    → slice_get (kept_behind last found) k ≡ Some parcel → WasFound found parcel
kept_was_found last [] k parcel at = absurd (none-some parcel at)
kept_was_found last (page ∷ found) k parcel at =
    each (may_follow last page.parcel) k
    (λ j there. found_behind page found parcel (kept_was_found (Some (span_of page.parcel)) found j parcel there))
    (λ j there. found_behind page found parcel (kept_was_found last found j parcel there)) at
  where
    each : (follows : Bool) (k : ℕ)
        → ((j : ℕ) → slice_get (kept_behind (Some (span_of page.parcel)) found) j ≡ Some parcel
        → WasFound (page ∷ found) parcel)
        → ((j : ℕ) → slice_get (kept_behind last found) j ≡ Some parcel → WasFound (page ∷ found) parcel)
        → slice_get
        (if follows then page.parcel
        ∷ kept_behind (Some (span_of page.parcel)) found else kept_behind last found) k ≡ Some parcel
        → WasFound (page ∷ found) parcel
    each true zero behind without there = (0, page, refl, some_is page.parcel parcel there)
    each true (suc j) behind without there = behind j there
    each false j behind without there = without j there
