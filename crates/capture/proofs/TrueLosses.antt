-- The only loss of unknown number is what is skipped and not counted.
use Rattle.std.proofs.Common.{◌≡◌, ◌≢◌, ◌∙◌, ℕ, ◌+◌, ◌-◌, ◌<◌, ◌⊎◌, inl, inr, ⊎_elim, true, false, List, [], ◌∷◌, map}
use Rattle.std.proofs.Common.{Option, Some, None, refl, sym, ap, subst, arith}
use Rattle.std.specs.List.{sum_by}
use Rattle.std.proofs.lemmas.List.Sums.{sum_by-cons}
use Rattle.trace_model.specs.Partition.{Piece}
use Rattle.trace_model.specs.ParcelBytes.{AgreesWith}
use Rattle.trace_model.specs.Image.{Missed, none, unknown, counted}
use Rattle.capture.specs.Pages.{Page, intact, damaged, told_of, told}
use Rattle.capture.specs.Rings.{AreReported, HaveCounts}
use Rattle.capture.proofs.Told.{all-told-unknown}
use Rattle.capture.specs.files.Losses.{counted_in, counted_losses, unknown_in, unknown_losses, are_intact, loss_of}
use Rattle.capture.specs.files.Losses.{settled}
use Rattle.capture.proofs.LossSums.{loss-known, loss-not-one}

-- how many records pieces skip
abbrev skipped_in : List Piece → ℕ
skipped_in pieces = sum_by (λ p. p.skipped) pieces

skipped-cons : (p : Piece) (pieces : List Piece) → skipped_in (p ∷ pieces) ≡ p.skipped + skipped_in pieces
skipped-cons p pieces = sum_by-cons (λ (q : Piece). q.skipped) p pieces

-- one loss of unknown number, or none
one-or-none : (missed : Missed) → (unknown_in missed ≡ 1) ⊎ (unknown_in missed ≡ 0)
one-or-none none = inr refl
one-or-none unknown = inl refl
one-or-none (counted events) = inr refl

-- ---- before one page

-- what is stated of a loss agrees with what is skipped, and its number is stated
abbrev IsCounted : Missed → ℕ → Type 0
IsCounted missed skipped = AgreesWith missed skipped × (missed ≡ unknown → ⊥)

-- a loss whose number is stated
stated : (missed : Missed) (skipped : ℕ) → unknown_in missed ≡ 0 → AgreesWith missed skipped
    → skipped ≡ counted_in missed
stated none skipped no_unknown agrees = agrees
stated unknown skipped no_unknown agrees = absurd (omega (arith, no_unknown))
stated (counted events) skipped no_unknown agrees = sym agrees.1

stated-told : (known missed : Missed) (skipped : ℕ) → unknown_in missed ≡ 0 → AgreesWith missed skipped
    → IsCounted (told_of known missed) skipped
stated-told known none skipped no_unknown agrees = (agrees, λ e. cc)
stated-told known unknown skipped no_unknown agrees = absurd (omega (arith, no_unknown))
stated-told known (counted events) skipped no_unknown agrees = (agrees, λ e. cc)

-- one of unknown number, of some records at least
unstated : (missed : Missed) (skipped : ℕ) → unknown_in missed ≡ 1 → AgreesWith missed skipped
    → (0 < skipped) × (counted_in missed ≡ 0)
unstated none skipped one agrees = absurd (omega (arith, one))
unstated unknown skipped one agrees = (agrees, refl)
unstated (counted events) skipped one agrees = absurd (omega (arith, one))

unstated-told : (missed : Missed) (skipped : ℕ) → unknown_in missed ≡ 1 → AgreesWith missed skipped
    → IsCounted (told_of (counted skipped) missed) skipped
unstated-told none skipped one agrees = absurd (omega (arith, one))
unstated-told unknown skipped one agrees = ((agrees, refl), λ e. cc)
unstated-told (counted events) skipped one agrees = absurd (omega (arith, one))

-- ---- before all pages

-- the pages are pieces, and all of them state their losses
abbrev AreCounted : List Page → List Piece → Type 0
AreCounted pages pieces = AreReported pages pieces × HaveCounts pages

false-true : false ≡ true → ⊥
false-true e = cc

all-stated : (pages : List Page) (pieces : List Piece) → AreReported pages pieces → are_intact pages ≡ true
    → unknown_losses pages ≡ 0 → skipped_in pieces ≡ counted_losses pages
all-stated [] [] reported whole no_unknown = refl
all-stated [] (p ∷ pieces) reported whole no_unknown = absurd reported
all-stated (intact read ∷ pages) [] reported whole no_unknown = absurd reported
all-stated (intact read ∷ pages) (p ∷ pieces) (records, agrees, reported) whole no_unknown =
    let here = stated read.missed p.skipped (omega (arith, no_unknown)) agrees in
    let rest = all-stated pages pieces reported whole (omega (arith, no_unknown)) in
    omega (arith, skipped-cons p pieces, here, rest)
all-stated (damaged cause ∷ pages) pieces reported whole no_unknown = absurd (false-true whole)

all-stated-told : (known : Missed) (pages : List Page) (pieces : List Piece) → AreReported pages pieces
    → are_intact pages ≡ true → unknown_losses pages ≡ 0 → AreCounted (map (told known) pages) pieces
all-stated-told known [] [] reported whole no_unknown = (tt, tt)
all-stated-told known [] (p ∷ pieces) reported whole no_unknown = absurd reported
all-stated-told known (intact read ∷ pages) [] reported whole no_unknown = absurd reported
all-stated-told known (intact read ∷ pages) (p ∷ pieces) (records, agrees, reported) whole no_unknown =
    let here = stated-told known read.missed p.skipped (omega (arith, no_unknown)) agrees in
    let rest = all-stated-told known pages pieces reported whole (omega (arith, no_unknown)) in
    ((records, here.0, rest.0), (here.1, rest.1))
all-stated-told known (damaged cause ∷ pages) pieces reported whole no_unknown = absurd (false-true whole)

-- more is skipped than is counted
more-skipped : (pages : List Page) (pieces : List Piece) → AreReported pages pieces → are_intact pages ≡ true
    → unknown_losses pages ≡ 1 → counted_losses pages < skipped_in pieces
more-skipped [] pieces reported whole one = absurd (omega (arith, one))
more-skipped (intact read ∷ pages) [] reported whole one = absurd reported
more-skipped (intact read ∷ pages) (p ∷ pieces) (records, agrees, reported) whole one = ⊎_elim
    (λ unsaid.
    let here = unstated read.missed p.skipped unsaid agrees in
    let rest = all-stated pages pieces reported whole (omega (arith, one, unsaid)) in
    omega (arith, skipped-cons p pieces, here.0, here.1, rest))
    (λ said.
    let here = stated read.missed p.skipped said agrees in
    let rest = more-skipped pages pieces reported whole (omega (arith, one, said)) in
    omega (arith, skipped-cons p pieces, here, rest))
    (one-or-none read.missed)
more-skipped (damaged cause ∷ pages) pieces reported whole one = absurd (false-true whole)

-- the loss is the rest
one-told : (loss : ℕ) (pages : List Page) (pieces : List Piece) → AreReported pages pieces → are_intact pages ≡ true
    → unknown_losses pages ≡ 1 → skipped_in pieces ≡ counted_losses pages + loss
    → AreCounted (map (told (counted loss)) pages) pieces
one-told loss [] pieces reported whole one total = absurd (omega (arith, one))
one-told loss (intact read ∷ pages) [] reported whole one total = absurd reported
one-told loss (intact read ∷ pages) (p ∷ pieces) (records, agrees, reported) whole one total = ⊎_elim
    (λ unsaid.
    let no_unknown : unknown_losses pages ≡ 0 = omega (arith, one, unsaid) in
    let all = all-stated pages pieces reported whole no_unknown in
    let none_counted = (unstated read.missed p.skipped unsaid agrees).1 in
    let is : p.skipped ≡ loss = omega (arith, skipped-cons p pieces, none_counted, all, total) in
    let here = subst (λ (n : ℕ). IsCounted (told_of (counted n) read.missed) p.skipped) is
    (unstated-told read.missed p.skipped unsaid agrees) in
    let rest = all-stated-told (counted loss) pages pieces reported whole no_unknown in
    ((records, here.0, rest.0), (here.1, rest.1)))
    (λ said.
    let own = stated read.missed p.skipped said agrees in
    let left : skipped_in pieces ≡ counted_losses pages + loss = omega (arith, skipped-cons p pieces, own, total) in
    let here = stated-told (counted loss) read.missed p.skipped said agrees in
    let rest = one-told loss pages pieces reported whole (omega (arith, one, said)) left in
    ((records, here.0, rest.0), (here.1, rest.1)))
    (one-or-none read.missed)
one-told loss (damaged cause ∷ pages) pieces reported whole one total = absurd (false-true whole)

-- ---- the loss that is settled

pub one-settled : (pages : List Page) (pieces : List Piece) (overrun : ℕ) → AreReported pages pieces
    → are_intact pages ≡ true → unknown_losses pages ≡ 1 → overrun ≡ skipped_in pieces
    → AreCounted (settled (Some overrun) pages) pieces
one-settled pages pieces overrun reported whole one is =
    let more = more-skipped pages pieces reported whole one in
    let known = loss-known overrun pages one whole (omega (arith, is, more)) in
    subst (λ (m : Missed). AreCounted (map (told m) pages) pieces) (sym known)
    (one-told (overrun - counted_losses pages) pages pieces reported whole one (omega (arith, is, more)))

unknown-unless-one : (overrun : Option ℕ) (pages : List Page) → unknown_losses pages ≢ 1
    → loss_of overrun pages ≡ unknown
unknown-unless-one None pages other = refl
unknown-unless-one (Some overrun) pages other = loss-not-one overrun pages other

pub others-stay : (pages : List Page) (overrun : Option ℕ) → unknown_losses pages ≢ 1 → settled overrun pages ≡ pages
others-stay pages overrun other =
    ap (λ (m : Missed). map (told m) pages) (unknown-unless-one overrun pages other) ∙ all-told-unknown pages
