-- How files begin.
use Rattle.std.proofs.Common.{◌≡◌, ◌∙◌, ℕ, ◌≤◌, ◌<◌, true, false, List, [], ◌∷◌, ◌++◌, length}
use Rattle.std.proofs.Common.{refl, sym, ap, arith, append-nil, ⊎_elim, inl, inr, Err, nat_eq}
use Rattle.std.specs.Prelude.{◌==◌, nat_lt}
use Rattle.std.specs.List.{starts_with}
use Rattle.std.proofs.lemmas.Bool.{cases_lt, cases_Bool, ltb-true, lt-ltb, ne_eqb, true≢false}
use Rattle.trace_dat.specs.declared.fault.Cause.TheVariants.{NotTraceDat}
use Rattle.trace_dat.specs.Fields.{expected_at}
use Rattle.trace_dat.specs.Versions.{magic, places_differing, resembles, reading_of}
use Rattle.capture.specs.files.Files.{is_dat}

-- with more bytes no more places of a word differ
fewer-differ : (first more word : List ℕ) → places_differing (first ++ more) word ≤ places_differing first word
fewer-differ first more [] = omega arith
fewer-differ [] [] (c ∷ word) = omega arith
fewer-differ [] (m ∷ more) (c ∷ word) =
    let rest = fewer-differ [] more word in
    elim (cases_Bool (m == c)) [
      | inl same ↦ rw same (omega (arith, rest))
      | inr other ↦ rw other (omega (arith, rest))
    ]
fewer-differ (b ∷ first) more (c ∷ word) =
    let rest = fewer-differ first more word in
    elim (cases_Bool (b == c)) [
      | inl same ↦ rw same (omega (arith, rest))
      | inr other ↦ rw other (omega (arith, rest))
    ]

-- bytes that are as many as a word's decide
same-differ : (first more word : List ℕ) → length word ≤ length first
    → places_differing (first ++ more) word ≡ places_differing first word
same-differ first more [] long = refl
same-differ [] more (c ∷ word) long = absurd (omega (arith, long))
same-differ (b ∷ first) more (c ∷ word) long =
    rw (same-differ first more word (omega (arith, long))) refl

-- what begins with a word differs nowhere from it
none-differs : (bytes word : List ℕ) → starts_with nat_eq bytes word ≡ true → places_differing bytes word ≡ 0
none-differs bytes [] starts = refl
none-differs [] (c ∷ word) starts = absurd cc
none-differs (b ∷ bytes) (c ∷ word) starts =
    grind (arith, none-differs bytes word)

-- raw pages don't begin as files of trace-cmd do
not-magic : (bytes : List ℕ) → resembles bytes ≡ false → starts_with nat_eq bytes magic ≡ false
not-magic bytes other = elim (cases_Bool (starts_with nat_eq bytes magic)) [
  | inl starts ↦ absurd (let none = none-differs bytes magic starts in
      let e : nat_lt (places_differing bytes magic) 2 ≡ true = rw none refl in cc)
  | inr not ↦ not
]

-- an instance is listed
named : (n : ℕ) (name bytes : List ℕ) → is_dat (n ∷ name) bytes ≡ true
named n name bytes = rw (ne_eqb (length (n ∷ name)) 0 (λ e. omega (arith, e))) refl

raw-resembles : (name bytes : List ℕ) → is_dat name bytes ≡ false → resembles bytes ≡ false
raw-resembles [] bytes raw = raw
raw-resembles (n ∷ name) bytes raw = absurd (true≢false (sym (named n name bytes) ∙ raw))

-- so raw pages aren't read as such
pub raw-reading : (name bytes : List ℕ) → is_dat name bytes ≡ false
    → reading_of bytes ≡ Err (record { cause = NotTraceDat; at = 0 })
unfolding reading_of expected_at
raw-reading name bytes raw =
    rw (not-magic bytes (raw-resembles name bytes raw)) refl

-- what is read as a file of trace-cmd still is, with more bytes
pub dat-more : (name first more : List ℕ) → is_dat name first ≡ true → is_dat name (first ++ more) ≡ true
dat-more [] first more dat =
    lt-ltb _ _ (let few = ltb-true (places_differing first magic) 2 dat in
    omega (arith, few, fewer-differ first more magic))
dat-more (n ∷ name) first more dat = named n name (first ++ more)

same-front : (name first more : List ℕ) → 10 ≤ length first → is_dat name (first ++ more) ≡ is_dat name first
same-front [] first more long = ap (λ (n : ℕ). nat_lt n 2) (same-differ first more magic long)
same-front (n ∷ name) first more long = named n name (first ++ more) ∙ sym (named n name first)

-- what isn't still isn't, if there is more only after a whole page
pub raw-more : (size : ℕ) (name first more : List ℕ) → 48 ≤ size → (length first < size → more ≡ [])
    → is_dat name first ≡ false → is_dat name (first ++ more) ≡ false
raw-more size name first more large none raw = ⊎_elim
    (λ short. ap (λ (xs : List ℕ). is_dat name (first ++ xs)) (none short)
    ∙ ap (is_dat name) (append-nil first) ∙ raw)
    (λ long. same-front name first more (omega (arith, long, large)) ∙ raw)
    (cases_lt (length first) size)
