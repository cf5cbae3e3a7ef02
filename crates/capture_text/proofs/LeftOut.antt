-- Which losses are left out, by all records.
use Rattle.std.proofs.Common.{◌≡◌, ℕ, ◌<◌, ◌==◌, ◌&&◌, ◌||◌, Bool, true, false, not, List, [], ◌∷◌, Option, Some, None}
use Rattle.std.proofs.Common.{refl, sym, ap, ap₂, ◌∙◌, arith, true≢false}
use Rattle.std.specs.Prelude.{nat_lt, nat_le, fold, if◌then◌else◌}
use Rattle.std.specs.List.{list_any}
use Rattle.std.proofs.lemmas.Bool.Decides.{nat_tests}
use Rattle.trace_model.specs.Listing.{Line}
use Rattle.trace_model.specs.declared.limits.TheConstants.{MAX_CPUS}
use Rattle.capture_text.specs.ListedLaws.{is_before, is_after}
use Rattle.capture_text.specs.Selection.{Selected}
use Rattle.capture_text.specs.Window.{KnownBound, unbounded, later, earlier, noted, noted_of, is_below, is_above}
use Rattle.capture_text.specs.Window.{is_up_to, bound_by, has_run, has_place}

or_none : (b : Bool) → b ≡ (b || false)
or_none true = refl
or_none false = refl

or_or : (a b c : Bool) → ((a || b) || c) ≡ (a || (b || c))
or_or true b c = refl
or_or false b c = refl

-- neither is the case
pub neither : (a b : Bool) → (not a && not b) ≡ not (a || b)
neither true b = refl
neither false b = refl

-- a CPU that there can be
pub there_is : (cpu : ℕ) → cpu < MAX_CPUS → nat_lt cpu MAX_CPUS ≡ true
there_is cpu below = grind (arith, nat_tests)

-- ---- one number more

below_later : (n : ℕ) (known : Option ℕ) (number : ℕ)
    → is_below n (later known number) ≡ (is_below n known || nat_lt n number)
below_later n None number = refl
below_later n (Some known) number = grind (arith, nat_tests)

up_to_later : (n : ℕ) (known : Option ℕ) (number : ℕ)
    → is_up_to n (later known number) ≡ (is_up_to n known || nat_le n number)
up_to_later n None number = refl
up_to_later n (Some known) number = grind (arith, nat_tests)

above_earlier : (n : ℕ) (known : Option ℕ) (number : ℕ)
    → is_above n (earlier known number) ≡ (is_above n known || nat_lt number n)
above_earlier n None number = refl
above_earlier n (Some known) number = grind (arith, nat_tests)

-- ---- one record more

abbrev stepped : (is_own is_there is_such : Bool) → (with_it without : Option ℕ) → Option ℕ
stepped is_own is_there is_such with_it without =
    if is_own && is_there then (if is_such then with_it else without) else without

module _ (tells : Option ℕ → Bool) (more : Option ℕ → ℕ → Option ℕ) (test : ℕ → Bool)
    (is_more : (known : Option ℕ) (number : ℕ) → tells (more known number) ≡ (tells known || test number)) where
  step : (is_own is_there is_such : Bool) (known : Option ℕ) (number : ℕ) → is_there ≡ true
      → tells (stepped is_own is_there is_such (more known number) known)
      ≡ (tells known || (is_own && (is_such && test number)))
  step true true true known number there = is_more known number
  step true true false known number there = or_none (tells known)
  step true false is_such known number there = absurd (true≢false (sym there))
  step false is_there is_such known number there = or_none (tells known)

module _ (selected : Selected) (cpu : ℕ) (there : nat_lt cpu MAX_CPUS ≡ true) where
  before_noted : (bound : KnownBound) (line : Line) → (noted_of selected cpu bound line).before
      ≡ stepped (line.cpu == cpu) (nat_lt cpu MAX_CPUS) (nat_lt line.moment selected.since)
      (later bound.before line.number) bound.before
  before_noted bound line = by (line.cpu == cpu && nat_lt cpu MAX_CPUS)
    where
      by : (b : Bool) → (if b then noted selected bound line else bound).before
          ≡ (if b then (if nat_lt line.moment selected.since then later bound.before line.number else bound.before)
          else bound.before)
      by true = refl
      by false = refl

  after_noted : (bound : KnownBound) (line : Line) → (noted_of selected cpu bound line).after
      ≡ stepped (line.cpu == cpu) (nat_lt cpu MAX_CPUS) (nat_lt selected.until line.moment)
      (earlier bound.after line.number) bound.after
  after_noted bound line = by (line.cpu == cpu && nat_lt cpu MAX_CPUS)
    where
      by : (b : Bool) → (if b then noted selected bound line else bound).after
          ≡ (if b then (if nat_lt selected.until line.moment then earlier bound.after line.number else bound.after)
          else bound.after)
      by true = refl
      by false = refl

  module _ (tells : Option ℕ → Bool) (test : ℕ → Bool) where
    -- what the records before the moments tell
    pub all_before : ((known : Option ℕ) (number : ℕ) → tells (later known number) ≡ (tells known || test number))
        → (lines : List Line) (bound : KnownBound) → tells (fold (noted_of selected cpu) bound lines).before
        ≡ (tells bound.before || list_any (is_before selected cpu test) lines)
    all_before is_more [] bound = or_none (tells bound.before)
    all_before is_more (line ∷ lines) bound =
        all_before is_more lines (noted_of selected cpu bound line)
        ∙ ap (λ (b : Bool). b || list_any (is_before selected cpu test) lines)
        (ap tells (before_noted bound line)
        ∙ step tells later test is_more (line.cpu == cpu) (nat_lt cpu MAX_CPUS) (nat_lt line.moment selected.since)
        bound.before line.number there)
        ∙ or_or (tells bound.before) (is_before selected cpu test line) (list_any (is_before selected cpu test) lines)

    -- and those after them
    pub all_after : ((known : Option ℕ) (number : ℕ) → tells (earlier known number) ≡ (tells known || test number))
        → (lines : List Line) (bound : KnownBound) → tells (fold (noted_of selected cpu) bound lines).after
        ≡ (tells bound.after || list_any (is_after selected cpu test) lines)
    all_after is_more [] bound = or_none (tells bound.after)
    all_after is_more (line ∷ lines) bound =
        all_after is_more lines (noted_of selected cpu bound line)
        ∙ ap (λ (b : Bool). b || list_any (is_after selected cpu test) lines)
        (ap tells (after_noted bound line)
        ∙ step tells earlier test is_more (line.cpu == cpu) (nat_lt cpu MAX_CPUS) (nat_lt selected.until line.moment)
        bound.after line.number there)
        ∙ or_or (tells bound.after) (is_after selected cpu test line) (list_any (is_after selected cpu test) lines)

  -- a run, and a place
  pub run_kept : (lines : List Line) (run : ℕ × ℕ) → has_run (bound_by selected cpu lines) run
      ≡ not (list_any (is_before selected cpu (λ n. nat_lt run.1 n)) lines
      || list_any (is_after selected cpu (λ n. nat_lt n run.0)) lines)
  run_kept lines run =
      ap₂ (λ (a b : Bool). not a && not b)
      (all_before (is_below run.1) (λ n. nat_lt run.1 n) (below_later run.1) lines unbounded)
      (all_after (is_above run.0) (λ n. nat_lt n run.0) (above_earlier run.0) lines unbounded)
      ∙ neither _ _

  pub place_kept : (lines : List Line) (number : ℕ) → has_place (bound_by selected cpu lines) number
      ≡ not (list_any (is_before selected cpu (λ n. nat_le number n)) lines
      || list_any (is_after selected cpu (λ n. nat_lt n number)) lines)
  place_kept lines number =
      ap₂ (λ (a b : Bool). not a && not b)
      (all_before (is_up_to number) (λ n. nat_le number n) (up_to_later number) lines unbounded)
      (all_after (is_above number) (λ n. nat_lt n number) (above_earlier number) lines unbounded)
      ∙ neither _ _
