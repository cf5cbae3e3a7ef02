-- A number, digit by digit.
use Rattle.std.proofs.Common.{◌≡◌, ℕ, ◌+◌, ◌-◌, ◌*◌, ◌^◌, ◌<◌, List, length, get_or, drop, Option, Some, None, sym, ap}
use Rattle.std.proofs.Common.{◌∙◌}
use Rattle.std.specs.Int.{IsInRange}
use Rattle.std.specs.Option.{SomeIff, option_and_then}
use Rattle.std.proofs.lemmas.Bool.{ltb-true, leb-true, lt-ltb, le-leb, and_from, and_parts, cond-true, cond-false}
use Rattle.std.proofs.lemmas.Bool.{false_from_ne_true}
use Rattle.std.proofs.lemmas.List.{at_drop_more}
use Rattle.trace_dat.specs.kernel_texts.Lines.{next_number, number_after}

-- the digit and the number with it, as facts
abbrev IsNext : ℕ → ℕ → Type 0
IsNext front digit = IsInRange 48 57 digit × (front * 10 + (digit - 48) < 2 ^ 64)

-- a number that a digit is added to is the next number
pub next_is : (front digit : ℕ) (r : Option ℕ) → SomeIff r (IsNext front digit) (front * 10 + (digit - 48))
    → next_number front digit ≡ r
unfolding next_number
next_is front digit None h =
    cond-false _ _ _ (false_from_ne_true _ (λ yes.
    let both = and_parts _ _ yes in
    let range = and_parts _ _ both.0 in
    h ((leb-true _ _ range.0, leb-true _ _ range.1), ltb-true _ _ both.1)))
next_is front digit (Some next) h =
    cond-true _ _ _ (and_from _ _ (and_from _ _ (le-leb _ _ h.0.0.0) (le-leb _ _ h.0.0.1)) (lt-ltb _ _ h.0.1))
    ∙ ap (λ n. Some n) (sym h.1)

-- the number that the digits from a place on spell, after the digits of another
pub number_turns : (text : List ℕ) (i number : ℕ) (r : Option ℕ) → i < length text
    → SomeIff r (IsNext number (get_or text i 0)) (number * 10 + (get_or text i 0 - 48))
    → number_after number (drop i text) ≡ option_and_then (λ next. number_after next (drop (i + 1) text)) r
number_turns text i number r below h =
    at_drop_more (λ ds. number_after number ds) text i 0 below
    ∙ ap (λ o. option_and_then (λ next. number_after next (drop (i + 1) text)) o) (next_is number (get_or text i 0) r h)
