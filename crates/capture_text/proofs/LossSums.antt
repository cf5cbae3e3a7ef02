-- The losses of a CPU in sum.
use Rattle.std.proofs.Common.{◌≡◌, ℕ, zero, suc, ◌+◌, ◌<◌, ◌≤◌, List, [], ◌∷◌, ◌++◌, Some, refl, arith, le_trans}
use Rattle.std.proofs.Common.{append_assoc}
use Rattle.std.specs.Prelude.{⊤, codes}
use Rattle.std.specs.List.{slice_get}
use Rattle.std.proofs.lemmas.List.{map-append}
use Rattle.std.proofs.lemmas.List.Sums.{sum_by_push}
use Rattle.std.proofs.Common.{map, ap, ◌∙◌}
use Rattle.trace_model.specs.declared.numbers.RecordNo.{RecordNo}
use Rattle.collector.specs.Runs.{run_numbers}
use Rattle.text_model.specs.Text.{line_feed}
use Rattle.capture_text.specs.LossSums.{missing_count, run_length}

-- runs that begin at this number or after it, and of which none touches the next
abbrev pub Rise : ℕ → List (ℕ × ℕ) → Type 0
Rise low [] = ⊤
Rise low (run ∷ runs) = (low ≤ run.0) × (run.0 ≤ run.1) × Rise (suc run.1) runs

pub rise_of : (low : ℕ) (runs : List (ℕ × ℕ))
    → ((k : ℕ) (run : ℕ × ℕ) → slice_get runs k ≡ Some run → run.0 ≤ run.1)
    → ((k : ℕ) (a b : ℕ × ℕ) → slice_get runs k ≡ Some a → slice_get runs (suc k) ≡ Some b → suc a.1 < b.0)
    → ((run : ℕ × ℕ) → slice_get runs 0 ≡ Some run → low ≤ run.0)
    → Rise low runs
rise_of low [] forward apart from = tt
rise_of low (run ∷ runs) forward apart from = (
  from run refl,
  forward zero run refl,
  rise_of (suc run.1) runs (λ k other at. forward (suc k) other at)
      (λ k a b is_a is_b. apart (suc k) a b is_a is_b)
      (λ next at. let gap = apart zero run next refl at in omega (arith, gap)),
)

-- they also begin after each number before this one
pub rise_lower : (low least : ℕ) (runs : List (ℕ × ℕ)) → least ≤ low → Rise low runs → Rise least runs
rise_lower low least [] below rise = tt
rise_lower low least (run ∷ runs) below rise = (le_trans below rise.0, rise.1, rise.2)

-- one run more
pub count_more : (done : List (RecordNo × RecordNo)) (item : RecordNo × RecordNo)
    → missing_count (map run_numbers (done ++ item ∷ []))
    ≡ missing_count (map run_numbers done) + run_length (run_numbers item)
count_more done item =
    ap missing_count (map-append run_numbers done (item ∷ []))
    ∙ sum_by_push run_length (map run_numbers done) (run_numbers item)

pub json_sum : (text cpu missing unknown overrun commit dropped : List ℕ)
    → ((((((text ++ (codes "{\"losses\":{\"cpu\":" ++ cpu)) ++ (codes ",\"missing\":" ++ missing))
    ++ (codes ",\"unknown\":" ++ unknown)) ++ (codes ",\"overrun\":" ++ overrun))
    ++ (codes ",\"commit_overrun\":" ++ commit)) ++ (codes ",\"dropped\":" ++ dropped))
    ++ (codes "}}" ++ line_feed ∷ [])
    ≡ text
    ++ (codes "{\"losses\":{\"cpu\":" ++ cpu ++ codes ",\"missing\":" ++ missing ++ codes ",\"unknown\":" ++ unknown
    ++ codes ",\"overrun\":" ++ overrun ++ codes ",\"commit_overrun\":" ++ commit ++ codes ",\"dropped\":" ++ dropped
    ++ codes "}}" ++ line_feed ∷ [])
json_sum text cpu missing unknown overrun commit dropped = simp append_assoc
