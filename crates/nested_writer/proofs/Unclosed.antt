-- How many records are in no closed fill.
use Rattle.std.proofs.Common.{◌≡◌, ℕ, ◌-◌, ◌≤◌, List, [], ◌∷◌, length, get_or, refl, ap, ◌∙◌, arith}
use Rattle.std.specs.Prelude.{unwrap_or}
use Rattle.trace_model.specs.History.{HistoryEvent, reserved_records}
use Rattle.trace_model.specs.Packing.{opens_of, first_of_fill, is_wished}
use Rattle.trace_model.proofs.packing.FillFirsts.{first_below}
use Rattle.page_image.specs.Contents.{Contents}
use Rattle.nested_writer.specs.Stack.{Stack, next_number}
use Rattle.nested_writer.specs.IsStack.{IsStack, IsReachedStack}
use Rattle.nested_writer.specs.Unclosed.{first_of_pages, AreUnclosed}
use Rattle.nested_writer.proofs.Answering.{number_counts}
use Rattle.nested_writer.proofs.Dropping.{oldest}

-- the number of the first record of the oldest open page
abbrev pub oldest_first : Stack → ℕ
oldest_first s = unwrap_or (first_of_pages s.older) s.tail.first

module _ (start : ℕ) (h : List HistoryEvent) (s : Stack) (k : IsStack start h s) where
  first_by : (older : List Contents) → s.older ≡ older
      → unwrap_or (first_of_pages older) s.tail.first ≡ first_of_fill h start s.done
  first_by [] is =
      let few : length s.older ≡ 0 = ap length is in
      let begun = k.holds.begun in
      let from = k.holds.from_start in
      k.holds.tail_is.first_is
      ∙ ap (λ (i : ℕ). get_or (0 ∷ opens_of h) i 0)
      (let last : length (opens_of h) ≡ s.done - start = omega arith in last)
  first_by (page ∷ older) is =
      (oldest start (opens_of h) (reserved_records h) (is_wished h) s page older is k.holds).first_is

  first_is : oldest_first s ≡ first_of_fill h start s.done
  first_is = first_by s.older refl

  pub first_le : oldest_first s ≤ next_number s
  first_le =
      let begun = k.holds.begun in
      let from = k.holds.from_start in
      let low =
      first_below 0 (opens_of h) (length (reserved_records h)) (s.done - start) (omega arith) k.holds.rising in
      let first = first_is in
      let counts = number_counts start h s k in omega arith

  pub are_unclosed : AreUnclosed start s.done h (next_number s - oldest_first s)
  are_unclosed =
      let low = first_le in
      let first = first_is in
      let counts = number_counts start h s k in omega arith

-- of a stack of some history
pub stands_first_le : (s : Stack) → IsReachedStack s → oldest_first s ≤ next_number s
unfolding IsReachedStack
stands_first_le s (start, history, k) = first_le start history s k
