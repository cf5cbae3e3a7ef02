-- The tail page of an empty stack: its records are the newest committed ones.
use Rattle.std.proofs.Common.{◌≡◌, ℕ, List, [], ◌∷◌, length, drop, get_or, map, refl, sym, ap, ◌∙◌, arith}
use Rattle.std.proofs.lemmas.List.{drop-map}
use Rattle.trace_model.specs.History.{HistoryEvent, as_record, reserved_records, committed_records}
use Rattle.trace_model.specs.Packing.{opens_of, cut_from, fills_of}
use Rattle.trace_model.specs.Ring.{fill_of}
use Rattle.page_image.specs.Contents.{records_of_page}
use Rattle.nested_writer.specs.Stack.{Stack}
use Rattle.nested_writer.specs.IsStack.{IsStack}
use Rattle.nested_writer.specs.Released.{IsRestingTail}
use Rattle.nested_writer.proofs.Answering.{number_counts}
use Rattle.nested_writer.proofs.Releasing.{all_left, all_committed, last_fill, tail_written}

-- the last part of a list that is cut is what follows the last cut
last_part : {X : Type 0} (from : ℕ) (cuts : List ℕ) (xs : List X)
    → get_or (cut_from from cuts xs) (length cuts) [] ≡ drop (get_or (from ∷ cuts) (length cuts) 0) xs
last_part from [] xs = refl
last_part from (cut ∷ cuts) xs = last_part cut cuts xs

module _ (start : ℕ) (h : List HistoryEvent) (s : Stack) (none : s.frames ≡ []) (alone : s.older ≡ [])
    (k : IsStack start h s) where
  newest : records_of_page s.tail ≡ drop s.tail.first (committed_records h)
  newest =
      let first : s.tail.first ≡ get_or (0 ∷ opens_of h) (length (opens_of h)) 0 = k.holds.tail_is.first_is in
      (tail_written start h s none alone k).records_are
      ∙ ap (λ (i : ℕ). map as_record (get_or (fills_of h) i [])) (sym (last_fill start h s none alone k))
      ∙ ap (map as_record) (last_part 0 (opens_of h) (reserved_records h))
      ∙ sym (drop-map as_record (get_or (0 ∷ opens_of h) (length (opens_of h)) 0) (reserved_records h))
      ∙ (λ i. drop (sym first i) (sym (all_committed h (all_left start h s none k)) i))

  pub tail_rests : IsRestingTail s.size s.done (fill_of h start s.done) h s.tail
  tail_rests = record {
    written = tail_written start h s none alone k;
    newest = newest;
    last = number_counts start h s k;
    fits = let room = k.holds.room (length (opens_of h)) in let len = k.holds.tail_is.holds.len_is in omega arith;
    limit = k.holds.large;
  }
