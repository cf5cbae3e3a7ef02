-- Runs of missing numbers that are put one after the other to the front of an array.
use Rattle.std.proofs.Common.{◌≡◌, ⊎_elim, ℕ, zero, suc, ◌+◌, ◌<◌, ◌≤◌, List, [], ◌∷◌, ◌++◌, length, take, drop, map}
use Rattle.std.proofs.Common.{Some, sym, ap, ◌∙◌, subst, arith, append_assoc, slice_set, get_or}
use Rattle.std.specs.List.{slice_get}
use Rattle.std.proofs.lemmas.Bool.{cases_lt}
use Rattle.std.proofs.lemmas.List.{drop_more, drop_all, take_all, take-append-le, set_at, length-map, length-take-le}
use Rattle.std.proofs.lemmas.List.{map-append, length-append}
use Rattle.std.proofs.lemmas.Option.{slice_get_within, slice_get-get_or}
use Rattle.trace_model.specs.declared.numbers.RecordNo.{RecordNo}
use Rattle.collector.specs.Runs.{AreRuns, run_numbers}
use Rattle.library_values.specs.declared.runs.Run.{Run}
use Rattle.library_values.specs.Runs.{run_of}

-- these runs are at the front of the array, as far as it has room
abbrev pub ArePut : List Run → List (ℕ × ℕ) → List Run → Type 0
ArePut out runs left = left ≡ take (length out) (map run_of runs) ++ drop (length runs) out

-- a run's first number is at least twice as large as the number of runs before it
pub is_far : (holds : ℕ → Type 0) (runs : List (ℕ × ℕ)) → AreRuns holds runs → (k : ℕ) (run : ℕ × ℕ)
    → slice_get runs k ≡ Some run → k + k ≤ run.0
is_far holds runs are zero run at = omega arith
is_far holds runs are (suc k) run at =
    let within = slice_get_within runs (suc k) run at in
    let before = slice_get-get_or runs k run (omega arith) in
    let far = is_far holds runs are k (get_or runs k run) before in
    let up = are.forward k (get_or runs k run) before in
    let apart = are.apart k (get_or runs k run) run before at in
    omega arith

-- the first number of the run at an index is at least twice as large as the number of runs before it
pub is_far_at : (holds : ℕ → Type 0) (runs : List (ℕ × ℕ)) → AreRuns holds runs → (k : ℕ) (run : ℕ × ℕ)
    → k < length runs → run ≡ get_or runs k run → k + k ≤ run.0
is_far_at holds runs are k run lt is = is_far holds runs are k run (slice_get-get_or runs k run lt ∙ ap Some (sym is))

-- one more run is put at its place, if there is one
pub put_more : (out left new : List Run) (runs : List (ℕ × ℕ)) (run : ℕ × ℕ) → ArePut out runs left
    → (length runs < length left → new ≡ slice_set left (length runs) (run_of run))
    → (length left ≤ length runs → new ≡ left) → ArePut out (runs ++ run ∷ []) new
put_more out left new runs run are put past = ⊎_elim with_room without (cases_lt n room)
  where
    n : ℕ
    n = length runs

    room : ℕ
    room = length out

    front : List Run
    front = map run_of runs

    last : Run
    last = run_of run

    all : List Run
    all = map run_of (runs ++ run ∷ [])

    front_len : length front ≡ n
    front_len = length-map runs run_of

    all_is : all ≡ front ++ last ∷ []
    all_is = map-append run_of runs (run ∷ [])

    all_len : length all ≡ length (runs ++ run ∷ [])
    all_len = length-map (runs ++ run ∷ []) run_of

    more_len : length (runs ++ run ∷ []) ≡ n + 1
    more_len = length-append runs (run ∷ [])

    with_room : n < room → ArePut out (runs ++ run ∷ []) new
    with_room lt =
        let behind : List Run = drop (n + 1) out in
        let front_fits : take room front ≡ front = take_all room front (omega (arith, front_len)) in
        let next : drop n out ≡ get_or out n last ∷ behind = drop_more out n last lt in
        let left_is : left ≡ front ++ get_or out n last ∷ behind = are ∙ (λ i. front_fits i ++ next i) in
        let left_len = ap length left_is ∙ length-append front (get_or out n last ∷ behind) in
        let new_is : new ≡ front ++ last ∷ behind =
        put (omega (arith, left_len, front_len)) ∙ ap (λ (l : List Run). slice_set l n last) left_is
        ∙ set_at front (get_or out n last) behind last n front_len in
        let all_fit : take room all ≡ front ++ last ∷ [] =
        take_all room all (omega (arith, all_len, more_len)) ∙ all_is in
        new_is ∙ sym (append_assoc front (last ∷ []) behind) ∙ sym (λ i. all_fit i ++ drop (more_len i) out)

    without : room ≤ n → ArePut out (runs ++ run ∷ []) new
    without le =
        let none : drop n out ≡ [] = drop_all n out le in
        let left_is : left ≡ take room front ++ [] = are ∙ ap (λ (l : List Run). take room front ++ l) none in
        let left_len = ap length left_is ∙ length-append (take room front) [] in
        let front_cut = length-take-le room front (omega (arith, front_len)) in
        let same : take room all ≡ take room front =
        ap (take room) all_is ∙ take-append-le room front (last ∷ []) (omega (arith, front_len)) in
        let none_more : drop (length (runs ++ run ∷ [])) out ≡ [] =
        drop_all (length (runs ++ run ∷ [])) out (omega (arith, more_len)) in
        past (omega (arith, left_len, front_cut)) ∙ left_is ∙ sym (λ i. same i ++ none_more i)

-- so is the run that a walk yields next
pub put_next : (out left new : List Run) (yielded : List (RecordNo × RecordNo)) (item : RecordNo × RecordNo) (count : ℕ)
    → count ≡ length yielded → ArePut out (map run_numbers yielded) left
    → (count < length left → new ≡ slice_set left count (run_of (run_numbers item)))
    → (length left ≤ count → new ≡ left)
    → (count + 1 ≡ length (yielded ++ item ∷ [])) × ArePut out (map run_numbers (yielded ++ item ∷ [])) new
put_next out left new yielded item count is are put past =
    let runs : List (ℕ × ℕ) = map run_numbers yielded in
    let run : ℕ × ℕ = run_numbers item in
    let same : length runs ≡ count = length-map yielded run_numbers ∙ sym is in
    let more = put_more out left new runs run are
    (λ lt. put (subst (λ (k : ℕ). k < length left) same lt) ∙ ap (λ (k : ℕ). slice_set left k (run_of run)) (sym same))
    (λ le. past (subst (λ (k : ℕ). length left ≤ k) same le)) in
    let both : runs ++ run ∷ [] ≡ map run_numbers (yielded ++ item ∷ []) =
    sym (map-append run_numbers yielded (item ∷ [])) in (
      omega (arith, is, length-append yielded (item ∷ [])),
      subst (λ (rs : List (ℕ × ℕ)). ArePut out rs new) both more,
    )
