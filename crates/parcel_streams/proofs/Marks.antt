-- A mark: its bytes state it.
use Rattle.std.proofs.Common.{◌≡◌, ◌⊎◌, inl, inr, ⊎_elim, ℕ, ◌^◌, ◌<◌, ◌≤◌, List, [], ◌++◌, length, drop, refl, sym, ap}
use Rattle.std.proofs.Common.{◌∙◌, subst, arith, append-nil, length-append, length-drop}
use Rattle.std.proofs.lemmas.List.{drop-drop, nil_from_length}
use Rattle.std.proofs.lemmas.Bool.{cases_lt}
use Rattle.trace_model.specs.FirstFault.{AreBytes}
use Rattle.trace_model.specs.Image.{le64, from_le64}
use Rattle.trace_model.specs.declared.limits.TheConstants.{MAX_CPUS}
use Rattle.trace_model.proofs.words.OneWord.{AreBytes-drop}
use Rattle.trace_model.proofs.images.ImageParts.{length-le64, from_le64-le64, from_le64_lt, le64-front, drop-le64}
use Rattle.parcel_streams.specs.declared.piece.Mark.{Mark}
use Rattle.parcel_streams.specs.declared.piece.Mark.TheVariants.{End, Forgotten, Undelivered}
use Rattle.parcel_streams.specs.Pieces.{kind_of_mark, numbers_of_mark, IsMark}
use Rattle.parcel_streams.specs.Faults.{mark_body, IsEmptyMark, IsBadMark}
use Rattle.parcel_streams.specs.Answers.{mark_stated, IsMarkBody}

-- ---- kinds

-- what holds of the three kinds of marks holds of each of them
pub by_kind : (P : ℕ → Type 0) (kind : ℕ) → 1 ≤ kind → kind ≤ 3 → P 1 → P 2 → P 3 → P kind
by_kind P kind least most one two three = ⊎_elim
    (λ (low : kind < 2). let is : 1 ≡ kind = omega arith in subst P is one)
    (λ (more : 2 ≤ kind). ⊎_elim
    (λ (mid : kind < 3). let is : 2 ≡ kind = omega arith in subst P is two)
    (λ (high : 3 ≤ kind). let is : 3 ≡ kind = omega arith in subst P is three)
    (cases_lt kind 3))
    (cases_lt kind 2)

pub kind_least : (mark : Mark) → 1 ≤ kind_of_mark mark
kind_least (End count) = omega arith
kind_least (Forgotten bound) = omega arith
kind_least (Undelivered first end) = omega arith

pub kind_most : (mark : Mark) → kind_of_mark mark ≤ 3
kind_most (End count) = omega arith
kind_most (Forgotten bound) = omega arith
kind_most (Undelivered first end) = omega arith

-- ---- lengths

pub length-mark : (cpu : ℕ) (mark : Mark) → length (le64 cpu ++ numbers_of_mark mark) ≡ mark_body (kind_of_mark mark)
length-mark cpu (End count) = omega (arith, length-append (le64 cpu) (le64 count), length-le64 cpu, length-le64 count)
length-mark cpu (Forgotten bound) =
    omega (arith, length-append (le64 cpu) (le64 bound), length-le64 cpu, length-le64 bound)
length-mark cpu (Undelivered first end) = omega (
  arith,
  length-append (le64 cpu) (le64 first ++ le64 end),
  length-append (le64 first) (le64 end),
  length-le64 cpu,
  length-le64 first,
  length-le64 end,
)

pub mark_least : (kind : ℕ) → 1 ≤ kind → kind ≤ 3 → 16 ≤ mark_body kind
mark_least kind least most = by_kind (λ k. 16 ≤ mark_body k) kind least most (omega arith) (omega arith) (omega arith)

pub mark_most : (kind : ℕ) → 1 ≤ kind → kind ≤ 3 → mark_body kind ≤ 24
mark_most kind least most = by_kind (λ k. mark_body k ≤ 24) kind least most (omega arith) (omega arith) (omega arith)

-- ---- what bytes state

number : (n : ℕ) → n < 2 ^ 64 → from_le64 (le64 n) ≡ n
number n fits = ap from_le64 (sym (append-nil (le64 n))) ∙ from_le64-le64 n [] fits

-- a mark is stated by its bytes
pub stated_is : (cpu : ℕ) (mark : Mark) → IsMark mark
    → mark_stated (kind_of_mark mark) (le64 cpu ++ numbers_of_mark mark) ≡ mark
stated_is cpu (End count) fits = ap (λ (b : List ℕ). End (from_le64 b)) (drop-le64 cpu (le64 count))
    ∙ ap End (number count fits)
stated_is cpu (Forgotten bound) fits = ap (λ (b : List ℕ). Forgotten (from_le64 b)) (drop-le64 cpu (le64 bound))
    ∙ ap Forgotten (number bound fits.1)
stated_is cpu (Undelivered first end) fits =
    let own : List ℕ = le64 first ++ le64 end in
    let eight : drop 8 (le64 cpu ++ own) ≡ own = drop-le64 cpu own in
    let sixteen : drop 16 (le64 cpu ++ own) ≡ le64 end = sym (drop-drop 8 8 (le64 cpu ++ own)) ∙ ap (drop 8) eight
    ∙ drop-le64 first (le64 end) in
    let low = fits.0 in
    let high = fits.1 in
    let firsts : from_le64 (drop 8 (le64 cpu ++ own)) ≡ first = ap from_le64 eight
    ∙ from_le64-le64 first (le64 end) (omega arith) in
    let ends : from_le64 (drop 16 (le64 cpu ++ own)) ≡ end = ap from_le64 sixteen ∙ number end high in
    (λ i. Undelivered (firsts i) (ends i))

last_number : (bytes : List ℕ) → AreBytes bytes → length bytes ≡ 8 → bytes ≡ le64 (from_le64 bytes)
last_number bytes small len =
    let none : drop 8 bytes ≡ [] = nil_from_length (drop 8 bytes) (omega (arith, length-drop 8 bytes)) in
    le64-front bytes (omega arith) small ∙ ap (λ (b : List ℕ). le64 (from_le64 bytes) ++ b) none
    ∙ append-nil (le64 (from_le64 bytes))

-- bytes of the right length are those of the mark that they state
states : ℕ → List ℕ → Type 0
states kind body = length body ≡ mark_body kind → (kind_of_mark (mark_stated kind body) ≡ kind)
    × (drop 8 body ≡ numbers_of_mark (mark_stated kind body))

states_one : (body : List ℕ) → AreBytes body → states 1 body
unfolding states
states_one body small = λ len. (
  refl,
  last_number (drop 8 body) (AreBytes-drop 8 body small)
      (omega (arith, length-drop 8 body)),
)

states_two : (body : List ℕ) → AreBytes body → states 2 body
unfolding states
states_two body small = λ len. (
  refl,
  last_number (drop 8 body) (AreBytes-drop 8 body small)
      (omega (arith, length-drop 8 body)),
)

states_three : (body : List ℕ) → AreBytes body → states 3 body
unfolding states
states_three body small = λ len.
    let behind : List ℕ = drop 8 body in
    let more : drop 8 behind ≡ drop 16 body = drop-drop 8 8 body in (
      refl,
      le64-front behind (omega (arith, length-drop 8 body)) (AreBytes-drop 8 body small)
          ∙ ap (λ (b : List ℕ). le64 (from_le64 behind) ++ b) (more
          ∙ last_number (drop 16 body) (AreBytes-drop 16 body small) (omega (arith, length-drop 16 body))),
    )

pub mark_there : (kind : ℕ) (body : List ℕ) → 1 ≤ kind → kind ≤ 3 → AreBytes body → length body ≡ mark_body kind
    → from_le64 body < MAX_CPUS → IsMark (mark_stated kind body)
    → IsMarkBody kind body (from_le64 body) (mark_stated kind body)
unfolding states
mark_there kind body least most small len known sound =
    let long = mark_least kind least most in
    let s = by_kind (λ k. states k body) kind least most
    (states_one body small) (states_two body small) (states_three body small) len in
    record {
      kind_is = s.0;
      body_is = le64-front body (omega arith) small ∙ ap (λ (b : List ℕ). le64 (from_le64 body) ++ b) s.1;
      cpu_known = known;
      sound = sound;
    }

-- ---- a mark that says nothing

abbrev stated_empty : ℕ → List ℕ → Type 0
stated_empty kind body = IsEmptyMark kind (from_le64 (drop 8 body)) (from_le64 (drop 16 body))

-- it says something, or it is empty
pub sound_or_empty : (kind : ℕ) (body : List ℕ) → 1 ≤ kind → kind ≤ 3 → AreBytes body
    → IsMark (mark_stated kind body) ⊎ stated_empty kind body
sound_or_empty kind body least most small =
    let first : ℕ = from_le64 (drop 8 body) in
    let end : ℕ = from_le64 (drop 16 body) in
    let first_fits = from_le64_lt (drop 8 body) (AreBytes-drop 8 body small) in
    let end_fits = from_le64_lt (drop 16 body) (AreBytes-drop 16 body small) in
    by_kind (λ k. IsMark (mark_stated k body) ⊎ stated_empty k body) kind least most
    (inl first_fits)
    (⊎_elim (λ (none : first < 1). inr (inl (refl, omega arith)))
    (λ (some : 1 ≤ first). inl (omega arith, first_fits)) (cases_lt first 1))
    (⊎_elim (λ (run : first < end). inl (run, end_fits))
    (λ (none : end ≤ first). inr (inr (refl, none))) (cases_lt first end))

-- and never both
pub sound_not_empty : (kind : ℕ) (body : List ℕ) → 1 ≤ kind → kind ≤ 3 → IsMark (mark_stated kind body)
    → stated_empty kind body → ⊥
sound_not_empty kind body least most = by_kind (λ k. IsMark (mark_stated k body) → stated_empty k body → ⊥)
    kind least most
    (λ sound empty. ⊎_elim (λ e. let is = e.0 in omega arith) (λ e. let is = e.0 in omega arith) empty)
    (λ sound empty. ⊎_elim (λ e. let none = e.1 in let some = sound.0 in omega arith)
    (λ e. let is = e.0 in omega arith) empty)
    (λ sound empty. ⊎_elim (λ e. let is = e.0 in omega arith)
    (λ e. let none = e.1 in let some = sound.0 in omega arith) empty)

-- a mark that is one isn't bad
pub sound_not_bad : (cpu : ℕ) (mark : Mark) → cpu < MAX_CPUS → IsMark mark
    → IsBadMark (kind_of_mark mark) (le64 cpu ++ numbers_of_mark mark) → ⊥
sound_not_bad cpu mark known sound bad =
    let body : List ℕ = le64 cpu ++ numbers_of_mark mark in
    ⊎_elim
    (λ other. other (length-mark cpu mark))
    (λ more. ⊎_elim
    (λ (past : MAX_CPUS ≤ from_le64 body).
    let is = from_le64-le64 cpu (numbers_of_mark mark) (omega arith) in omega arith)
    (λ empty. sound_not_empty (kind_of_mark mark) body (kind_least mark) (kind_most mark)
    (subst IsMark (sym (stated_is cpu mark sound)) sound) empty)
    more)
    bad
