-- A walk over the words of data from the front: what was read is the front of the words, and where places lie.
use Rattle.std.proofs.Common.{◌≡◌, ◌⊎◌, inl, inr, ℕ, ◌+◌, ◌<◌, ◌≤◌, List, [], ◌∷◌, ◌++◌, length, Some, refl, sym, ap}
use Rattle.std.proofs.Common.{◌∙◌, subst, ⊎_elim, arith, append_assoc, length-append}
use Rattle.std.specs.List.{AllByRecursion}
use Rattle.std.proofs.lemmas.List.Concat.{flat_map-append}
use Rattle.trace_model.specs.Record.{Record}
use Rattle.trace_model.specs.Words.{Word, bytes_of_word, IsWord, joined, records_of, IsJoined, Decodes}
use Rattle.trace_model.specs.Reading.{IsData, payload_of, word_at_front, words_in, IsPlaceIn}
use Rattle.trace_model.specs.Overwriting.{IsPlaceOf}
use Rattle.trace_model.proofs.words.OneWord.{word_at_front-word}
use Rattle.trace_model.proofs.words.Unique.{words_in-IsJoined}
use Rattle.trace_model.proofs.words.Stepped.{words_in-found}
use Rattle.trace_model.proofs.words.Overwritten.{head_of_ge}
use Rattle.trace_model.proofs.words.Places.{at_one, in_front, behind_it, splits_twice, length-joined_split, place-start}
use Rattle.trace_model.proofs.words.Places.{place-stop}

-- words that were read, and the words of what is left
pub words_in-behind : (front : List Word) (rest : List ℕ) → AllByRecursion IsWord front
    → words_in (joined front ++ rest) ≡ front ++ words_in rest
words_in-behind [] rest each = refl
words_in-behind (w ∷ front) rest each =
    words_in-found (joined (w ∷ front) ++ rest) w (joined front ++ rest)
    (ap word_at_front (append_assoc (bytes_of_word w) (joined front) rest)
    ∙ word_at_front-word w (joined front ++ rest) each.0)
    ∙ ap (λ (ws : List Word). w ∷ ws) (words_in-behind front rest each.1)

-- in data that reads, a data word after words that were read is a record with its place
pub IsPlaceOf-read : (bytes : List ℕ) (time : ℕ) (records : List Record) (front : List Word) (rest : List ℕ) (w : Word)
    (behind : List ℕ) (start len : ℕ) → Decodes bytes time records
    → bytes ≡ joined front ++ rest → AllByRecursion IsWord front → word_at_front rest ≡ Some (w, behind) → IsData w
    → start + len ≡ length (joined front) + length (bytes_of_word w) → len ≡ length (payload_of w)
    → IsPlaceOf bytes (length (records_of 0 front)) start len
IsPlaceOf-read bytes time records front rest w behind start len reads whole each found is stop long =
    record {
      place = record {
        front = front;
        word = w;
        behind = words_in behind;
        rest = reads.rest;
        cut = subst (λ (ws : List Word). IsJoined bytes ws reads.rest) all reads.cut;
        holds = is;
        start_is = ap (λ (n : ℕ). start + n) (sym long) ∙ stop;
        len_is = long;
      };
      number_is = refl;
    }
  where
    all : reads.words ≡ front ++ w ∷ words_in behind
    all =
        sym (words_in-IsJoined bytes reads.words reads.rest reads.cut) ∙ ap words_in whole
        ∙ words_in-behind front rest each
        ∙ ap (λ (ws : List Word). front ++ ws) (words_in-found rest w behind found)

-- a front of a list that is split: the split is after the front or within it
split_or : {X : Type 0} (xs : List X) (x : X) (ys front rest : List X) → xs ++ x ∷ ys ≡ front ++ rest
    → ((more : List X) × (xs ≡ front ++ more)) ⊎ ((more : List X) × (front ≡ xs ++ x ∷ more))
split_or xs x ys [] rest e = inl (xs, refl)
split_or [] x ys (a ∷ front) rest e = inr (front, (let h : a ≡ x = cc in ap (λ b. b ∷ front) h))
split_or {X = X} (y ∷ xs) x ys (a ∷ front) rest e =
    let first : y ≡ a = cc in
    let tails : xs ++ x ∷ ys ≡ front ++ rest = cc in
    ⊎_elim
    (λ h. inl (h.0, (λ i. first i ∷ h.1 i)))
    (λ h. inr (h.0, (λ i. sym first i ∷ h.1 i)))
    (split_or xs x ys front rest tails)

-- a place is within the words that were read, or after the first four bytes that follow them
pub place-beside : (bytes : List ℕ) (start len : ℕ) (front : List Word) (rest : List ℕ) → IsPlaceIn bytes start len
    → bytes ≡ joined front ++ rest → AllByRecursion IsWord front
    → (start + len ≤ length (joined front)) ⊎ (length (joined front) + 4 ≤ start)
place-beside bytes start len front rest p whole each = ⊎_elim
    (λ h. inr (let at = place-start bytes start len p in let head = head_of_ge p.word p.holds in
    let size =
    ap (λ (ws : List Word). length (joined ws)) h.1 ∙ ap length (flat_map-append bytes_of_word front h.0)
    ∙ length-append (joined front) (joined h.0) in
    omega arith))
    (λ h. inl (let at = place-stop bytes start len p in
    let size =
    ap (λ (ws : List Word). length (joined ws)) h.1
    ∙ ap length (flat_map-append bytes_of_word p.front (p.word ∷ h.0))
    ∙ length-append (joined p.front) (bytes_of_word p.word ++ joined h.0)
    ∙ ap (λ (n : ℕ). length (joined p.front) + n) (length-append (bytes_of_word p.word) (joined h.0)) in
    omega arith))
    (split_or p.front p.word p.behind front (words_in rest)
    (sym (words_in-IsJoined bytes (p.front ++ p.word ∷ p.behind) p.rest p.cut) ∙ ap words_in whole
    ∙ words_in-behind front rest each))

-- a place within a word that follows those read is that word's payload
pub place-here : (bytes : List ℕ) (start len : ℕ) (front : List Word) (rest : List ℕ) (w : Word) (behind : List ℕ)
    → IsPlaceIn bytes start len → bytes ≡ joined front ++ rest → AllByRecursion IsWord front
    → word_at_front rest ≡ Some (w, behind) → length (joined front) < start
    → start ≤ length (joined front) + length (bytes_of_word w)
    → IsData w × (len ≡ length (payload_of w)) × (start + len ≡ length (joined front) + length (bytes_of_word w))
place-here bytes start len front rest w behind p whole each found after within =
    elim (splits_twice p.front p.word p.behind front w (words_in behind) all) [
      | at_one fronts words behinds ↦ (
        subst IsData words p.holds,
        p.len_is ∙ ap (λ (v : Word). length (payload_of v)) words,
        place-stop bytes start len p ∙ (λ i. length (joined (fronts i)) + length (bytes_of_word (words i))),
      )
      | in_front more cut tail ↦ absurd
          (let size = ap (λ (ws : List Word). length (joined ws)) cut ∙ length-joined_split p.front p.word more in
          let stop = place-stop bytes start len p in
          omega arith)
      | behind_it more cut tail ↦ absurd
          (let size = ap (λ (ws : List Word). length (joined ws)) cut ∙ length-joined_split front w more in
          let at = place-start bytes start len p in
          let head = head_of_ge p.word p.holds in
          omega arith)
    ]
  where
    all : p.front ++ p.word ∷ p.behind ≡ front ++ w ∷ words_in behind
    all =
        sym (words_in-IsJoined bytes (p.front ++ p.word ∷ p.behind) p.rest p.cut) ∙ ap words_in whole
        ∙ words_in-behind front rest each
        ∙ ap (λ (ws : List Word). front ++ ws) (words_in-found rest w behind found)
