-- Lines in a buffer that grows at its end.
use Rattle.std.proofs.Common.{◌≡◌, ℕ, suc, List, [], ◌∷◌, ◌++◌, length, take, drop, map, All, refl, ap, ◌∙◌, arith}
use Rattle.std.proofs.lemmas.List.{map-append, take-append-le, drop-append-le, take_all, drop_at, length-drop}
use Rattle.library_values.specs.declared.own_lines.LinePlace.{LinePlace}
use Rattle.library_values.specs.OwnLines.{line_in, StandsIn}

module _ {H : Type 0} where
  -- a line that is there stays
  line_stays : (bytes more : List ℕ) (place : LinePlace H) → StandsIn (length bytes) place
      → line_in (bytes ++ more) place ≡ line_in bytes place
  line_stays bytes more place stands =
      let behind : List ℕ = drop place.start bytes in
      let len = length-drop place.start bytes in
      ap (λ (l : List ℕ). (place.head, l))
      (ap (take place.len) (drop-append-le place.start bytes more (omega arith))
      ∙ take-append-le place.len behind more (omega arith))

  lines_stay : (bytes more : List ℕ) (places : List (LinePlace H)) → All (StandsIn (length bytes)) places
      → map (line_in (bytes ++ more)) places ≡ map (line_in bytes) places
  lines_stay bytes more [] all = refl
  lines_stay bytes more (place ∷ places) all =
      let one : line_in (bytes ++ more) place ≡ line_in bytes place =
      line_stays bytes more place (all 0 place (omega arith)) in
      let others : map (line_in (bytes ++ more)) places ≡ map (line_in bytes) places =
      lines_stay bytes more places (λ k d lt. all (suc k) d (omega arith)) in
      λ i. one i ∷ others i

  -- where the bytes of a line with this head are
  abbrev pub place_of : H → (start len : ℕ) → LinePlace H
  place_of head start len = record { head = head; start = start; len = len }

  -- the line whose bytes are put is there
  put_line : (bytes : List ℕ) (head : H) (line : List ℕ)
      → line_in (bytes ++ line) (place_of head (length bytes) (length line)) ≡ (head, line)
  put_line bytes head line =
      ap (λ (l : List ℕ). (head, l))
      (ap (take (length line)) (drop_at bytes line (length bytes) refl) ∙ take_all (length line) line (omega arith))

  -- so there is one more line
  pub pushed : (bytes new : List ℕ) (places all : List (LinePlace H)) (head : H) (line : List ℕ) (start len : ℕ)
      → All (StandsIn (length bytes)) places → start ≡ length bytes → len ≡ length line → new ≡ bytes ++ line
      → all ≡ places ++ place_of head start len ∷ []
      → map (line_in new) all ≡ map (line_in bytes) places ++ (head, line) ∷ []
  pushed bytes new places all head line start len stand start_is len_is new_is all_is =
      let there : List ℕ = bytes ++ line in
      let last : LinePlace H = place_of head start len in
      let front : map (line_in there) places ≡ map (line_in bytes) places = lines_stay bytes line places stand in
      let back : line_in there last ≡ (head, line) =
      (λ i. line_in there (place_of head (start_is i) (len_is i))) ∙ put_line bytes head line in
      (λ i. map (line_in (new_is i)) (all_is i)) ∙ map-append (line_in there) places (last ∷ [])
      ∙ (λ i. front i ++ back i ∷ [])
