-- A byte that changes alone: the checksum of the bytes before it shows it, or it is the checksum's own.
use Rattle.std.proofs.Common.{◌≡◌, ◌≢◌, ◌⊎◌, ⊎_elim, ℕ, ◌+◌, ◌^◌, ◌<◌, ◌≤◌, List, [], ◌++◌, length, get_or, take, drop}
use Rattle.std.proofs.Common.{refl, sym, ap, ◌∙◌, subst, arith, append-nil, length-append, length-drop, length-take-le}
use Rattle.std.proofs.lemmas.List.{take_at, drop_at, get_or-take, get_or-drop, get_or_past}
use Rattle.std.proofs.lemmas.Bool.{cases_lt}
use Rattle.std.proofs.lemmas.Grind.{same_number_lists}
use Rattle.parcel_streams.specs.crc32c.Castagnoli.{crc32c}
use Rattle.parcel_streams.specs.crc32c.Changes.{DifferAt}
use Rattle.parcel_streams.proofs.Changes.{index_differs}
use Rattle.parcel_streams.proofs.Checksums.{crc32c-lt}
use Rattle.trace_model.specs.Image.{le64, from_le64}
use Rattle.trace_model.proofs.words.OneWord.{AreBytes-take}
use Rattle.trace_model.proofs.images.ImageParts.{from_le64-take, from_le64-le64}
use Rattle.parcel_streams.specs.Pieces.{Packed, parcel_piece, mark_piece, kind_of_mark, unsealed, sealed}
use Rattle.parcel_streams.specs.Pieces.{bytes_of_piece, BeginsWith}
use Rattle.parcel_streams.specs.Faults.{length_in}
use Rattle.parcel_streams.proofs.Frames.{length-unsealed, length-sealed}
use Rattle.parcel_streams.proofs.Readings.{parcel_frame, mark_frame}
use Rattle.parcel_streams.proofs.Streams.{piece_len}

-- ---- lists that differ at one index

-- all before the index are the same
same_before : (xs ys : List ℕ) (n at : ℕ) → DifferAt xs ys at → n ≤ length xs → n ≤ at → take n xs ≡ take n ys
same_before xs ys n at d fits before =
    let len = d.same_length in
    let own = length-take-le n xs fits in
    let that = length-take-le n ys (omega arith) in
    same_number_lists (take n xs) (take n ys) (own ∙ sym that) (λ k low.
    let under : k < n = omega arith in
    let other : k ≢ at = λ e. absurd (omega arith) in
    get_or-take n xs k 0 under ∙ d.kept k other ∙ sym (get_or-take n ys k 0 under))

-- and all after it
same_behind : (xs ys : List ℕ) (n at : ℕ) → DifferAt xs ys at → at < n → drop n xs ≡ drop n ys
same_behind xs ys n at d behind =
    let len = d.same_length in
    same_number_lists (drop n xs) (drop n ys) (omega (arith, length-drop n xs, length-drop n ys)) (λ k low.
    let other : n + k ≢ at = λ e. absurd (omega arith) in
    get_or-drop n xs k 0 ∙ d.kept (n + k) other ∙ sym (get_or-drop n ys k 0))

-- a front in which the index is differs there alone
differ_before : (xs ys : List ℕ) (n at : ℕ) → DifferAt xs ys at → n ≤ length xs → at < n
    → DifferAt (take n xs) (take n ys) at
differ_before xs ys n at d fits within =
    let len = d.same_length in
    let own = length-take-le n xs fits in
    let that = length-take-le n ys (omega arith) in
    record {
      was_bytes = AreBytes-take n xs d.was_bytes;
      is_bytes = AreBytes-take n ys d.is_bytes;
      same_length = own ∙ sym that;
      changed = λ e. d.changed (sym (get_or-take n xs at 0 within) ∙ e ∙ get_or-take n ys at 0 within);
      kept = λ k other. ⊎_elim
          (λ low. get_or-take n xs k 0 low ∙ d.kept k other ∙ sym (get_or-take n ys k 0 low))
          (λ past. get_or_past (take n xs) k 0 (omega arith) ∙ sym (get_or_past (take n ys) k 0 (omega arith)))
          (cases_lt k n);
    }

-- ---- two pieces

front_of : (kind stream : ℕ) (body : List ℕ) (n : ℕ) → n ≡ 32 + length body
    → take n (sealed kind stream body) ≡ unsealed kind stream body
unfolding sealed
front_of kind stream body n is =
    take_at (unsealed kind stream body) (le64 (crc32c (unsealed kind stream body))) n
    (length-unsealed kind stream body ∙ sym is)

sum_of : (kind stream : ℕ) (body : List ℕ) (n : ℕ) → n ≡ 32 + length body
    → drop n (sealed kind stream body) ≡ le64 (crc32c (unsealed kind stream body))
unfolding sealed
sum_of kind stream body n is =
    drop_at (unsealed kind stream body) (le64 (crc32c (unsealed kind stream body))) n
    (length-unsealed kind stream body ∙ sym is)

one_number : (n m : ℕ) → n < 2 ^ 32 → m < 2 ^ 32 → le64 n ≡ le64 m → n ≡ m
one_number n m fits other e =
    let number : (k : ℕ) → k < 2 ^ 32 → from_le64 (le64 k) ≡ k = λ k low. ap from_le64 (sym (append-nil (le64 k)))
    ∙ from_le64-le64 k [] (omega arith) in
    sym (number n fits) ∙ ap from_le64 e ∙ number m other

sealed_same : (kind stream other_kind other : ℕ) (body left : List ℕ)
    → unsealed kind stream body ≡ unsealed other_kind other left
    → sealed kind stream body ≡ sealed other_kind other left
unfolding sealed
sealed_same kind stream other_kind other body left e = (λ i. e i ++ le64 (crc32c (e i)))

sealed_differ : (kind stream other_kind other : ℕ) (body left : List ℕ) (at : ℕ)
    → DifferAt (sealed kind stream body) (sealed other_kind other left) at → ⊥
sealed_differ kind stream other_kind other body left at d =
    let one : List ℕ = sealed kind stream body in
    let two : List ℕ = sealed other_kind other left in
    let front : List ℕ = unsealed kind stream body in
    let front_two : List ℕ = unsealed other_kind other left in
    let n : ℕ = 32 + length body in
    let len = d.same_length in
    let own = length-sealed kind stream body in
    let that = length-sealed other_kind other left in
    let sizes : n ≡ 32 + length left = omega arith in
    let fits : n ≤ length one = omega arith in
    ⊎_elim
    (λ (low : at < n).
    let fronts : DifferAt front front_two at = subst (λ (x : List ℕ). DifferAt front x at)
    (front_of other_kind other left n sizes)
    (subst (λ (x : List ℕ). DifferAt x (take n two) at) (front_of kind stream body n refl)
    (differ_before one two n at d fits low)) in
    let sums = sym (sum_of kind stream body n refl) ∙ same_behind one two n at d low
    ∙ sum_of other_kind other left n sizes in
    index_differs front front_two at fronts
    (one_number (crc32c front) (crc32c front_two) (crc32c-lt front fronts.was_bytes)
    (crc32c-lt front_two fronts.is_bytes) sums))
    (λ (high : n ≤ at).
    let fronts : front ≡ front_two = sym (front_of kind stream body n refl) ∙ same_before one two n at d fits high
    ∙ front_of other_kind other left n sizes in
    let whole : one ≡ two = sealed_same kind stream other_kind other body left fronts in
    d.changed (ap (λ (x : List ℕ). get_or x at 0) whole))
    (cases_lt at n)

pub pieces_differ : (piece other : Packed) (at : ℕ) → DifferAt (bytes_of_piece piece) (bytes_of_piece other) at → ⊥
pieces_differ (parcel_piece stream parcel time contents) (parcel_piece other parcel' time' contents')
    at d = sealed_differ 0 stream 0 other _ _ at d
pieces_differ (parcel_piece stream parcel time contents) (mark_piece other cpu mark)
    at d = sealed_differ 0 stream (kind_of_mark mark) other _ _ at d
pieces_differ (mark_piece stream cpu mark) (parcel_piece other parcel time contents)
    at d = sealed_differ (kind_of_mark mark) stream 0 other _ _ at d
pieces_differ (mark_piece stream cpu mark) (mark_piece other cpu' mark')
    at d = sealed_differ (kind_of_mark mark) stream (kind_of_mark mark') other _ _ at d

-- ---- and what is read

-- the length that is stated stays if no byte of it changes
same_length_in : (bytes changed : List ℕ) (at : ℕ) → DifferAt bytes changed at → 24 ≤ length bytes
    → (at < 16) ⊎ (24 ≤ at) → length_in changed ≡ length_in bytes
same_length_in bytes changed at d long elsewhere =
    let len = d.same_length in
    let own = length-take-le 8 (drop 16 bytes) (omega (arith, length-drop 16 bytes)) in
    let that = length-take-le 8 (drop 16 changed) (omega (arith, length-drop 16 changed)) in
    let same : take 8 (drop 16 changed) ≡ take 8 (drop 16 bytes) = same_number_lists (take 8 (drop 16 changed))
    (take 8 (drop 16 bytes)) (that ∙ sym own) (λ k low.
    let under : k < 8 = omega arith in
    let other : 16 + k ≢ at = λ e. ⊎_elim (λ (front : at < 16). absurd (omega arith))
    (λ (back : 24 ≤ at). absurd (omega arith)) elsewhere in
    get_or-take 8 (drop 16 changed) k 0 under ∙ get_or-drop 16 changed k 0 ∙ sym (d.kept (16 + k) other)
    ∙ sym (get_or-drop 16 bytes k 0) ∙ sym (get_or-take 8 (drop 16 bytes) k 0 under)) in
    sym (from_le64-take (drop 16 changed)) ∙ ap from_le64 same ∙ from_le64-take (drop 16 bytes)

stated_len : (bytes : List ℕ) (piece : Packed) → BeginsWith bytes piece
    → length_in bytes ≡ length (bytes_of_piece piece)
stated_len bytes (parcel_piece stream parcel time contents)
    b = (parcel_frame bytes stream parcel time contents b).length_is ∙ sym (length-sealed 0 stream _)
stated_len bytes (mark_piece stream cpu mark) b = (mark_frame bytes stream cpu mark b).length_is
    ∙ sym (length-sealed (kind_of_mark mark) stream _)

pub changed_refused : (bytes changed : List ℕ) (piece other : Packed) (at : ℕ) → BeginsWith bytes piece
    → DifferAt bytes changed at → at < length (bytes_of_piece piece) → (at < 16) ⊎ (24 ≤ at)
    → BeginsWith changed other → ⊥
changed_refused bytes changed piece other at b d within elsewhere c =
    let n : ℕ = length (bytes_of_piece piece) in
    let long : 24 ≤ length bytes = omega (
      arith,
      ap length b.whole,
      length-append (bytes_of_piece piece)
          b.rest,
      piece_len piece,
    ) in
    let stated = same_length_in bytes changed at d long elsewhere in
    let lens : n ≡ length (bytes_of_piece other) = sym (stated_len bytes piece b) ∙ sym stated
    ∙ stated_len changed other c in
    let whole : length bytes ≡ length (bytes_of_piece piece ++ b.rest) = ap length b.whole in
    let one : take n bytes ≡ bytes_of_piece piece = ap (take n) b.whole
    ∙ take_at (bytes_of_piece piece) b.rest n refl in
    let two : take n changed ≡ bytes_of_piece other = ap (take n) c.whole
    ∙ take_at (bytes_of_piece other) c.rest n (sym lens) in
    pieces_differ piece other at
    (subst (λ (x : List ℕ). DifferAt (bytes_of_piece piece) x at) two
    (subst (λ (x : List ℕ). DifferAt x (take n changed) at) one
    (differ_before bytes changed n at d (omega (arith, length-append (bytes_of_piece piece) b.rest)) within)))
