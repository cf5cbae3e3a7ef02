-- How many bytes things take: a number, a slot, a payload in its slot, a record as it is written.
use Rattle.std.proofs.Common.{◌≡◌, ℕ, ◌+◌, ◌-◌, ◌*◌, ◌/◌, ◌%◌, ◌^◌, ◌<◌, ◌≤◌, Bool, true, false, cond, ltb, leb, List}
use Rattle.std.proofs.Common.{[], ◌∷◌, ◌++◌, length, replicate, refl, ap, ◌∙◌, arith, length-append, append-nil}
use Rattle.std.proofs.lemmas.List.{length-replicate}
use Rattle.trace_model.specs.Words.{le32, first_word, Word, short_data, long_data, padding, time_extend, time_stamp}
use Rattle.trace_model.specs.Words.{bytes_of_word, joined, slot_len, padded, data_word, encoding, encoded_len}

-- a number takes four bytes
pub length-le32 : (n : ℕ) → length (le32 n) ≡ 4
unfolding le32
length-le32 n = refl

pub slot_len-mod : (len : ℕ) → slot_len len % 4 ≡ 0
slot_len-mod len = omega arith

pub slot_len_ge : (len : ℕ) → len ≤ slot_len len
slot_len_ge len = omega arith

pub slot_len_ge_four : (len : ℕ) → 4 ≤ slot_len len
slot_len_ge_four len = omega arith

-- a length that fills whole words, and is not 0, is its own slot length
pub slot_len_whole : (len : ℕ) → len % 4 ≡ 0 → 0 < len → slot_len len ≡ len
slot_len_whole len whole some = omega arith

pub slot_len-slot_len : (len : ℕ) → slot_len (slot_len len) ≡ slot_len len
slot_len-slot_len len = slot_len_whole (slot_len len) (slot_len-mod len) (let h = slot_len_ge_four len in omega arith)

length-filled : (bytes more : List ℕ) (n : ℕ) → length bytes ≤ n → length more ≡ n - length bytes
    → length (bytes ++ more) ≡ n
length-filled bytes more n room fills = omega (arith, length-append bytes more)

pub length-padded : (bytes : List ℕ) → length (padded bytes) ≡ slot_len (length bytes)
length-padded bytes =
    length-filled bytes (replicate (slot_len (length bytes) - length bytes) 0) (slot_len (length bytes))
    (slot_len_ge (length bytes)) (length-replicate (slot_len (length bytes) - length bytes) 0)

-- a payload that fills its slot is padded by nothing
pub padded_whole : (bytes : List ℕ) → slot_len (length bytes) ≡ length bytes → padded bytes ≡ bytes
padded_whole bytes whole =
    ap (λ (n : ℕ). bytes ++ replicate n 0) (let e : slot_len (length bytes) - length bytes ≡ 0 = omega arith in e)
    ∙ append-nil bytes

pub length-bytes_of_short : (delta : ℕ) (payload : List ℕ)
    → length (bytes_of_word (short_data delta payload)) ≡ 4 + length payload
length-bytes_of_short delta payload =
    omega (
      arith,
      length-append (first_word (length payload / 4) delta) payload,
      length-le32 (length payload / 4 + 32 * delta),
    )

pub length-bytes_of_long : (delta : ℕ) (payload : List ℕ)
    → length (bytes_of_word (long_data delta payload)) ≡ 8 + length payload
length-bytes_of_long delta payload =
    omega (
      arith,
      length-append (first_word 0 delta ++ le32 (length payload + 4)) payload,
      length-append (first_word 0 delta) (le32 (length payload + 4)),
      length-le32 (0 + 32 * delta),
      length-le32 (length payload + 4),
    )

pub length-bytes_of_padding : (delta : ℕ) (skipped : List ℕ)
    → length (bytes_of_word (padding delta skipped)) ≡ 8 + length skipped
length-bytes_of_padding delta skipped =
    omega (
      arith,
      length-append (first_word 29 delta ++ le32 (length skipped + 4)) skipped,
      length-append (first_word 29 delta) (le32 (length skipped + 4)),
      length-le32 (29 + 32 * delta),
      length-le32 (length skipped + 4),
    )

pub length-bytes_of_extend : (delta : ℕ) → length (bytes_of_word (time_extend delta)) ≡ 8
length-bytes_of_extend delta =
    omega (
      arith,
      length-append (first_word 30 (delta % 2 ^ 27)) (le32 (delta / 2 ^ 27)),
      length-le32 (30 + 32 * (delta % 2 ^ 27)),
      length-le32 (delta / 2 ^ 27),
    )

pub length-bytes_of_stamp : (time : ℕ) → length (bytes_of_word (time_stamp time)) ≡ 8
length-bytes_of_stamp time =
    omega (
      arith,
      length-append (first_word 31 (time % 2 ^ 27)) (le32 (time / 2 ^ 27)),
      length-le32 (31 + 32 * (time % 2 ^ 27)),
      length-le32 (time / 2 ^ 27),
    )

-- each word takes four bytes at least
pub bytes_of_word_ge : (w : Word) → 4 ≤ length (bytes_of_word w)
bytes_of_word_ge (short_data delta payload) = omega (arith, length-bytes_of_short delta payload)
bytes_of_word_ge (long_data delta payload) = omega (arith, length-bytes_of_long delta payload)
bytes_of_word_ge (padding delta skipped) = omega (arith, length-bytes_of_padding delta skipped)
bytes_of_word_ge (time_extend delta) = omega (arith, length-bytes_of_extend delta)
bytes_of_word_ge (time_stamp time) = omega (arith, length-bytes_of_stamp time)

pub length-joined_cons : (w : Word) (words : List Word)
    → length (joined (w ∷ words)) ≡ length (bytes_of_word w) + length (joined words)
length-joined_cons w words = length-append (bytes_of_word w) (joined words)

pub length-joined_one : (w : Word) → length (joined (w ∷ [])) ≡ length (bytes_of_word w)
length-joined_one w = ap length (append-nil (bytes_of_word w))

-- a data word takes its payload, and 4 bytes or 8 before it
pub length-data_word : (delta : ℕ) (payload : List ℕ)
    → length (bytes_of_word (data_word delta payload)) ≡ cond (leb (length payload) 112) 4 8 + length payload
length-data_word delta payload = by_form (leb (length payload) 112)
  where
    by_form : (short : Bool)
        → length (bytes_of_word (cond short (short_data delta payload) (long_data delta payload)))
        ≡ cond short 4 8 + length payload
    by_form true = length-bytes_of_short delta payload
    by_form false = length-bytes_of_long delta payload

pub length-encoding_first : (delta : ℕ) (payload : List ℕ)
    → length (encoding delta true payload) ≡ cond (leb (length payload) 112) 4 8 + length payload
length-encoding_first delta payload = length-joined_one (data_word 0 payload) ∙ length-data_word 0 payload

pub length-encoding_behind : (delta : ℕ) (payload : List ℕ)
    → length (encoding delta false payload)
    ≡ cond (ltb delta (2 ^ 27)) 0 8 + cond (leb (length payload) 112) 4 8 + length payload
length-encoding_behind delta payload = by_size (ltb delta (2 ^ 27))
  where
    by_size : (small : Bool)
        → length (joined (cond small (data_word delta payload ∷ []) (time_extend delta ∷ data_word 0 payload ∷ [])))
        ≡ cond small 0 8 + cond (leb (length payload) 112) 4 8 + length payload
    by_size true =
        length-joined_one (data_word delta payload) ∙ length-data_word delta payload
        ∙ (let e : cond (leb (length payload) 112) 4 8 + length payload
        ≡ 0 + cond (leb (length payload) 112) 4 8 + length payload =
        omega arith in
        e)
    by_size false =
        let here = length-bytes_of_extend delta in
        let rest = length-joined_one (data_word 0 payload) ∙ length-data_word 0 payload in
        omega (arith, length-joined_cons (time_extend delta) (data_word 0 payload ∷ []))

-- an encoding is as long as the writer reckons
pub length-encoding : (len delta : ℕ) (first : Bool) (payload : List ℕ) → length payload ≡ slot_len len
    → length (encoding delta first payload) ≡ encoded_len len delta first
length-encoding len delta true payload fills =
    length-encoding_first delta payload ∙ ap (λ (n : ℕ). cond (leb n 112) 4 8 + n) fills
    ∙ (let e : cond (leb (slot_len len) 112) 4 8 + slot_len len
    ≡ 0 + cond (leb (slot_len len) 112) 4 8 + slot_len len =
    omega arith in
    e)
length-encoding len delta false payload fills =
    length-encoding_behind delta payload
    ∙ ap (λ (n : ℕ). cond (ltb delta (2 ^ 27)) 0 8 + cond (leb n 112) 4 8 + n) fills
