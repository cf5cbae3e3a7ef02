-- A part of a body overwritten, as far as a page's data is concerned.
use Rattle.std.proofs.Common.{◌≡◌, ℕ, ◌+◌, ◌≤◌, ◌<◌, ◌^◌, Bool, true, false, cond, List, [], ◌∷◌, ◌++◌, length, take}
use Rattle.std.proofs.Common.{drop, sym, ap, ◌∙◌, arith, length-append, append_assoc, length-take, length-take-le}
use Rattle.std.proofs.lemmas.List.{take_at, append-nil, take-append-drop}
use Rattle.std.proofs.lemmas.Bool.{lt-ltb}
use borrow.Rule.Slice.PartMut.{put_mid}
use Rattle.trace_model.specs.Words.{encoding, bytes_of_word, data_word, time_extend, joined}

-- after a write at the front of what follows the first end bytes
pub take-put_behind : (body part encoded rest : List ℕ) (end n k : ℕ) → end ≤ length body → n ≡ end + length encoded
    → part ≡ encoded ++ rest → take n (put_mid end k body part) ≡ take end body ++ encoded
take-put_behind body part encoded rest end n k within n_is part_is =
    let front_len : length (take end body) ≡ end = omega (arith, length-take end body) in
    let whole : put_mid end k body part ≡ (take end body ++ encoded) ++ (rest ++ drop k (drop end body)) =
    ap (λ (xs : List ℕ). take end body ++ (xs ++ drop k (drop end body))) part_is
    ∙ ap (λ (xs : List ℕ). take end body ++ xs) (append_assoc encoded rest (drop k (drop end body)))
    ∙ sym (append_assoc (take end body) encoded (rest ++ drop k (drop end body))) in
    ap (take n) whole
    ∙ take_at (take end body ++ encoded) (rest ++ drop k (drop end body)) n
    (omega (arith, length-append (take end body) encoded))

-- a record without a time extend is one data word
encoding-one : (delta word_delta : ℕ) (first : Bool) (payload : List ℕ) → word_delta ≡ cond first 0 delta
    → word_delta < 2 ^ 27 → encoding delta first payload ≡ bytes_of_word (data_word word_delta payload)
encoding-one delta word_delta true payload delta_is small =
    append-nil (bytes_of_word (data_word 0 payload))
    ∙ ap (λ (d : ℕ). bytes_of_word (data_word d payload)) (sym delta_is)
encoding-one delta word_delta false payload delta_is small =
    ap (λ (t : Bool). joined (cond t (data_word delta payload ∷ []) (time_extend delta ∷ data_word 0 payload ∷ [])))
    (lt-ltb delta (2 ^ 27) (omega arith))
    ∙ append-nil (bytes_of_word (data_word delta payload))
    ∙ ap (λ (d : ℕ). bytes_of_word (data_word d payload)) (sym delta_is)

-- after a write after the first end bytes that begins with that word
pub take-put_one : (body part payload : List ℕ) (end n k size delta word_delta : ℕ) (first : Bool) → end ≤ length body
    → n ≡ end + size → size ≤ length part → take size part ≡ bytes_of_word (data_word word_delta payload)
    → word_delta ≡ cond first 0 delta → word_delta < 2 ^ 27
    → take n (put_mid end k body part) ≡ take end body ++ encoding delta first payload
take-put_one body part payload end n k size delta word_delta first within n_is long front delta_is small =
    let size_is : length (take size part) ≡ size = length-take-le size part long in
    take-put_behind body part (take size part) (drop size part) end n k within (omega arith)
    (sym (take-append-drop size part))
    ∙ ap (λ (b : List ℕ). take end body ++ b) (front ∙ sym (encoding-one delta word_delta first payload delta_is small))
