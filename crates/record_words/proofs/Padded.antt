-- A payload written over a part that is longer, and zeros written past it.
use Rattle.std.proofs.Common.{◌≡◌, ℕ, ◌+◌, ◌-◌, ◌*◌, ◌/◌, ◌≤◌, List, ◌++◌, length, take, drop, replicate, refl, sym, ap}
use Rattle.std.proofs.Common.{◌∙◌, arith, length-append, append_assoc, length-take-le}
use Rattle.std.proofs.lemmas.List.{take_at, drop_at, drop-drop, drop-append-le, take-append-drop, drop-replicate}
use Rattle.std.proofs.lemmas.List.{length-replicate, replicate-append-replicate}
use borrow.Rule.Slice.PartMut.{put_mid}
use Rattle.trace_model.specs.Words.{le32, first_word, slot_len, padded, data_word, bytes_of_word}
use Rattle.trace_model.proofs.words.Lengths.{length-padded, slot_len_ge, slot_len_ge_four}
use Rattle.record_words.specs.Puts.{Puts}
use Rattle.record_words.proofs.Headers.{length-le32, puts_part, puts_behind, bytes-data_word, data_header-short}

-- the word of a short record, and as many zeros as the longest one has: its own are the first of them
pub short_put : (old mid : List ℕ) (delta slot : ℕ) → slot ≤ 112 → Puts old mid (first_word (slot / 4) delta)
    → take (4 + slot) (put_mid 4 112 mid (replicate 112 0)) ≡ bytes_of_word (data_word delta (replicate slot 0))
short_put old mid delta slot short word =
    let head : List ℕ = first_word (slot / 4) delta in
    let own : List ℕ = replicate slot 0 in
    let past : List ℕ = replicate (112 - slot) 0 in
    let rest : List ℕ = drop (length (head ++ replicate 112 0)) old in
    let count : 112 ≡ slot + (112 - slot) = omega arith in
    let zeros : replicate {A = ℕ} 112 0 ≡ own ++ past =
    ap (λ (n : ℕ). replicate {A = ℕ} n 0) count ∙ sym (replicate-append-replicate slot (112 - slot) 0) in
    let whole : put_mid 4 112 mid (replicate 112 0) ≡ (head ++ own) ++ (past ++ rest) =
    puts_part old mid head (replicate 112 0) 4 112 (sym (length-le32 _)) (sym (length-replicate {A = ℕ} 112 0)) word
    ∙ ap (λ (xs : List ℕ). (head ++ xs) ++ rest) zeros
    ∙ ap (λ (xs : List ℕ). xs ++ rest) (sym (append_assoc head own past))
    ∙ append_assoc (head ++ own) past rest in
    let size : length (head ++ own) ≡ 4 + slot =
    length-append head own ∙ omega (arith, length-le32 (slot / 4 + 32 * delta), length-replicate {A = ℕ} slot 0) in
    ap (take (4 + slot)) whole ∙ take_at (head ++ own) (past ++ rest) (4 + slot) size
    ∙ ap (λ (xs : List ℕ). xs ++ own) (sym (data_header-short delta slot short)) ∙ sym (bytes-data_word delta slot)

-- a number of 0 is four zeros
le32-zero : le32 0 ≡ replicate 4 0
unfolding le32
le32-zero = refl

-- the last word of a slot set to zeros, and then the payload written at the slot's front
pub padded_put : (old part payload : List ℕ) (slot : ℕ) → slot ≡ slot_len (length payload) → slot ≤ length old
    → slot - 4 ≤ length payload → Puts (take (length old - (slot - 4)) (drop (slot - 4) old)) part (le32 0)
    → Puts old (payload ++ drop (length payload) (put_mid (slot - 4) (length old - (slot - 4)) old part))
    (padded payload)
padded_put old part payload slot slot_is room near zeroed =
    let len : ℕ = length payload in
    let least = slot_len_ge_four len in
    let within = slot_len_ge len in
    let front : List ℕ = take (slot - 4) old in
    let front_len : length front ≡ slot - 4 = length-take-le (slot - 4) old (omega arith) in
    let kept : Puts old old front =
    sym (ap (λ (n : ℕ). front ++ drop n old) front_len ∙ take-append-drop (slot - 4) old) in
    let size : length (front ++ le32 0) ≡ slot = length-append front (le32 0) ∙ omega (arith, length-le32 0) in
    let whole : put_mid (slot - 4) (length old - (slot - 4)) old part ≡ (front ++ le32 0) ++ drop slot old =
    puts_behind old old part front (le32 0) (slot - 4) (length old - (slot - 4)) (sym front_len) refl kept zeroed
    ∙ ap (λ (n : ℕ). (front ++ le32 0) ++ drop n old) size in
    let from : len ≡ (slot - 4) + (len - (slot - 4)) = omega arith in
    let left : 4 - (len - (slot - 4)) ≡ slot - len = omega arith in
    let past : drop len (front ++ le32 0) ≡ replicate (slot - len) 0 =
    ap (λ (n : ℕ). drop n (front ++ le32 0)) from ∙ past_front front (le32 0) (len - (slot - 4)) (slot - 4) front_len
    ∙ ap (drop (len - (slot - 4))) le32-zero ∙ drop-replicate (len - (slot - 4)) 4 0
    ∙ ap (λ (n : ℕ). replicate {A = ℕ} n 0) left in
    let behind : drop len (put_mid (slot - 4) (length old - (slot - 4)) old part)
    ≡ replicate (slot - len) 0 ++ drop slot old =
    ap (drop len) whole ∙ drop-append-le len (front ++ le32 0) (drop slot old) (omega arith)
    ∙ ap (λ (xs : List ℕ). xs ++ drop slot old) past in
    ap (λ (xs : List ℕ). payload ++ xs) behind ∙ sym (append_assoc payload (replicate (slot - len) 0) (drop slot old))
    ∙ ap (λ (n : ℕ). (payload ++ replicate (n - len) 0) ++ drop n old) slot_is
    ∙ ap (λ (n : ℕ). padded payload ++ drop n old) (sym (length-padded payload))
  where
    past_front : (a b : List ℕ) (k n : ℕ) → length a ≡ n → drop (n + k) (a ++ b) ≡ drop k b
    past_front a b k n n_is = sym (drop-drop k n (a ++ b)) ∙ ap (drop k) (drop_at a b n n_is)

-- a slot's last word begins no later than the payload ends
pub last_word_near : (payload : List ℕ) (slot : ℕ) → slot ≡ slot_len (length payload) → slot - 4 ≤ length payload
last_word_near payload slot slot_is = omega arith
