-- The words before a payload, and two writes one after the other.
use Rattle.std.proofs.Common.{◌≡◌, ℕ, ◌+◌, ◌-◌, ◌*◌, ◌/◌, ◌≤◌, ◌<◌, ◌^◌, Bool, true, false, cond, leb, List, [], ◌∷◌}
use Rattle.std.proofs.Common.{◌++◌, length, take, drop, replicate, suc, refl, sym, ap, ◌∙◌, arith, length-append}
use Rattle.std.proofs.Common.{append_assoc, length-drop}
use Rattle.std.proofs.lemmas.List.{take_at, drop_at, drop-drop, append-nil, drop_all, take_rest, length-replicate}
use Rattle.std.proofs.lemmas.Bool.{le-leb, lt-leb, true≢false}
use borrow.Rule.Slice.PartMut.{put_mid}
use Rattle.trace_model.specs.Words.{le32, first_word, data_word, bytes_of_word, short_data, long_data, time_extend}
use Rattle.trace_model.specs.Words.{encoding, joined}
use Rattle.record_words.specs.Puts.{Puts, data_header, header_len}

pub length-le32 : (n : ℕ) → length (le32 n) ≡ 4
unfolding le32
length-le32 n = refl

-- a write at the front, and then one of as many bytes as the part after it has
pub puts_part : (old mid a b : List ℕ) (n k : ℕ) → n ≡ length a → k ≡ length b → Puts old mid a
    → Puts old (put_mid n k mid b) (a ++ b)
puts_part old mid a b n k n_is k_is first =
    let front : take n mid ≡ a = ap (take n) first ∙ take_at a (drop (length a) old) n (sym n_is) in
    let behind : drop n mid ≡ drop (length a) old = ap (drop n) first ∙ drop_at a (drop (length a) old) n (sym n_is) in
    let rest : drop k (drop n mid) ≡ drop (length (a ++ b)) old =
    ap (drop k) behind ∙ drop-drop k (length a) old
    ∙ ap (λ (i : ℕ). drop i old) (ap (λ (i : ℕ). length a + i) k_is ∙ sym (length-append a b)) in
    ap (λ (xs : List ℕ). xs ++ (b ++ drop k (drop n mid))) front ∙ ap (λ (xs : List ℕ). a ++ (b ++ xs)) rest
    ∙ sym (append_assoc a b _)

-- a write at the front, and then one at the front of all that follows it
pub puts_behind : (old mid part a b : List ℕ) (n k : ℕ) → n ≡ length a → k ≡ length mid - n → Puts old mid a
    → Puts (take k (drop n mid)) part b → Puts old (put_mid n k mid part) (a ++ b)
puts_behind old mid part a b n k n_is k_is first second =
    let front : take n mid ≡ a = ap (take n) first ∙ take_at a (drop (length a) old) n (sym n_is) in
    let behind : take k (drop n mid) ≡ drop (length a) old =
    ap (λ (i : ℕ). take i (drop n mid)) k_is ∙ take_rest mid n ∙ ap (drop n) first
    ∙ drop_at a (drop (length a) old) n (sym n_is) in
    let none : drop k (drop n mid) ≡ [] = drop_all k (drop n mid) (omega (arith, length-drop n mid)) in
    let rest : drop (length b) (take k (drop n mid)) ≡ drop (length (a ++ b)) old =
    ap (drop (length b)) behind ∙ drop-drop (length b) (length a) old
    ∙ ap (λ (i : ℕ). drop i old) (sym (length-append a b)) in
    ap (λ (xs : List ℕ). xs ++ (part ++ drop k (drop n mid))) front ∙ ap (λ (xs : List ℕ). a ++ (part ++ xs)) none
    ∙ ap (λ (xs : List ℕ). a ++ xs) (append-nil part ∙ second ∙ ap (λ (xs : List ℕ). b ++ xs) rest)
    ∙ sym (append_assoc a b _)

pub length-data_header : (delta slot : ℕ) → length (data_header delta slot) ≡ header_len slot
length-data_header delta slot = by_test (leb slot 112)
  where
    by_test : (t : Bool)
        → length (cond t (first_word (slot / 4) delta) (first_word 0 delta ++ le32 (slot + 4))) ≡ cond t 4 8
    by_test true = length-le32 _
    by_test false =
        length-append (first_word 0 delta) (le32 (slot + 4))
        ∙ omega (arith, length-le32 (0 + 32 * delta), length-le32 (slot + 4))

-- a data word is its header and its payload
pub bytes-data_word_of : (delta slot : ℕ) (payload : List ℕ) → length payload ≡ slot
    → bytes_of_word (data_word delta payload) ≡ data_header delta slot ++ payload
bytes-data_word_of delta slot payload size =
    ap (λ (n : ℕ). bytes_of_word (cond (leb n 112) (short_data delta payload) (long_data delta payload))) size
    ∙ by_test (leb slot 112)
  where
    by_test : (t : Bool)
        → bytes_of_word (cond t (short_data delta payload) (long_data delta payload))
        ≡ cond t (first_word (slot / 4) delta) (first_word 0 delta ++ le32 (slot + 4)) ++ payload
    by_test true = ap (λ (n : ℕ). first_word (n / 4) delta ++ payload) size
    by_test false = ap (λ (n : ℕ). (first_word 0 delta ++ le32 (n + 4)) ++ payload) size

pub bytes-data_word : (delta slot : ℕ)
    → bytes_of_word (data_word delta (replicate slot 0)) ≡ data_header delta slot ++ replicate slot 0
bytes-data_word delta slot = bytes-data_word_of delta slot (replicate slot 0) (length-replicate slot 0)

pub data_header-short : (delta slot : ℕ) → slot ≤ 112 → data_header delta slot ≡ first_word (slot / 4) delta
data_header-short delta slot short =
    ap (λ (t : Bool). cond t (first_word (slot / 4) delta) (first_word 0 delta ++ le32 (slot + 4)))
    (le-leb slot 112 short)

pub data_header-long : (delta slot : ℕ) → 112 < slot → data_header delta slot ≡ first_word 0 delta ++ le32 (slot + 4)
data_header-long delta slot long =
    ap (λ (t : Bool). cond t (first_word (slot / 4) delta) (first_word 0 delta ++ le32 (slot + 4)))
    (lt-leb slot 112 long)

-- a delta of 2^27 or more is written as an extend, and then the data with none
pub encoding-extended : (delta : ℕ) (first : Bool) (payload : List ℕ) → first ≡ false → 2 ^ 27 ≤ delta
    → encoding delta first payload ≡ bytes_of_word (time_extend delta) ++ bytes_of_word (data_word 0 payload)
encoding-extended delta true payload is_first late = absurd (true≢false is_first)
encoding-extended delta false payload is_first late =
    ap (λ (t : Bool). joined (cond t (data_word delta payload ∷ []) (time_extend delta ∷ data_word 0 payload ∷ [])))
    (lt-leb (suc delta) (2 ^ 27) (omega arith))
    ∙ ap (λ (xs : List ℕ). bytes_of_word (time_extend delta) ++ xs) (append-nil (bytes_of_word (data_word 0 payload)))
