-- What a part that is copied makes of how far a payload is copied.
use Rattle.std.proofs.Common.{◌≡◌, ℕ, ◌+◌, ◌-◌, ◌≤◌, List, [], ◌∷◌, ◌++◌, length, take, drop, refl, sym, ap, subst, ◌∙◌}
use Rattle.std.proofs.Common.{arith, append_assoc, length-append, length-drop, length-take-le}
use Rattle.std.proofs.Math.Seq.{take-add}
use Rattle.std.proofs.lemmas.List.{take-take, take-append-drop, take_all, drop_at, drop-drop}
use Rattle.std.proofs.lemmas.Simd.{put_chunk_is, take_more_put_chunk}
use Rattle.std.specs.Simd.Lanes.{chunk, put_chunk}
use Rattle.record_words.specs.Puts.{Puts}
use Rattle.record_words.specs.Copies.{HasFront}

-- a part of the payload has as many bytes as are copied
pub part_len : (size : ℕ) (payload : List ℕ) (at : ℕ) → at + size ≤ length payload
    → length (chunk at size payload) ≡ size
part_len size payload at within = let left = length-drop at payload in
    length-take-le size (drop at payload) (omega arith)

-- a part at the front of what follows the first bytes, which are the payload's
pub part_front : (size : ℕ) (out payload : List ℕ) (at n : ℕ) → length payload ≤ length out → at + size ≤ length payload
    → at ≤ n → HasFront n payload out
    → HasFront (at + size) payload (put_chunk at out (chunk at size payload))
part_front size out payload at n room within near front =
    let before : take at out ≡ take at payload =
    sym (take-take at n out near) ∙ ap (take at) front ∙ take-take at n payload near in
    let long = part_len size payload at within in
    take_more_put_chunk at out (chunk at size payload) (at + size) (omega arith) (omega arith)
    ∙ ap (λ (xs : List ℕ). xs ++ take size (drop at payload)) before
    ∙ sym (take-add at size payload)

-- what follows the payload stays
pub part_behind : (size : ℕ) (out part : List ℕ) (at n : ℕ) → n ≤ length out → at + size ≤ n → length part ≡ size
    → drop n (put_chunk at out part) ≡ drop n out
part_behind size out part at n room within long_is =
    let front : List ℕ = take at out ++ part in
    let long : length front ≡ at + size =
    length-append (take at out) part ∙ omega (arith, length-take-le at out (omega arith)) in
    let whole : put_chunk at out part ≡ front ++ drop (at + size) out =
    put_chunk_is at out part (omega arith) ∙ ap (λ (m : ℕ). take at out ++ (part ++ drop m (drop at out))) long_is
    ∙ sym (append_assoc (take at out) part (drop size (drop at out)))
    ∙ ap (λ (xs : List ℕ). front ++ xs) (drop-drop size at out) in
    let rest : n ≡ length front + (n - (at + size)) = omega arith in
    ap (drop n) whole ∙ ap (λ (m : ℕ). drop m (front ++ drop (at + size) out)) rest
    ∙ sym (drop-drop (n - (at + size)) (length front) (front ++ drop (at + size) out))
    ∙ ap (drop (n - (at + size))) (drop_at front (drop (at + size) out) (length front) refl)
    ∙ drop-drop (n - (at + size)) (at + size) out
    ∙ ap (λ (m : ℕ). drop m out) (let on : at + size + (n - (at + size)) ≡ n = omega arith in on)

-- if the whole payload is at the front, and what follows it stays, it is put there
pub front_puts : (old new payload : List ℕ) → HasFront (length payload) payload new
    → take (length payload) payload ≡ payload → drop (length payload) new ≡ drop (length payload) old
    → Puts old new payload
front_puts old new payload front whole behind =
    sym (take-append-drop (length payload) new) ∙ ap (λ (xs : List ℕ). xs ++ drop (length payload) new) (front ∙ whole)
    ∙ ap (λ (xs : List ℕ). payload ++ xs) behind

-- the last part is copied
pub last_puts : (size : ℕ) (old new payload : List ℕ) → size ≤ length payload
    → HasFront (length payload - size + size) payload new → drop (length payload) new ≡ drop (length payload) old
    → Puts old new payload
last_puts size old new payload least front behind =
    let end : length payload - size + size ≡ length payload = omega arith in
    front_puts old new payload (subst (λ (n : ℕ). HasFront n payload new) end front)
    (take_all (length payload) payload (omega arith)) behind

-- nothing is put by a payload without a byte
pub empty_puts : (out payload : List ℕ) → length payload ≤ 0 → Puts out out payload
empty_puts out [] none = refl
empty_puts out (byte ∷ rest) none = absurd (omega (arith, none))
