-- What a walk over rising numbers comes by, if there is nothing at some of them; and what one of two kinds has alone.
use Rattle.std.proofs.Common.{◌≡◌, ◌⊎◌, ⊎_elim, ℕ, zero, suc, ◌+◌, ◌<◌, ◌≤◌, sym, ap, ◌∙◌, arith}

-- numbers with nothing are passed over
pub skip_all : {L : Type 0} (within : ℕ → ℕ → L) (IsSkipped : ℕ → Type 0)
    → ((n count : ℕ) → IsSkipped n → within n (suc count) ≡ within (suc n) count)
    → (k n count : ℕ)
    → ((m : ℕ) → n ≤ m → m < n + k → IsSkipped m)
    → within n (k + count) ≡ within (n + k) count
skip_all within IsSkipped skip zero n count none =
    let a : n + 0 ≡ n = omega arith in
    let b : 0 + count ≡ count = omega arith in
    ap (within n) b ∙ ap (λ m. within m count) (sym a)
skip_all within IsSkipped skip (suc k) n count none =
    let a : suc k + count ≡ suc (k + count) = omega arith in
    let b : suc n + k ≡ n + suc k = omega arith in
    ap (within n) a ∙ skip n (k + count) (none n (omega arith) (omega arith))
    ∙ skip_all within IsSkipped skip k (suc n) count (λ m from below. none m (omega arith) (omega arith))
    ∙ ap (λ m. within m count) b

-- what is of one kind or the other is one thing, if it is whichever kinds it is of
pub one_of_both : {X : Type 0} (P Q : X → Type 0) (x y : X)
    → P x ⊎ Q x
    → P y ⊎ Q y
    → (P x → P y → x ≡ y)
    → (P x → Q y → x ≡ y)
    → (P y → Q x → y ≡ x)
    → (Q x → Q y → x ≡ y)
    → x ≡ y
one_of_both P Q x y h g pp pq qp qq = ⊎_elim
    (λ (a : P x). ⊎_elim (λ (b : P y). pp a b) (λ (b : Q y). pq a b) g)
    (λ (a : Q x). ⊎_elim (λ (b : P y). sym (qp b a)) (λ (b : Q y). qq a b) g)
    h
