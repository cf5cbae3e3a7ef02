-- Numbers whose texts are the same.
use Rattle.std.proofs.Common.{◌≡◌, ◌⊎◌, inl, inr, ℕ, suc, ◌^◌, ◌<◌, ◌≤◌, List, [], ◌∷◌, ◌++◌, drop, get_or, refl}
use Rattle.std.proofs.Common.{sym, ap, ap₂, subst}
use Rattle.std.proofs.Common.{◌∙◌, arith}
use Rattle.std.specs.Prelude.{ℤ, pos, negsuc, ⊤}
use Rattle.std.specs.Char.{digit_value}
use Rattle.std.specs.Fmt.{decimal}
use Rattle.std.specs.Str.Parse.{AllDigits, digits_value}
use Rattle.std.proofs.lemmas.Fmt.{digits_is_IsNumeral, decimal_is_IsNumeral}
use Rattle.event_fields.specs.declared.field.NumberKind.{NumberKind}
use Rattle.event_fields.specs.declared.field.NumberKind.TheVariants.{Signed, Unsigned, Word, Address}
use Rattle.text_values.specs.Digits.{hexadecimal}
use Rattle.capture_text.specs.declared.form.Form.TheVariants.{Text}
use Rattle.capture_text.specs.Fields.{number_text}
use Rattle.capture_text.specs.FieldLaws.{IsOfKind, Ends}

same_decimal : (m n : ℕ) → m < 2 ^ 64 → n < 2 ^ 64 → decimal m ≡ decimal n → m ≡ n
same_decimal m n small small' h =
    sym (decimal_is_IsNumeral m small).1 ∙ ap (digits_value 10) h ∙ (decimal_is_IsNumeral n small').1

-- no text of a number begins with a minus
no_minus : (m : ℕ) (text : List ℕ) → m < 2 ^ 64 → decimal m ≡ 45 ∷ text → ⊥
no_minus m text small h =
    let all = subst (AllDigits 10) h (decimal_is_IsNumeral m small).0.1 in omega (arith, all.0)

wide : (n : ℕ) → n < 2 ^ 64 → n < 16 ^ 64
wide n small = omega arith

same_hexadecimal : (m n : ℕ) → m < 2 ^ 64 → n < 2 ^ 64 → hexadecimal m ≡ hexadecimal n → m ≡ n
same_hexadecimal m n small small' h =
    sym (digits_is_IsNumeral 16 _ (omega arith) (omega arith) m (wide m small)).1
    ∙ ap (digits_value 16) (ap (drop 2) h)
    ∙ (digits_is_IsNumeral 16 _ (omega arith) (omega arith) n (wide n small')).1

pub read_back : (kind : NumberKind) (a b : ℤ) → IsOfKind kind a → IsOfKind kind b
    → number_text Text kind a ≡ number_text Text kind b → a ≡ b
read_back Signed (pos m) (pos n) small small' h = ap pos (same_decimal m n small small' h)
read_back Signed (pos m) (negsuc n) small small' h = absurd (no_minus m _ small h)
read_back Signed (negsuc m) (pos n) small small' h = absurd (no_minus n _ small' (sym h))
read_back Signed (negsuc m) (negsuc n) small small' h =
    let e = same_decimal (suc m) (suc n) small small' (ap (drop 1) h) in
    ap negsuc (let is : m ≡ n = omega arith in is)
read_back Unsigned (pos m) (pos n) small small' h = ap pos (same_decimal m n small small' h)
read_back Unsigned (pos m) (negsuc n) small none h = absurd none
read_back Unsigned (negsuc m) b none small' h = absurd none
read_back Word (pos m) (pos n) small small' h = ap pos (same_hexadecimal m n small small' h)
read_back Word (pos m) (negsuc n) small none h = absurd none
read_back Word (negsuc m) b none small' h = absurd none
read_back Address (pos m) (pos n) small small' h = ap pos (same_hexadecimal m n small small' h)
read_back Address (pos m) (negsuc n) small none h = absurd none
read_back Address (negsuc m) b none small' h = absurd none

-- ---- where a number ends

-- a byte that ends no number, and texts of such
abbrev GoesOn : ℕ → Type 0
GoesOn b = (b ≡ 32 → ⊥) × (b ≡ 58 → ⊥)

abbrev AllGoOn : List ℕ → Type 0
AllGoOn [] = ⊤
AllGoOn (b ∷ text) = GoesOn b × AllGoOn text

goes_on : (b : ℕ) (more : List ℕ) → GoesOn b → Ends (b ∷ more) → ⊥
goes_on b more on (inl space) = on.0 space
goes_on b more on (inr colon) = on.1 colon

cut_once : (xs ys end other : List ℕ) → AllGoOn xs → AllGoOn ys → Ends end → Ends other → xs ++ end ≡ ys ++ other
    → (xs ≡ ys) × (end ≡ other)
cut_once [] [] end other on on' ends ends' same = (refl, same)
cut_once [] (y ∷ ys) end other on on' ends ends' same =
    absurd (goes_on y (ys ++ other) on'.0 (subst Ends same ends))
cut_once (x ∷ xs) [] end other on on' ends ends' same =
    absurd (goes_on x (xs ++ end) on.0 (subst Ends (sym same) ends'))
cut_once (x ∷ xs) (y ∷ ys) end other on on' ends ends' same =
    let rest = cut_once xs ys end other on.1 on'.1 ends ends' (ap (drop 1) same) in
    (ap₂ (λ (b : ℕ) (text : List ℕ). b ∷ text) (ap (λ (text : List ℕ). get_or text 0 0) same) rest.0, rest.1)

digit_goes_on : (radix b : ℕ) → radix ≤ 16 → digit_value b < radix → GoesOn b
digit_goes_on radix b small is = (
  λ space. (let no = subst (λ x. digit_value x < radix) space is in omega (arith, no, small)),
  λ colon. (let no = subst (λ x. digit_value x < radix) colon is in omega (arith, no, small)),
)

digits_go_on : (radix : ℕ) (text : List ℕ) → radix ≤ 16 → AllDigits radix text → AllGoOn text
digits_go_on radix [] small all = tt
digits_go_on radix (b ∷ text) small all = (digit_goes_on radix b small all.0, digits_go_on radix text small all.1)

decimal_goes_on : (n : ℕ) → n < 2 ^ 64 → AllGoOn (decimal n)
decimal_goes_on n small = digits_go_on 10 _ (omega arith) (decimal_is_IsNumeral n small).0.1

-- a byte that isn't such
apart : (a b : ℕ) → a < b ⊎ b < a → a ≡ b → ⊥
apart a b (inl below) same = omega (arith, below, same)
apart a b (inr above) same = omega (arith, above, same)

hexadecimal_goes_on : (n : ℕ) → n < 2 ^ 64 → AllGoOn (hexadecimal n)
hexadecimal_goes_on n small = (
  (apart 48 32 (inr (omega arith)), apart 48 58 (inl (omega arith))),
  (
    (apart 120 32 (inr (omega arith)), apart 120 58 (inr (omega arith))),
    digits_go_on 16 _ (omega arith) (digits_is_IsNumeral 16 _ (omega arith) (omega arith) n (wide n small)).0.1,
  ),
)

number_goes_on : (kind : NumberKind) (z : ℤ) → IsOfKind kind z → AllGoOn (number_text Text kind z)
number_goes_on Signed (pos n) small = decimal_goes_on n small
number_goes_on Signed (negsuc n) small = (
  (apart 45 32 (inr (omega arith)), apart 45 58 (inl (omega arith))),
  decimal_goes_on (suc n) small,
)
number_goes_on Unsigned (pos n) small = decimal_goes_on n small
number_goes_on Unsigned (negsuc n) none = absurd none
number_goes_on Word (pos n) small = hexadecimal_goes_on n small
number_goes_on Word (negsuc n) none = absurd none
number_goes_on Address (pos n) small = hexadecimal_goes_on n small
number_goes_on Address (negsuc n) none = absurd none

pub ends_seen : (kind : NumberKind) (a b : ℤ) (end other : List ℕ) → IsOfKind kind a → IsOfKind kind b → Ends end
    → Ends other → number_text Text kind a ++ end ≡ number_text Text kind b ++ other → (a ≡ b) × (end ≡ other)
ends_seen kind a b end other of_kind of_kind' ends ends' same =
    let cut = cut_once (number_text Text kind a) (number_text Text kind b) end other (number_goes_on kind a of_kind)
    (number_goes_on kind b of_kind') ends ends' same in
    (read_back kind a b of_kind of_kind' cut.0, cut.1)
