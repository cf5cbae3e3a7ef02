-- Where a page begins.
use Rattle.std.proofs.Common.{◌≡◌, ℕ, zero, suc, ◌*◌, ◌/◌, ◌<◌, ◌≤◌, ◌==◌, Bool, false, subst, le_trans, arith}
use Rattle.std.specs.Prelude.{if◌then◌else◌}
use Rattle.std.specs.Int.{div_ceil}
use Rattle.std.proofs.Math.Nat.{mul-div-le, mul-le-mul_left}
use Rattle.std.proofs.lemmas.Bool.{eqb-true, false_from_ne_true}
use Rattle.capture.specs.declared.part.Part.{Part}
use Rattle.capture_text.specs.Printing.{page_count}

below_ceil : (size length left : ℕ) → left < div_ceil length size → size * left ≤ length
below_ceil size length left below =
    let few : left ≤ length / size = omega arith in
    let most : size * left ≤ size * (length / size) = mul-le-mul_left size few in
    le_trans most (mul-div-le length size)

within : (size length left : ℕ) → left < (if size == 0 then 0 else div_ceil length size) → size * left ≤ length
within zero length left below = absurd (omega arith)
within (suc size) length left below =
    let some : (suc size == 0) ≡ false =
    false_from_ne_true (suc size == 0) (λ none. let no = eqb-true (suc size) 0 none in omega arith) in
    below_ceil (suc size) length left
    (subst (λ (b : Bool). left < (if b then 0 else div_ceil length (suc size))) some below)

-- a page of a part begins within it
pub begins_within : (part : Part) (left : ℕ) → left < page_count part → part.size * left ≤ part.length
begins_within part left below = within part.size part.length left below
