use Rattle.std.proofs.Common.{◌≡◌, ℕ, ◌∷◌, ◌++◌, ◌+◌, ◌-◌, ◌*◌, ◌<◌, List, get_or, length, take, drop, refl, ◌∙◌, ap}
use Rattle.std.proofs.Common.{arith}
use Rattle.trace_script.proofs.ValueLemmas.{around, short_decimal, digits_turn, value_turn, wrapped_digit}
use Rattle.trace_script.proofs.values.digit_cut.Goals as goal

pub returns : goal.returns
returns c =
    let text : List ℕ = c.args.text.now in
    let byte : ℕ = get_or text 0 0 in
    let digit = wrapped_digit byte (omega (arith, c.type_inv.text 0)) c.if-digit-gt9.false in
    let first : 0 < length text = omega (arith, c.in-len2-up.len_at_least) in
    let second : 1 < length text = omega (arith, c.in-len2-up.len_at_least) in
    let is : c.from.result ≡ 0 * 10 + (byte - 48) = omega (arith, c.from.ensures, digit.2) in
    record {
      digits = take 1 text;
      are = around text 1 second
          ∙ ap (λ (n : ℕ). take 1 text ++ n ∷ take (length text - 2) (drop 2 text)) c.if-end-ne32.false;
      spells = short_decimal text 1 c.from.result second (omega arith) (omega arith)
          (digits_turn text 0 byte first refl (digit.0, digit.1) refl)
          (value_turn text 0 byte 0 c.from.result first refl (digit.0, digit.1) refl is);
    }
