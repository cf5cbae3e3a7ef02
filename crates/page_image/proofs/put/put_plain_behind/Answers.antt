use Rattle.std.proofs.Common.{◌+◌, ◌≤◌, ◌<◌, ◌^◌, ◌++◌, ℕ, false, length, take, replicate, refl, ap, ◌∙◌, arith, rules}
use Rattle.trace_model.specs.Words.{encoding}
use Rattle.page_image.proofs.Behind.{take-put_one}
use Rattle.page_image.proofs.put.put_plain_behind.Goals as goal

pub returns : goal.returns
returns c =
    let small : c.args.delta < 2 ^ 27 = omega arith in
    let long : 4 + c.plain_slot_len-slot.result ≤ length c.put_short.new.out = omega arith in record {
      bytes =
          take-put_one c.args.body.now c.put_short.new.out (replicate c.plain_slot_len-slot.result 0) c.args.end _ _
          (4 + c.plain_slot_len-slot.result) c.args.delta c.args.delta false (omega arith) (omega arith) long
          c.put_short.ensures.put refl small
          ∙ ap (λ (n : ℕ). take c.args.end c.args.body.now ++ encoding c.args.delta false (replicate n 0))
          c.plain_slot_len-slot.ensures.slot;
      ends_at = search rules;
      len_is = search rules;
    }
