use Rattle.std.proofs.Common.{◌+◌, ◌≤◌, ◌<◌, ◌^◌, ◌++◌, ℕ, length, take, replicate, ap, ◌∙◌, arith, rules}
use Rattle.trace_model.specs.Words.{encoding}
use Rattle.page_image.proofs.Behind.{take-put_one}
use Rattle.page_image.proofs.put.put_behind.Goals as goal

pub returns-then-end-body : goal.returns-then-end-body
returns-then-end-body c =
    let small : c.delta_in_words-word_delta.result < 2 ^ 27 = omega arith in
    let long : 4 + c.slot_len-slot.result ≤ length c.put_short.new.out = omega arith in record {
      bytes =
          take-put_one c.args.body.now c.put_short.new.out (replicate c.slot_len-slot.result 0) c.args.end _ _
          (4 + c.slot_len-slot.result) c.args.delta c.delta_in_words-word_delta.result c.args.first (omega arith)
          (omega arith) long c.put_short.ensures.put c.delta_in_words-word_delta.ensures small
          ∙ ap (λ (n : ℕ). take c.args.end c.args.body.now ++ encoding c.args.delta c.args.first (replicate n 0))
          c.slot_len-slot.ensures;
      ends_at = search rules;
      len_is = search rules;
    }
