use Rattle.std.proofs.Common.{◌≤◌, ◌^◌, ◌-◌, ℕ, refl, sym, subst, length, arith}
use Rattle.trace_model.specs.Words.{padded, encoding}
use Rattle.trace_model.proofs.words.Lengths.{length-bytes_of_extend}
use borrow.Rule.Slice.PartMut.{put_mid}
use Rattle.record_words.specs.Puts.{Puts}
use Rattle.record_words.proofs.Headers.{encoding-extended, puts_behind}
use Rattle.record_words.proofs.put.put_any_payload.Goals as goal
use Rattle.record_words.proofs.put.put_any_payload.Goals.{then-first, else-first}

pub returns-clause-put : goal.returns-clause-put
returns-clause-put c =
    let late : 2 ^ 27 ≤ c.if-first.delta = omega arith in
    elim c.if-first.branch [
      | then-first w ↦ absurd (omega (arith, w.delta-is))
      | else-first w ↦
          subst
          (λ (d : ℕ).
          Puts c.args.out.now
          (put_mid 8 (length c.put_extend.new.out - 8) c.put_extend.new.out c.put_padded_data-2.new.out)
          (encoding d c.args.first (padded c.args.payload.now))) w.delta-is
          (rw (encoding-extended c.if-first.delta c.args.first (padded c.args.payload.now) w.if-first.false late)
          (puts_behind _ _ _ _ _ 8 _ (sym (length-bytes_of_extend c.if-first.delta)) refl c.put_extend.ensures
          c.put_padded_data-2.ensures.put))
    ]
