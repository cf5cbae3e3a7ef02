use Rattle.std.proofs.Common.{◌≡◌, ◌%◌, arith, inl, inr, refl, sym, ◌∙◌}
use Rattle.std.proofs.lemmas.Result.{err_from_is_err_and}
use Rattle.std.proofs.lemmas.Bool.{false≢true}
use Rattle.record_words.proofs.WordReads.{from_no_number, faulty_length, faulty_past}
use Rattle.record_words.proofs.next.end_of_stated.Goals as goal
use Rattle.record_words.proofs.next.end_of_stated.Goals.{then-len-lt-LEAST_LENGTH-via-then-len-lt-LEAST_LENGTH}
use Rattle.record_words.proofs.next.end_of_stated.Goals.{then-len-lt-LEAST_LENGTH-via-else-len-lt-LEAST_LENGTH+then-not-whole}

pub returns-in_err-len-clause-fault : goal.returns-in_err-len-clause-fault
returns-in_err-len-clause-fault c = let p = err_from_is_err_and c.from_residual.result c.from_residual.ensures.1 in
    rw (p.1, p.2)
    (from_no_number c.args.data.now c.args.at _ c.requires.head (inl c.requires.states) c.in_err-len.ensures.fault
    c.in_err-len.ensures.head.1)

pub returns-then-len-lt-LEAST_LENGTH-clause-fault : goal.returns-then-len-lt-LEAST_LENGTH-clause-fault
returns-then-len-lt-LEAST_LENGTH-clause-fault c =
    let number = c.in_ok-len.ensures.number in
    faulty_length c.args.data.now c.args.at (c.in_ok-len.ensures.head.0 refl) c.requires.states
    (elim c.then-len-lt-LEAST_LENGTH.branch [
      | then-len-lt-LEAST_LENGTH-via-then-len-lt-LEAST_LENGTH w ↦ inl (omega arith)
      | then-len-lt-LEAST_LENGTH-via-else-len-lt-LEAST_LENGTH+then-not-whole w ↦ inr
          (λ whole. false≢true (sym w.if-not-whole.true ∙ c.is_multiple_of-whole.ensures.1 (omega arith)))
    ])

pub returns-then-data-at-clause-fault : goal.returns-then-data-at-clause-fault
returns-then-data-at-clause-fault c =
    let number = c.in_ok-len.ensures.number in
    let whole : c.in_ok-len.field-0 % 4 ≡ 0 = c.is_multiple_of-whole.ensures.0 c.if-not-whole.false in
    faulty_past c.args.data.now c.args.at (c.in_ok-len.ensures.head.0 refl) c.requires.states (omega arith)
    (omega arith) (omega arith)
