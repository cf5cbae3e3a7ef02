use Rattle.std.proofs.Common.{[], sym, ◌∙◌, inl, inr, arith}
use Rattle.std.proofs.lemmas.List.{append-nil}
use Rattle.std.proofs.lemmas.Result.{err_from_is_err_and}
use Rattle.text_model.specs.Text.{bytes_of_pairs}
use Rattle.trace_script.proofs.PayloadLemmas.{payload_read, payload_refused, dash_payload, none_left, all_put}
use Rattle.trace_script.proofs.payload.put_payload.Goals as goal
use Rattle.trace_script.proofs.payload.put_payload.Goals.{then-odd-via-then-odd}
use Rattle.trace_script.proofs.payload.put_payload.Goals.{then-odd-via-else-odd+then-is_empty}
use Rattle.trace_script.proofs.payload.put_payload.Goals.{then-odd-via-else-odd+else-is_empty+then-not-are_hex_digits}

pub returns-then-is_letter : goal.returns-then-is_letter
returns-then-is_letter c =
    ([], sym (append-nil _), dash_payload c.args.field.now (sym c.is_letter.ensures ∙ c.if-is_letter.true))

pub returns-then-odd : goal.returns-then-odd
returns-then-odd c = elim c.then-odd.branch [
  | then-odd-via-then-odd w ↦ payload_refused c.args.field.now
      (sym c.is_letter.ensures ∙ c.if-is_letter.false) (inr (inl w.if-odd.true))
  | then-odd-via-else-odd+then-is_empty w ↦ payload_refused c.args.field.now
      (sym c.is_letter.ensures ∙ c.if-is_letter.false) (inl (sym w.is_empty.ensures ∙ w.if-is_empty.true))
  | then-odd-via-else-odd+else-is_empty+then-not-are_hex_digits w ↦
      payload_refused c.args.field.now (sym c.is_letter.ensures ∙ c.if-is_letter.false)
      (inr (inr (sym w.are_hex_digits.ensures ∙ w.if-not-are_hex_digits.true)))
]

pub returns-in_err-put_pairs : goal.returns-in_err-put_pairs
returns-in_err-put_pairs c =
    let p = err_from_is_err_and c.from_residual.result c.from_residual.ensures.1 in
    rw (p.1, p.2) (
      bytes_of_pairs c.args.field.now,
      payload_read c.args.field.now (sym c.is_empty.ensures ∙ c.if-is_empty.false) (omega arith)
          (sym c.are_hex_digits.ensures ∙ c.if-not-are_hex_digits.false),
    )

pub returns : goal.returns
returns c =
    let digits = sym c.are_hex_digits.ensures ∙ c.if-not-are_hex_digits.false in
    let puts = c.in_ok-put_pairs.ensures in
    let none =
    none_left c.args.field.now _ c.args.payloads.now.items c.put_pairs.new.payloads.items puts.0 puts.1
    (omega arith) digits in (
      bytes_of_pairs c.args.field.now,
      all_put c.args.field.now _ c.args.payloads.now.items c.put_pairs.new.payloads.items puts.0 none,
      payload_read c.args.field.now (sym c.is_empty.ensures ∙ c.if-is_empty.false) (omega arith) digits,
    )
