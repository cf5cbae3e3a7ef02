use Rattle.std.proofs.Common.{ℕ, List, ◌++◌, append_assoc, sym, ap, ◌∙◌, subst, map}
use Rattle.std.specs.Prelude.{ℤ, codes}
use Rattle.event_fields.specs.Numbers.{number_seen}
use Rattle.event_fields.specs.Values.{numbers_seen}
use Rattle.text_values.specs.Putting.{Puts}
use Rattle.text_values.proofs.Chains.{put_then, put_same}
use Rattle.capture_text.specs.Fields.{number_text, bracketed}
use Rattle.capture_text.proofs.Commas.{joined_values}
use Rattle.capture_text.proofs.fields.put_numbers.Goals as goal
use Rattle.capture_text.proofs.fields.put_numbers.Goals.{in-Some, in_default}

pub returns : goal.returns
returns g c =
    let text_of = number_text c.args.form c.args.kind in
    elim c.match-split_first.branch [
      | in-Some w ↦
          (let first = number_seen w.in-Some.first in
          let others = numbers_seen w.in-Some.others in
          put_same _ _
          (sym (ap (λ (l : List ℤ). bracketed (map text_of l)) w.in-Some.ensures.numbers
          ∙ ap (λ (l : List ℕ). codes "[" ++ l ++ codes "]") (joined_values text_of first others)
          ∙ ap (λ (l : List ℕ). codes "[" ++ l) (append_assoc (text_of first) _ (codes "]"))))
          (put_then (codes "[") _ c.put.ensures (put_then _ _ w.put_number.ensures (put_then _ (codes "]")
          w.put_others.ensures (subst (λ o. Puts (codes "]") o c.put-2.new.self) w.out-is c.put-2.ensures)))))
      | in_default w ↦
          put_same _ _
          (sym (ap (λ (l : List ℤ). bracketed (map text_of l)) w.in_default.ensures.numbers))
          (put_then (codes "[") (codes "]") c.put.ensures
          (subst (λ o. Puts (codes "]") o c.put-2.new.self) w.out-is c.put-2.ensures))
    ]
