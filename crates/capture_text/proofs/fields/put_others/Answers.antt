use Rattle.std.proofs.Common.{List, [], ◌∷◌, ◌++◌, append_assoc, sym, ap, ◌∙◌}
use Rattle.std.specs.Prelude.{ℤ, codes}
use Rattle.std.proofs.lemmas.List.{flat_map_more}
use Rattle.event_fields.specs.Numbers.{number_seen}
use Rattle.event_fields.specs.Values.{numbers_seen}
use Rattle.text_values.proofs.Chains.{put_then, put_same}
use Rattle.capture_text.specs.Fields.{number_text}
use Rattle.capture_text.proofs.fields.put_others.Goals as goal

pub loop-number-preserved : goal.loop-number-preserved
loop-number-preserved g c =
    let before = c.loop-number.invariant in
    let number = number_seen c.in-Some.number in (
      before.0 ++ number ∷ [],
      append_assoc before.0 (number ∷ []) (numbers_seen c.in-Some.others)
          ∙ ap (λ (l : List ℤ). before.0 ++ l) (sym c.in-Some.ensures.numbers) ∙ before.1,
      put_same _ _ (flat_map_more (λ n. 44 ∷ number_text c.args.form c.args.kind n) [] before.0 number)
          (put_then _ _ before.2 (put_then (codes ",") _ c.put.ensures c.put_number.ensures)),
    )
