use Rattle.std.proofs.Common.{[], ◌∷◌, ◌++◌, List, append_assoc, sym, ap, ◌∙◌}
use Rattle.std.proofs.lemmas.List.{flat_map_more}
use Rattle.std.proofs.lemmas.Grind.{flat_map-append}
use Rattle.text_values.proofs.Chains.{put_then, put_same}
use Rattle.std.specs.Prelude.{ℕ}
use Rattle.kernel_names.specs.FieldTables.{rest_seen}
use Rattle.capture_text.specs.Beside.{NumberName, label, name_text, rest_names, separator}
use Rattle.capture_text.specs.Sources.{further_text, left_seen}
use Rattle.capture_text.proofs.NumberNames.{one_left, none_left}
use Rattle.capture_text.proofs.beside.put_others.Goals as goal

pub loop-name-preserved : goal.loop-name-preserved
loop-name-preserved g c =
    let before = c.loop-name.invariant in
    let name = label c.in-Some.name.now in (
      before.0 ++ name ∷ [],
      append_assoc before.0 (name ∷ []) (left_seen c.in-Some.others)
          ∙ ap (λ (l : List NumberName). before.0 ++ l)
          (sym (one_left c.loop-name.left c.in-Some.others c.in-Some.name.now c.in-Some.ensures.names
          c.in-Some.ensures.rest)) ∙ before.1,
      put_same _ _ (flat_map_more (λ n. separator c.args.form ∷ name_text c.args.form n) [] before.0 name)
          (put_then _ _ before.2 (put_then _ _ c.put_separator.ensures c.put_label.ensures)),
    )

pub returns : goal.returns
returns g c =
    let before = c.loop-name.invariant in
    let left = c.loop-name.left in
    let text = further_text c.args.form in
    put_same _ _
    (sym (flat_map-append (λ n. separator c.args.form ∷ name_text c.args.form n) before.0 (rest_names (rest_seen left)))
    ∙ ap text
    (ap (λ (l : List NumberName). before.0 ++ l) (sym (none_left left c.in_default.ensures.names)) ∙ before.1))
    (put_then (text before.0) (text (rest_names (rest_seen left))) before.2
    (put_same _ _ (ap (λ (r : ℕ). text (rest_names r)) c.rest.ensures) c.put_rest.ensures))
