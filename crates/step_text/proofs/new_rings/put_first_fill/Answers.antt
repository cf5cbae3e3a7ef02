use Rattle.std.proofs.Common.{◌≡◌, ◌∙◌, ◌%◌, List, ℕ, ◌++◌, [], ◌∷◌, codes, ap, append_assoc}
use Rattle.std.specs.Fmt.{decimal}
use Rattle.text_model.specs.Text.{space, line_feed}
use Rattle.step_model.specs.StepTexts.{key_line, spaced}
use Rattle.step_text.proofs.new_rings.put_first_fill.Goals as goal

written : (out fill place first : List ℕ)
    → (((((out ++ codes "  fill") ++ fill) ++ (space ∷ place)) ++ first) ++ line_feed ∷ [])
    ≡ out ++ key_line (codes "fill" ++ fill) (place ++ first)
written out fill place first = simp append_assoc

pub returns : goal.returns
returns c =
    let place = decimal (c.args.fill % c.args.pages) in
    c.in_ok-push.ensures.items
    ∙ ap (λ text. text ++ line_feed ∷ []) (c.in_ok-put_spaced-3.ensures
    ∙ ap (λ text. text ++ spaced 0) (c.in_ok-put_spaced-2.ensures
    ∙ ap (λ text. text ++ (space ∷ place)) (c.in_ok-put_spaced.ensures
    ∙ ap (λ text. text ++ spaced c.args.fill) c.in_ok-extend_from_slice.ensures.items)))
    ∙ written c.args.out.now.items (spaced c.args.fill) place (spaced 0)
