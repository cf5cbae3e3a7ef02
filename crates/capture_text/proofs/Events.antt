-- What a print adds to a line.
use Rattle.std.proofs.Common.{◌≡◌, ℕ, Bool, true, false, List, [], ◌∷◌, ◌++◌, sym, ap, ◌∙◌}
use Rattle.std.specs.Prelude.{if◌then◌else◌, codes, Option}
use Rattle.text_model.specs.Text.{space}
use Rattle.trace_dat.specs.kernel_texts.Names.{Event}
use Rattle.capture_text.specs.Quoting.{quoted}
use Rattle.capture_text.specs.Names.{is_print, print_text, print_part, json_print}

module _ (event : Option Event) (bytes : List ℕ) (answer : Bool) (is : answer ≡ is_print event) where
  pub print_put : answer ≡ true → (text : List ℕ) → text ≡ print_text bytes
      → space ∷ quoted text ≡ print_part event bytes
  print_put put text same =
      ap (λ (t : List ℕ). space ∷ quoted t) same
      ∙ ap (λ (b : Bool). if b then space ∷ quoted (print_text bytes) else []) (sym put ∙ is)

  pub json_print_put : answer ≡ true → (text : List ℕ) → text ≡ print_text bytes
      → codes ",\"text\":" ++ quoted text ≡ json_print event bytes
  json_print_put put text same =
      ap (λ (t : List ℕ). codes ",\"text\":" ++ quoted t) same
      ∙ ap (λ (b : Bool). if b then codes ",\"text\":" ++ quoted (print_text bytes) else []) (sym put ∙ is)

  pub no_print_put : answer ≡ false → [] ≡ print_part event bytes
  no_print_put none = ap (λ (b : Bool). if b then space ∷ quoted (print_text bytes) else []) (sym none ∙ is)

  pub no_json_print_put : answer ≡ false → [] ≡ json_print event bytes
  no_json_print_put none =
      ap (λ (b : Bool). if b then codes ",\"text\":" ++ quoted (print_text bytes) else []) (sym none ∙ is)
