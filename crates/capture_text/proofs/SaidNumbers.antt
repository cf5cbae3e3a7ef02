-- The lines that say a word of a number of a CPU, number by number.
use Rattle.std.proofs.Common.{◌≡◌, ℕ, ◌+◌, ◌<◌, List, [], ◌∷◌, ◌++◌, length, get_or, take, flat_map, sym, ap}
use Rattle.std.proofs.Common.{append_assoc, ◌∙◌}
use Rattle.std.specs.Prelude.{codes}
use Rattle.std.specs.Fmt.{decimal}
use Rattle.std.proofs.lemmas.List.{take_more, map-append, append-nil}
use Rattle.std.proofs.lemmas.Grind.{flat_map-append}
use Rattle.trace_model.specs.declared.numbers.RecordNo.{RecordNo}
use Rattle.text_model.specs.Text.{line_feed, space}
use Rattle.capture.specs.Captures.{numbers_of}
use Rattle.capture_text.specs.declared.form.Form.{Form}
use Rattle.capture_text.specs.declared.form.Form.TheVariants.{Text, Json}
use Rattle.capture_text.specs.Printing.{late_line, unknown_line}

two_numbers : (before first between second behind : List ℕ)
    → (before ++ first ++ between) ++ (second ++ behind) ≡ before ++ first ++ (between ++ second) ++ behind
two_numbers before first between second behind = simp append_assoc

-- the line of a number of a CPU, as text and as JSON, is these two parts
text_said : (word : List ℕ) (given cpu number : ℕ) → given ≡ cpu
    → (word ++ decimal given ++ space ∷ []) ++ (decimal number ++ line_feed ∷ [])
    ≡ word ++ decimal cpu ++ space ∷ decimal number ++ line_feed ∷ []
text_said word given cpu number same =
    two_numbers word (decimal given) (space ∷ []) (decimal number) (line_feed ∷ [])
    ∙ ap (λ (n : ℕ). word ++ decimal n ++ space ∷ decimal number ++ line_feed ∷ []) same

json_said : (member : List ℕ) (given cpu number : ℕ) → given ≡ cpu
    → (codes "{\"cpu\":" ++ decimal given ++ member) ++ (decimal number ++ (codes "}" ++ line_feed ∷ []))
    ≡ codes "{\"cpu\":" ++ decimal cpu ++ member ++ decimal number ++ codes "}" ++ line_feed ∷ []
json_said member given cpu number same =
    let front = codes "{\"cpu\":" ++ decimal given ++ member in
    sym (append_assoc front (decimal number) (codes "}" ++ line_feed ∷ []))
    ∙ sym (append_assoc (front ++ decimal number) (codes "}") (line_feed ∷ []))
    ∙ ap (λ (n : ℕ). codes "{\"cpu\":" ++ decimal n ++ member ++ decimal number ++ codes "}" ++ line_feed ∷ []) same

module _ (form : Form) (cpu number given : ℕ) where
  pub text_loss : form ≡ Text → given ≡ cpu
      → (codes "unknown " ++ decimal given ++ space ∷ []) ++ (decimal number ++ line_feed ∷ [])
      ≡ unknown_line form cpu number
  text_loss is same =
      text_said (codes "unknown ") given cpu number same ∙ ap (λ (f : Form). unknown_line f cpu number) (sym is)

  pub json_loss : form ≡ Json → given ≡ cpu
      → (codes "{\"cpu\":" ++ decimal given ++ codes ",\"unknown\":")
      ++ (decimal number ++ (codes "}" ++ line_feed ∷ [])) ≡ unknown_line form cpu number
  json_loss is same =
      json_said (codes ",\"unknown\":") given cpu number same
      ∙ ap (λ (f : Form). unknown_line f cpu number) (sym is)

  pub text_late : form ≡ Text → given ≡ cpu
      → (codes "late " ++ decimal given ++ space ∷ []) ++ (decimal number ++ line_feed ∷ [])
      ≡ late_line form cpu number
  text_late is same =
      text_said (codes "late ") given cpu number same ∙ ap (λ (f : Form). late_line f cpu number) (sym is)

  pub json_late : form ≡ Json → given ≡ cpu
      → (codes "{\"cpu\":" ++ decimal given ++ codes ",\"late\":")
      ++ (decimal number ++ (codes "}" ++ line_feed ∷ [])) ≡ late_line form cpu number
  json_late is same =
      json_said (codes ",\"late\":") given cpu number same
      ∙ ap (λ (f : Form). late_line f cpu number) (sym is)

-- one loss more
pub losses_more : (line : ℕ → List ℕ) (numbers : List RecordNo) (i : ℕ) (none : RecordNo) → i < length numbers
    → flat_map line (numbers_of (take i numbers)) ++ line (get_or numbers i none).0
    ≡ flat_map line (numbers_of (take (i + 1) numbers))
losses_more line numbers i none below =
    rw (take_more numbers i none below) (simp (map-append, flat_map-append, append-nil))
