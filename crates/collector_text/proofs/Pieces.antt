-- Lines, piece by piece.
use Rattle.std.proofs.Common.{◌≡◌, ℕ, List, [], ◌∷◌, ◌++◌, append_assoc, sym, ap, ◌∙◌}
use Rattle.std.specs.Prelude.{codes}
use Rattle.text_model.specs.Text.{line_feed, space}

-- three parts are put, one after the other
pub three_put : (first second third before one two out : List ℕ) → one ≡ before ++ first → two ≡ one ++ second
    → out ≡ two ++ third → out ≡ before ++ (first ++ second ++ third)
three_put first second third before one two out put_first put_second put_third =
    put_third
    ∙ ap (λ (t : List ℕ). t ++ third)
    (put_second ∙ ap (λ (t : List ℕ). t ++ second) put_first ∙ append_assoc before first second)
    ∙ append_assoc before (first ++ second) third

-- the numbers of a record, its payload and the end of the line are its line
pub record_put : (cpu number moment payload before front middle out : List ℕ)
    → front ≡ before ++ (cpu ++ space ∷ number ++ space ∷ moment ++ space ∷ []) → middle ≡ front ++ payload
    → out ≡ middle ++ line_feed ∷ []
    → out ≡ before ++ (cpu ++ space ∷ number ++ space ∷ moment ++ space ∷ payload ++ line_feed ∷ [])
record_put cpu number moment payload before front middle out numbers bytes end =
    let gaps = cpu ++ space ∷ number ++ space ∷ moment in
    three_put (gaps ++ space ∷ []) payload (line_feed ∷ []) before front middle out numbers bytes end
    ∙ ap (λ (t : List ℕ). before ++ (t ++ line_feed ∷ [])) (append_assoc gaps (space ∷ []) payload)

-- the three numbers of a run, with what is around each, are its line
pub run_put : (cpu first last before one two out : List ℕ) → one ≡ before ++ (codes "missing " ++ cpu ++ space ∷ [])
    → two ≡ one ++ (first ++ codes "-") → out ≡ two ++ (last ++ line_feed ∷ [])
    → out ≡ before ++ (codes "missing " ++ cpu ++ space ∷ first ++ codes "-" ++ last ++ line_feed ∷ [])
run_put cpu first last before one two out put_cpu put_first put_last =
    let missing = codes "missing " ++ cpu in
    let line = missing ++ space ∷ first ++ codes "-" in
    three_put (missing ++ space ∷ []) (first ++ codes "-") (last ++ line_feed ∷ []) before one two out put_cpu put_first
    put_last
    ∙ ap (λ (t : List ℕ). before ++ (t ++ (last ++ line_feed ∷ [])))
    (sym (append_assoc (missing ++ space ∷ []) first (codes "-"))
    ∙ ap (λ (t : List ℕ). t ++ codes "-") (append_assoc missing (space ∷ []) first))
    ∙ ap (λ (t : List ℕ). before ++ t) (sym (append_assoc line last (line_feed ∷ [])))
