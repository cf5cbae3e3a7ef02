-- A number of which no bit is left.
use Rattle.std.proofs.Common.{◌≡◌, ℕ, List, [], ◌∷◌, refl, sym, ◌∙◌}
use Rattle.std.proofs.lemmas.Bool.{cond-true, eq-eqb}
use Rattle.kernel_names.specs.Entries.{Entry}
use Rattle.kernel_names.specs.FieldTables.{flag_names, flag_rest}

pub zero_names : (entries : List Entry) (number : ℕ) → number ≡ 0 → flag_names entries number ≡ []
zero_names [] number is = refl
zero_names (entry ∷ entries) number is = cond-true _ _ _ (eq-eqb number 0 is)

pub zero_rest : (entries : List Entry) (number : ℕ) → number ≡ 0 → flag_rest entries number ≡ number
zero_rest [] number is = refl
zero_rest (entry ∷ entries) number is = cond-true _ _ _ (eq-eqb number 0 is) ∙ sym is
