-- Places at which bytes differ from a word.
use Rattle.std.proofs.Common.{◌≡◌, ◌≢◌, ℕ, suc, ◌+◌, ◌<◌, List, length, get_or, drop, refl, arith}
use Rattle.std.proofs.Common.{inl, inr}
use Rattle.std.proofs.lemmas.Bool.{ne_eqb, eq-eqb, cases_lt}
use Rattle.std.proofs.lemmas.List.{drop_more, drop_all}
use Rattle.trace_dat.specs.Versions.{places_differing}

pub same_at : (file word : List ℕ) (at : ℕ) → at < length word → at < length file
    → get_or file at 0 ≡ get_or word at 0
    → places_differing (drop at file) (drop at word) ≡ places_differing (drop (at + 1) file) (drop (at + 1) word)
same_at file word at below inside same =
    rw (drop_more file at 0 inside, drop_more word at 0 below) (rw (eq-eqb _ _ same) refl)

pub other_at : (file word : List ℕ) (at : ℕ) → at < length word
    → (at < length file → get_or file at 0 ≢ get_or word at 0)
    → places_differing (drop at file) (drop at word) ≡ suc (places_differing (drop (at + 1) file) (drop (at + 1) word))
other_at file word at below other = elim (cases_lt at (length file)) [
  | inl inside ↦ rw (drop_more file at 0 inside, drop_more word at 0 below) (rw (ne_eqb _ _ (other inside)) refl)
  | inr past ↦ rw (drop_all at file past, drop_all (at + 1) file (omega (arith, past)), drop_more word at 0 below) refl
]
