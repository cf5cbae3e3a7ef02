-- Lines that are taken one after the other.
use Rattle.std.proofs.Common.{List, [], ◌∷◌, ◌++◌, refl, sym, subst}
use Rattle.trace_model.specs.Listing.{Line as ModelLine}
use Rattle.time_merge.specs.Walks.{TakesAll}

-- one line more is taken
pub takes_more : {S : Type 0} (takes : S → ModelLine → S → Type 0) (start : S) (lines : List ModelLine) (before : S)
    (line : ModelLine) (after : S)
    → TakesAll takes start lines before → takes before line after → TakesAll takes start (lines ++ line ∷ []) after
takes_more {S} takes start [] before line after all one =
    (after, subst (λ (s : S). takes s line after) (sym all) one, refl)
takes_more takes start (l ∷ lines) before line after all one =
    (all.0, all.1, takes_more takes all.0 lines before line after all.2 one)
