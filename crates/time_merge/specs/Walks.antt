-- What takes lines one after the other makes of itself and of its writer.
use Rattle.std.specs.Prelude.{◌≡◌, List, [], ◌∷◌}
use Rattle.trace_model.specs.Listing.{Line as ModelLine}

-- taking the lines, one after the other, leads from one state to the other
abbrev pub TakesAll : {S : Type 0} → (S → ModelLine → S → Type 0) → S → List ModelLine → S → Type 0
TakesAll takes before [] after = before ≡ after
TakesAll {S} takes before (line ∷ lines) after =
    (between : S) × takes before line between × TakesAll takes between lines after
