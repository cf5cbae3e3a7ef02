use Rattle.std.proofs.Common.{◌≡◌, List, ◌∷◌, ◌++◌, length}
use Rattle.std.specs.Prelude.{ℤ, flat_map}
use Rattle.event_fields.specs.Values.{numbers_seen}
use Rattle.text_values.specs.Putting.{Puts}
use Rattle.capture_text.specs.Fields.{number_text}
use Rattle.capture_text.proofs.fields.put_others.Given as goal

abbrev pub invariant-loop-number : goal.invariant-loop-number
invariant-loop-number g l =
    (done : List ℤ) × (done ++ numbers_seen l.left ≡ numbers_seen l.numbers)
    × Puts (flat_map (λ n. 44 ∷ number_text l.form l.kind n) done) l.fn.out l.out

abbrev pub decreases-loop-number : goal.decreases-loop-number
decreases-loop-number g l = length (numbers_seen l.left)
