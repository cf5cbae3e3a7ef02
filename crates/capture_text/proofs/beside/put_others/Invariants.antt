use Rattle.std.proofs.Common.{◌≡◌, List, ◌++◌, length}
use Rattle.kernel_names.specs.FieldTables.{names_seen}
use Rattle.text_values.specs.Putting.{Puts}
use Rattle.capture_text.specs.Beside.{NumberName}
use Rattle.capture_text.specs.Sources.{further_text, left_seen}
use Rattle.capture_text.proofs.beside.put_others.Given as goal

abbrev pub invariant-loop-name : goal.invariant-loop-name
invariant-loop-name g l =
    (done : List NumberName) × (done ++ left_seen l.left ≡ left_seen l.names)
    × Puts (further_text l.form done) l.fn.out l.out

abbrev pub decreases-loop-name : goal.decreases-loop-name
decreases-loop-name g l = length (names_seen l.left)
