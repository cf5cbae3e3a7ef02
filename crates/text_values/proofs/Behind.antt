-- Texts that begin with what was there before.
use Rattle.std.proofs.Common.{◌≡◌, List, ◌++◌, append_assoc, ap, ◌∙◌}
use Rattle.trace_model.specs.Sublist.{IsPrefix}

-- more is appended to what was there
pub behind_put : {A : Type 0} (before so_far part out : List A) → IsPrefix before so_far → out ≡ so_far ++ part
    → IsPrefix before out
behind_put {A} before so_far part out (rest, is) put =
    (rest ++ part, put ∙ ap (λ (t : List A). t ++ part) is ∙ append_assoc before rest part)

pub behind_behind : {A : Type 0} (before so_far out : List A) → IsPrefix before so_far → IsPrefix so_far out
    → IsPrefix before out
behind_behind {A} before so_far out first (more, put) = behind_put before so_far more out first put
