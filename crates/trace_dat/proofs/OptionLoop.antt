-- Reading options one after the other, as a loop does.
use Rattle.std.proofs.Common.{◌≡◌, ℕ, suc, ◌-◌, ◌+◌, ◌<◌, List, [], ◌∷◌, ◌++◌, length, Option, Some, None, Ok, refl}
use Rattle.std.proofs.Common.{sym, ap, subst, ◌∙◌, arith}
use Rattle.std.proofs.lemmas.List.{append-nil}
use Rattle.trace_dat.specs.declared.fault.ReadError.{ReadError}
use Rattle.trace_dat.specs.declared.fault.ReadError.TheVariants as errors
use Rattle.trace_dat.specs.Parts.{FilePart}
use Rattle.trace_dat.specs.Fields.{Reading, ◌>>=◌, Fails, with_front}
use Rattle.trace_dat.specs.Entries.{FileOption, option_at, option_then, options_among, options_at}
use Rattle.trace_dat.proofs.Loops.{regroup}

-- the options read before, and those still to be read, are all of them
abbrev pub IsReadTo : List FileOption → FilePart → Reading (List FileOption × FilePart) → Type 0
IsReadTo before part total =
    (count : ℕ) × (length part.bytes < count) × (with_front before (options_among count part) ≡ total)

abbrev rest_of : ℕ → Option FileOption × FilePart → Reading (List FileOption × FilePart)
rest_of count first = option_then first.0 (options_among count first.1) first.1

-- what is read, if the first option is known
from_first : (before : List FileOption) (count less : ℕ) (part : FilePart) → count ≡ suc less
    → with_front before (options_among count part) ≡ with_front before (option_at part >>= rest_of less)
unfolding options_among
from_first before count less part e = rw e refl

-- no option was read yet
pub options_start : (before : List FileOption) (part : FilePart)
    → IsReadTo before part (with_front before (options_at part))
options_start before part = (length part.bytes + 1, omega arith, refl)

-- one option more was read
pub option_goes_on : (before : List FileOption) (part after : FilePart) (option : FileOption)
    (total : Reading (List FileOption × FilePart)) → option_at part ≡ Ok (Some option, after)
    → length after.bytes < length part.bytes → IsReadTo before part total → IsReadTo (before ++ option ∷ []) after total
option_goes_on before part after option total read shorter so_far =
    let one : with_front before (option_at part >>= rest_of (so_far.0 - 1))
    ≡ with_front (before ++ option ∷ []) (options_among (so_far.0 - 1) after) =
    rw read (regroup before (option ∷ []) (options_among (so_far.0 - 1) after)) in (
      so_far.0 - 1,
      omega (arith, so_far.1),
      sym one ∙ sym (from_first before so_far.0 (so_far.0 - 1) part (omega (arith, so_far.1))) ∙ so_far.2,
    )

-- the options end here
pub options_end : (before : List FileOption) (part after : FilePart) (total : Reading (List FileOption × FilePart))
    → option_at part ≡ Ok (None, after) → IsReadTo before part total → total ≡ Ok (before, after)
options_end before part after total read so_far =
    let one : with_front before (option_at part >>= rest_of (so_far.0 - 1)) ≡ Ok (before, after) =
    rw read (ap (λ xs. Ok (xs, after)) (append-nil before)) in
    sym so_far.2 ∙ from_first before so_far.0 (so_far.0 - 1) part (omega (arith, so_far.1)) ∙ one

first_fails : (before : List FileOption) (e : ReadError) (first : Reading (Option FileOption × FilePart))
    (others : Option FileOption × FilePart → Reading (List FileOption × FilePart)) → Fails e first
    → Fails e (with_front before (first >>= others))
first_fails before errors.NoMemory first others h = tt
first_fails before (errors.Fault f) first others h = rw h refl

-- an option that can't be read ends the reading
pub option_fails : (before : List FileOption) (part : FilePart) (e : ReadError)
    (total : Reading (List FileOption × FilePart)) → Fails e (option_at part) → IsReadTo before part total
    → Fails e total
option_fails before part e total fails so_far =
    let one : Fails e (with_front before (options_among so_far.0 part)) =
    rw (from_first before so_far.0 (so_far.0 - 1) part (omega (arith, so_far.1)))
    (first_fails before e (option_at part) (rest_of (so_far.0 - 1)) fails) in
    subst (λ r. Fails e r) so_far.2 one
