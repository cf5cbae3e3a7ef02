-- Reading the options of a chain of sections, as a loop does.
use Rattle.std.proofs.Common.{◌≡◌, ℕ, suc, ◌-◌, ◌+◌, ◌≤◌, ◌<◌, List, [], ◌++◌, length, Option, Some, None, Ok, Err}
use Rattle.std.proofs.Common.{refl, sym, ap, subst, ◌∙◌, append_assoc, arith}
use Rattle.std.specs.Prelude.{⊤, IfSome}
use Rattle.trace_dat.specs.declared.fault.Fault.{Fault}
use Rattle.trace_dat.specs.declared.fault.ReadError.{ReadError}
use Rattle.trace_dat.specs.declared.fault.ReadError.TheVariants as errors
use Rattle.trace_dat.specs.Parts.{FilePart}
use Rattle.trace_dat.specs.Fields.{Reading, ◌>>=◌, Fails, with_front, with_list}
use Rattle.trace_dat.specs.Entries.{FileOption}
use Rattle.trace_dat.specs.Sections.{Place, link_at, chain_from, options_of_chain, chained_options_at}
use Rattle.trace_dat.proofs.Loops.{same_value}

-- this count of sections is enough from this place on
abbrev IsEnough : ℕ → ℕ → Option Place → Type 0
IsEnough size count None = ⊤
IsEnough size count (Some place) = (place.least ≤ size + 1) × (size + 2 ≤ count + place.least)

-- the options read before, and those of the sections still to be read, are all of them
abbrev pub IsChainedTo : List ℕ → List FileOption → Option Place → Reading (List FileOption) → Type 0
IsChainedTo file before next total =
    (count : ℕ) × IsEnough (length file) count next
    × (with_list before (chain_from next (λ place. options_of_chain file count place)) ≡ total)

-- at how many offsets a section may still begin
abbrev pub offsets_left : ℕ → Option Place → ℕ
offsets_left size None = 0
offsets_left size (Some place) = size + 2 - place.least

none_before : (reading : Reading (List FileOption)) → with_list [] reading ≡ reading
none_before (Ok x) = refl
none_before (Err e) = refl

-- nothing was read yet
pub chain_start : (file : List ℕ) (pointer : FilePart)
    → IsChainedTo file [] (Some (record { least = 0; pointer = pointer })) (chained_options_at file pointer)
chain_start file pointer =
    (length file + 2, (omega arith, omega arith), none_before (chained_options_at file pointer))

-- the options of the sections from the second on, after those of the first
abbrev rest_of : List ℕ → ℕ → List FileOption × Option Place → Reading (List FileOption)
rest_of file count first =
    chain_from first.1 (λ place. options_of_chain file count place) >>= λ others. Ok (first.0 ++ others)

regroup : (before first : List FileOption) (others : Reading (List FileOption))
    → with_list before (others >>= λ ys. Ok (first ++ ys)) ≡ with_list (before ++ first) others
regroup before first (Ok ys) = ap (λ xs. Ok xs) (sym (append_assoc before first ys))
regroup before first (Err e) = refl

link_moves : (file : List ℕ) (count : ℕ) (before more : List FileOption) (next : Option Place)
    (first : Reading (List FileOption × Option Place)) → with_front before first ≡ Ok (more, next)
    → with_list before (first >>= rest_of file count)
    ≡ with_list more (chain_from next (λ place. options_of_chain file count place))
link_moves file count before more next (Ok x) e =
    let both = same_value (before ++ x.0, x.1) (more, next) e in
    rw (sym (ap (λ p. p.0) both), sym (ap (λ p. p.1) both))
    (regroup before x.0 (chain_from x.1 (λ place. options_of_chain file count place)))
link_moves file count before more next (Err f) e = absurd cc

abbrev failed_so : Fault → Reading (List FileOption × Option Place)
failed_so fault = Err fault

same_fault : (d f : Fault) → failed_so d ≡ failed_so f → d ≡ f
same_fault d f e = cc

link_fails : (file : List ℕ) (count : ℕ) (before : List FileOption) (e : ReadError)
    (first : Reading (List FileOption × Option Place)) → Fails e (with_front before first)
    → Fails e (with_list before (first >>= rest_of file count))
link_fails file count before errors.NoMemory first h = tt
link_fails file count before (errors.Fault f) (Ok x) h = absurd cc
link_fails file count before (errors.Fault f) (Err d) h = ap (λ e. Err e) (same_fault d f h)

first_known : (file : List ℕ) (count less : ℕ) (place : Place) → count ≡ suc less
    → options_of_chain file count place ≡ (link_at file place >>= rest_of file less)
unfolding options_of_chain
first_known file count less place e = rw e refl

enough_behind : (size count less : ℕ) (place : Place) (next : Option Place) → count ≡ suc less
    → IsEnough size count (Some place) → IfSome next (λ later. place.least < later.least)
    → IfSome next (λ later. later.least ≤ size + 1) → IsEnough size less next
enough_behind size count less place None e enough onward within = tt
enough_behind size count less place (Some later) e enough onward within = (within, omega (arith, enough.0, enough.1))

-- one section more was read
pub chain_goes_on : (file : List ℕ) (before more : List FileOption) (place : Place) (next : Option Place)
    (total : Reading (List FileOption)) → with_front before (link_at file place) ≡ Ok (more, next)
    → IfSome next (λ later. place.least < later.least) → IfSome next (λ later. later.least ≤ length file + 1)
    → IsChainedTo file before (Some place) total → IsChainedTo file more next total
chain_goes_on file before more place next total read onward within so_far =
    let e : so_far.0 ≡ suc (so_far.0 - 1) = omega (arith, so_far.1.0, so_far.1.1) in
    let one : with_list before (options_of_chain file so_far.0 place)
    ≡ with_list more (chain_from next (λ later. options_of_chain file (so_far.0 - 1) later)) =
    rw (first_known file so_far.0 (so_far.0 - 1) place e)
    (link_moves file (so_far.0 - 1) before more next (link_at file place) read) in (
      so_far.0 - 1,
      enough_behind (length file) so_far.0 (so_far.0 - 1) place next e so_far.1 onward within,
      sym one ∙ so_far.2,
    )

-- a section that can't be read ends the reading
pub chain_fails : (file : List ℕ) (before : List FileOption) (place : Place) (e : ReadError)
    (total : Reading (List FileOption)) → Fails e (with_front before (link_at file place))
    → IsChainedTo file before (Some place) total → Fails e total
chain_fails file before place e total fails so_far =
    let k : so_far.0 ≡ suc (so_far.0 - 1) = omega (arith, so_far.1.0, so_far.1.1) in
    let one : Fails e (with_list before (options_of_chain file so_far.0 place)) =
    rw (first_known file so_far.0 (so_far.0 - 1) place k)
    (link_fails file (so_far.0 - 1) before e (link_at file place) fails) in
    subst (λ r. Fails e r) so_far.2 one
