-- Reading fields one after the other, as a loop does.
use Rattle.std.proofs.Common.{◌≡◌, ℕ, suc, ◌-◌, ◌+◌, ◌≤◌, ◌<◌, List, ◌++◌, Ok, Err, refl, sym, ap, subst, ◌∙◌}
use Rattle.std.proofs.Common.{append_assoc, arith}
use Rattle.std.proofs.lemmas.List.{append-nil}
use Rattle.trace_dat.specs.declared.fault.ReadError.{ReadError}
use Rattle.trace_dat.specs.declared.fault.ReadError.TheVariants as errors
use Rattle.trace_dat.specs.Parts.{FilePart}
use Rattle.trace_dat.specs.Fields.{Reading, ◌>>=◌, Fails, all_at, with_front}

-- the fields from the second on, after the first
abbrev then_all : {A : Type 0} → (FilePart → Reading (List A × FilePart)) → List A × FilePart
    → Reading (List A × FilePart)
then_all others x = others x.1 >>= λ y. Ok (x.0 ++ y.0, y.1)

pub regroup : {A : Type 0} (before first : List A) (others : Reading (List A × FilePart))
    → with_front before (others >>= λ y. Ok (first ++ y.0, y.1)) ≡ with_front (before ++ first) others
regroup before first (Ok y) = ap (λ xs. Ok (xs, y.1)) (sym (append_assoc before first y.0))
regroup before first (Err e) = refl

abbrev pub read_so : {A : Type 0} → A → Reading A
read_so x = Ok x

-- one reading gives one value
pub same_value : {A : Type 0} (x y : A) → read_so x ≡ read_so y → x ≡ y
same_value x y e = cc

front_moves : {A : Type 0} (before : List A) (first : Reading (List A × FilePart))
    (others : FilePart → Reading (List A × FilePart))
    (more : List A) (after : FilePart) → with_front before first ≡ Ok (more, after)
    → with_front before (first >>= then_all others) ≡ with_front more (others after)
front_moves before (Ok x) others more after e =
    let both = same_value (before ++ x.0, x.1) (more, after) e in
    rw (sym (ap (λ p. p.0) both), sym (ap (λ p. p.1) both)) (regroup before x.0 (others x.1))
front_moves before (Err f) others more after e = absurd cc

front_fails : {A : Type 0} (before : List A) (e : ReadError) (first : Reading (List A × FilePart))
    (others : FilePart → Reading (List A × FilePart)) → Fails e (with_front before first)
    → Fails e (with_front before (first >>= then_all others))
front_fails before errors.NoMemory first others h = tt
front_fails before (errors.Fault f) (Ok x) others h = absurd cc
front_fails before (errors.Fault f) (Err d) others h = h

-- one field more was read
pub goes_on : {A : Type 0} (field : ℕ → FilePart → Reading (List A × FilePart)) (before more : List A) (count i : ℕ)
    (part after : FilePart) (total : Reading (List A × FilePart)) → i < count
    → with_front before (field i part) ≡ Ok (more, after)
    → with_front before (all_at field i (count - i) part) ≡ total
    → with_front more (all_at field (i + 1) (count - (i + 1)) after) ≡ total
unfolding all_at
goes_on field before more count i part after total lt read so_far =
    let k : count - i ≡ suc (count - (i + 1)) = omega arith in
    let one : with_front before (all_at field i (count - i) part)
    ≡ with_front more (all_at field (i + 1) (count - (i + 1)) after) =
    rw k (front_moves before (field i part) (λ p. all_at field (i + 1) (count - (i + 1)) p) more after read) in
    sym one ∙ so_far

-- a field that can't be read ends the reading
pub ends : {A : Type 0} (field : ℕ → FilePart → Reading (List A × FilePart)) (before : List A) (count i : ℕ)
    (part : FilePart) (e : ReadError) (total : Reading (List A × FilePart)) → i < count
    → Fails e (with_front before (field i part))
    → with_front before (all_at field i (count - i) part) ≡ total → Fails e total
unfolding all_at
ends field before count i part e total lt fails so_far =
    let k : count - i ≡ suc (count - (i + 1)) = omega arith in
    let one : Fails e (with_front before (all_at field i (count - i) part)) =
    rw k (front_fails before e (field i part) (λ p. all_at field (i + 1) (count - (i + 1)) p) fails) in
    subst (λ r. Fails e r) so_far one

-- all fields were read
pub is_done : {A : Type 0} (field : ℕ → FilePart → Reading (List A × FilePart)) (before : List A) (count i : ℕ)
    (part : FilePart) (total : Reading (List A × FilePart)) → count ≤ i
    → with_front before (all_at field i (count - i) part) ≡ total → total ≡ Ok (before, part)
unfolding all_at
is_done field before count i part total le so_far =
    let k : count - i ≡ 0 = omega arith in
    let one : with_front before (all_at field i (count - i) part) ≡ Ok (before, part) =
    rw k (ap (λ xs. Ok (xs, part)) (append-nil before)) in
    sym so_far ∙ one
