-- Reading a list for each of some things, as a loop does.
use Rattle.std.proofs.Common.{◌≡◌, ℕ, ◌+◌, ◌≤◌, ◌<◌, List, [], ◌∷◌, ◌++◌, length, get_or, drop, map, Ok, Err, refl, sym}
use Rattle.std.proofs.Common.{ap, subst, ◌∙◌, append_assoc}
use Rattle.std.proofs.lemmas.List.{append-nil, drop_more, drop_all}
use Rattle.trace_dat.specs.declared.fault.ReadError.{ReadError}
use Rattle.trace_dat.specs.declared.fault.ReadError.TheVariants as errors
use Rattle.trace_dat.specs.Fields.{Reading, ◌>>=◌, Fails, each_of, with_list}
use Rattle.trace_dat.proofs.Loops.{same_value}

-- the lists of the others, after the first
abbrev then_others : {A : Type 0} → Reading (List A) → List A → Reading (List A)
then_others others first = others >>= λ rest. Ok (first ++ rest)

list_moves : {A : Type 0} (before more : List A) (first others : Reading (List A)) → with_list before first ≡ Ok more
    → with_list before (first >>= then_others others) ≡ with_list more others
list_moves before more (Ok x) (Ok xs) e =
    let one : before ++ x ≡ more = same_value (before ++ x) more e in
    rw (sym one) (ap (λ ys. Ok ys) (sym (append_assoc before x xs)))
list_moves before more (Ok x) (Err f) e = refl
list_moves before more (Err f) others e = absurd cc

list_fails : {A : Type 0} (before : List A) (e : ReadError) (first others : Reading (List A))
    → Fails e (with_list before first) → Fails e (with_list before (first >>= then_others others))
list_fails before errors.NoMemory first others h = tt
list_fails before (errors.Fault f) (Ok x) others h = absurd cc
list_fails before (errors.Fault f) (Err d) others h = h

-- what is left, if the next thing is known
next_known : {X Y A : Type 0} (see : X → Y) (of : Y → Reading (List A)) (xs : List X) (i : ℕ) (x : X)
    → i < length xs → x ≡ get_or xs i x
    → each_of of (map see (drop i xs)) ≡ (of (see x) >>= then_others (each_of of (map see (drop (i + 1) xs))))
unfolding each_of
next_known see of xs i x lt is =
    let cell : drop i xs ≡ x ∷ drop (i + 1) xs = drop_more xs i x lt ∙ ap (λ y. y ∷ drop (i + 1) xs) (sym is) in
    rw cell refl

-- one list more was read
pub each_goes_on : {X Y A : Type 0} (see : X → Y) (of : Y → Reading (List A)) (before more : List A) (xs : List X)
    (i : ℕ) (x : X) (total : Reading (List A)) → i < length xs → x ≡ get_or xs i x
    → with_list before (of (see x)) ≡ Ok more
    → with_list before (each_of of (map see (drop i xs))) ≡ total
    → with_list more (each_of of (map see (drop (i + 1) xs))) ≡ total
each_goes_on see of before more xs i x total lt is read so_far =
    let one : with_list before (each_of of (map see (drop i xs)))
    ≡ with_list more (each_of of (map see (drop (i + 1) xs))) =
    rw (next_known see of xs i x lt is)
    (list_moves before more (of (see x)) (each_of of (map see (drop (i + 1) xs))) read) in
    sym one ∙ so_far

-- a list that can't be read ends the reading
pub each_fails : {X Y A : Type 0} (see : X → Y) (of : Y → Reading (List A)) (before : List A) (xs : List X)
    (i : ℕ) (x : X) (e : ReadError) (total : Reading (List A)) → i < length xs → x ≡ get_or xs i x
    → Fails e (with_list before (of (see x)))
    → with_list before (each_of of (map see (drop i xs))) ≡ total → Fails e total
each_fails see of before xs i x e total lt is fails so_far =
    let one : Fails e (with_list before (each_of of (map see (drop i xs)))) =
    rw (next_known see of xs i x lt is)
    (list_fails before e (of (see x)) (each_of of (map see (drop (i + 1) xs))) fails) in
    subst (λ r. Fails e r) so_far one

-- all lists were read
pub each_is_done : {X Y A : Type 0} (see : X → Y) (of : Y → Reading (List A)) (before : List A) (xs : List X)
    (i : ℕ) (total : Reading (List A)) → length xs ≤ i
    → with_list before (each_of of (map see (drop i xs))) ≡ total → total ≡ Ok before
unfolding each_of
each_is_done see of before xs i total le so_far =
    let none : drop i xs ≡ [] = drop_all i xs le in
    let one : with_list before (each_of of (map see (drop i xs))) ≡ Ok before =
    rw none (ap (λ ys. Ok ys) (append-nil before)) in
    sym so_far ∙ one
