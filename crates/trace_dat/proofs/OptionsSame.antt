-- What an option leads to doesn't depend on where the option is in the file.
use Rattle.std.proofs.Common.{◌≡◌, ◌==◌, ℕ, ◌+◌, false, cond, ltb, List, [], ◌∷◌, ◌++◌, length, take, drop}
use Rattle.std.proofs.Common.{flat_map, Option, Some, None, Ok, refl, sym, ap, subst, ◌∙◌, inl, inr}
use Rattle.std.specs.List.{position}
use Rattle.std.specs.Int.{Width, w64, byte_len, from_le_bytes}
use Rattle.trace_dat.specs.declared.entries.TheConstants.{BUFFER, COUNTERS, MACHINE}
use Rattle.trace_dat.specs.Parts.{FilePart}
use Rattle.trace_dat.specs.Fields.{Reading, ◌>>=◌, front, behind, part_at, number_at, text_at, text_to, pointed_at}
use Rattle.trace_dat.specs.Fields.{each_of}
use Rattle.trace_dat.specs.Contents.{TraceBuffer}
use Rattle.trace_dat.specs.Entries.{FileOption}
use Rattle.trace_dat.specs.Buffers.{buffer_at, instance_at, instance_of, counters_of}
use Rattle.trace_dat.specs.TracedKernel.{before_zero, machine_of, later_of, machine_among}
use Rattle.trace_dat.specs.Spelling.{AreFrom}
use Rattle.trace_dat.proofs.Loops.{same_value}
use Rattle.trace_dat.proofs.Spelled.{bind_ok, guard_ok}
use Rattle.trace_dat.proofs.SpelledFile.{chosen}
use Rattle.trace_dat.proofs.FieldsRead.{step, same_part}

-- If two parts have the same bytes, the field gives the same value, and the parts after it have the same bytes.
abbrev pub IsSame : {A : Type 0} → (FilePart → Reading (A × FilePart)) → Type 0
IsSame {A} field =
    (p q : FilePart) (x : A) (rest : FilePart) → p.bytes ≡ q.bytes → field p ≡ Ok (x, rest)
    → (later : FilePart) × (rest.bytes ≡ later.bytes) × (field q ≡ Ok (x, later))

number_same : (w : Width) → IsSame (number_at w)
unfolding number_at part_at
number_same w p q n rest same e =
    let b = bind_ok (part_at (byte_len w) p) (λ bytes. Ok (from_le_bytes w bytes.0.bytes, bytes.1)) (n, rest) e in
    let g =
    guard_ok (ltb (length p.bytes) (byte_len w)) _ (front (byte_len w) p, behind (byte_len w) p) b.0 b.1 in
    let enough : ltb (length q.bytes) (byte_len w) ≡ false = ap (λ bs. ltb (length bs) (byte_len w)) (sym same) ∙ g.0 in
    let is : (from_le_bytes w (take (byte_len w) p.bytes), behind (byte_len w) p) ≡ (n, rest) =
    ap (λ x. (from_le_bytes w x.0.bytes, x.1)) g.1 ∙ same_value (from_le_bytes w b.0.0.bytes, b.0.1) (n, rest) b.2 in
    let number : from_le_bytes w (take (byte_len w) q.bytes) ≡ n =
    ap (λ bs. from_le_bytes w (take (byte_len w) bs)) (sym same) ∙ ap (λ x. x.0) is in (
      behind (byte_len w) q,
      sym (ap (λ x. x.1.bytes) is) ∙ ap (λ bs. drop (byte_len w) bs) same,
      rw enough (ap (λ k. Ok (k, behind (byte_len w) q)) number),
    )

text_to_same : (end : Option ℕ) → IsSame (text_to end)
text_to_same None p q text rest same e = absurd cc
text_to_same (Some len) p q text rest same e =
    let is = same_value (take len p.bytes, behind (len + 1) p) (text, rest) e in (
      behind (len + 1) q,
      sym (ap (λ x. x.1.bytes) is) ∙ ap (λ bs. drop (len + 1) bs) same,
      ap (λ bs. Ok (bs, behind (len + 1) q)) (ap (λ bs. take len bs) (sym same) ∙ ap (λ x. x.0) is),
    )

text_same : IsSame text_at
unfolding text_at
text_same p q text rest same e =
    let there = ap (λ bs. position (λ b. b == 0) bs) same in
    let t = text_to_same (position (λ b. b == 0) p.bytes) p q text rest same e in
    (t.0, t.1, ap (λ end. text_to end q) (sym there) ∙ t.2)

pointer_same : (file : List ℕ) → IsSame (pointed_at file)
unfolding pointed_at
pointer_same file p q there rest same e =
    let b = bind_ok (number_at w64 p) _ (there, rest) e in
    let n = number_same w64 p q b.0.0 b.0.1 same b.1 in
    let found : FilePart = record { at = b.0.0; bytes = drop b.0.0 file } in
    let g = guard_ok (ltb (length file) b.0.0) _ (found, b.0.1) (there, rest) b.2 in (
      n.0,
      sym (ap (λ x. x.1.bytes) g.1) ∙ n.1,
      step (number_at w64 q) (b.0.0, n.0) _ _ n.2 (rw g.0 (ap (λ x. Ok (x.0, n.0)) g.1)),
    )

-- ---- version 6

instance_at_same : (file : List ℕ) (page_size count : ℕ) (p q : FilePart) (found : List TraceBuffer)
    → p.bytes ≡ q.bytes → instance_at file page_size count p ≡ Ok found → instance_at file page_size count q ≡ Ok found
unfolding instance_at
instance_at_same file page_size count p q found same e =
    let a = bind_ok (pointed_at file p) _ found e in
    let b = bind_ok (text_at a.0.1) (λ name. buffer_at file page_size count name.0 a.0.0) found a.2 in
    let pointer = pointer_same file p q a.0.0 a.0.1 same a.1 in
    let name = text_same a.0.1 pointer.0 b.0.0 b.0.1 pointer.1 b.1 in
    step (pointed_at file q) (a.0.0, pointer.0) _ _ pointer.2
    (step (text_at pointer.0) (b.0.0, name.0) _ _ name.2 b.2)

-- what an option gives, by whether it has this identifier
if_same : {A : Type 0} (id other k : ℕ) (x y z t : Reading A) (found : A) → id ≡ other
    → (x ≡ Ok found → y ≡ Ok found) → (z ≡ Ok found → t ≡ Ok found)
    → cond (id == k) x z ≡ Ok found → cond (other == k) y t ≡ Ok found
if_same id other k x y z t found same then otherwise e =
    let test : (other == k) ≡ (id == k) = ap (λ i. i == k) (sym same) in
    elim (chosen (id == k) x z (Ok found) e) [
      | inl is ↦ rw (test, is.0) (then is.1)
      | inr isnt ↦ rw (test, isnt.0) (otherwise isnt.1)
    ]

-- the options are equal, wherever they are
abbrev pub AreSame : List FileOption → List FileOption → Type 0
AreSame [] [] = Unit {0}
AreSame [] (y ∷ ys) = ⊥
AreSame (x ∷ xs) [] = ⊥
AreSame (x ∷ xs) (y ∷ ys) = (x.id ≡ y.id) × (x.body.bytes ≡ y.body.bytes) × AreSame xs ys

-- what an option gives doesn't depend on where the option is
abbrev GivesSame : {A : Type 0} → (FileOption → Reading (List A)) → Type 0
GivesSame {A} of =
    (x y : FileOption) (found : List A) → x.id ≡ y.id → x.body.bytes ≡ y.body.bytes → of x ≡ Ok found → of y ≡ Ok found

each_same : {A : Type 0} (of : FileOption → Reading (List A)) → GivesSame of → (xs ys : List FileOption)
    (found : List A) → AreSame xs ys → each_of of xs ≡ Ok found → each_of of ys ≡ Ok found
unfolding each_of
each_same of gives [] [] found same e = e
each_same of gives [] (y ∷ ys) found same e = absurd same
each_same of gives (x ∷ xs) [] found same e = absurd same
each_same of gives (x ∷ xs) (y ∷ ys) found same e =
    let a = bind_ok (of x) (λ first. each_of of xs >>= λ others. Ok (first ++ others)) found e in
    let b = bind_ok (each_of of xs) (λ others. Ok (a.0 ++ others)) found a.2 in
    step (of y) a.0 _ _ (gives x y a.0 same.0 same.1 a.1)
    (step (each_of of ys) b.0 _ _ (each_same of gives xs ys b.0 same.2 b.1) b.2)

instance_same : (file : List ℕ) (page_size count : ℕ) → GivesSame (instance_of file page_size count)
unfolding instance_of
instance_same file page_size count x y found id body e =
    if_same x.id y.id BUFFER (instance_at file page_size count x.body) (instance_at file page_size count y.body)
    (Ok []) (Ok []) found id
    (λ h. instance_at_same file page_size count x.body y.body found body h) (λ h. h) e

pub instances_same : (file : List ℕ) (page_size count : ℕ) (xs ys : List FileOption) (found : List TraceBuffer)
    → AreSame xs ys → each_of (instance_of file page_size count) xs ≡ Ok found
    → each_of (instance_of file page_size count) ys ≡ Ok found
instances_same file page_size count xs ys found same e =
    each_same (instance_of file page_size count) (instance_same file page_size count) xs ys found same e

pub counters_same : (xs ys : List FileOption) → AreSame xs ys → flat_map counters_of xs ≡ flat_map counters_of ys
counters_same [] [] same = refl
counters_same [] (y ∷ ys) same = absurd same
counters_same (x ∷ xs) [] same = absurd same
counters_same (x ∷ xs) (y ∷ ys) same =
    let first : counters_of x ≡ counters_of y =
    ap (λ i. cond (i == COUNTERS) (x.body.bytes ∷ []) []) same.0
    ∙ ap (λ bs. cond (y.id == COUNTERS) (bs ∷ []) []) same.1 in
    ap (λ cs. cs ++ flat_map counters_of xs) first ∙ ap (λ cs. counters_of y ++ cs) (counters_same xs ys same.2)

pub machine_same : (xs ys : List FileOption) → AreSame xs ys → machine_among xs ≡ machine_among ys
machine_same [] [] same = refl
machine_same [] (y ∷ ys) same = absurd same
machine_same (x ∷ xs) [] same = absurd same
machine_same (x ∷ xs) (y ∷ ys) same =
    let first : machine_of x ≡ machine_of y =
    ap (λ i. cond (i == MACHINE) (Some (before_zero x.body.bytes)) None) same.0
    ∙ ap (λ bs. cond (y.id == MACHINE) (Some (before_zero bs)) None) same.1 in
    ap (λ m. later_of m (machine_among xs)) first ∙ ap (λ m. later_of (machine_of y) m) (machine_same xs ys same.2)

-- ---- version 7

-- options that are equal and in the same places are the same
pub same_options : (at : ℕ) (xs ys : List FileOption) → AreFrom at xs → AreFrom at ys → AreSame xs ys → xs ≡ ys
same_options at [] [] p q same = refl
same_options at [] (y ∷ ys) p q same = absurd same
same_options at (x ∷ xs) [] p q same = absurd same
same_options at (x ∷ xs) (y ∷ ys) p q same =
    let body : x.body ≡ y.body = same_part x.body y.body (p.0 ∙ sym q.0) same.1 in
    let first : x ≡ y =
    ap (λ id. record { id = id; body = x.body }) same.0 ∙ ap (λ part. record { id = y.id; body = part }) body in
    let placed : AreFrom (at + 6 + length x.body.bytes) ys =
    subst (λ bs. AreFrom (at + 6 + length bs) ys) (sym same.1) q.1 in
    let others : xs ≡ ys = same_options (at + 6 + length x.body.bytes) xs ys p.1 placed same.2 in
    ap (λ o. o ∷ xs) first ∙ ap (λ os. y ∷ os) others
