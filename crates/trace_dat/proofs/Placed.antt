-- Where in the file that is which is read.
use Rattle.std.proofs.Common.{◌≡◌, ◌==◌, ℕ, zero, suc, ◌+◌, ◌%◌, ◌≤◌, cond, ltb, List, [], ◌∷◌, length, Option, Some}
use Rattle.std.proofs.Common.{None, Ok, refl, sym, ap, subst, ◌∙◌, arith, inl, inr, nat_eq}
use Rattle.std.specs.List.{starts_with}
use Rattle.std.specs.Int.{Width, w16, w32, w64, byte_len, from_le_bytes, to_le_bytes}
use Rattle.std.proofs.lemmas.Bool.{ltb-false}
use Rattle.std.proofs.lemmas.List.{length-take}
use Rattle.trace_dat.specs.declared.fault.Cause.{Cause}
use Rattle.trace_dat.specs.declared.fault.Cause.TheVariants.{Misplaced, Compressed}
use Rattle.trace_dat.specs.declared.entries.TheConstants.{DONE}
use Rattle.trace_dat.specs.Parts.{FilePart}
use Rattle.trace_dat.specs.Fields.{◌>>=◌, front, behind, part_at, number_at, block_at, expected_at}
use Rattle.trace_dat.specs.Entries.{FileOption, body_at, option_at, option_then, options_among}
use Rattle.trace_dat.specs.Sections.{section_body_at, section_at}
use Rattle.trace_dat.specs.Spelling.{AreFrom}
use Rattle.trace_dat.proofs.Loops.{same_value}
use Rattle.trace_dat.proofs.Spelled.{bind_ok, guard_ok, passed_ok, failed_test}
use Rattle.trace_dat.proofs.SpelledFile.{chosen}

-- a part of this length is at the front, and the rest after it
abbrev IsFront : ℕ → FilePart → FilePart × FilePart → Type 0
IsFront len part x = (x.0.at ≡ part.at) × (length x.0.bytes ≡ len) × (x.1.at ≡ part.at + len)

part_placed : (len : ℕ) (part : FilePart) (x : FilePart × FilePart) → part_at len part ≡ Ok x → IsFront len part x
unfolding part_at
part_placed len part x e =
    let g =
    guard_ok (ltb (length part.bytes) len) (record { cause = _; at = part.at }) (front len part, behind len part) x
    e in
    let enough : len ≤ length part.bytes = ltb-false _ _ g.0 in
    subst (λ y. IsFront len part y) g.1 (refl, omega (arith, enough, length-take len part.bytes), refl)

number_placed : (w : Width) (part : FilePart) (x : ℕ × FilePart) → number_at w part ≡ Ok x
    → x.1.at ≡ part.at + byte_len w
unfolding number_at
number_placed w part x e =
    let b = bind_ok (part_at (byte_len w) part) (λ bytes. Ok (from_le_bytes w bytes.0.bytes, bytes.1)) x e in
    let p = part_placed (byte_len w) part b.0 b.1 in
    sym (ap (λ y. y.1.at) (same_value (from_le_bytes w b.0.0.bytes, b.0.1) x b.2)) ∙ p.2

-- the body of a block is after the number before it, and the rest after the body
abbrev IsBlock : Width → FilePart → FilePart × FilePart → Type 0
IsBlock w part x =
    (x.0.at ≡ part.at + byte_len w) × (x.1.at ≡ part.at + byte_len w + length x.0.bytes)

block_placed : (w : Width) (part : FilePart) (x : FilePart × FilePart) → block_at w part ≡ Ok x → IsBlock w part x
unfolding block_at
block_placed w part x e =
    let b = bind_ok (number_at w part) (λ len. part_at len.0 len.1) x e in
    let n = number_placed w part b.0 b.1 in
    let p = part_placed b.0.0 b.0.1 x b.2 in
    (p.0 ∙ n, omega (arith, n, p.1, p.2))

expected_placed : (text : List ℕ) (cause : Cause) (part rest : FilePart) → expected_at text cause part ≡ Ok rest
    → rest.at ≡ part.at + length text
unfolding expected_at
expected_placed text cause part rest e =
    let g =
    passed_ok (starts_with nat_eq part.bytes text) (record { cause = cause; at = part.at })
    (behind (length text) part) rest e in
    sym (ap (λ r. r.at) g.1)

-- ---- options

-- an option's body is after its identifier and the body's length, and the rest after the body
abbrev IsPlaced : FilePart → Option FileOption → FilePart → Type 0
IsPlaced part None rest = Unit {0}
IsPlaced part (Some option) rest =
    (option.body.at ≡ part.at + 6) × (rest.at ≡ part.at + 6 + length option.body.bytes)

body_placed : (id : ℕ) (part here : FilePart) (x : Option FileOption × FilePart) → here.at ≡ part.at + 2
    → body_at id here ≡ Ok x → IsPlaced part x.0 x.1
unfolding body_at
body_placed id part here x before e =
    let b = bind_ok (block_at w32 here) (λ body. Ok (Some (record { id = id; body = body.0 }), body.1)) x e in
    let p = block_placed w32 here b.0 b.1 in
    subst (λ y. IsPlaced part y.0 y.1) (same_value (Some (record { id = id; body = b.0.0 }), b.0.1) x b.2)
    (omega (arith, before, p.0), omega (arith, before, p.1))

option_placed : (part : FilePart) (x : Option FileOption × FilePart) → option_at part ≡ Ok x → IsPlaced part x.0 x.1
unfolding option_at
option_placed part x e =
    let b =
    bind_ok (number_at w16 part) (λ id. cond (id.0 == DONE) (Ok (None, id.1)) (body_at id.0 id.1)) x e in
    let n = number_placed w16 part b.0 b.1 in
    elim (chosen (b.0.0 == DONE) (Ok (None, b.0.1)) (body_at b.0.0 b.0.1) (Ok x) b.2) [
      | inl end ↦ subst (λ y. IsPlaced part y.0 y.1) (same_value (None, b.0.1) x end.1) tt
      | inr more ↦ body_placed b.0.0 part b.0.1 x n more.1
    ]

first_placed : (count : ℕ) (part here : FilePart) (first : Option FileOption) (x : List FileOption × FilePart)
    → IsPlaced part first here
    → ((y : List FileOption × FilePart) → options_among count here ≡ Ok y → AreFrom here.at y.0)
    → option_then first (options_among count here) here ≡ Ok x → AreFrom part.at x.0
first_placed count part here None x one others e =
    subst (λ y. AreFrom part.at y.0) (same_value ([], here) x e) tt
first_placed count part here (Some option) x one others e =
    let b = bind_ok (options_among count here) (λ rest. Ok (option ∷ rest.0, rest.1)) x e in
    subst (λ y. AreFrom part.at y.0) (same_value (option ∷ b.0.0, b.0.1) x b.2)
    (one.0, subst (λ at. AreFrom at b.0.0) one.1 (others b.0 b.1))

-- the options that are read are one after the other, from the front of the part on
pub options_placed : (count : ℕ) (part : FilePart) (x : List FileOption × FilePart) → options_among count part ≡ Ok x
    → AreFrom part.at x.0
unfolding options_among
options_placed zero part x e = absurd cc
options_placed (suc count) part x e =
    let b = bind_ok (option_at part) (λ first. option_then first.0 (options_among count first.1) first.1) x e in
    first_placed count part b.0.1 b.0.0 x (option_placed part b.0 b.1)
    (λ y read. options_placed count b.0.1 y read) b.2

-- ---- sections

section_body_placed : (part body : FilePart) → section_body_at part ≡ Ok body → body.at ≡ part.at + 12
unfolding section_body_at
section_body_placed part body e =
    let a = bind_ok (number_at w32 part) (λ description. block_at w64 description.1 >>= λ found. Ok found.0) body e in
    let b = bind_ok (block_at w64 a.0.1) (λ found. Ok found.0) body a.2 in
    let n = number_placed w32 part a.0 a.1 in
    let p = block_placed w64 a.0.1 b.0 b.1 in
    let same : b.0.0.at ≡ body.at = ap (λ r. r.at) (same_value b.0.0 body b.2) in
    omega (arith, n, p.0, same)

-- a section's body begins 16 bytes after the section
pub section_placed : (id : ℕ) (part body : FilePart) → section_at id part ≡ Ok body → body.at ≡ part.at + 16
unfolding section_at
section_placed id part body e =
    let a = bind_ok (expected_at (to_le_bytes w16 id) Misplaced part) _ body e in
    let b = bind_ok (number_at w16 a.0) _ body a.2 in
    let g =
    failed_test (b.0.0 % 2 == 1) (record { cause = Compressed; at = a.0.at }) (section_body_at b.0.1) body b.2 in
    let named : a.0.at ≡ part.at + 2 = expected_placed (to_le_bytes w16 id) Misplaced part a.0 a.1 in
    let flags = number_placed w16 a.0 b.0 b.1 in
    let body_placed = section_body_placed b.0.1 body g.1 in
    omega (arith, named, flags, body_placed)
