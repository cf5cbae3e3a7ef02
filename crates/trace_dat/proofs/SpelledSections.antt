-- The options of version 7 that are read are spelled in a chain of sections.
use Rattle.std.proofs.Common.{◌≡◌, ◌≢◌, ◌==◌, ℕ, ◌+◌, ◌%◌, ◌≤◌, ◌⊎◌, cond, ltb, List, [], ◌++◌, length, drop, flat_map}
use Rattle.std.proofs.Common.{Option, Some, None, Ok, Err, refl, sym, ap, subst, ◌∙◌, inl, inr}
use Rattle.std.specs.Int.{w16, w32, w64, to_le_bytes}
use Rattle.std.proofs.lemmas.Bool.{ltb-false, eqb-true, eqb-false}
use Rattle.trace_dat.specs.declared.fault.Cause.TheVariants.{Misplaced, Compressed, Backward, OutsideFile}
use Rattle.trace_dat.specs.declared.entries.TheConstants.{OPTIONS}
use Rattle.trace_dat.specs.Parts.{FilePart}
use Rattle.trace_dat.specs.Fields.{number_at, block_at, expected_at, pointed_at}
use Rattle.trace_dat.specs.Entries.{FileOption, options_at}
use Rattle.trace_dat.specs.Sections.{section_body_at, section_at, Place, linked_at, link_from, link_at}
use Rattle.trace_dat.specs.Spelling.{IsBytes, Fits, FitsBlock, block, options_bytes, HasSection, HasOptions, Linked}
use Rattle.trace_dat.specs.Spelling.{AreFrom, IsChain}
use Rattle.trace_dat.proofs.Loops.{same_value}
use Rattle.trace_dat.proofs.Spelled.{Takes, Takes-then, IsBytes-drop, bind_ok, guard_ok, failed_test, wide16, wide32}
use Rattle.trace_dat.proofs.Spelled.{wide64, number_takes, number_fits, block_takes, expected_takes}
use Rattle.trace_dat.proofs.SpelledFile.{chosen, options_take}
use Rattle.trace_dat.proofs.Placed.{options_placed, section_placed}

-- ---- a section

body_takes : (part body : FilePart) → IsBytes part.bytes → section_body_at part ≡ Ok body
    → (description : ℕ) × (rest : FilePart) × Takes part (to_le_bytes w32 description ++ block w64 body.bytes) rest
    × IsBytes body.bytes × Fits w32 description × FitsBlock w64 body.bytes
unfolding section_body_at
body_takes part body fits e =
    let a = bind_ok (number_at w32 part) _ body e in
    let b = bind_ok (block_at w64 a.0.1) (λ found. Ok found.0) body a.2 in
    let n = number_takes w32 wide32 part a.0.0 a.0.1 fits a.1 in
    let t = block_takes w64 wide64 a.0.1 b.0.0 b.0.1 n.fits b.1 in
    let same : b.0.0 ≡ body = same_value b.0.0 body b.2 in (
      a.0.0,
      b.0.1,
      subst (λ x. Takes part (to_le_bytes w32 a.0.0 ++ block w64 x.bytes) b.0.1) same
          (Takes-then part (to_le_bytes w32 a.0.0) a.0.1 (block w64 b.0.0.bytes) b.0.1 n t.0),
      subst (λ x. IsBytes x.bytes) same t.1,
      number_fits w32 wide32 part a.0.0 a.0.1 fits a.1,
      subst (λ x. FitsBlock w64 x.bytes) same t.2,
    )

section_takes : (file : List ℕ) (offset id : ℕ) (body : FilePart) → IsBytes file → offset ≤ length file
    → section_at id (record { at = offset; bytes = drop offset file }) ≡ Ok body
    → HasSection file offset id body.bytes × IsBytes body.bytes
unfolding section_at
section_takes file offset id body fits inside e =
    let part : FilePart = record { at = offset; bytes = drop offset file } in
    let a = bind_ok (expected_at (to_le_bytes w16 id) Misplaced part) _ body e in
    let b = bind_ok (number_at w16 a.0) _ body a.2 in
    let g =
    failed_test (b.0.0 % 2 == 1) (record { cause = Compressed; at = a.0.at }) (section_body_at b.0.1) body b.2 in
    let named = expected_takes (to_le_bytes w16 id) Misplaced part a.0 (IsBytes-drop offset file fits) a.1 in
    let flags = number_takes w16 wide16 a.0 b.0.0 b.0.1 named.fits b.1 in
    let t = body_takes b.0.1 body flags.fits g.1 in
    let two =
    Takes-then a.0 (to_le_bytes w16 b.0.0) b.0.1 (to_le_bytes w32 t.0 ++ block w64 body.bytes) t.1 flags t.2 in
    let one =
    Takes-then part (to_le_bytes w16 id) a.0
    (to_le_bytes w16 b.0.0 ++ (to_le_bytes w32 t.0 ++ block w64 body.bytes)) t.1 named two in (
      record {
        flags = b.0.0;
        description = t.0;
        rest = t.1.bytes;
        inside = inside;
        plain = eqb-false _ _ g.0;
        flags_fit = number_fits w16 wide16 a.0 b.0.0 b.0.1 named.fits b.1;
        description_fits = t.4;
        body_fits = t.5;
        whole = one.whole;
      },
      t.3,
    )

-- ---- the chain

-- a section of options is there, and the place of the next one's pointer is after it
abbrev pub SpellsLinked : List ℕ → ℕ → List FileOption → Option Place → Type 0
SpellsLinked file offset options None = ⊥
SpellsLinked file offset options (Some later) =
    HasOptions file offset options later.pointer.bytes × (later.least ≡ offset + 1) × IsBytes later.pointer.bytes

linked_takes : (file : List ℕ) (offset : ℕ) (options : List FileOption) (next : Option Place) → IsBytes file
    → offset ≤ length file → linked_at (record { at = offset; bytes = drop offset file }) ≡ Ok (options, next)
    → SpellsLinked file offset options next
unfolding linked_at
linked_takes file offset options next fits inside e =
    let part : FilePart = record { at = offset; bytes = drop offset file } in
    let a = bind_ok (section_at OPTIONS part) _ (options, next) e in
    let b = bind_ok (options_at a.0) _ (options, next) a.2 in
    let d =
    bind_ok (block_at w32 b.0.1) (λ found. Ok (b.0.0, Some (record { least = offset + 1; pointer = found.0 })))
    (options, next) b.2 in
    let s = section_takes file offset OPTIONS a.0 fits inside a.1 in
    let o = options_take (length a.0.bytes + 1) a.0 b.0.0 b.0.1 s.1 b.1 in
    let k = block_takes w32 wide32 b.0.1 d.0.0 d.0.1 o.0.fits d.1 in
    let whole = Takes-then a.0 (options_bytes b.0.0) b.0.1 (block w32 d.0.0.bytes) d.0.1 o.0 k.0 in
    let placed : AreFrom (offset + 16) b.0.0 =
    subst (λ at. AreFrom at b.0.0) (section_placed OPTIONS part a.0 a.1)
    (options_placed (length a.0.bytes + 1) a.0 b.0 b.1) in
    subst (λ x. SpellsLinked file offset x.0 x.1)
    (same_value (b.0.0, Some (record { least = offset + 1; pointer = d.0.0 })) (options, next) d.2) (
      record {
        body = a.0.bytes;
        rest = d.0.1.bytes;
        section = s.0;
        placed = placed;
        options_fit = o.1;
        next_fits = k.2;
        whole = whole.whole;
      },
      refl,
      k.1,
    )

-- a pointer leads to a section of options, or says that there is none
abbrev pub SpellsLink : List ℕ → Place → List FileOption → Option Place → Type 0
SpellsLink file place options next =
    ((options ≡ []) × (next ≡ None) × ((rest : List ℕ) × (place.pointer.bytes ≡ to_le_bytes w64 0 ++ rest)))
    ⊎ ((offset : ℕ) × (rest : List ℕ) × (place.pointer.bytes ≡ to_le_bytes w64 offset ++ rest) × (offset ≢ 0)
    × (place.least ≤ offset) × SpellsLinked file offset options next × Fits w64 offset)

pointer_is : (file : List ℕ) (part there rest : FilePart) (offset : ℕ) (behind : FilePart)
    → number_at w64 part ≡ Ok (offset, behind) → pointed_at file part ≡ Ok (there, rest)
    → (there ≡ record { at = offset; bytes = drop offset file }) × (offset ≤ length file)
unfolding pointed_at
pointer_is file part there rest offset behind n e =
    let b =
    bind_ok (number_at w64 part)
    (λ offset.
    cond (ltb (length file) offset.0) (Err (record { cause = OutsideFile; at = part.at }))
    (Ok (record { at = offset.0; bytes = drop offset.0 file }, offset.1))) (there, rest) e in
    let same : b.0 ≡ (offset, behind) = same_value b.0 (offset, behind) (sym b.1 ∙ n) in
    let g =
    guard_ok (ltb (length file) b.0.0) (record { cause = OutsideFile; at = part.at })
    (record { at = b.0.0; bytes = drop b.0.0 file }, b.0.1) (there, rest) b.2 in
    let number : b.0.0 ≡ offset = ap (λ p. p.0) same in (
      subst (λ k. there ≡ record { at = k; bytes = drop k file }) number (sym (ap (λ p. p.0) g.1)),
      subst (λ k. k ≤ length file) number (ltb-false _ _ g.0),
    )

link_from_takes : (file : List ℕ) (place : Place) (options : List FileOption) (next : Option Place) (offset : ℕ)
    (behind : FilePart) → IsBytes file → number_at w64 place.pointer ≡ Ok (offset, behind)
    → link_from file place ≡ Ok (options, next) → (place.least ≤ offset) × SpellsLinked file offset options next
unfolding link_from
link_from_takes file place options next offset behind fits n e =
    let a = bind_ok (pointed_at file place.pointer) _ (options, next) e in
    let p = pointer_is file place.pointer a.0.0 a.0.1 offset behind n a.1 in
    let g =
    failed_test (ltb a.0.0.at place.least) (record { cause = Backward; at = place.pointer.at }) (linked_at a.0.0)
    (options, next) a.2 in
    let later : place.least ≤ a.0.0.at = ltb-false _ _ g.0 in (
      subst (λ k. place.least ≤ k) (ap (λ t. t.at) p.0) later,
      linked_takes file offset options next fits p.1 (subst (λ t. linked_at t ≡ Ok (options, next)) p.0 g.1),
    )

pub link_takes : (file : List ℕ) (place : Place) (options : List FileOption) (next : Option Place) → IsBytes file
    → IsBytes place.pointer.bytes → link_at file place ≡ Ok (options, next) → SpellsLink file place options next
unfolding link_at
link_takes file place options next fits bytes e =
    let a =
    bind_ok (number_at w64 place.pointer) (λ offset. cond (offset.0 == 0) (Ok ([], None)) (link_from file place))
    (options, next) e in
    let n = number_takes w64 wide64 place.pointer a.0.0 a.0.1 bytes a.1 in
    elim (chosen (a.0.0 == 0) (Ok ([], None)) (link_from file place) (Ok (options, next)) a.2) [
      | inl none ↦
          let same = same_value ([], None) (options, next) none.1 in
          inl (
            sym (ap (λ p. p.0) same),
            sym (ap (λ p. p.1) same),
            (
              a.0.1.bytes,
              subst (λ k. place.pointer.bytes ≡ to_le_bytes w64 k ++ a.0.1.bytes) (eqb-true _ _ none.0) n.whole,
            ),
          )
      | inr some ↦
          let t = link_from_takes file place options next a.0.0 a.0.1 fits a.1 some.1 in
          inr (
            a.0.0,
            a.0.1.bytes,
            n.whole,
            eqb-false _ _ some.0,
            t.0,
            t.1,
            number_fits w64 wide64 place.pointer a.0.0 a.0.1 bytes a.1,
          )
    ]

-- the options of a chain are those of its sections
abbrev pub SpellsChain : List ℕ → ℕ → List ℕ → List FileOption → Type 0
SpellsChain file least bytes options =
    (links : List Linked) × IsChain file least bytes links × (options ≡ flat_map (λ link. link.options) links)
