-- A file that is spelled as version 7 is read so.
use Rattle.std.proofs.Common.{◌≡◌, ◌==◌, ℕ, zero, suc, ◌+◌, ◌%◌, ◌≤◌, false, List, [], ◌∷◌, ◌++◌, length, drop}
use Rattle.std.proofs.Common.{flat_map, Some, None, Ok, refl, sym, ap, subst, ◌∙◌, arith, nat_eq}
use Rattle.std.specs.List.{starts_with}
use Rattle.std.specs.Prelude.{codes}
use Rattle.std.specs.Int.{w16, w32, w64, to_le_bytes}
use Rattle.std.proofs.lemmas.Bool.{le-ltb, ne_eqb}
use Rattle.trace_dat.specs.declared.fault.Cause.TheVariants.{NotTraceDat, OtherMachine, Misplaced, Compressed}
use Rattle.trace_dat.specs.declared.read.Version.TheVariants.{Seven}
use Rattle.trace_dat.specs.declared.entries.TheConstants.{OPTIONS}
use Rattle.trace_dat.specs.Parts.{FilePart}
use Rattle.trace_dat.specs.Fields.{number_at, block_at, text_at, expected_at, pointed_at, each_of}
use Rattle.trace_dat.specs.Contents.{Contents}
use Rattle.trace_dat.specs.Entries.{FileOption, options_at}
use Rattle.trace_dat.specs.Buffers.{buffer_of, counters_of}
use Rattle.trace_dat.specs.declared.traced_kernel.NameList.TheVariants.{Symbols, Tasks}
use Rattle.trace_dat.specs.TracedKernel.{list_of, machine_among}
use Rattle.trace_dat.specs.Sections.{section_body_at, section_at, Place, linked_at, link_from, link_at}
use Rattle.trace_dat.specs.Sections.{options_of_chain, formats_of}
use Rattle.trace_dat.specs.Versions.{ended, magic, machine, plain_word, version_at, version_seven, reading_of}
use Rattle.trace_dat.specs.Spelling.{block, options_bytes, HasSection, HasOptions, Linked, AreFrom, IsChain, IsSeven}
use Rattle.trace_dat.proofs.Spelled.{wide16, wide32, wide64}
use Rattle.trace_dat.proofs.FieldsRead.{step, Begins, Begins-split, behind_is, number_reads, block_reads, text_reads}
use Rattle.trace_dat.proofs.FieldsRead.{word_begins, expected_reads}
use Rattle.trace_dat.proofs.OptionsSame.{same_options}
use Rattle.trace_dat.proofs.Placed.{options_placed, section_placed}
use Rattle.trace_dat.proofs.SixRead.{options_read, pointer_reads, same_contents}

-- the part of a file from an offset on
abbrev from_offset : List ℕ → ℕ → FilePart
from_offset file offset = record { at = offset; bytes = drop offset file }

-- ---- a section

section_reads : (file : List ℕ) (offset id : ℕ) (body : List ℕ) → HasSection file offset id body
    → (at : ℕ) × (section_at id (from_offset file offset) ≡ Ok (record { at = at; bytes = body }))
unfolding section_at section_body_at
section_reads file offset id body s =
    let part : FilePart = from_offset file offset in
    let described = to_le_bytes w32 s.description ++ block w64 body in
    let flagged = to_le_bytes w16 s.flags ++ described in
    let named = to_le_bytes w16 id ++ flagged in
    let rest : FilePart = record { at = offset + length named; bytes = s.rest } in
    let a = Begins-split part (to_le_bytes w16 id) flagged rest (record { whole = s.whole; after = refl }) in
    let b = Begins-split a.0 (to_le_bytes w16 s.flags) described rest a.2 in
    let c = Begins-split b.0 (to_le_bytes w32 s.description) (block w64 body) rest b.2 in
    let d = block_reads w64 wide64 body c.0 rest s.body_fits c.2 in
    let test : (s.flags % 2 == 1) ≡ false = ne_eqb (s.flags % 2) 1 s.plain in (
      d.0,
      step (expected_at (to_le_bytes w16 id) Misplaced part) a.0 _ _
          (expected_reads (to_le_bytes w16 id) Misplaced part a.0 a.1)
          (step (number_at w16 a.0) (s.flags, b.0) _ _ (number_reads w16 wide16 s.flags a.0 b.0 s.flags_fit b.1)
          (rw test (step (number_at w32 b.0) (s.description, c.0) _ _
          (number_reads w32 wide32 s.description b.0 c.0 s.description_fits c.1)
          (step (block_at w64 c.0) (record { at = d.0; bytes = body }, rest) _ _ d.1 refl)))),
    )

-- ---- the chain

-- the place of a pointer: the least offset that it may have, its offset, and its bytes
abbrev place_of : ℕ → ℕ → List ℕ → Place
place_of least at bytes = record { least = least; pointer = record { at = at; bytes = bytes } }

-- the options of a section that are read are these, and the next pointer is in these bytes
abbrev ReadsLinked : List ℕ → ℕ → List FileOption → List ℕ → Type 0
ReadsLinked file offset options next =
    (at : ℕ) × (linked_at (from_offset file offset) ≡ Ok (options, Some (place_of (offset + 1) at next)))

linked_reads : (file : List ℕ) (offset : ℕ) (options : List FileOption) (next : List ℕ)
    → HasOptions file offset options next → ReadsLinked file offset options next
unfolding linked_at
linked_reads file offset options next h =
    let s = section_reads file offset OPTIONS h.body h.section in
    let body : FilePart = record { at = s.0; bytes = h.body } in
    let rest : FilePart = record { at = s.0 + length (options_bytes options ++ block w32 next); bytes = h.rest } in
    let whole : Begins body (options_bytes options ++ block w32 next) rest = record { whole = h.whole; after = refl } in
    let a = Begins-split body (options_bytes options) (block w32 next) rest whole in
    let o = options_read options body a.0 h.options_fit a.1 in
    let k = block_reads w32 wide32 next a.0 rest h.next_fits a.2 in
    let placed : AreFrom (offset + 16) o.0 =
    subst (λ at. AreFrom at o.0) (section_placed OPTIONS (from_offset file offset) body s.1)
    (options_placed (length h.body + 1) body (o.0, a.0) o.2) in
    let read : options_at body ≡ Ok (options, a.0) =
    o.2 ∙ ap (λ os. Ok (os, a.0)) (sym (same_options (offset + 16) options o.0 h.placed placed o.1)) in (
      k.0,
      step (section_at OPTIONS (from_offset file offset)) body _ _ s.1
          (step (options_at body) (options, a.0) _ _ read
          (step (block_at w32 a.0) (record { at = k.0; bytes = next }, rest) _ _ k.1 refl)),
    )

-- the part after a pointer
abbrev behind_pointer : ℕ → ℕ → List ℕ → FilePart
behind_pointer at n rest = record { at = at + length (to_le_bytes w64 n); bytes = rest }

pointer_begins : (at n : ℕ) (bytes rest : List ℕ) → bytes ≡ to_le_bytes w64 n ++ rest
    → Begins (record { at = at; bytes = bytes }) (to_le_bytes w64 n) (behind_pointer at n rest)
pointer_begins at n bytes rest whole = record { whole = whole; after = refl }

-- the options of a chain that are read are these
abbrev ReadsChain : List ℕ → ℕ → Place → List Linked → Type 0
ReadsChain file count place links =
    options_of_chain file count place ≡ Ok (flat_map (λ link. link.options) links)

chain_reads : (file : List ℕ) (links : List Linked) (count least at : ℕ) (bytes : List ℕ)
    → length file + 2 ≤ least + count → least ≤ length file + 1 → IsChain file least bytes links
    → ReadsChain file count (place_of least at bytes) links
unfolding options_of_chain link_at link_from
chain_reads file links zero least at bytes enough early chain = absurd (omega (arith, enough, early))
chain_reads file [] (suc count) least at bytes enough early chain =
    let place : Place = place_of least at bytes in
    let rest : FilePart = behind_pointer at 0 chain.0 in
    let begins = pointer_begins at 0 bytes chain.0 chain.1 in
    let number = number_reads w64 wide64 0 place.pointer rest (omega arith) begins in
    let link : link_at file place ≡ Ok ([], None) = step (number_at w64 place.pointer) (0, rest) _ _ number refl in
    step (link_at file place) ([], None) _ _ link refl
chain_reads file (first ∷ links) (suc count) least at bytes enough early chain =
    let offset = first.offset in
    let place : Place = place_of least at bytes in
    let rest : FilePart = behind_pointer at offset chain.0 in
    let begins = pointer_begins at offset bytes chain.0 chain.1 in
    let inside : offset ≤ length file = chain.4.section.inside in
    let l = linked_reads file offset first.options first.next chain.4 in
    let next : Place = place_of (offset + 1) l.0 first.next in
    let from : link_from file place ≡ Ok (first.options, Some next) =
    step (pointed_at file place.pointer) (from_offset file offset, rest) _ _
    (pointer_reads file offset place.pointer rest chain.6 inside begins)
    (rw (le-ltb offset least chain.3) l.1) in
    let link : link_at file place ≡ Ok (first.options, Some next) =
    step (number_at w64 place.pointer) (offset, rest) _ _
    (number_reads w64 wide64 offset place.pointer rest chain.6 begins)
    (rw (ne_eqb offset 0 chain.2) from) in
    let still_enough : length file + 2 ≤ offset + 1 + count = omega (arith, enough, chain.3) in
    let others =
    chain_reads file links count (offset + 1) l.0 first.next still_enough (omega (arith, inside)) chain.5 in
    step (link_at file place) (first.options, Some next) _ _ link
    (step (options_of_chain file count next) (flat_map (λ link. link.options) links) _ _ others refl)

-- ---- the whole

seven_reads : (file : List ℕ) (contents : Contents) (seven : IsSeven file contents) (at : ℕ)
    → version_seven file (record { at = at; bytes = plain_word ++ (ended seven.release ++ seven.pointer) })
    ≡ Ok contents
unfolding version_seven
seven_reads file contents seven at =
    let part : FilePart = record { at = at; bytes = plain_word ++ (ended seven.release ++ seven.pointer) } in
    let a : FilePart = record { at = at + length plain_word; bytes = ended seven.release ++ seven.pointer } in
    let b : FilePart = record { at = a.at + length (ended seven.release); bytes = seven.pointer } in
    let options = flat_map (λ link. link.options) seven.links in
    let chain =
    chain_reads file seven.links (length file + 2) 0 b.at seven.pointer (omega arith) (omega arith) seven.chain in
    let same =
    same_contents contents contents.formats contents.buffers (flat_map counters_of options) contents.symbols
    contents.tasks (machine_among options) refl refl seven.counters refl refl seven.machine in
    let place : Place = record { least = 0; pointer = b } in
    step (expected_at plain_word Compressed part) a _ _
    (expected_reads plain_word Compressed part a (record { whole = refl; after = refl }))
    (step (text_at a) (seven.release, b) _ _
    (text_reads seven.release a b seven.release_ends (record { whole = refl; after = refl }))
    (step (options_of_chain file (length file + 2) place) options _ _ chain
    (step (each_of (formats_of file) options) contents.formats _ _ seven.formats
    (step (each_of (buffer_of file) options) contents.buffers _ _ seven.buffers
    (step (each_of (list_of Symbols file) options) contents.symbols _ _ seven.symbols
    (step (each_of (list_of Tasks file) options) contents.tasks _ _ seven.tasks
    (ap (λ x. Ok x) same)))))))

version_seven_reads : (part rest : FilePart) (more : List ℕ) → part.bytes ≡ ended (codes "7") ++ more
    → Begins part (ended (codes "7")) rest → version_at part ≡ Ok (Seven, rest)
unfolding version_at
version_seven_reads part rest more whole p =
    let other : starts_with nat_eq part.bytes (ended (codes "6")) ≡ false =
    ap (λ bs. starts_with nat_eq bs (ended (codes "6"))) whole in
    rw (other, word_begins (ended (codes "7")) part rest p)
    (ap (λ r. Ok (Seven, r)) (behind_is part (ended (codes "7")) rest p))

-- a file that is spelled as version 7 is read
pub seven_is_read : (file : List ℕ) (contents : Contents) → IsSeven file contents → reading_of file ≡ Ok contents
unfolding reading_of
seven_is_read file contents seven =
    let start : FilePart = record { at = 0; bytes = file } in
    let plain = plain_word ++ (ended seven.release ++ seven.pointer) in
    let sized = to_le_bytes w32 seven.page_size ++ plain in
    let words = machine ++ sized in
    let a : FilePart = record { at = 0 + length magic; bytes = ended (codes "7") ++ words } in
    let b : FilePart = record { at = a.at + length (ended (codes "7")); bytes = words } in
    let c : FilePart = record { at = b.at + length machine; bytes = sized } in
    let d : FilePart = record { at = c.at + length (to_le_bytes w32 seven.page_size); bytes = plain } in
    step (expected_at magic NotTraceDat start) a _ _
    (expected_reads magic NotTraceDat start a (record { whole = seven.whole; after = refl }))
    (step (version_at a) (Seven, b) _ _ (version_seven_reads a b words refl (record { whole = refl; after = refl }))
    (step (expected_at machine OtherMachine b) c _ _
    (expected_reads machine OtherMachine b c (record { whole = refl; after = refl }))
    (step (number_at w32 c) (seven.page_size, d) _ _
    (number_reads w32 wide32 seven.page_size c d seven.page_size_fits (record { whole = refl; after = refl }))
    (seven_reads file contents seven d.at))))
