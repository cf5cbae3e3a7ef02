-- A file that is read is spelled as its version is.
use Rattle.std.proofs.Common.{◌≡◌, ℕ, zero, suc, ◌+◌, ◌⊎◌, List, [], ◌∷◌, ◌++◌, length, flat_map, Option, Some, None}
use Rattle.std.proofs.Common.{Ok, sym, ap, subst, ◌∙◌, arith, inl, inr}
use Rattle.std.specs.Prelude.{codes}
use Rattle.std.specs.Int.{w32, to_le_bytes}
use Rattle.trace_dat.specs.declared.fault.Cause.TheVariants.{NotTraceDat, OtherMachine, Compressed}
use Rattle.trace_dat.specs.declared.read.Version.{Version}
use Rattle.trace_dat.specs.declared.read.Version.TheVariants.{Six, Seven}
use Rattle.trace_dat.specs.Parts.{FilePart}
use Rattle.trace_dat.specs.Fields.{◌>>=◌, number_at, text_at, expected_at, each_of}
use Rattle.trace_dat.specs.Contents.{Contents}
use Rattle.trace_dat.specs.Entries.{FileOption}
use Rattle.trace_dat.specs.Buffers.{ranges_word, buffer_of, counters_of}
use Rattle.trace_dat.specs.Sections.{Place, link_at, chain_from, options_of_chain, formats_of}
use Rattle.trace_dat.specs.declared.traced_kernel.NameList.TheVariants.{Symbols, Tasks}
use Rattle.trace_dat.specs.TracedKernel.{list_of, machine_among}
use Rattle.trace_dat.specs.Versions.{ended, magic, machine, plain_word, version_at, version_seven, contents_of}
use Rattle.trace_dat.specs.Versions.{reading_of}
use Rattle.trace_dat.specs.Spelling.{IsBytes, Fits, IsText, six_bytes, stated_bytes, range_bytes, Linked, IsChain}
use Rattle.trace_dat.specs.Spelling.{IsSix, IsSeven}
use Rattle.trace_dat.proofs.Loops.{same_value}
use Rattle.trace_dat.proofs.Spelled.{Takes, Takes-then, bind_ok, wide32, number_takes, number_fits, text_takes}
use Rattle.trace_dat.proofs.Spelled.{text_ends, expected_takes}
use Rattle.trace_dat.proofs.SpelledFile.{main_buffer, six_takes, SpellsVersion, version_takes, version_fits}
use Rattle.trace_dat.proofs.SpelledSections.{SpellsLink, SpellsChain, link_takes}

-- ---- the chain

-- the sections after a pointer, if the first of them is known
chain_next : (file : List ℕ) (count : ℕ) (place : Place) (first others : List FileOption) (next : Option Place)
    → SpellsLink file place first next
    → ((later : Place) → IsBytes later.pointer.bytes → options_of_chain file count later ≡ Ok others
    → SpellsChain file later.least later.pointer.bytes others)
    → chain_from next (λ later. options_of_chain file count later) ≡ Ok others
    → SpellsChain file place.least place.pointer.bytes (first ++ others)
chain_next file count place first others None (inl end) again e =
    let none : [] ≡ others = same_value [] others e in
    ([], end.2, ap (λ xs. xs ++ others) end.0 ∙ sym none)
chain_next file count place first others None (inr there) again e = absurd there.5
chain_next file count place first others (Some later) (inl end) again e = absurd (let h = end.1 in cc)
chain_next file count place first others (Some later) (inr there) again e =
    let rest = again later there.5.2 e in
    let onward : IsChain file (there.0 + 1) later.pointer.bytes rest.0 =
    subst (λ k. IsChain file k later.pointer.bytes rest.0) there.5.1 rest.1 in (
      record { offset = there.0; options = first; next = later.pointer.bytes } ∷ rest.0,
      (there.1, there.2, there.3, there.4, there.5.0, onward, there.6),
      ap (λ xs. first ++ xs) rest.2,
    )

chain_takes : (file : List ℕ) (count : ℕ) (place : Place) (options : List FileOption) → IsBytes file
    → IsBytes place.pointer.bytes → options_of_chain file count place ≡ Ok options
    → SpellsChain file place.least place.pointer.bytes options
unfolding options_of_chain
chain_takes file zero place options fits bytes e = absurd cc
chain_takes file (suc count) place options fits bytes e =
    let a =
    bind_ok (link_at file place)
    (λ first. chain_from first.1 (λ next. options_of_chain file count next) >>= λ others.
    Ok (first.0 ++ others)) options e in
    let d =
    bind_ok (chain_from a.0.1 (λ next. options_of_chain file count next)) (λ others. Ok (a.0.0 ++ others)) options
    a.2 in
    let link = link_takes file place a.0.0 a.0.1 fits bytes a.1 in
    subst (λ xs. SpellsChain file place.least place.pointer.bytes xs) (same_value (a.0.0 ++ d.0) options d.2)
    (chain_next file count place a.0.0 d.0 a.0.1 link
    (λ later more read. chain_takes file count later d.0 fits more read) d.1)

-- ---- the whole

-- what is read of version 7 is spelled from after the size of the pages on
record SpellsSeven (file : List ℕ) (part : FilePart) (contents : Contents) : Type 0 where
  release : List ℕ
  pointer : List ℕ
  links : List Linked
  release_ends : IsText release
  whole : part.bytes ≡ plain_word ++ (ended release ++ pointer)
  chain : IsChain file 0 pointer links
  formats : each_of (formats_of file) (flat_map (λ link. link.options) links) ≡ Ok contents.formats
  buffers : each_of (buffer_of file) (flat_map (λ link. link.options) links) ≡ Ok contents.buffers
  counters : contents.counters ≡ flat_map counters_of (flat_map (λ link. link.options) links)
  symbols : each_of (list_of Symbols file) (flat_map (λ link. link.options) links) ≡ Ok contents.symbols
  tasks : each_of (list_of Tasks file) (flat_map (λ link. link.options) links) ≡ Ok contents.tasks
  machine : contents.machine ≡ machine_among (flat_map (λ link. link.options) links)

seven_takes : (file : List ℕ) (part : FilePart) (contents : Contents) → IsBytes file → IsBytes part.bytes
    → version_seven file part ≡ Ok contents → SpellsSeven file part contents
unfolding version_seven
seven_takes file part contents fits bytes e =
    let a = bind_ok (expected_at plain_word Compressed part) _ contents e in
    let b = bind_ok (text_at a.0) _ contents a.2 in
    let d = bind_ok (options_of_chain file (length file + 2) (record { least = 0; pointer = b.0.1 })) _ contents b.2 in
    let f = bind_ok (each_of (formats_of file) d.0) _ contents d.2 in
    let g = bind_ok (each_of (buffer_of file) d.0) _ contents f.2 in
    let h = bind_ok (each_of (list_of Symbols file) d.0) _ contents g.2 in
    let k = bind_ok (each_of (list_of Tasks file) d.0) _ contents h.2 in
    let plain = expected_takes plain_word Compressed part a.0 bytes a.1 in
    let release = text_takes a.0 b.0.0 b.0.1 plain.fits b.1 in
    let chain = chain_takes file (length file + 2) (record { least = 0; pointer = b.0.1 }) d.0 fits release.fits d.1 in
    let held : Contents =
    record {
      formats = f.0;
      buffers = g.0;
      counters = flat_map counters_of d.0;
      symbols = h.0;
      tasks = k.0;
      machine = machine_among d.0;
    } in
    let same = same_value held contents k.2 in
    record {
      release = b.0.0;
      pointer = b.0.1.bytes;
      links = chain.0;
      release_ends = text_ends a.0 b.0.0 b.0.1 b.1;
      whole = plain.whole ∙ ap (λ bs. plain_word ++ bs) release.whole;
      chain = chain.1;
      formats = subst (λ os. each_of (formats_of file) os ≡ Ok contents.formats) chain.2
          (f.1 ∙ ap (λ c. Ok c.formats) same);
      buffers = subst (λ os. each_of (buffer_of file) os ≡ Ok contents.buffers) chain.2
          (g.1 ∙ ap (λ c. Ok c.buffers) same);
      counters = sym (ap (λ c. c.counters) same) ∙ ap (λ os. flat_map counters_of os) chain.2;
      symbols = subst (λ os. each_of (list_of Symbols file) os ≡ Ok contents.symbols) chain.2
          (h.1 ∙ ap (λ c. Ok c.symbols) same);
      tasks = subst (λ os. each_of (list_of Tasks file) os ≡ Ok contents.tasks) chain.2
          (k.1 ∙ ap (λ c. Ok c.tasks) same);
      machine = sym (ap (λ c. c.machine) same) ∙ ap (λ os. machine_among os) chain.2;
    }

from_start : (n k : ℕ) → n ≡ 0 + k → n ≡ k
from_start n k e = omega (arith, e)

-- by its version, the file is spelled as version 6 or as version 7 is
spelled_by : (file : List ℕ) (found : Version) (a b d f : FilePart) (page_size : ℕ) (contents : Contents)
    → IsBytes file → Takes (record { at = 0; bytes = file }) magic a → SpellsVersion a found b → Takes b machine d
    → Takes d (to_le_bytes w32 page_size) f → Fits w32 page_size → contents_of found file page_size f ≡ Ok contents
    → IsSix file contents ⊎ IsSeven file contents
spelled_by file Seven a b d f page_size contents fits m v h n bound e =
    let seven = seven_takes file f contents fits n.fits e in
    let tail = plain_word ++ (ended seven.release ++ seven.pointer) in
    inr (record {
      page_size = page_size;
      release = seven.release;
      pointer = seven.pointer;
      links = seven.links;
      page_size_fits = bound;
      release_ends = seven.release_ends;
      whole = m.whole ∙ ap (λ bs. magic ++ bs) (v.whole ∙ ap (λ bs. ended (codes "7") ++ bs)
          (h.whole ∙ ap (λ bs. machine ++ bs) (n.whole ∙ ap (λ bs. to_le_bytes w32 page_size ++ bs) seven.whole)));
      chain = seven.chain;
      formats = seven.formats;
      buffers = seven.buffers;
      counters = seven.counters;
      symbols = seven.symbols;
      tasks = seven.tasks;
      machine = seven.machine;
    })
spelled_by file Six a b d f page_size contents fits m v h n bound e =
    let six = six_takes file page_size f contents n.fits e in
    let tail =
    six_bytes six.texts
    ++
    (to_le_bytes w32 (length six.ranges)
    ++ (stated_bytes six.options ++ (ranges_word ++ flat_map range_bytes six.ranges))) in
    let three = Takes-then d (to_le_bytes w32 page_size) f tail six.rest n six.takes in
    let two = Takes-then b machine d (to_le_bytes w32 page_size ++ tail) six.rest h three in
    let one = Takes-then a (ended (codes "6")) b (machine ++ (to_le_bytes w32 page_size ++ tail)) six.rest v two in
    let all =
    Takes-then (record { at = 0; bytes = file }) magic a
    (ended (codes "6") ++ (machine ++ (to_le_bytes w32 page_size ++ tail))) six.rest m one in
    inl (record {
      parts = record { page_size = page_size; texts = six.texts; options = six.options; ranges = six.ranges };
      rest = six.rest.bytes;
      fits =
          record {
            page_size = bound;
            texts = six.texts_fit;
            cpus = six.cpus_fit;
            options = six.options_fit;
            ranges = six.ranges_fit;
          };
      whole = all.whole;
      formats = six.formats;
      instances = six.instances;
      named = six.named;
      buffers = six.buffers ∙ ap (λ end. main_buffer file page_size end six.ranges ∷ six.instances)
          (from_start _ _ all.after);
      counters = six.counters;
      symbols = six.symbols;
      tasks = six.tasks;
      machine = six.machine;
    })

-- a file that is read is spelled so
pub file_is_spelled : (file : List ℕ) (contents : Contents) → IsBytes file → reading_of file ≡ Ok contents
    → IsSix file contents ⊎ IsSeven file contents
unfolding reading_of
file_is_spelled file contents fits e =
    let start : FilePart = record { at = 0; bytes = file } in
    let a = bind_ok (expected_at magic NotTraceDat start) _ contents e in
    let b = bind_ok (version_at a.0) _ contents a.2 in
    let d = bind_ok (expected_at machine OtherMachine b.0.1) _ contents b.2 in
    let f = bind_ok (number_at w32 d.0) _ contents d.2 in
    let m = expected_takes magic NotTraceDat start a.0 fits a.1 in
    let v = version_takes a.0 b.0.0 b.0.1 m.fits b.1 in
    let h = expected_takes machine OtherMachine b.0.1 d.0 (version_fits a.0 b.0.0 b.0.1 v) d.1 in
    let n = number_takes w32 wide32 d.0 f.0.0 f.0.1 h.fits f.1 in
    spelled_by file b.0.0 a.0 b.0.1 d.0 f.0.1 f.0.0 contents fits m v h n
    (number_fits w32 wide32 d.0 f.0.0 f.0.1 h.fits f.1) f.2
