-- A file that is spelled as version 6 is read so.
use Rattle.std.proofs.Common.{◌≡◌, ◌==◌, ℕ, zero, suc, ◌+◌, ◌-◌, ◌*◌, ◌<◌, ◌≤◌, true, false, List, [], ◌∷◌, ◌++◌}
use Rattle.std.proofs.Common.{length, drop, flat_map, Option, Some, None, Ok, refl, sym, ap, subst, ◌∙◌, append_assoc}
use Rattle.std.proofs.Common.{arith, length-append, nat_eq}
use Rattle.std.specs.Prelude.{codes, unwrap_or}
use Rattle.std.specs.List.{AllByRecursion, starts_with}
use Rattle.std.specs.Int.{w16, w32, w64, to_le_bytes}
use Rattle.std.proofs.lemmas.Bool.{le-ltb, ne_eqb}
use Rattle.trace_dat.specs.declared.fault.Cause.TheVariants.{NotTraceDat, OtherMachine, Misplaced}
use Rattle.trace_dat.specs.declared.read.Version.TheVariants.{Six}
use Rattle.trace_dat.specs.declared.entries.TheConstants.{DONE}
use Rattle.trace_dat.specs.Parts.{FilePart}
use Rattle.trace_dat.specs.Fields.{number_at, block_at, expected_at, pointed_at, extent_of, range_at, all_at, each_of}
use Rattle.trace_dat.specs.Contents.{EventFormat, TraceBuffer, Contents}
use Rattle.trace_dat.specs.Entries.{FileOption, body_at, option_at, options_among, options_at}
use Rattle.trace_dat.specs.Buffers.{ranges_word, pages_at, buffer_at, instance_of, counters_of}
use Rattle.trace_dat.specs.Versions.{ended, magic, machine, options_word, all_formats_at, stated_options_at}
use Rattle.trace_dat.specs.Versions.{version_six, version_at, reading_of}
use Rattle.trace_dat.specs.TracedKernel.{lists_at, machine_among}
use Rattle.trace_dat.specs.Spelling.{Fits, OptionFits, RangeFits, block, six_bytes, six_formats, option_bytes}
use Rattle.trace_dat.specs.Spelling.{options_bytes, stated_bytes, Range, range_bytes, recorded_of, numbered_pages}
use Rattle.trace_dat.specs.Spelling.{SixParts, six_file_bytes, IsSix}
use Rattle.trace_dat.proofs.Spelled.{wide16, wide32, wide64}
use Rattle.trace_dat.proofs.FieldsRead.{step, Begins, Begins-split, Begins-nothing, behind_is, number_reads}
use Rattle.trace_dat.proofs.FieldsRead.{block_reads, word_begins, expected_reads, front_reads}
use Rattle.trace_dat.proofs.SpelledFile.{ranges_length, main_buffer}
use Rattle.trace_dat.proofs.OptionsSame.{AreSame, instances_same, counters_same, machine_same}

-- ---- options

-- this option, if its body begins at this offset
abbrev option_from : ℕ → FileOption → FileOption
option_from at option = record { id = option.id; body = record { at = at; bytes = option.body.bytes } }

-- an option that is read is this one, wherever it is
option_reads : (option : FileOption) (part rest : FilePart) → OptionFits option → Begins part (option_bytes option) rest
    → (at : ℕ) × (option_at part ≡ Ok (Some (option_from at option), rest))
unfolding option_at body_at
option_reads option part rest fits p =
    let s = Begins-split part (to_le_bytes w16 option.id) (block w32 option.body.bytes) rest p in
    let b = block_reads w32 wide32 option.body.bytes s.0 rest fits.2 s.2 in
    let body : FilePart = record { at = b.0; bytes = option.body.bytes } in
    let more : (option.id == DONE) ≡ false = ne_eqb option.id DONE fits.1 in (
      b.0,
      step (number_at w16 part) (option.id, s.0) _ _ (number_reads w16 wide16 option.id part s.0 fits.0 s.1)
          (rw more (step (block_at w32 s.0) (body, rest) _ _ b.1 refl)),
    )

end_reads : (part rest : FilePart) → Begins part (to_le_bytes w16 DONE) rest → option_at part ≡ Ok (None, rest)
unfolding option_at
end_reads part rest p =
    step (number_at w16 part) (DONE, rest) _ _ (number_reads w16 wide16 DONE part rest (omega arith) p) refl

-- the options that are read are these
abbrev pub ReadsOptions : ℕ → FilePart → List FileOption → FilePart → Type 0
ReadsOptions count part options rest =
    (found : List FileOption) × AreSame options found × (options_among count part ≡ Ok (found, rest))

options_read_among : (options : List FileOption) (count : ℕ) (part rest : FilePart) → length options < count
    → AllByRecursion OptionFits options → Begins part (options_bytes options) rest
    → ReadsOptions count part options rest
unfolding options_among
options_read_among options zero part rest few fits p = absurd (omega arith)
options_read_among [] (suc count) part rest few fits p =
    ([], tt, step (option_at part) (None, rest) _ _ (end_reads part rest p) refl)
options_read_among (option ∷ options) (suc count) part rest few fits p =
    let parts : options_bytes (option ∷ options) ≡ option_bytes option ++ options_bytes options =
    append_assoc (option_bytes option) (flat_map option_bytes options) (to_le_bytes w16 DONE) in
    let joined : Begins part (option_bytes option ++ options_bytes options) rest =
    subst (λ bs. Begins part bs rest) parts p in
    let s = Begins-split part (option_bytes option) (options_bytes options) rest joined in
    let one = option_reads option part s.0 fits.0 s.1 in
    let others = options_read_among options count s.0 rest (omega (arith, few)) fits.1 s.2 in
    let here : FileOption = option_from one.0 option in (
      here ∷ others.0,
      (refl, refl, others.1),
      step (option_at part) (Some here, s.0) _ _ one.1
          (step (options_among count s.0) (others.0, rest) _ _ others.2 refl),
    )

options_count : (options : List FileOption) → length options ≤ length (flat_map option_bytes options)
options_count [] = omega arith
options_count (option ∷ options) =
    let one : length (option_bytes option) ≡ 2 + length (block w32 option.body.bytes) =
    length-append (to_le_bytes w16 option.id) (block w32 option.body.bytes) in
    let more = options_count options in
    omega (arith, one, more, length-append (option_bytes option) (flat_map option_bytes options))

-- no part has more options than bytes
pub options_read : (options : List FileOption) (part rest : FilePart) → AllByRecursion OptionFits options
    → Begins part (options_bytes options) rest → ReadsOptions (length part.bytes + 1) part options rest
options_read options part rest fits p =
    let len : length part.bytes ≡ length (options_bytes options ++ rest.bytes) = ap (λ bs. length bs) p.whole in
    let all = length-append (options_bytes options) rest.bytes in
    let ended = length-append (flat_map option_bytes options) (to_le_bytes w16 DONE) in
    let few : length options < length part.bytes + 1 = omega (arith, len, options_count options, all, ended) in
    options_read_among options (length part.bytes + 1) part rest few fits p

abbrev ReadsStated : FilePart → Option (List FileOption) → FilePart → Type 0
ReadsStated part options rest =
    (found : List FileOption) × AreSame (unwrap_or options []) found × (stated_options_at part ≡ Ok (found, rest))

not_options : (more : List ℕ) → starts_with nat_eq (ranges_word ++ more) options_word ≡ false
not_options more = refl

stated_read : (options : Option (List FileOption)) (part rest : FilePart) (more : List ℕ)
    → AllByRecursion OptionFits (unwrap_or options []) → Begins part (stated_bytes options) rest
    → rest.bytes ≡ ranges_word ++ more → ReadsStated part options rest
unfolding stated_options_at
stated_read None part rest more fits p next =
    let here : part ≡ rest = Begins-nothing part rest p in
    let test : starts_with nat_eq part.bytes options_word ≡ false =
    ap (λ bs. starts_with nat_eq bs options_word) (ap (λ x. x.bytes) here ∙ next) ∙ not_options more in
    ([], tt, rw test (ap (λ x. Ok ([], x)) here))
stated_read (Some options) part rest more fits p next =
    let s = Begins-split part options_word (options_bytes options) rest p in
    let o = options_read options s.0 rest fits s.2 in
    let test : starts_with nat_eq part.bytes options_word ≡ true = word_begins options_word part s.0 s.1 in
    (o.0, o.1, rw test (ap (λ x. options_at x) (behind_is part options_word s.0 s.1) ∙ o.2))

-- ---- pages

pub pointer_reads : (file : List ℕ) (offset : ℕ) (part rest : FilePart) → Fits w64 offset → offset ≤ length file
    → Begins part (to_le_bytes w64 offset) rest
    → pointed_at file part ≡ Ok (record { at = offset; bytes = drop offset file }, rest)
unfolding pointed_at
pointer_reads file offset part rest fits inside p =
    step (number_at w64 part) (offset, rest) _ _ (number_reads w64 wide64 offset part rest fits p)
    (rw (le-ltb (length file) offset inside) refl)

range_reads : (file : List ℕ) (range : Range) (part rest : FilePart) → RangeFits range
    → Begins part (range_bytes range) rest
    → range_at file part ≡ Ok (extent_of file part.at range.offset range.size, rest)
unfolding range_at
range_reads file range part rest fits p =
    let s = Begins-split part (to_le_bytes w64 range.offset) (to_le_bytes w64 range.size) rest p in
    step (number_at w64 part) (range.offset, s.0) _ _ (number_reads w64 wide64 range.offset part s.0 fits.0 s.1)
    (step (number_at w64 s.0) (range.size, rest) _ _ (number_reads w64 wide64 range.size s.0 rest fits.1 s.2) refl)

pages_read : (file : List ℕ) (cpu : ℕ) (range : Range) (part rest : FilePart) → RangeFits range
    → Begins part (range_bytes range) rest → pages_at file cpu part ≡ Ok (recorded_of file part.at cpu range ∷ [], rest)
unfolding pages_at
pages_read file cpu range part rest fits p =
    step (range_at file part) (extent_of file part.at range.offset range.size, rest) _ _
    (range_reads file range part rest fits p) refl

cpus_read : (file : List ℕ) (ranges : List Range) (cpu : ℕ) (part rest : FilePart) → AllByRecursion RangeFits ranges
    → Begins part (flat_map range_bytes ranges) rest
    → all_at (pages_at file) cpu (length ranges) part ≡ Ok (numbered_pages file part.at cpu ranges, rest)
unfolding all_at
cpus_read file [] cpu part rest fits p = ap (λ r. Ok ([], r)) (Begins-nothing part rest p)
cpus_read file (range ∷ ranges) cpu part rest fits p =
    let s = Begins-split part (range_bytes range) (flat_map range_bytes ranges) rest p in
    let next : numbered_pages file s.0.at (cpu + 1) ranges ≡ numbered_pages file (part.at + 16) (cpu + 1) ranges =
    ap (λ at. numbered_pages file at (cpu + 1) ranges) s.1.after in
    step (pages_at file cpu part) (recorded_of file part.at cpu range ∷ [], s.0) _ _
    (pages_read file cpu range part s.0 fits.0 s.1)
    (step (all_at (pages_at file) (cpu + 1) (length ranges) s.0) (numbered_pages file s.0.at (cpu + 1) ranges, rest) _ _
    (cpus_read file ranges (cpu + 1) s.0 rest fits.1 s.2)
    (ap (λ xs. Ok (recorded_of file part.at cpu range ∷ xs, rest)) next))

buffer_reads : (file : List ℕ) (page_size : ℕ) (ranges : List Range) (part rest : FilePart)
    → AllByRecursion RangeFits ranges → Begins part (ranges_word ++ flat_map range_bytes ranges) rest
    → buffer_at file page_size (length ranges) [] part ≡ Ok (main_buffer file page_size rest.at ranges ∷ [])
unfolding buffer_at
buffer_reads file page_size ranges part rest fits p =
    let s = Begins-split part ranges_word (flat_map range_bytes ranges) rest p in
    let from : s.0.at ≡ rest.at - 16 * length ranges = omega (arith, s.2.after, ranges_length ranges) in
    step (expected_at ranges_word Misplaced part) s.0 _ _ (expected_reads ranges_word Misplaced part s.0 s.1)
    (step (all_at (pages_at file) 0 (length ranges) s.0) (numbered_pages file s.0.at 0 ranges, rest) _ _
    (cpus_read file ranges 0 s.0 rest fits s.2)
    (ap (λ at. Ok (record { name = []; page_size = page_size; cpus = numbered_pages file at 0 ranges } ∷ [])) from))

-- ---- the whole

-- contents are what their parts are
pub same_contents : (contents : Contents) (formats : List EventFormat) (buffers : List TraceBuffer)
    (counters symbols tasks : List (List ℕ)) (said : Option (List ℕ)) → contents.formats ≡ formats
    → contents.buffers ≡ buffers → contents.counters ≡ counters → contents.symbols ≡ symbols → contents.tasks ≡ tasks
    → contents.machine ≡ said
    → record {
      formats = formats;
      buffers = buffers;
      counters = counters;
      symbols = symbols;
      tasks = tasks;
      machine = said;
    } ≡ contents
same_contents contents formats buffers counters symbols tasks said f b c s t m =
    rw (sym f, sym b, sym c, sym s, sym t, sym m) refl

-- the bytes of version 6 from after the size of the pages on
abbrev body_bytes : SixParts → List ℕ
body_bytes parts =
    six_bytes parts.texts ++ (to_le_bytes w32 (length parts.ranges)
    ++ (stated_bytes parts.options ++ (ranges_word ++ flat_map range_bytes parts.ranges)))

six_reads : (file : List ℕ) (contents : Contents) (six : IsSix file contents) (part rest : FilePart)
    → Begins part (body_bytes six.parts) rest → rest.at ≡ length (six_file_bytes six.parts)
    → version_six file six.parts.page_size part ≡ Ok contents
unfolding version_six
six_reads file contents six part rest p end =
    let size = six.parts.page_size in
    let texts = six.parts.texts in
    let ranges = six.parts.ranges in
    let options = six.parts.options in
    let pages = ranges_word ++ flat_map range_bytes ranges in
    let stated = stated_bytes options ++ pages in
    let a = Begins-split part (six_bytes six.parts.texts) (to_le_bytes w32 (length ranges) ++ stated) rest p in
    let b = Begins-split a.0 (to_le_bytes w32 (length ranges)) stated rest a.2 in
    let c = Begins-split b.0 (stated_bytes options) pages rest b.2 in
    let front = front_reads six.parts.texts part a.0 six.fits.texts a.1 in
    let next : c.0.bytes ≡ ranges_word ++ (flat_map range_bytes ranges ++ rest.bytes) =
    c.2.whole ∙ append_assoc ranges_word (flat_map range_bytes ranges) rest.bytes in
    let found = stated_read options b.0 c.0 (flat_map range_bytes ranges ++ rest.bytes) six.fits.options c.1 next in
    let main : TraceBuffer = main_buffer file size (length (six_file_bytes six.parts)) ranges in
    let instances =
    instances_same file size (length ranges) (unwrap_or options []) found.0 six.instances found.1 six.named in
    let counters = six.counters ∙ counters_same (unwrap_or options []) found.0 found.1 in
    let held = flat_map counters_of found.0 in
    let said = six.machine ∙ machine_same (unwrap_or options []) found.0 found.1 in
    let same =
    same_contents contents (six_formats six.parts.texts) (main ∷ six.instances) held (texts.symbols ∷ [])
    (texts.tasks ∷ []) (machine_among found.0) six.formats six.buffers counters six.symbols six.tasks said in
    step (all_formats_at part) (six_formats six.parts.texts, front.0) _ _ front.1
    (step (lists_at front.0) ((texts.symbols, texts.tasks), a.0) _ _ front.2
    (step (number_at w32 a.0) (length ranges, b.0) _ _
    (number_reads w32 wide32 (length ranges) a.0 b.0 six.fits.cpus b.1)
    (step (stated_options_at b.0) (found.0, c.0) _ _ found.2
    (step (buffer_at file size (length ranges) [] c.0) (main ∷ []) _ _
    (buffer_reads file size ranges c.0 rest six.fits.ranges c.2
    ∙ ap (λ at. Ok (main_buffer file size at ranges ∷ [])) end)
    (step (each_of (instance_of file size (length ranges)) found.0) six.instances _ _ instances
    (ap (λ x. Ok x) same))))))

version_six_reads : (part rest : FilePart) → Begins part (ended (codes "6")) rest → version_at part ≡ Ok (Six, rest)
unfolding version_at
version_six_reads part rest p =
    rw (word_begins (ended (codes "6")) part rest p) (ap (λ r. Ok (Six, r)) (behind_is part (ended (codes "6")) rest p))

-- a file that is spelled as version 6 is read
pub six_is_read : (file : List ℕ) (contents : Contents) → IsSix file contents → reading_of file ≡ Ok contents
unfolding reading_of
six_is_read file contents six =
    let start : FilePart = record { at = 0; bytes = file } in
    let parts = six.parts in
    let body = body_bytes parts in
    let sized = to_le_bytes w32 parts.page_size ++ body in
    let words = machine ++ sized in
    let versioned = ended (codes "6") ++ words in
    let rest : FilePart = record { at = length (magic ++ versioned); bytes = six.rest } in
    let all : Begins start (magic ++ versioned) rest = record { whole = six.whole; after = omega arith } in
    let a = Begins-split start magic versioned rest all in
    let b = Begins-split a.0 (ended (codes "6")) words rest a.2 in
    let c = Begins-split b.0 machine sized rest b.2 in
    let d = Begins-split c.0 (to_le_bytes w32 parts.page_size) body rest c.2 in
    step (expected_at magic NotTraceDat start) a.0 _ _ (expected_reads magic NotTraceDat start a.0 a.1)
    (step (version_at a.0) (Six, b.0) _ _ (version_six_reads a.0 b.0 b.1)
    (step (expected_at machine OtherMachine b.0) c.0 _ _ (expected_reads machine OtherMachine b.0 c.0 c.1)
    (step (number_at w32 c.0) (parts.page_size, d.0) _ _
    (number_reads w32 wide32 parts.page_size c.0 d.0 six.fits.page_size d.1)
    (six_reads file contents six d.0 rest d.2 refl))))
