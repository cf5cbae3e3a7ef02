-- A file of version 6 that is read is spelled so, as a whole.
use Rattle.std.proofs.Common.{◌≡◌, ◌≢◌, ◌==◌, ℕ, zero, suc, ◌+◌, ◌-◌, ◌*◌, ◌≤◌, ◌⊎◌, Bool, true, false, cond, List}
use Rattle.std.proofs.Common.{[], ◌∷◌, ◌++◌, length, drop, flat_map, Option, Some, None, Ok, Err, refl, sym, ap, subst}
use Rattle.std.proofs.Common.{◌∙◌, append_assoc, arith, length-append, inl, inr, nat_eq}
use Rattle.std.specs.Prelude.{codes, unwrap_or}
use Rattle.std.specs.List.{AllByRecursion, starts_with}
use Rattle.std.specs.Int.{w16, w32, w64, to_le_bytes}
use Rattle.std.proofs.lemmas.Bool.{eqb-true, eqb-false}
use Rattle.trace_dat.specs.declared.fault.Cause.TheVariants.{BadVersion, Misplaced}
use Rattle.trace_dat.specs.declared.read.Version.{Version}
use Rattle.trace_dat.specs.declared.read.Version.TheVariants.{Six, Seven}
use Rattle.trace_dat.specs.declared.entries.TheConstants.{DONE}
use Rattle.trace_dat.specs.Parts.{FilePart, FileExtent}
use Rattle.trace_dat.specs.Fields.{Reading, ◌>>=◌, fault_at, behind, number_at, block_at, expected_at}
use Rattle.trace_dat.specs.Fields.{extent_of, range_at, all_at, each_of}
use Rattle.trace_dat.specs.Contents.{Recorded, TraceBuffer, Contents}
use Rattle.trace_dat.specs.Entries.{FileOption, body_at, option_at, option_then, options_among, options_at}
use Rattle.trace_dat.specs.Buffers.{ranges_word, pages_at, buffer_at, instance_of, counters_of}
use Rattle.trace_dat.specs.Versions.{ended, options_word, all_formats_at, stated_options_at, version_six, version_at}
use Rattle.trace_dat.specs.TracedKernel.{lists_at, machine_among}
use Rattle.trace_dat.specs.Spelling.{IsBytes, Fits, OptionFits, RangeFits, SixTextsFit, block, SixTexts, six_bytes}
use Rattle.trace_dat.specs.Spelling.{six_formats, option_bytes, options_bytes, stated_bytes, Range, range_bytes}
use Rattle.trace_dat.specs.Spelling.{recorded_of, numbered_pages}
use Rattle.trace_dat.proofs.Loops.{same_value}
use Rattle.trace_dat.proofs.Spelled.{wide16, wide32, wide64, Takes, Takes-nothing, Takes-then, bind_ok}
use Rattle.trace_dat.proofs.Spelled.{passed_ok, number_takes, number_fits, block_takes, word_takes, expected_takes}
use Rattle.trace_dat.proofs.Spelled.{front_takes}

-- which way a test went
pub chosen : {A : Type 0} (b : Bool) (x y z : A) → cond b x y ≡ z → ((b ≡ true) × (x ≡ z)) ⊎ ((b ≡ false) × (y ≡ z))
chosen true x y z e = inl (refl, e)
chosen false x y z e = inr (refl, e)

-- ---- options

-- an option is spelled, or the identifier that ends the options
abbrev SpellsOption : FilePart → Option FileOption → FilePart → Type 0
SpellsOption part None rest = Takes part (to_le_bytes w16 DONE) rest
SpellsOption part (Some option) rest = Takes part (option_bytes option) rest × OptionFits option

body_takes : (id : ℕ) (part here : FilePart) (found : Option FileOption) (rest : FilePart)
    → Takes part (to_le_bytes w16 id) here → Fits w16 id → id ≢ DONE → body_at id here ≡ Ok (found, rest)
    → SpellsOption part found rest
unfolding body_at
body_takes id part here found rest before bound not_done e =
    let b =
    bind_ok (block_at w32 here) (λ body. Ok (Some (record { id = id; body = body.0 }), body.1)) (found, rest) e in
    let t = block_takes w32 wide32 here b.0.0 b.0.1 before.fits b.1 in
    subst (λ x. SpellsOption part x.0 x.1)
    (same_value (Some (record { id = id; body = b.0.0 }), b.0.1) (found, rest) b.2)
    (Takes-then part (to_le_bytes w16 id) here (block w32 b.0.0.bytes) b.0.1 before t.0, (bound, not_done, t.2))

option_takes : (part : FilePart) (found : Option FileOption) (rest : FilePart) → IsBytes part.bytes
    → option_at part ≡ Ok (found, rest) → SpellsOption part found rest
unfolding option_at
option_takes part found rest fits e =
    let b =
    bind_ok (number_at w16 part) (λ id. cond (id.0 == DONE) (Ok (None, id.1)) (body_at id.0 id.1)) (found, rest)
    e in
    let n = number_takes w16 wide16 part b.0.0 b.0.1 fits b.1 in
    elim (chosen (b.0.0 == DONE) (Ok (None, b.0.1)) (body_at b.0.0 b.0.1) (Ok (found, rest)) b.2) [
      | inl end ↦ subst (λ x. SpellsOption part x.0 x.1) (same_value (None, b.0.1) (found, rest) end.1)
          (subst (λ k. Takes part (to_le_bytes w16 k) b.0.1) (eqb-true _ _ end.0) n)
      | inr more ↦ body_takes b.0.0 part b.0.1 found rest n (number_fits w16 wide16 part b.0.0 b.0.1 fits b.1)
          (eqb-false _ _ more.0) more.1
    ]

-- the options that are read are spelled
abbrev pub SpellsOptions : FilePart → List FileOption → FilePart → Type 0
SpellsOptions part found rest = Takes part (options_bytes found) rest × AllByRecursion OptionFits found

first_option_takes : (count : ℕ) (part here : FilePart) (first : Option FileOption) (found : List FileOption)
    (rest : FilePart) → SpellsOption part first here
    → ((more : List FileOption) → IsBytes here.bytes → options_among count here ≡ Ok (more, rest)
    → SpellsOptions here more rest)
    → option_then first (options_among count here) here ≡ Ok (found, rest) → SpellsOptions part found rest
first_option_takes count part here None found rest one others e =
    subst (λ x. SpellsOptions part x.0 x.1) (same_value ([], here) (found, rest) e) (one, tt)
first_option_takes count part here (Some option) found rest one others e =
    let b = bind_ok (options_among count here) (λ rest. Ok (option ∷ rest.0, rest.1)) (found, rest) e in
    let same = same_value (option ∷ b.0.0, b.0.1) (found, rest) b.2 in
    let end : b.0.1 ≡ rest = ap (λ p. p.1) same in
    let read : options_among count here ≡ Ok (b.0.0, rest) = b.1 ∙ ap (λ r. Ok (b.0.0, r)) end in
    let more : SpellsOptions here b.0.0 rest = others b.0.0 one.0.fits read in
    let whole : Takes part (option_bytes option ++ options_bytes b.0.0) rest =
    Takes-then part (option_bytes option) here (options_bytes b.0.0) rest one.0 more.0 in
    let joined : option_bytes option ++ options_bytes b.0.0 ≡ options_bytes (option ∷ b.0.0) =
    sym (append_assoc (option_bytes option) (flat_map option_bytes b.0.0) (to_le_bytes w16 DONE)) in
    subst (λ xs. SpellsOptions part xs rest) (ap (λ p. p.0) same)
    (subst (λ bs. Takes part bs rest) joined whole, (one.1, more.1))

pub options_take : (count : ℕ) (part : FilePart) (found : List FileOption) (rest : FilePart) → IsBytes part.bytes
    → options_among count part ≡ Ok (found, rest) → SpellsOptions part found rest
unfolding options_among
options_take zero part found rest fits e = absurd cc
options_take (suc count) part found rest fits e =
    let b =
    bind_ok (option_at part) (λ first. option_then first.0 (options_among count first.1) first.1) (found, rest) e in
    first_option_takes count part b.0.1 b.0.0 found rest (option_takes part b.0.0 b.0.1 fits b.1)
    (λ more bytes read. options_take count b.0.1 more rest bytes read) b.2

stated_options_take : (part : FilePart) (found : List FileOption) (rest : FilePart) → IsBytes part.bytes
    → stated_options_at part ≡ Ok (found, rest)
    → (options : Option (List FileOption)) × Takes part (stated_bytes options) rest × (found ≡ unwrap_or options [])
    × AllByRecursion OptionFits (unwrap_or options [])
unfolding stated_options_at
stated_options_take part found rest fits e =
    elim
    (chosen (starts_with nat_eq part.bytes options_word) (options_at (behind (length options_word) part))
    (Ok ([], part)) (Ok (found, rest)) e) [
      | inl there ↦
          let word = word_takes options_word part fits there.0 in
          let t =
          options_take (length (drop (length options_word) part.bytes) + 1) (behind (length options_word) part)
          found rest word.fits there.1 in (
            Some found,
            Takes-then part options_word (behind (length options_word) part) (options_bytes found) rest word t.0,
            refl,
            t.1,
          )
      | inr not_there ↦ subst
          (λ x.
          (options : Option (List FileOption)) × Takes part (stated_bytes options) x.1
          × (x.0 ≡ unwrap_or options []) × AllByRecursion OptionFits (unwrap_or options []))
          (same_value ([], part) (found, rest) not_there.1) (None, Takes-nothing part fits, refl, tt)
    ]

-- ---- pages

-- what the file has of a range is spelled by it
abbrev SpellsRange : List ℕ → FilePart → FileExtent → FilePart → Type 0
SpellsRange file part found rest =
    (range : Range) × Takes part (range_bytes range) rest × (found ≡ extent_of file part.at range.offset range.size)
    × RangeFits range

range_takes : (file : List ℕ) (part : FilePart) (found : FileExtent) (rest : FilePart) → IsBytes part.bytes
    → range_at file part ≡ Ok (found, rest) → SpellsRange file part found rest
unfolding range_at
range_takes file part found rest fits e =
    let a =
    bind_ok (number_at w64 part)
    (λ offset. number_at w64 offset.1 >>= λ size. Ok (extent_of file part.at offset.0 size.0, size.1)) (found, rest)
    e in
    let b =
    bind_ok (number_at w64 a.0.1) (λ size. Ok (extent_of file part.at a.0.0 size.0, size.1)) (found, rest) a.2 in
    let m = number_takes w64 wide64 part a.0.0 a.0.1 fits a.1 in
    let n = number_takes w64 wide64 a.0.1 b.0.0 b.0.1 m.fits b.1 in
    subst (λ x. SpellsRange file part x.0 x.1)
    (same_value (extent_of file part.at a.0.0 b.0.0, b.0.1) (found, rest) b.2) (
      record { offset = a.0.0; size = b.0.0 },
      Takes-then part (to_le_bytes w64 a.0.0) a.0.1 (to_le_bytes w64 b.0.0) b.0.1 m n,
      refl,
      (
        number_fits w64 wide64 part a.0.0 a.0.1 fits a.1,
        number_fits w64 wide64 a.0.1 b.0.0 b.0.1 m.fits b.1,
      ),
    )

-- the pages of this count of CPUs are spelled by their ranges
abbrev SpellsPages : List ℕ → ℕ → ℕ → FilePart → List Recorded → FilePart → Type 0
SpellsPages file cpu count part found rest =
    (ranges : List Range) × (length ranges ≡ count) × Takes part (flat_map range_bytes ranges) rest
    × (found ≡ numbered_pages file part.at cpu ranges) × AllByRecursion RangeFits ranges

one_cpu_takes : (file : List ℕ) (cpu : ℕ) (part : FilePart) (found : List Recorded) (rest : FilePart)
    → IsBytes part.bytes
    → pages_at file cpu part ≡ Ok (found, rest)
    → (range : Range) × Takes part (range_bytes range) rest × (found ≡ recorded_of file part.at cpu range ∷ [])
    × RangeFits range
unfolding pages_at
one_cpu_takes file cpu part found rest fits e =
    let b =
    bind_ok (range_at file part)
    (λ range. Ok (record { cpu = cpu; pages = range.0.bytes; fault = range.0.fault } ∷ [], range.1)) (found, rest)
    e in
    let t = range_takes file part b.0.0 b.0.1 fits b.1 in
    let same =
    same_value (record { cpu = cpu; pages = b.0.0.bytes; fault = b.0.0.fault } ∷ [], b.0.1) (found, rest) b.2 in (
      t.0,
      subst (λ x. Takes part (range_bytes t.0) x) (ap (λ p. p.1) same) t.1,
      sym (ap (λ p. p.0) same) ∙ ap (λ x. record { cpu = cpu; pages = x.bytes; fault = x.fault } ∷ []) t.2,
      t.3,
    )

each_cpu_takes : (file : List ℕ) (count cpu : ℕ) (part : FilePart) (found : List Recorded) (rest : FilePart)
    → IsBytes part.bytes → all_at (pages_at file) cpu count part ≡ Ok (found, rest)
    → SpellsPages file cpu count part found rest
unfolding all_at
each_cpu_takes file zero cpu part found rest fits e =
    subst (λ x. SpellsPages file cpu 0 part x.0 x.1) (same_value ([], part) (found, rest) e)
    ([], refl, Takes-nothing part fits, refl, tt)
each_cpu_takes file (suc count) cpu part found rest fits e =
    let b =
    bind_ok (pages_at file cpu part)
    (λ first. all_at (pages_at file) (cpu + 1) count first.1 >>= λ others. Ok (first.0 ++ others.0, others.1))
    (found, rest) e in
    let d =
    bind_ok (all_at (pages_at file) (cpu + 1) count b.0.1) (λ others. Ok (b.0.0 ++ others.0, others.1))
    (found, rest) b.2 in
    let one = one_cpu_takes file cpu part b.0.0 b.0.1 fits b.1 in
    let more = each_cpu_takes file count (cpu + 1) b.0.1 d.0.0 d.0.1 one.1.fits d.1 in
    let lists : b.0.0 ++ d.0.0 ≡ numbered_pages file part.at cpu (one.0 ∷ more.0) =
    ap (λ xs. xs ++ d.0.0) one.2
    ∙ ap (λ xs. recorded_of file part.at cpu one.0 ∷ xs)
    (more.3 ∙ ap (λ at. numbered_pages file at (cpu + 1) more.0) one.1.after) in
    subst (λ x. SpellsPages file cpu (suc count) part x.0 x.1) (same_value (b.0.0 ++ d.0.0, d.0.1) (found, rest) d.2) (
      one.0 ∷ more.0,
      ap (λ n. suc n) more.1,
      Takes-then part (range_bytes one.0) b.0.1 (flat_map range_bytes more.0) d.0.1 one.1 more.2,
      lists,
      (one.3, more.4),
    )

pub ranges_length : (ranges : List Range) → length (flat_map range_bytes ranges) ≡ 16 * length ranges
ranges_length [] = refl
ranges_length (range ∷ ranges) =
    let one : length (range_bytes range) ≡ 16 =
    length-append (to_le_bytes w64 range.offset) (to_le_bytes w64 range.size) in
    omega (arith, one, ranges_length ranges, length-append (range_bytes range) (flat_map range_bytes ranges))

-- the main buffer of CPUs whose ranges end at this offset
abbrev pub main_buffer : List ℕ → ℕ → ℕ → List Range → TraceBuffer
main_buffer file page_size end ranges =
    record { name = []; page_size = page_size; cpus = numbered_pages file (end - 16 * length ranges) 0 ranges }

-- the pages of the main buffer are spelled
abbrev SpellsBuffer : List ℕ → ℕ → ℕ → FilePart → List TraceBuffer → Type 0
SpellsBuffer file page_size count part found =
    (ranges : List Range) × (rest : FilePart) × (length ranges ≡ count)
    × Takes part (ranges_word ++ flat_map range_bytes ranges) rest
    × (found ≡ main_buffer file page_size rest.at ranges ∷ []) × AllByRecursion RangeFits ranges

buffer_takes : (file : List ℕ) (page_size count : ℕ) (part : FilePart) (found : List TraceBuffer) → IsBytes part.bytes
    → buffer_at file page_size count [] part ≡ Ok found → SpellsBuffer file page_size count part found
unfolding buffer_at
buffer_takes file page_size count part found fits e =
    let a =
    bind_ok (expected_at ranges_word Misplaced part)
    (λ ranges. all_at (pages_at file) 0 count ranges >>= λ cpus.
    Ok (record { name = []; page_size = page_size; cpus = cpus.0 } ∷ [])) found e in
    let b =
    bind_ok (all_at (pages_at file) 0 count a.0)
    (λ cpus. Ok (record { name = []; page_size = page_size; cpus = cpus.0 } ∷ [])) found a.2 in
    let w = expected_takes ranges_word Misplaced part a.0 fits a.1 in
    let t = each_cpu_takes file count 0 a.0 b.0.0 b.0.1 w.fits b.1 in
    let from : a.0.at ≡ b.0.1.at - 16 * length t.0 = omega (arith, t.2.after, ranges_length t.0) in (
      t.0,
      b.0.1,
      t.1,
      Takes-then part ranges_word a.0 (flat_map range_bytes t.0) b.0.1 w t.2,
      sym (same_value (record { name = []; page_size = page_size; cpus = b.0.0 } ∷ []) found b.2)
          ∙ ap (λ cs. record { name = []; page_size = page_size; cpus = cs } ∷ [])
          (t.3 ∙ ap (λ at. numbered_pages file at 0 t.0) from),
      t.4,
    )

-- ---- the whole

-- what is read of version 6 is spelled from after the size of the pages on
pub record SpellsSix (file : List ℕ) (page_size : ℕ) (part : FilePart) (contents : Contents) : Type 0 where
  pub texts : SixTexts
  pub options : Option (List FileOption)
  pub ranges : List Range
  pub rest : FilePart
  pub takes : Takes part
      (six_bytes texts
      ++ (to_le_bytes w32 (length ranges) ++ (stated_bytes options ++ (ranges_word ++ flat_map range_bytes ranges))))
      rest
  pub texts_fit : SixTextsFit texts
  pub cpus_fit : Fits w32 (length ranges)
  pub options_fit : AllByRecursion OptionFits (unwrap_or options [])
  pub ranges_fit : AllByRecursion RangeFits ranges
  pub formats : contents.formats ≡ six_formats texts
  pub instances : List TraceBuffer
  pub named : each_of (instance_of file page_size (length ranges)) (unwrap_or options []) ≡ Ok instances
  pub buffers : contents.buffers ≡ main_buffer file page_size rest.at ranges ∷ instances
  pub counters : contents.counters ≡ flat_map counters_of (unwrap_or options [])
  pub symbols : contents.symbols ≡ texts.symbols ∷ []
  pub tasks : contents.tasks ≡ texts.tasks ∷ []
  pub machine : contents.machine ≡ machine_among (unwrap_or options [])

pub six_takes : (file : List ℕ) (page_size : ℕ) (part : FilePart) (contents : Contents) → IsBytes part.bytes
    → version_six file page_size part ≡ Ok contents → SpellsSix file page_size part contents
unfolding version_six
six_takes file page_size part contents fits e =
    let a = bind_ok (all_formats_at part) _ contents e in
    let b = bind_ok (lists_at a.0.1) _ contents a.2 in
    let d = bind_ok (number_at w32 b.0.1) _ contents b.2 in
    let f = bind_ok (stated_options_at d.0.1) _ contents d.2 in
    let m = bind_ok (buffer_at file page_size d.0.0 [] f.0.1) _ contents f.2 in
    let i = bind_ok (each_of (instance_of file page_size d.0.0) f.0.0) _ contents m.2 in
    let front = front_takes part a.0.1 b.0.1 a.0.0 b.0.0 fits a.1 b.1 in
    let n = number_takes w32 wide32 b.0.1 d.0.0 d.0.1 front.1.fits d.1 in
    let o = stated_options_take d.0.1 f.0.0 f.0.1 n.fits f.1 in
    let p = buffer_takes file page_size d.0.0 f.0.1 m.0 o.1.fits m.1 in
    let held : Contents =
    record {
      formats = a.0.0;
      buffers = m.0 ++ i.0;
      counters = flat_map counters_of f.0.0;
      symbols = b.0.0.0 ∷ [];
      tasks = b.0.0.1 ∷ [];
      machine = machine_among f.0.0;
    } in
    let same = same_value held contents i.2 in
    let count : length p.0 ≡ d.0.0 = p.2 in
    let tail = ranges_word ++ flat_map range_bytes p.0 in
    let three = Takes-then d.0.1 (stated_bytes o.0) f.0.1 tail p.1 o.1 p.3 in
    let two = Takes-then b.0.1 (to_le_bytes w32 d.0.0) d.0.1 (stated_bytes o.0 ++ tail) p.1 n three in
    let counted : Takes b.0.1 (to_le_bytes w32 (length p.0) ++ (stated_bytes o.0 ++ tail)) p.1 =
    subst (λ k. Takes b.0.1 (to_le_bytes w32 k ++ (stated_bytes o.0 ++ tail)) p.1) (sym count) two in
    record {
      texts = front.0;
      options = o.0;
      ranges = p.0;
      rest = p.1;
      takes =
          Takes-then part (six_bytes front.0) b.0.1 (to_le_bytes w32 (length p.0) ++ (stated_bytes o.0 ++ tail)) p.1
          front.1 counted;
      texts_fit = front.3;
      cpus_fit = subst (λ k. Fits w32 k) (sym count) (number_fits w32 wide32 b.0.1 d.0.0 d.0.1 front.1.fits d.1);
      options_fit = o.3;
      ranges_fit = p.5;
      formats = sym (ap (λ c. c.formats) same) ∙ front.2;
      instances = i.0;
      named = subst (λ k. each_of (instance_of file page_size k) (unwrap_or o.0 []) ≡ Ok i.0) (sym count)
          (subst (λ os. each_of (instance_of file page_size d.0.0) os ≡ Ok i.0) o.2 i.1);
      buffers = sym (ap (λ c. c.buffers) same) ∙ ap (λ bs. bs ++ i.0) p.4;
      counters = sym (ap (λ c. c.counters) same) ∙ ap (λ os. flat_map counters_of os) o.2;
      symbols = sym (ap (λ c. c.symbols) same) ∙ ap (λ t. t.0 ∷ []) front.4;
      tasks = sym (ap (λ c. c.tasks) same) ∙ ap (λ t. t.1 ∷ []) front.4;
      machine = sym (ap (λ c. c.machine) same) ∙ ap (λ os. machine_among os) o.2;
    }

-- the version that is read is spelled
abbrev pub SpellsVersion : FilePart → Version → FilePart → Type 0
SpellsVersion part Six rest = Takes part (ended (codes "6")) rest
SpellsVersion part Seven rest = Takes part (ended (codes "7")) rest

later_version : (part : FilePart) (found : Version) (rest : FilePart) → IsBytes part.bytes
    → cond {A = Reading (Version × FilePart)} (starts_with nat_eq part.bytes (ended (codes "7")))
    (Ok (Seven, behind 2 part)) (fault_at BadVersion part) ≡ Ok (found, rest)
    → SpellsVersion part found rest
later_version part found rest fits e =
    let g =
    passed_ok (starts_with nat_eq part.bytes (ended (codes "7"))) (record { cause = BadVersion; at = part.at })
    (Seven, behind 2 part) (found, rest) e in
    subst (λ x. SpellsVersion part x.0 x.1) g.1 (word_takes (ended (codes "7")) part fits g.0)

pub version_takes : (part : FilePart) (found : Version) (rest : FilePart) → IsBytes part.bytes
    → version_at part ≡ Ok (found, rest) → SpellsVersion part found rest
unfolding version_at
version_takes part found rest fits e =
    elim (chosen (starts_with nat_eq part.bytes (ended (codes "6"))) (Ok (Six, behind 2 part)) _ (Ok (found, rest)) e) [
      | inl six ↦ subst (λ x. SpellsVersion part x.0 x.1) (same_value (Six, behind 2 part) (found, rest) six.1)
          (word_takes (ended (codes "6")) part fits six.0)
      | inr other ↦ later_version part found rest fits other.1
    ]

pub version_fits : (part : FilePart) (found : Version) (rest : FilePart) → SpellsVersion part found rest
    → IsBytes rest.bytes
version_fits part Six rest v = v.fits
version_fits part Seven rest v = v.fits
