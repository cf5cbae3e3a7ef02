-- Sources that gave all their lines have read these raw files.
use Rattle.std.proofs.Common.{◌≡◌, ℕ, suc, ◌<◌, ◌≤◌, ◌^◌, Bool, false, List, [], ◌∷◌, ◌++◌, map, Option}
use Rattle.std.proofs.Common.{Some, None, refl, ap, ap₂, ◌∙◌, subst, arith}
use Rattle.std.specs.Prelude.{◌||◌}
use Rattle.std.specs.List.{slice_get, AllByRecursion}
use Rattle.std.specs.Option.{option_map, option_or}
use Rattle.trace_model.specs.declared.limits.TheConstants.{MAX_CPUS}
use Rattle.trace_model.specs.declared.numbers.CpuId.{CpuId}
use Rattle.trace_model.specs.Listing.{Line as ModelLine}
use Rattle.trace_dat.specs.Contents.{Contents, EventFormat}
use Rattle.trace_dat.specs.declared.fault.Fault.{Fault}
use Rattle.time_merge.specs.Heads.{first_in}
use Rattle.time_merge.specs.SourceWalks.{AllPass}
use Rattle.capture.specs.declared.files.captured.CutFile.{CutFile}
use Rattle.capture.specs.declared.files.captured.Input.{Input}
use Rattle.capture.specs.files.Files.{ArePartsOf, all_formats, all_others, all_lines}
use Rattle.capture.specs.files.Files.{tasks_of, symbols_of, is_in_any, names_of_others, has_named}
use Rattle.capture.specs.files.Files.{lines_of, cut_at, cut_in, first_cut, texts_unless}
use Rattle.capture.specs.files.Losses.{cpu_counters_in, cpu_counters_of}
use Rattle.capture.proofs.FilesMore.{parts-of-raw, held-raw}
use Rattle.page_image.specs.declared.image.Missed.TheVariants.{Unknown}
use Rattle.page_lines.specs.Sources.{Reading, NeverFall, PassesLine, ReadsAll, lines_from}
use Rattle.page_lines.specs.Tallies.{IsTally}
use Rattle.page_lines.specs.Spread.{RiseBelow}
use Rattle.page_lines.proofs.OnePage.{told_all}
use Rattle.page_lines.proofs.Plain.{plain_cut, plain_smaller, plain_raw}
use Rattle.page_lines.proofs.Whole.{reads_all}
use Rattle.collect_command.specs.Paged.{RawFile, own_of, file_of, part_of, AreOpened, CpusRise}
use Rattle.collect_command.specs.Paged.{HasEnded, AreRawOf, IsPlain, AreWhole}

-- ---- what a raw file holds

pub plain_parts : (size : ℕ) (raws : List RawFile) → AllByRecursion (IsPlain size) raws
    → ArePartsOf size [] (map file_of raws) (map (part_of size) raws)
plain_parts size [] are = refl
plain_parts size (raw ∷ raws) (is, others) = (
  part_of size raw ∷ [],
  map (part_of size) raws,
  refl,
  parts-of-raw size [] (file_of raw) is.is_raw is.none_smaller,
  plain_parts size raws others,
)

pub plain_formats : (size : ℕ) (raws : List RawFile) → AllByRecursion (IsPlain size) raws
    → all_formats (map file_of raws) ≡ []
plain_formats size [] are = refl
plain_formats size (raw ∷ raws) (is, others) =
    ap₂ (λ (own rest : List EventFormat). own ++ rest)
    (held-raw (λ (contents : Contents). contents.formats) [] [] (file_of raw) is.is_raw)
    (plain_formats size raws others)

pub plain_others : (size : ℕ) (raws : List RawFile) → AllByRecursion (IsPlain size) raws
    → all_others [] (map file_of raws) ≡ []
plain_others size [] are = refl
plain_others size (raw ∷ raws) (is, others) =
    ap₂ (λ (own rest : List (List ℕ)). own ++ rest)
    (held-raw (λ (contents : Contents). names_of_others [] contents.buffers) [] [] (file_of raw) is.is_raw)
    (plain_others size raws others)

pub plain_tasks : (size : ℕ) (raws : List RawFile) → AllByRecursion (IsPlain size) raws
    → all_lines tasks_of (map file_of raws) ≡ []
plain_tasks size [] are = refl
plain_tasks size (raw ∷ raws) (is, others) =
    ap₂ (λ (own rest : List (List ℕ)). lines_of own ++ rest)
    (held-raw (λ (contents : Contents). contents.tasks) [] [] (file_of raw) is.is_raw)
    (plain_tasks size raws others)

pub plain_symbols : (size : ℕ) (raws : List RawFile) → AllByRecursion (IsPlain size) raws
    → all_lines symbols_of (map file_of raws) ≡ []
plain_symbols size [] are = refl
plain_symbols size (raw ∷ raws) (is, others) =
    ap₂ (λ (own rest : List (List ℕ)). lines_of own ++ rest)
    (held-raw (λ (contents : Contents). contents.symbols) [] [] (file_of raw) is.is_raw)
    (plain_symbols size raws others)

pub plain_instances : (size : ℕ) (raws : List RawFile) → AllByRecursion (IsPlain size) raws
    → is_in_any [] (map file_of raws) ≡ false
plain_instances size [] are = refl
plain_instances size (raw ∷ raws) (is, others) =
    ap₂ (λ (own rest : Bool). own || rest)
    (held-raw (λ (contents : Contents). has_named [] contents.buffers) false [] (file_of raw) is.is_raw)
    (plain_instances size raws others)

pub plain_counters : (size : ℕ) (raws : List RawFile) → AllByRecursion (IsPlain size) raws → (cpu : ℕ)
    → cpu_counters_in [] (map file_of raws) cpu ≡ None
plain_counters size [] are cpu = refl
plain_counters size (raw ∷ []) (is, others) cpu =
    ap (cpu_counters_of cpu)
    (held-raw (λ (contents : Contents). texts_unless (cut_in [] contents.buffers) [] contents.counters) [] []
    (file_of raw) is.is_raw)
plain_counters size (raw ∷ other ∷ raws) are cpu = refl

pub plain_cuts : (size index : ℕ) (raws : List RawFile) → AllByRecursion (IsPlain size) raws
    → first_cut [] index (map file_of raws) ≡ None
plain_cuts size index [] are = refl
plain_cuts size index (raw ∷ raws) (is, others) =
    ap₂ (λ (own : Option Fault) (rest : Option CutFile). option_or (option_map (cut_at index) own) rest)
    (held-raw (λ (contents : Contents). cut_in [] contents.buffers) None [] (file_of raw) is.is_raw)
    (plain_cuts size (suc index) raws others)

-- ---- the CPUs

pub cpus_rise : {R : Type 0} (low : ℕ) (sources : List (Reading R)) (raws : List RawFile) → AreRawOf sources raws
    → CpusRise low sources → RiseBelow low MAX_CPUS (map own_of raws)
cpus_rise low [] [] are rise = tt
cpus_rise low [] (raw ∷ raws) are rise = absurd are
cpus_rise low (source ∷ sources) [] are rise = absurd are
cpus_rise low (source ∷ sources) (raw ∷ raws) (is, others) (up, below, rise) = (
  omega (arith, is.cpu_is, up),
  omega (arith, is.cpu_is, below),
  subst (λ (n : ℕ). RiseBelow (suc n) MAX_CPUS (map own_of raws)) is.cpu_is
      (cpus_rise (suc source.tally.cpu.0) sources raws others rise),
)

-- ---- the files

module _ {R : Type 0} (remaining : R → Option (List ℕ)) (failed : R → Bool) (size : ℕ) (large : 48 ≤ size) where
  with_one : (input : Input R) (inputs : List (Input R)) (lines : List ModelLine) (lists : List (List ModelLine))
      (new : Reading R) (news : List (Reading R))
      → ReadsAll remaining input.cpu input.reader size Unknown lines new
      → HasEnded remaining failed new → AreWhole remaining failed size inputs lists news
      → AreWhole remaining failed size (input ∷ inputs) (lines ∷ lists) (new ∷ news)
  with_one input inputs lines lists new news reads ended others =
      let raw : RawFile = record { cpu = input.cpu.0; bytes = reads.bytes; pages = reads.pages } in
      let same = told_all reads.pages in
      let tally = subst (IsTally new.tally) same reads.tally_is in
      let own_are = reads.lines_are ∙ ap (lines_from input.cpu.0 0) same in
      record {
        raws = raw ∷ others.raws;
        lists_are = ap₂ (λ (own : List ModelLine) (rest : List (List ModelLine)). own ∷ rest) own_are
            others.lists_are;
        none_falls = (subst (NeverFall 0) own_are reads.never_fall, others.none_falls);
        raw_of = (
          record {
            cpu_is = ap (λ (c : CpuId). c.0) reads.cpu_is;
            tally_is = tally;
            count_is = reads.count_is;
          },
          others.raw_of,
        );
        read = (record { cpu_is = refl; taken = reads.consumed }, ended.end, ended.sound, others.read);
        are_raw = (
          record {
            cut = plain_cut size reads.bytes reads.pages reads.plain;
            fit = tally.fit;
            bytes_fit = subst (λ (n : ℕ). n < 2 ^ 64) reads.count_is ended.fits;
          },
          others.are_raw,
        );
        are_plain = (
          record {
            is_raw = plain_raw size reads.bytes reads.pages large reads.plain;
            none_smaller = plain_smaller size reads.bytes reads.pages (omega (arith, large)) reads.plain;
          },
          others.are_plain,
        );
      }

  pub whole_of : (inputs : List (Input R)) (sources : List (Reading R)) (lists : List (List ModelLine))
      (news : List (Reading R)) → AreOpened remaining size inputs sources
      → AllByRecursion (λ (s : Reading R). s.halt ≡ None) sources
      → AllPass (PassesLine remaining) sources lists news
      → ((k : ℕ) (s : Reading R) → slice_get news k ≡ Some s → first_in s.left ≡ None)
      → AllByRecursion (HasEnded remaining failed) news
      → AreWhole remaining failed size inputs lists news
  whole_of [] [] [] [] opened going pass none ended =
      record {
        raws = [];
        lists_are = refl;
        none_falls = tt;
        raw_of = tt;
        read = tt;
        are_raw = tt;
        are_plain = tt;
      }
  whole_of (input ∷ inputs) (source ∷ sources) (lines ∷ lists) (new ∷ news) (opens, opened) (goes, going)
      (passes, pass) none (ends, ended) =
      let (fresh, begins, first) = opens goes in
      with_one input inputs lines lists new news
      (reads_all remaining input.cpu input.reader size Unknown fresh source new lines begins first passes
      (none 0 new refl))
      ends
      (whole_of inputs sources lists news opened going pass (λ k s at. none (suc k) s at) ended)
  whole_of [] (source ∷ sources) lists news opened going pass none ended = absurd opened
  whole_of (input ∷ inputs) [] lists news opened going pass none ended = absurd opened
  whole_of [] [] (lines ∷ lists) news opened going pass none ended = absurd pass
  whole_of [] [] [] (new ∷ news) opened going pass none ended = absurd pass
  whole_of (input ∷ inputs) (source ∷ sources) [] news opened going pass none ended = absurd pass
  whole_of (input ∷ inputs) (source ∷ sources) (lines ∷ lists) [] opened going pass none ended = absurd pass
