-- What is printed of files that are listed while they are read.
use Rattle.std.proofs.Common.{◌≡◌, ℕ, zero, suc, ◌+◌, ◌-◌, ◌<◌, ◌≤◌, Bool, true, false, ◌&&◌, ◌==◌, List, [], ◌∷◌}
use Rattle.std.proofs.Common.{◌++◌, length, take, drop, get_or, flat_map, map, append-nil, Option, None, Some, is_some}
use Rattle.std.proofs.Common.{refl, sym, ap, ap₂, ◌∙◌, subst, arith, true≢false}
use Rattle.std.specs.Prelude.{if◌then◌else◌, nat_lt}
use Rattle.std.specs.List.{AllByRecursion}
use Rattle.std.proofs.lemmas.List.{take_more, take_all, drop_more, drop_all}
use Rattle.std.proofs.lemmas.List.Concat.{flat_map-append}
use Rattle.std.proofs.lemmas.Grind.{common_steps}
use Rattle.trace_model.specs.declared.numbers.RecordNo.{RecordNo}
use Rattle.command_io.specs.declared.ends.Sink.{Ghosts}
use Rattle.text_values.specs.declared.output.Out.{Out}
use Rattle.text_values.specs.Putting.{Puts}
use Rattle.text_values.proofs.Chains.{put_more, put_same}
use Rattle.capture.specs.Pages.{Page, unknown_from, damages_from}
use Rattle.capture.specs.Captures.{numbers_of}
use Rattle.capture.specs.declared.part.Part.{Part}
use Rattle.capture.specs.declared.pages.Damaged.{Damaged}
use Rattle.capture.specs.files.Captures.{measured}
use Rattle.capture.specs.files.Losses.{are_intact}
use Rattle.capture_text.specs.declared.form.Form.{Form}
use Rattle.capture_text.specs.Window.{KnownBound}
use Rattle.capture_text.specs.Listed.{listed_run, listed_losses, listed_page, listed_damages}
use Rattle.page_lines.specs.declared.tally.Tally.{Tally}
use Rattle.page_lines.specs.Tallies.{IsTally, run_numbers, run_between, runs_from}
use Rattle.page_lines.specs.Sources.{Reading}
use Rattle.capture_text.proofs.Damages.{all_lines}
use Rattle.collect_command.specs.Paged.{RawFile, IsRawOf, AreRawOf, part_of, raw_intact}
use Rattle.collect_command.proofs.Printing.{own_intact}

-- ---- the file of a source

pub record RawAt {R : Type 0} (k : ℕ) (source : Reading R) (raws : List RawFile) : Type 0 where
  pub raw : RawFile
  pub is : IsRawOf source raw
  pub front : take (k + 1) raws ≡ take k raws ++ raw ∷ []
  pub behind : drop k raws ≡ raw ∷ drop (k + 1) raws

module _ {R : Type 0} where
  raws_length : (sources : List (Reading R)) (raws : List RawFile) → AreRawOf sources raws
      → length raws ≡ length sources
  raws_length [] [] are = refl
  raws_length [] (raw ∷ raws) are = absurd are
  raws_length (source ∷ sources) [] are = absurd are
  raws_length (source ∷ sources) (raw ∷ raws) are = ap suc (raws_length sources raws are.1)

  raw_is : (sources : List (Reading R)) (raws : List RawFile) (k : ℕ) (source : Reading R) (raw : RawFile)
      → AreRawOf sources raws → k < length sources → IsRawOf (get_or sources k source) (get_or raws k raw)
  raw_is [] [] k source raw are below =
      let none : k < 0 = below in
      let no : ⊥ = omega (arith, none) in
      absurd no
  raw_is [] (r ∷ raws) k source raw are below = absurd are
  raw_is (s ∷ sources) [] k source raw are below = absurd are
  raw_is (s ∷ sources) (r ∷ raws) zero source raw are below = are.0
  raw_is (s ∷ sources) (r ∷ raws) (suc k) source raw are below =
      let less : suc k < suc (length sources) = below in
      raw_is sources raws k source raw are.1 (omega (arith, less))

  raw_at : (sources : List (Reading R)) (raws : List RawFile) (k : ℕ) (source : Reading R) → AreRawOf sources raws
      → k < length sources → source ≡ get_or sources k source → RawAt k source raws
  raw_at sources raws k source are below at =
      let none : RawFile = record { cpu = 0; bytes = []; pages = [] } in
      let within : k < length raws = omega (arith, raws_length sources raws are, below) in
      record {
        raw = get_or raws k none;
        is = subst (λ (s : Reading R). IsRawOf s (get_or raws k none)) (sym at)
            (raw_is sources raws k source none are below);
        front = take_more raws k none within;
        behind = drop_more raws k none within;
      }

-- ---- what is put of each file

module _ {W R : Type 0} {g : Ghosts W} where
  pub put_each : (text : RawFile → List ℕ) (sources : List (Reading R)) (raws : List RawFile) (k : ℕ)
      (source : Reading R) {o0 o1 o2 : Out W g}
      → AreRawOf sources raws → k < length sources → source ≡ get_or sources k source
      → Puts (flat_map text (take k raws)) o0 o1
      → ((raw : RawFile) → IsRawOf source raw → Puts (text raw) o1 o2)
      → Puts (flat_map text (take (k + 1) raws)) o0 o2
  put_each text sources raws k source {o0} {o1} {o2} are below at before own =
      let found = raw_at sources raws k source are below at in
      put_more _ _ _ o0 o1 o2
      (ap (flat_map text) found.front ∙ flat_map-append text (take k raws) (found.raw ∷ [])
      ∙ ap (λ (t : List ℕ). flat_map text (take k raws) ++ t) (append-nil (text found.raw)))
      before (own found.raw found.is)

  -- of all of them
  pub put_all : (text : RawFile → List ℕ) (sources : List (Reading R)) (raws : List RawFile) (k : ℕ)
      {o0 o1 : Out W g} → AreRawOf sources raws → length sources ≤ k
      → Puts (flat_map text (take k raws)) o0 o1 → Puts (flat_map text raws) o0 o1
  put_all text sources raws k are past puts =
      put_same _ _ (ap (flat_map text) (take_all k raws (omega (arith, raws_length sources raws are, past)))) puts

  -- its runs of missing numbers, its losses of unknown number, its damaged pages
  pub own_runs : (form : Form) (bounds : ℕ → Option KnownBound) (source : Reading R) (tally : Tally) (raw : RawFile)
      {o1 o2 : Out W g} → tally ≡ source.tally → IsRawOf source raw
      → ((pages : List Page) → IsTally tally pages
      → Puts (flat_map (listed_run form (bounds tally.cpu.0) tally.cpu.0) (runs_from 0 0 pages)) o1 o2)
      → Puts (flat_map (listed_run form (bounds raw.cpu) raw.cpu) (runs_from 0 0 raw.pages)) o1 o2
  own_runs form bounds source tally raw same is puts =
      put_same _ _
      (ap (λ (n : ℕ). flat_map (listed_run form (bounds n) n) (runs_from 0 0 raw.pages))
      (ap (λ (t : Tally). t.cpu.0) same ∙ is.cpu_is))
      (puts raw.pages (subst (λ (t : Tally). IsTally t raw.pages) (sym same) is.tally_is))

  pub own_unknown : (form : Form) (bounds : ℕ → Option KnownBound) (source : Reading R) (tally : Tally)
      (numbers : List RecordNo) (raw : RawFile) {o1 o2 : Out W g}
      → tally ≡ source.tally → numbers ≡ tally.unknown.items → IsRawOf source raw
      → Puts (listed_losses form (bounds tally.cpu.0) tally.cpu.0 (numbers_of numbers)) o1 o2
      → Puts (listed_losses form (bounds raw.cpu) raw.cpu (unknown_from 0 raw.pages)) o1 o2
  own_unknown form bounds source tally numbers raw same are is puts =
      put_same _ _
      (ap₂ (λ (n : ℕ) (ns : List ℕ). listed_losses form (bounds n) n ns)
      (ap (λ (t : Tally). t.cpu.0) same ∙ is.cpu_is)
      (ap numbers_of are ∙ ap (λ (t : Tally). numbers_of t.unknown.items) same ∙ is.tally_is.unknown_are))
      puts

  pub own_damaged : (form : Form) (bounds : ℕ → Option KnownBound) (size : ℕ) (source : Reading R) (tally : Tally)
      (found : List Damaged) (part : Part) (raw : RawFile) {o1 o2 : Out W g}
      → tally ≡ source.tally → found ≡ tally.damaged.items → part ≡ measured (part_of size raw) → IsRawOf source raw
      → Puts (flat_map (listed_page form (bounds tally.cpu.0) (part ∷ []) tally.cpu.0) found) o1 o2
      → Puts (listed_damages form (bounds raw.cpu) (measured (part_of size raw) ∷ []) raw.cpu
      (damages_from 0 0 raw.pages)) o1 o2
  own_damaged form bounds size source tally found part raw same are whole is puts =
      put_same _ _
      (ap₂ (λ (n : ℕ) (p : Part). flat_map (listed_page form (bounds n) (p ∷ []) n) found)
      (ap (λ (t : Tally). t.cpu.0) same ∙ is.cpu_is) whole
      ∙ ap (flat_map (listed_page form (bounds raw.cpu) (measured (part_of size raw) ∷ []) raw.cpu))
      (are ∙ ap (λ (t : Tally). t.damaged.items) same)
      ∙ all_lines form (bounds raw.cpu) (measured (part_of size raw) ∷ []) raw.cpu source.tally.damaged.items
      (damages_from 0 0 raw.pages) is.tally_is.damaged_are)
      puts

-- ---- the runs of a tally

runs_are : (tally : Tally) (pages : List Page) → IsTally tally pages
    → runs_from 0 0 pages ≡ map run_numbers tally.missing.items ++ run_between tally.from.0 tally.next.0
runs_are tally pages is = sym (is.missing_are [] ∙ ap (runs_from 0 0) (append-nil pages))

some_between : (from until : ℕ) → from < until → run_between from until ≡ (from, until - 1) ∷ []
some_between from until less =
    let some : nat_lt from until ≡ true = grind (arith, common_steps) in
    ap (λ (b : Bool). if b then (from, until - 1) ∷ [] else []) some

none_between : (from until : ℕ) → until ≤ from → run_between from until ≡ []
none_between from until past =
    let none : nat_lt from until ≡ false = grind (arith, common_steps) in
    ap (λ (b : Bool). if b then (from, until - 1) ∷ [] else []) none

module _ {W : Type 0} {g : Ghosts W} where
  runs_put : (line : ℕ × ℕ → List ℕ) (tally : Tally) (runs : List (RecordNo × RecordNo)) (k : ℕ) {o0 o1 : Out W g}
      → runs ≡ tally.missing.items → length runs ≤ k → Puts (flat_map line (map run_numbers (take k runs))) o0 o1
      → Puts (flat_map line (map run_numbers tally.missing.items)) o0 o1
  runs_put line tally runs k same past puts =
      put_same _ _
      (ap (λ (rs : List (RecordNo × RecordNo)). flat_map line (map run_numbers rs)) (take_all k runs past ∙ same))
      puts

  -- with a last run, and without one
  pub put_last : (line : ℕ × ℕ → List ℕ) (tally : Tally) (pages : List Page) (runs : List (RecordNo × RecordNo))
      (k : ℕ) {o0 o1 o2 : Out W g} → IsTally tally pages → runs ≡ tally.missing.items → length runs ≤ k
      → tally.from.0 < tally.next.0 → Puts (flat_map line (map run_numbers (take k runs))) o0 o1
      → Puts (line (tally.from.0, tally.next.0 - 1)) o1 o2
      → Puts (flat_map line (runs_from 0 0 pages)) o0 o2
  put_last line tally pages runs k {o0} {o1} {o2} is same past less before last =
      let run : ℕ × ℕ = (tally.from.0, tally.next.0 - 1) in
      put_more _ _ _ o0 o1 o2
      (ap (flat_map line) (runs_are tally pages is
      ∙ ap (λ (rs : List (ℕ × ℕ)). map run_numbers tally.missing.items ++ rs)
      (some_between tally.from.0 tally.next.0 less))
      ∙ flat_map-append line (map run_numbers tally.missing.items) (run ∷ [])
      ∙ ap (λ (t : List ℕ). flat_map line (map run_numbers tally.missing.items) ++ t) (append-nil (line run)))
      (runs_put line tally runs k same past before) last

  pub put_no_last : (line : ℕ × ℕ → List ℕ) (tally : Tally) (pages : List Page) (runs : List (RecordNo × RecordNo))
      (k : ℕ) {o0 o1 : Out W g} → IsTally tally pages → runs ≡ tally.missing.items → length runs ≤ k
      → tally.next.0 ≤ tally.from.0 → Puts (flat_map line (map run_numbers (take k runs))) o0 o1
      → Puts (flat_map line (runs_from 0 0 pages)) o0 o1
  put_no_last line tally pages runs k is same past none before =
      put_same _ _
      (ap (flat_map line) (sym (append-nil (map run_numbers tally.missing.items))
      ∙ ap (λ (rs : List (ℕ × ℕ)). map run_numbers tally.missing.items ++ rs)
      (sym (none_between tally.from.0 tally.next.0 none))
      ∙ sym (runs_are tally pages is)))
      (runs_put line tally runs k same past before)

-- ---- whether all of them are intact, and at their ends

module _ {R : Type 0} where
  pub intact_past : (sources : List (Reading R)) (raws : List RawFile) (k : ℕ) (source : Reading R)
      → AreRawOf sources raws → k < length sources → source ≡ get_or sources k source
      → (length source.tally.damaged.items == 0) ≡ true → raw_intact (drop k raws) ≡ raw_intact raws
      → raw_intact (drop (k + 1) raws) ≡ raw_intact raws
  intact_past sources raws k source are below at none before =
      let found = raw_at sources raws k source are below at in
      let whole : are_intact found.raw.pages ≡ true =
      own_intact found.raw.pages source.tally.damaged.items found.is.tally_is.damaged_are ∙ none in
      sym (ap (λ (x : Bool). x && raw_intact (drop (k + 1) raws)) whole) ∙ sym (ap raw_intact found.behind) ∙ before

  pub broken_at : (sources : List (Reading R)) (raws : List RawFile) (k : ℕ) (source : Reading R)
      → AreRawOf sources raws → k < length sources → source ≡ get_or sources k source
      → (length source.tally.damaged.items == 0) ≡ false → raw_intact (drop k raws) ≡ raw_intact raws
      → false ≡ raw_intact raws
  broken_at sources raws k source are below at some before =
      let found = raw_at sources raws k source are below at in
      let broken : are_intact found.raw.pages ≡ false =
      own_intact found.raw.pages source.tally.damaged.items found.is.tally_is.damaged_are ∙ some in
      sym (ap (λ (x : Bool). x && raw_intact (drop (k + 1) raws)) broken) ∙ sym (ap raw_intact found.behind) ∙ before

  pub all_intact : (sources : List (Reading R)) (raws : List RawFile) (k : ℕ) → AreRawOf sources raws
      → length sources ≤ k → raw_intact (drop k raws) ≡ raw_intact raws → true ≡ raw_intact raws
  all_intact sources raws k are past before =
      sym (ap raw_intact (drop_all k raws (omega (arith, raws_length sources raws are, past)))) ∙ before

  -- what is left of a list, from its next source on
  pub left_at : (sources : List (Reading R)) (k : ℕ) (source : Reading R) → k < length sources
      → source ≡ get_or sources k source → source ∷ drop (k + 1) sources ≡ drop k sources
  left_at sources k source below at =
      ap (λ (s : Reading R). s ∷ drop (k + 1) sources) at ∙ sym (drop_more sources k source below)

  pub each_past : (holds : Reading R → Type 0) (sources : List (Reading R)) (k : ℕ) (source : Reading R)
      → k < length sources → source ≡ get_or sources k source → holds source
      → (AllByRecursion holds (drop k sources) → AllByRecursion holds sources)
      → AllByRecursion holds (drop (k + 1) sources) → AllByRecursion holds sources
  each_past holds sources k source below at own before rest =
      before (subst (AllByRecursion holds) (left_at sources k source below at) (own, rest))

-- an answer that isn't there
pub none_of : {A : Type 0} (answer : Option A) → is_some answer ≡ false → answer ≡ None
none_of None is = refl
none_of (Some value) is = absurd (true≢false is)
