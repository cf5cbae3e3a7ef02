-- What is said of raw files, each of a CPU of its own, is what is said of the pages of all CPUs.
use Rattle.std.proofs.Common.{◌≡◌, ℕ, zero, suc, ◌+◌, ◌<◌, ◌≤◌, Bool, true, false, true≢false, cond, ⊎_elim}
use Rattle.std.proofs.Common.{List, [], ◌∷◌, ◌++◌, length, map, flat_map, append-nil, Option, None, refl, sym, ap, ap₂}
use Rattle.std.proofs.Common.{append_assoc, ◌∙◌, subst, arith, eqb-true, eq-eqb, ne_eqb}
use Rattle.std.proofs.lemmas.Bool.{cases_lt}
use Rattle.std.specs.Prelude.{◌==◌, ◌&&◌, if◌then◌else◌}
use Rattle.std.specs.List.{enumerate_from, AllByRecursion}
use Rattle.trace_model.specs.declared.limits.TheConstants.{MAX_CPUS}
use Rattle.capture.specs.Pages.{Page, unknown_from, damages_from}
use Rattle.capture.specs.declared.part.Part.{Part}
use Rattle.capture.specs.files.Files.{ModelPart, parts_of_cpu}
use Rattle.capture.specs.files.Captures.{measured}
use Rattle.capture.specs.files.Losses.{are_intact}
use Rattle.capture.proofs.Told.{all-told-unknown}
use Rattle.capture_text.specs.declared.form.Form.{Form}
use Rattle.capture_text.specs.Selection.{Selected}
use Rattle.capture_text.specs.Window.{KnownBound}
use Rattle.capture_text.specs.Printing.{Detail as LineDetail}
use Rattle.trace_model.specs.Listing.{Line as ModelLine}
use Rattle.capture_text.specs.Listed.{listed_line, listed_run, listed_runs, listed_losses, listed_damages}
use Rattle.page_lines.specs.Spread.{OwnPages, RiseBelow, spread}
use Rattle.page_lines.specs.Tallies.{runs_from}
use Rattle.collect_command.specs.Gathered.{AreCpuPages, AreCpusPages}
use Rattle.collect_command.specs.Listings.{all_unknown, all_damaged, all_sums, are_all_intact}
use Rattle.collect_command.specs.Listings.{bounds_by, listing_text}
use Rattle.collect_command.specs.Paged.{RawFile, own_of, part_of, captures_of, raw_runs, raw_unknown, raw_damaged}
use Rattle.collect_command.specs.Paged.{raw_intact, raw_losses, IsRaw}

-- ---- all CPUs, of which some have a raw file

-- What holds of the pages of all CPUs from one on, if it holds at the end, and with one CPU more before: one that has
-- no raw file, or one that has the first of those that are left.
module _ (P : (cpu : ℕ) → List (List Page) → List RawFile → Type 0) (end : ℕ)
    (at_end : (cpu : ℕ) → P cpu [] [])
    (without : (cpu : ℕ) (captures : List (List Page)) (raws : List RawFile)
    → RiseBelow (suc cpu) end (map own_of raws) → P (suc cpu) captures raws → P cpu ([] ∷ captures) raws)
    (with_own : (captures : List (List Page)) (raw : RawFile) (raws : List RawFile)
    → RiseBelow (suc raw.cpu) end (map own_of raws) → P (suc raw.cpu) captures raws
    → P raw.cpu (raw.pages ∷ captures) (raw ∷ raws)) where
  one_cpu : (cpu count : ℕ) (raw : RawFile) (raws : List RawFile) → RiseBelow cpu end (map own_of (raw ∷ raws))
      → ((others : List RawFile) → RiseBelow (suc cpu) end (map own_of others)
      → P (suc cpu) (spread (suc cpu) count (map own_of others)) others)
      → (is_own : Bool) → (raw.cpu == cpu) ≡ is_own
      → P cpu (if is_own then raw.pages ∷ spread (suc cpu) count (map own_of raws)
      else [] ∷ spread (suc cpu) count (map own_of (raw ∷ raws))) (raw ∷ raws)
  one_cpu cpu count raw raws rise later true is =
      let same : raw.cpu ≡ cpu = eqb-true raw.cpu cpu is in
      let captures : List (List Page) = spread (suc cpu) count (map own_of raws) in
      subst (λ (n : ℕ). P n (raw.pages ∷ captures) (raw ∷ raws)) same
      (with_own captures raw raws rise.2
      (subst (λ (n : ℕ). P (suc n) captures raws) (sym same)
      (later raws (subst (λ (n : ℕ). RiseBelow (suc n) end (map own_of raws)) same rise.2))))
  one_cpu cpu count raw raws rise later false is =
      let above : suc cpu ≤ raw.cpu =
      ⊎_elim (λ (l : cpu < raw.cpu). l)
      (λ (l : raw.cpu ≤ cpu). absurd (true≢false (sym (eq-eqb raw.cpu cpu (omega (arith, l, rise.0))) ∙ is)))
      (cases_lt cpu raw.cpu) in
      without cpu (spread (suc cpu) count (map own_of (raw ∷ raws))) (raw ∷ raws) (above, rise.1, rise.2)
      (later (raw ∷ raws) (above, rise.1, rise.2))

  by_cpu : (cpu count : ℕ) (raws : List RawFile) → end ≡ cpu + count → RiseBelow cpu end (map own_of raws)
      → P cpu (spread cpu count (map own_of raws)) raws
  by_cpu cpu zero [] ends rise = at_end cpu
  by_cpu cpu zero (raw ∷ raws) ends rise = absurd (omega (arith, ends, rise.0, rise.1))
  by_cpu cpu (suc count) [] ends rise =
      without cpu (spread (suc cpu) count []) [] tt (by_cpu (suc cpu) count [] (omega (arith, ends)) tt)
  by_cpu cpu (suc count) (raw ∷ raws) ends rise =
      one_cpu cpu count raw raws rise
      (λ others up. by_cpu (suc cpu) count others (omega (arith, ends)) up)
      (raw.cpu == cpu) refl

  all_cpus : (raws : List RawFile) → RiseBelow 0 end (map own_of raws) → P 0 (spread 0 end (map own_of raws)) raws
  all_cpus raws rise = by_cpu 0 end raws (omega arith) rise

spread_count : (cpu count : ℕ) (owns : List OwnPages) → length (spread cpu count owns) ≡ count
spread_count cpu zero owns = refl
spread_count cpu (suc count) [] = ap suc (spread_count (suc cpu) count [])
spread_count cpu (suc count) (own ∷ owns) =
    either (own.cpu == cpu) (own.pages ∷ spread (suc cpu) count owns) ([] ∷ spread (suc cpu) count (own ∷ owns))
    (ap suc (spread_count (suc cpu) count owns)) (ap suc (spread_count (suc cpu) count (own ∷ owns)))
  where
    either : (is_own : Bool) (xs ys : List (List Page)) → length xs ≡ suc count → length ys ≡ suc count
        → length (if is_own then xs else ys) ≡ suc count
    either true xs ys long other = long
    either false xs ys other long = long

-- there is one list of pages for each CPU
pub captures_count : (raws : List RawFile) → length (captures_of raws) ≡ MAX_CPUS
captures_count raws = spread_count 0 MAX_CPUS (map own_of raws)

-- ---- the part of each CPU

-- CPUs that rise from one on have no part of one before it
none_before : (size low end cpu : ℕ) (raws : List RawFile) → RiseBelow low end (map own_of raws) → cpu < low
    → parts_of_cpu cpu (map (part_of size) raws) ≡ []
none_before size low end cpu [] rise before = refl
none_before size low end cpu (raw ∷ raws) rise before =
    let others : List ModelPart = parts_of_cpu cpu (map (part_of size) raws) in
    ap (λ (is_own : Bool). cond is_own (part_of size raw ∷ others) others)
    (ne_eqb raw.cpu cpu (λ e. omega (arith, e, rise.0, before)))
    ∙ none_before size (suc raw.cpu) end cpu raws rise.2 (omega (arith, rise.0, before))

own_part : (size end : ℕ) (raw : RawFile) (raws : List RawFile) → RiseBelow (suc raw.cpu) end (map own_of raws)
    → parts_of_cpu raw.cpu (map (part_of size) (raw ∷ raws)) ≡ part_of size raw ∷ []
own_part size end raw raws rise =
    let others : List ModelPart = parts_of_cpu raw.cpu (map (part_of size) raws) in
    ap (λ (is_own : Bool). cond is_own (part_of size raw ∷ others) others) (eq-eqb raw.cpu raw.cpu refl)
    ∙ ap (λ (parts : List ModelPart). part_of size raw ∷ parts)
    (none_before size (suc raw.cpu) end raw.cpu raws rise (omega arith))

-- of the CPUs from this one on, these parts are those of the raw files
abbrev ArePartsFrom : (size cpu : ℕ) → List ModelPart → List RawFile → Type 0
ArePartsFrom size cpu parts raws =
    (at : ℕ) → cpu ≤ at → parts_of_cpu at parts ≡ parts_of_cpu at (map (part_of size) raws)

parts_later : (size cpu : ℕ) (parts : List ModelPart) (raws : List RawFile) → ArePartsFrom size cpu parts raws
    → ArePartsFrom size (suc cpu) parts raws
parts_later size cpu parts raws are at from = are at (omega (arith, from))

parts_behind : (size : ℕ) (parts : List ModelPart) (raw : RawFile) (raws : List RawFile)
    → ArePartsFrom size raw.cpu parts (raw ∷ raws) → ArePartsFrom size (suc raw.cpu) parts raws
parts_behind size parts raw raws are at from =
    let others : List ModelPart = parts_of_cpu at (map (part_of size) raws) in
    are at (omega (arith, from))
    ∙ ap (λ (is_own : Bool). cond is_own (part_of size raw ∷ others) others)
    (ne_eqb raw.cpu at (λ e. omega (arith, e, from)))

-- ---- what is printed

module _ (form : Form) (bounds : ℕ → Option KnownBound) where
  -- the runs of each CPU, from this one on
  abbrev runs_on : (cpu : ℕ) → List (List Page) → List ℕ
  runs_on cpu captures =
      flat_map (λ (of_cpu : ℕ × List (ℕ × ℕ)). flat_map (listed_run form (bounds of_cpu.0) of_cpu.0) of_cpu.1)
      (enumerate_from cpu (map (runs_from 0 0) captures))

  next_runs : (cpu : ℕ) (captures : List (List Page)) → runs_on (cpu + 1) captures ≡ runs_on (suc cpu) captures
  next_runs cpu captures = ap (λ (n : ℕ). runs_on n captures) (let same : cpu + 1 ≡ suc cpu = omega arith in same)

  pub runs_same : (raws : List RawFile) → RiseBelow 0 MAX_CPUS (map own_of raws)
      → listed_runs form bounds (map (runs_from 0 0) (captures_of raws)) ≡ raw_runs form bounds raws
  runs_same raws rise =
      all_cpus (λ cpu captures files. runs_on cpu captures ≡ raw_runs form bounds files) MAX_CPUS
      (λ cpu. refl)
      (λ cpu captures files up same. next_runs cpu captures ∙ same)
      (λ captures raw files up same.
      ap (λ (text : List ℕ). flat_map (listed_run form (bounds raw.cpu) raw.cpu) (runs_from 0 0 raw.pages) ++ text)
      (next_runs raw.cpu captures ∙ same))
      raws rise

  pub unknown_same : (raws : List RawFile) → RiseBelow 0 MAX_CPUS (map own_of raws)
      → all_unknown form bounds 0 (captures_of raws) ≡ raw_unknown form bounds raws
  unknown_same raws rise =
      all_cpus (λ cpu captures files. all_unknown form bounds cpu captures ≡ raw_unknown form bounds files) MAX_CPUS
      (λ cpu. refl)
      (λ cpu captures files up same. same)
      (λ captures raw files up same.
      ap (λ (text : List ℕ).
      listed_losses form (bounds raw.cpu) raw.cpu (unknown_from 0 raw.pages) ++ text) same)
      raws rise

  pub damaged_same : (size : ℕ) (raws : List RawFile) → RiseBelow 0 MAX_CPUS (map own_of raws)
      → all_damaged form bounds (map (part_of size) raws) 0 (captures_of raws) ≡ raw_damaged form bounds size raws
  damaged_same size raws rise =
      let parts : List ModelPart = map (part_of size) raws in
      all_cpus (λ cpu captures files. ArePartsFrom size cpu parts files
      → all_damaged form bounds parts cpu captures ≡ raw_damaged form bounds size files) MAX_CPUS
      (λ cpu are. refl)
      (λ cpu captures files up same are. same (parts_later size cpu parts files are))
      (λ captures raw files up same are.
      ap₂ (λ (own : List Part) (text : List ℕ).
      listed_damages form (bounds raw.cpu) own raw.cpu (damages_from 0 0 raw.pages) ++ text)
      (ap (map measured) (are raw.cpu (omega arith) ∙ own_part size MAX_CPUS raw files up))
      (same (parts_behind size parts raw files are)))
      raws rise (λ at from. refl)

-- no sums are listed of CPUs without counters
pub sums_none : (form : Form) (selected : Selected) (runs : List (List (ℕ × ℕ))) (cpu : ℕ) (captures : List (List Page))
    → all_sums form selected (λ (at : ℕ). None) runs cpu captures ≡ []
sums_none form selected runs cpu [] = refl
sums_none form selected runs cpu (own ∷ captures) = sums_none form selected runs (suc cpu) captures

pub intact_same : (raws : List RawFile) → RiseBelow 0 MAX_CPUS (map own_of raws)
    → are_all_intact (captures_of raws) ≡ raw_intact raws
intact_same raws rise =
    all_cpus (λ cpu captures files. are_all_intact captures ≡ raw_intact files) MAX_CPUS
    (λ cpu. refl)
    (λ cpu captures files up same. same)
    (λ captures raw files up same. ap (λ (are : Bool). are_intact raw.pages && are) same)
    raws rise

-- ---- the pages

no_pages : (parts : List ModelPart) → parts ≡ [] → AreCpuPages None parts []
no_pages parts none =
    subst (λ (own : List ModelPart). AreCpuPages None own []) (sym none) record {
      pages = [];
      cut = refl;
      own_is = refl;
      fit = record { pages_fit = record { numbers = omega arith; fills = omega arith }; bytes_fit = omega arith };
    }

own_pages : (size : ℕ) (raw : RawFile) (parts : List ModelPart) → parts ≡ part_of size raw ∷ [] → IsRaw size raw
    → AreCpuPages None parts raw.pages
own_pages size raw parts one is =
    subst (λ (own : List ModelPart). AreCpuPages None own raw.pages) (sym one) record {
      pages = raw.pages;
      cut = (raw.pages, [], sym (append-nil raw.pages), is.cut, refl);
      own_is = sym (all-told-unknown raw.pages);
      fit = record { pages_fit = is.fit; bytes_fit = omega (arith, is.bytes_fit) };
    }

pub pages_same : (size : ℕ) (raws : List RawFile) → RiseBelow 0 MAX_CPUS (map own_of raws)
    → AllByRecursion (IsRaw size) raws
    → AreCpusPages (λ (at : ℕ). None) (map (part_of size) raws) 0 (captures_of raws)
pages_same size raws rise are_raw =
    let parts : List ModelPart = map (part_of size) raws in
    all_cpus (λ cpu captures files. AllByRecursion (IsRaw size) files → ArePartsFrom size cpu parts files
    → AreCpusPages (λ (at : ℕ). None) parts cpu captures) MAX_CPUS
    (λ cpu each are. tt)
    (λ cpu captures files up same each are. (
      no_pages (parts_of_cpu cpu parts)
          (are cpu (omega arith) ∙ none_before size (suc cpu) MAX_CPUS cpu files up (omega arith)),
      same each (parts_later size cpu parts files are),
    ))
    (λ captures raw files up same each are. (
      own_pages size raw (parts_of_cpu raw.cpu parts)
          (are raw.cpu (omega arith) ∙ own_part size MAX_CPUS raw files up) each.0,
      same each.1 (parts_behind size parts raw files are),
    ))
    raws rise are_raw (λ at from. refl)

-- ---- the text

-- what is lost of the files, behind the lines, is what is printed of their captures
pub raw_text : (form : Form) (detail : LineDetail) (selected : Selected) (size : ℕ) (raws : List RawFile)
    → RiseBelow 0 MAX_CPUS (map own_of raws) → (lines : List ModelLine)
    → flat_map (listed_line form detail selected) lines ++ raw_losses form (bounds_by selected lines) size raws
    ≡ listing_text form detail selected (λ (at : ℕ). None) (map (part_of size) raws) (record {
      lines = lines;
      runs = map (runs_from 0 0) (captures_of raws);
    }) (captures_of raws)
raw_text form detail selected size raws rise lines =
    let bounds = bounds_by selected lines in
    let records = flat_map (listed_line form detail selected) lines in
    let runs = raw_runs form bounds raws in
    let unknown = raw_unknown form bounds raws in
    let damaged = raw_damaged form bounds size raws in
    let missing = map (runs_from 0 0) (captures_of raws) in
    let all_runs = listed_runs form bounds missing in
    let unknown_of_all = all_unknown form bounds 0 (captures_of raws) in
    let damaged_of_all = all_damaged form bounds (map (part_of size) raws) 0 (captures_of raws) in
    let all = ((records ++ all_runs) ++ unknown_of_all) ++ damaged_of_all in
    sym (append_assoc records (runs ++ unknown) damaged)
    ∙ ap (λ (t : List ℕ). t ++ damaged) (sym (append_assoc records runs unknown))
    ∙ ap (λ (t : List ℕ). ((records ++ t) ++ unknown) ++ damaged) (sym (runs_same form bounds raws rise))
    ∙ ap (λ (t : List ℕ). ((records ++ all_runs) ++ t) ++ damaged) (sym (unknown_same form bounds raws rise))
    ∙ ap (λ (t : List ℕ). ((records ++ all_runs) ++ unknown_of_all) ++ t)
    (sym (damaged_same form bounds size raws rise))
    ∙ sym (append-nil all)
    ∙ ap (λ (t : List ℕ). all ++ t) (sym (sums_none form selected missing 0 (captures_of raws)))
