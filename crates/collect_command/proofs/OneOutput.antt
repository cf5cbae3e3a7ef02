-- Files have one listing: they decide what is written of them, and how that ends.
use Rattle.std.proofs.Common.{◌≡◌, ℕ, suc, Bool, false, List, [], ◌∷◌, ◌++◌, length, flat_map, Option, Some, Ok}
use Rattle.std.proofs.Common.{refl, sym, ap, ap₂, ◌∙◌, subst, arith}
use Rattle.std.specs.Prelude.{slice_index_or}
use Rattle.trace_model.specs.Listing.{Line}
use Rattle.trace_model.specs.Collection.{Misses}
use Rattle.trace_model.proofs.collections.Collections.{same_itself}
use Rattle.trace_model.proofs.collections.Listings.{one_listing}
use Rattle.trace_dat.specs.Contents.{EventFormat}
use Rattle.world_model.specs.Printing.{Shown}
use Rattle.capture.specs.Pages.{Page}
use Rattle.capture.specs.Rings.{parcels_of_captures}
use Rattle.capture.proofs.OneReading.{one-reading}
use Rattle.collector_text.specs.Prints.{IsPrintOf}
use Rattle.collector_text.proofs.OneText.{one_runs, one_runs_text}
use Rattle.capture.specs.files.Files.{File, ModelPart, Checked, parts_of, parts_of_cpu, ArePartsOf, all_formats}
use Rattle.capture.specs.files.Captures.{CutsOf}
use Rattle.capture.specs.files.Files.{all_lines, tasks_of, symbols_of, first_cut}
use Rattle.capture.specs.declared.files.captured.CutFile.{CutFile}
use Rattle.capture.specs.files.Losses.{cpu_counters_in, settled, overrun_in}
use Rattle.trace_dat.specs.declared.kernel_texts.counters.Counters.{Counters}
use Rattle.capture_text.specs.declared.form.Form.{Form}
use Rattle.capture_text.specs.Printing.{Detail as LineDetail}
use Rattle.capture_text.specs.Selection.{Selected}
use Rattle.capture_text.specs.Listed.{listed_line, listed_run}
use Rattle.collect_command.specs.declared.collect.Collecting.{Collecting}
use Rattle.collect_command.specs.declared.collect.Detail.{Detail}
use Rattle.collect_command.specs.declared.ending.Listed.{Listed}
use Rattle.collect_command.specs.Gathered.{AreCpuPages, AreCpusPages}
use Rattle.collect_command.specs.Listings.{bounds_by, all_unknown, all_damaged, listing_text, detail_by, cut_count}
use Rattle.collect_command.specs.Listings.{IsListedCut, is_unnamed, marks_by, with_cut, with_marks}
use Rattle.collect_command.specs.Runs.{detail_for, formats_for, lines_for, marks_for, selected_for, text_in}
use Rattle.collect_command.specs.Runs.{AskTheSame, SayTheSame, ListsFiles}
use Rattle.collect_command.proofs.Sums.{same_sums}

-- ---- the parts, and the pages of each CPU

one_own : (read : Checked (List ModelPart)) (own other : List ModelPart) → read ≡ Ok own → read ≡ Ok other → own ≡ other
one_own read own other is too = cc

one_parts : (page : ℕ) (name : List ℕ) (files : List File) (parts others : List ModelPart)
    → ArePartsOf page name files parts → ArePartsOf page name files others → parts ≡ others
one_parts page name [] parts others none too = none ∙ sym too
one_parts page name (file ∷ files) parts others (own, more, is, first, rest) (own_b, more_b, is_b, first_b, rest_b) =
    is
    ∙ ap₂ (λ (xs ys : List ModelPart). xs ++ ys) (one_own (parts_of page name file) own own_b first first_b)
    (one_parts page name files more more_b rest rest_b)
    ∙ sym is_b

one_cuts : (parts : List ModelPart) (pages others : List Page) → CutsOf parts pages → CutsOf parts others
    → pages ≡ others
one_cuts [] pages others none too = none ∙ sym too
one_cuts (part ∷ parts) pages others (own, more, is, first, rest) (own_b, more_b, is_b, first_b, rest_b) =
    is
    ∙ ap₂ (λ (xs ys : List Page). xs ++ ys) (one-reading part.size part.bytes own own_b first first_b)
    (one_cuts parts more more_b rest rest_b)
    ∙ sym is_b

one_capture : (overrun : Option ℕ) (parts : List ModelPart) (own other : List Page) → AreCpuPages overrun parts own
    → AreCpuPages overrun parts other → own ≡ other
one_capture overrun parts own other a b =
    a.own_is ∙ ap (settled overrun) (one_cuts parts a.pages b.pages a.cut b.cut) ∙ sym b.own_is

one_captures : (overrun : ℕ → Option ℕ) (parts : List ModelPart) (cpu : ℕ) (captures others : List (List Page))
    → AreCpusPages overrun parts cpu captures → AreCpusPages overrun parts cpu others
    → length captures ≡ length others → captures ≡ others
one_captures overrun parts cpu [] [] are too count = refl
one_captures overrun parts cpu [] (other ∷ others) are too count = absurd (omega arith)
one_captures overrun parts cpu (own ∷ captures) [] are too count = absurd (omega arith)
one_captures overrun parts cpu (own ∷ captures) (other ∷ others) are too count =
    ap₂ (λ (pages : List Page) (more : List (List Page)). pages ∷ more)
    (one_capture (overrun cpu) (parts_of_cpu cpu parts) own other are.0 too.0)
    (one_captures overrun parts (suc cpu) captures others are.1 too.1 (omega arith))

-- ---- what is printed of them

one_text : (form : Form) (detail : LineDetail) (selected : Selected) (counted : ℕ → Option Counters)
    (parts : List ModelPart) (captures : List (List Page)) (shown other : Shown) → IsPrintOf
    (parcels_of_captures 0 captures) shown
    → IsPrintOf (parcels_of_captures 0 captures) other
    → listing_text form detail selected counted parts shown captures
    ≡ listing_text form detail selected counted parts other captures
one_text form detail selected counted parts captures shown other is too =
    let parcels = parcels_of_captures 0 captures in
    let lines = one_listing parcels parcels shown.lines other.lines (same_itself parcels) is.lines too.lines in
    let runs : (k : ℕ) → slice_index_or shown.runs k [] ≡ slice_index_or other.runs k [] = λ k.
    one_runs (Misses parcels k) (slice_index_or shown.runs k []) (slice_index_or other.runs k []) (is.runs k)
    (too.runs k) in
    let bounds = bounds_by selected shown.lines in
    ap₂ (λ (text sums : List ℕ).
    (((flat_map (listed_line form detail selected) shown.lines ++ text) ++ all_unknown form bounds 0 captures)
    ++ all_damaged form bounds parts 0 captures) ++ sums)
    (one_runs_text (λ cpu. listed_run form (bounds cpu) cpu) 0 shown.runs other.runs runs)
    (same_sums form selected counted shown.runs other.runs 0 captures runs)
    ∙ ap (λ (ls : List Line). listing_text form detail selected counted parts
    (record { lines = ls; runs = other.runs }) captures) lines

one_listed : (cut : Option CutFile) (form : Form) (detail : LineDetail) (selected : Selected) (counted : ℕ → Option Counters)
    (parts : List ModelPart) (captures : List (List Page)) (start text other : List ℕ) (one too : Listed)
    → IsListedCut cut form detail selected counted parts captures (Some start) (Some text) false one
    → IsListedCut cut form detail selected counted parts captures (Some start) (Some other) false too
    → one.is_unnamed ≡ too.is_unnamed → (text ≡ other) × SayTheSame one too
one_listed cut form detail selected counted parts captures start text other one too a b unnamed =
    let wrote = a.written.all refl in
    let wrote_too = b.written.all refl in
    let parcels = parcels_of_captures 0 captures in
    let same = one_text form detail selected counted parts captures a.shown b.shown a.is_print b.is_print in
    let lines = one_listing parcels parcels a.shown.lines b.shown.lines (same_itself parcels) a.is_print.lines
    b.is_print.lines in (
      wrote.0 ∙ ap (λ (t : List ℕ). start ++ with_cut cut t) same ∙ sym wrote_too.0,
      record {
        ending = wrote.1 ∙ sym wrote_too.1;
        cut = a.cut_is ∙ ap (cut_count detail selected) lines ∙ sym b.cut_is;
        malformed = a.malformed_are ∙ sym b.malformed_are;
        is_unnamed = unnamed;
      },
    )

one_run : (collecting : Collecting) (files : List File) (start text other : List ℕ) (one too : Listed)
    → ListsFiles collecting files (Some start) (Some text) false one
    → ListsFiles collecting files (Some start) (Some other) false too → (text ≡ other) × SayTheSame one too
one_run collecting files start text other one too a b =
    let name = collecting.buffer.now in
    let overrun = overrun_in name files in
    let form = collecting.form in
    let detail = detail_for collecting files in
    let selected = selected_for collecting files in
    let counted = cpu_counters_in name files in
    let cut = first_cut name 0 files in
    let parts : b.parts ≡ a.parts = one_parts collecting.page name files b.parts a.parts b.parts_are a.parts_are in
    let pages = subst (λ (ps : List ModelPart). AreCpusPages overrun ps 0 b.captures) parts b.pages_are in
    let captures : b.captures ≡ a.captures =
    one_captures overrun a.parts 0 b.captures a.captures pages a.pages_are (b.count ∙ sym a.count) in
    one_listed cut form detail selected counted a.parts a.captures start text other one too a.is_listed
    (subst (λ (ps : List ModelPart).
    IsListedCut cut form detail selected counted ps a.captures (Some start) (Some other) false too)
    parts
    (subst (λ (cs : List (List Page)).
    IsListedCut cut form detail selected counted b.parts cs (Some start) (Some other) false too)
    captures b.is_listed))
    (a.unnamed_is ∙ sym b.unnamed_is)

-- ---- wherever what is given is in memory

same_formats : (one other : Collecting) (files : List File) → AskTheSame one other
    → formats_for one files ≡ formats_for other files
same_formats one other files same = ap (λ (fs : List EventFormat). all_formats files ++ fs) same.formats

same_detail : (one other : Collecting) (files : List File) → AskTheSame one other
    → detail_for one files ≡ detail_for other files
same_detail one other files same =
    ap₂ (λ (d : Detail) (fs : List EventFormat).
    detail_by d fs (lines_for (text_in one.tasks) (all_lines tasks_of files))
    (lines_for (text_in one.symbols) (all_lines symbols_of files)))
    same.detail (same_formats one other files same)
    ∙ ap₂ (λ (tasks symbols : Option (List ℕ)).
    detail_by other.detail (formats_for other files) (lines_for tasks (all_lines tasks_of files))
    (lines_for symbols (all_lines symbols_of files)))
    same.tasks same.symbols

same_marks : (one other : Collecting) (files : List File) → AskTheSame one other
    → marks_for one (formats_for one files) ≡ marks_for other (formats_for other files)
same_marks one other files same = ap₂ marks_by same.pattern (same_formats one other files same)

same_selected : (one other : Collecting) (files : List File) → AskTheSame one other
    → selected_for one files ≡ selected_for other files
same_selected one other files same = ap₂ with_marks (same_marks one other files same) same.selection

listed_too : (one other : Collecting) (files : List File) (contents after : Option (List ℕ)) (failed : Bool)
    (listed : Listed) → AskTheSame one other → ListsFiles other files contents after failed listed
    → ListsFiles one files contents after failed listed
listed_too one other files contents after failed listed same b = record {
  parts = b.parts;
  parts_are = subst (λ (n : ℕ). ArePartsOf n one.buffer.now files b.parts) (sym same.page)
      (subst (λ (name : List ℕ). ArePartsOf other.page name files b.parts) (sym same.buffer) b.parts_are);
  captures = b.captures;
  pages_are = subst (λ (name : List ℕ). AreCpusPages (overrun_in name files) b.parts 0 b.captures) (sym same.buffer)
      b.pages_are;
  count = b.count;
  is_listed = subst (λ (name : List ℕ).
      IsListedCut (first_cut name 0 files) one.form (detail_for one files) (selected_for one files)
      (cpu_counters_in name files) b.parts b.captures contents after failed listed)
      (sym same.buffer)
      (subst (λ (f : Form).
      IsListedCut cut f (detail_for one files) (selected_for one files) counted b.parts b.captures contents after failed
      listed)
      (sym same.form)
      (subst (λ (s : Selected).
      IsListedCut cut other.form (detail_for one files) s counted b.parts b.captures contents after failed listed)
      (sym (same_selected one other files same))
      (subst (λ (d : LineDetail).
      IsListedCut cut other.form d (selected_for other files) counted b.parts b.captures contents after failed listed)
      (sym (same_detail one other files same)) b.is_listed)));
  unnamed_is = b.unnamed_is ∙ ap is_unnamed (sym (same_marks one other files same));
} where
  counted : ℕ → Option Counters
  counted = cpu_counters_in other.buffer.now files

  cut : Option CutFile
  cut = first_cut other.buffer.now 0 files

pub one_output : (collecting same : Collecting) (files : List File) (start text other : List ℕ) (one too : Listed)
    → AskTheSame collecting same → ListsFiles collecting files (Some start) (Some text) false one
    → ListsFiles same files (Some start) (Some other) false too → (text ≡ other) × SayTheSame one too
one_output collecting same files start text other one too asks a b =
    one_run collecting files start text other one too a
    (listed_too collecting same files (Some start) (Some other) false too asks b)
