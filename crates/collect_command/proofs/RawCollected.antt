-- Raw files that were listed while they were read are listed as `collect` lists them.
use Rattle.std.proofs.Common.{◌≡◌, ◌∙◌, ℕ, Bool, false, List, [], ◌++◌, map, Option, None, sym, ap, subst, inl, inr}
use Rattle.trace_dat.specs.Contents.{EventFormat}
use Rattle.trace_dat.specs.declared.kernel_texts.counters.Counters.{Counters}
use Rattle.capture.specs.declared.files.captured.CutFile.{CutFile}
use Rattle.capture.specs.declared.files.captured.Input.{Input}
use Rattle.capture.specs.files.Captures.{texts_held}
use Rattle.capture.specs.files.Files.{ArePartsOf, all_others, first_cut, is_in_any}
use Rattle.capture.specs.files.Losses.{cpu_counters_in, overrun_by, overrun_in}
use Rattle.capture_text.specs.Printing.{Detail as LineDetail}
use Rattle.capture_text.specs.Selection.{Selected, selection_seen}
use Rattle.collect_command.specs.declared.collect.Collecting.{Collecting}
use Rattle.collect_command.specs.declared.ending.Collected.{Collected}
use Rattle.collect_command.specs.Following.{formats_given}
use Rattle.collect_command.specs.Gathered.{AreCpusPages}
use Rattle.collect_command.specs.Listings.{IsListedCut, detail_by, is_unnamed, with_marks}
use Rattle.collect_command.specs.Runs.{CollectsAll, detail_for, is_missing, lines_for, marks_for, selected_for, text_in}
use Rattle.page_lines.specs.Sources.{Reading}
use Rattle.collect_command.specs.Paged.{CollectsPages, ListsPagesSo, ListsRawSo, captures_of, file_of, part_of}
use Rattle.collect_command.proofs.PagedWhole.{plain_counters, plain_formats, plain_others, plain_parts}
use Rattle.collect_command.proofs.PagedWhole.{plain_symbols, plain_tasks, plain_cuts}
use Rattle.collect_command.proofs.RawTexts.{captures_count, pages_same}

pub raw_collects : {R : Type 0} (remaining : R → Option (List ℕ)) (has_failed : R → Bool) (collecting : Collecting)
    (inputs : List (Input R)) (contents after : Option (List ℕ)) (failed : Bool) (collected : Collected)
    → collecting.buffer.now ≡ []
    → ListsRawSo remaining has_failed collecting inputs contents after failed collected.listed
    → collected.others.items ≡ [] → collected.is_missing ≡ false
    → (new : List (Input R)) × CollectsAll remaining has_failed collecting inputs new contents after failed collected
raw_collects remaining has_failed collecting inputs contents after failed collected main is none not_missing =
    let lists = is.lists in
    let raws = lists.raws in
    let page = collecting.page in
    let name = collecting.buffer.now in
    let files = map file_of raws in
    let parts = map (part_of page) raws in
    let captures = captures_of raws in
    let given = formats_given collecting in
    let formats = plain_formats page raws lists.are_plain in
    let tasks = plain_tasks page raws lists.are_plain in
    let symbols = plain_symbols page raws lists.are_plain in
    let counters : (cpu : ℕ) → cpu_counters_in name files cpu ≡ None = λ cpu.
    ap (λ (n : List ℕ). cpu_counters_in n files cpu) main ∙ plain_counters page raws lists.are_plain cpu in
    let same_detail : detail_by collecting.detail given (lines_for (text_in collecting.tasks) [])
    (lines_for (text_in collecting.symbols) []) ≡ detail_for collecting files = λ i.
    detail_by collecting.detail (sym formats i ++ given) (lines_for (text_in collecting.tasks) (sym tasks i))
    (lines_for (text_in collecting.symbols) (sym symbols i)) in
    let same_selected : with_marks (marks_for collecting given) (selection_seen collecting.selection)
    ≡ selected_for collecting files = λ i.
    with_marks (marks_for collecting (sym formats i ++ given)) (selection_seen collecting.selection) in
    let same_counted : (λ (cpu : ℕ). None) ≡ cpu_counters_in name files = λ i cpu. sym (counters cpu) i in
    let same_cut : None ≡ first_cut name 0 files = sym (ap (λ (n : List ℕ). first_cut n 0 files) main
    ∙ plain_cuts page 0 raws lists.are_plain) in
    let over : (λ (cpu : ℕ). None) ≡ overrun_in name files = λ i cpu. overrun_by (sym (counters cpu) i) in (
      lists.new,
      record {
        files = files;
        are_read = lists.read;
        told = inl (record {
          parts = parts;
          parts_are = subst (λ (n : List ℕ). ArePartsOf page n files parts) (sym main)
              (plain_parts page raws lists.are_plain);
          captures = captures;
          pages_are = subst (λ (o : ℕ → Option ℕ). AreCpusPages o parts 0 captures) over
              (pages_same page raws lists.rise lists.are_raw);
          count = captures_count raws;
          is_listed =
              subst
              (λ (x : LineDetail × Selected × (ℕ → Option Counters) × Option CutFile).
              IsListedCut x.3 collecting.form x.0 x.1 x.2 parts captures contents after failed collected.listed)
              (λ i. (same_detail i, same_selected i, same_counted i, same_cut i)) lists.is_listed;
          unnamed_is = is.unnamed_is
              ∙ ap (λ (f : List EventFormat). is_unnamed (marks_for collecting (f ++ given))) (sym formats);
        });
        others_are = ap texts_held none ∙ sym (plain_others page raws lists.are_plain)
            ∙ ap (λ (n : List ℕ). all_others n files) (sym main);
        missing_is = not_missing
            ∙ ap (λ (n : List ℕ). is_missing n (is_in_any n files)) (sym main);
      },
    )

-- a run over sources
pub pages_collected : {R : Type 0} (remaining : R → Option (List ℕ)) (has_failed : R → Bool) (collecting : Collecting)
    (sources : List (Reading R)) (contents after : Option (List ℕ)) (failed : Bool) (collected : Collected)
    → collecting.buffer.now ≡ []
    → ListsPagesSo remaining has_failed collecting sources contents after failed collected.listed
    → collected.others.items ≡ [] → collected.is_missing ≡ false
    → CollectsPages remaining has_failed collecting sources contents after failed collected
pages_collected remaining has_failed collecting sources contents after failed collected main (inl whole) none missing =
    inl (λ inputs opened.
    raw_collects remaining has_failed collecting inputs contents after failed collected main (whole inputs opened) none
    missing)
pages_collected remaining has_failed collecting sources contents after failed collected main (inr part) none missing =
    inr part
