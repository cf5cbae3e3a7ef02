use Rattle.std.proofs.Common.{rules, ◌≡◌, ◌++◌, ℕ, [], Bool, true, false, Option, flat_map, ◌∙◌, ap, ap₂, sym, subst}
use Rattle.std.proofs.Common.{◌+◌, ◌-◌, ◌^◌, min, arith}
use Rattle.std.specs.Prelude.{count_by, fold, if◌then◌else◌, List}
use Rattle.std.specs.Result.{is_ok}
use Rattle.world_model.specs.Printing.{Shown}
use Rattle.capture.specs.Rings.{parcels_of_captures}
use Rattle.capture_text.specs.declared.form.Form.{Form}
use Rattle.capture_text.specs.declared.printer.Printer.{Printer}
use Rattle.capture_text.specs.declared.selection.Selection.{Selection}
use Rattle.capture_text.specs.Selection.{selection_seen}
use Rattle.capture_text.specs.Window.{KnownBound, bound_at, bound_by, listed_bound, noted_of}
use Rattle.capture_text.specs.Listed.{listed_line, is_listed_cut, listed_runs}
use Rattle.capture_text.specs.Printed.{bounds_of}
use Rattle.command_io.specs.Written.{IsTextWritten}
use Rattle.text_values.specs.Putting.{start_of, contents_of, has_failed, HasPut}
use Rattle.collect_command.specs.declared.ending.Listed.{Listed}
use Rattle.collect_command.specs.declared.ending.Ending.{Ending}
use Rattle.collect_command.specs.declared.ending.Ending.TheVariants.{NotWritten}
use Rattle.collect_command.specs.Listings.{bounds_by, all_unknown, all_damaged, all_sums, ending_of, are_all_intact}
use Rattle.collect_command.specs.Listings.{listing_text, IsListedCut, cut_ending, with_cut}
use Rattle.collect_command.proofs.Printing.{walked, walked_form, walked_selection, walked_cut, walked_bound}
use Rattle.collect_command.proofs.Printing.{same_put, same_print, ended_so, with_line}
use Rattle.collect_command.proofs.listing.print_listing.Goals as goal

from_none : (n : ℕ) → 0 + n ≡ n
from_none n = omega arith

pub returns-clause-listed : goal.returns-clause-listed
returns-clause-listed g c detail counted parts captures describes read are =
    let form = c.args.form in
    let selected = selection_seen c.args.selection in
    let printer : Printer = record {
      form = form;
      naming = c.args.naming;
      selection = c.args.selection;
      cut = 0;
      window = c.new-window.result;
    } in
    let out = c.new-out.result in
    let start = start_of out in
    let walk = c.in_ok-walk_lines.ensures.lines in
    let missing = c.put_missing.ensures in
    let shown : Shown = record { lines = walk.0; runs = missing.0 } in
    let lines =
    walked detail walk.0 (printer, out) (c.walk_lines.new.taker, c.walk_lines.new.writer) describes.is_detail walk.2
    start [] c.new-out.ensures.empty in
    let same_form : c.walk_lines.new.taker.form ≡ form =
    walked_form walk.0 (printer, out) (c.walk_lines.new.taker, c.walk_lines.new.writer) walk.2 in
    let same_selection : c.walk_lines.new.taker.selection ≡ c.args.selection =
    walked_selection walk.0 (printer, out) (c.walk_lines.new.taker, c.walk_lines.new.writer) walk.2 in
    let bound : (cpu : ℕ) → bound_at c.walk_lines.new.taker.window cpu ≡ bound_by selected cpu walk.0 = λ cpu.
    walked_bound cpu walk.0 (printer, out) (c.walk_lines.new.taker, c.walk_lines.new.writer) walk.2
    ∙ ap (λ (known : KnownBound). fold (noted_of selected cpu) known walk.0) (c.new-window.ensures cpu) in
    let same_bounds : bounds_of c.walk_lines.new.taker ≡ bounds_by selected walk.0 = λ i cpu.
    listed_bound (selection_seen (same_selection i)) (λ n. bound n i) cpu in
    let cut = walked_cut detail walk.0 (printer, out) (c.walk_lines.new.taker, c.walk_lines.new.writer)
    describes.is_detail walk.2 (omega arith) in
    let bounds = bounds_by selected walk.0 in
    let records = flat_map (listed_line form detail selected) walk.0 in
    let known = records ++ listed_runs form bounds missing.0 in
    let runs : HasPut start known c.put_missing.new.out =
    same_put start c.put_missing.new.out
    (ap₂ (λ (f : Form) (b : ℕ → Option KnownBound). records ++ listed_runs f b missing.0) same_form same_bounds)
    (missing.2 start records lines) in
    let unknown : HasPut start (known ++ all_unknown form bounds 0 captures) c.print_unknown.new.out =
    same_put start c.print_unknown.new.out
    (ap₂ (λ (f : Form) (b : ℕ → Option KnownBound). known ++ all_unknown f b 0 captures) same_form same_bounds)
    (c.print_unknown.ensures parts captures read start known runs) in
    let lost = known ++ all_unknown form bounds 0 captures in
    let damaged : HasPut start (lost ++ all_damaged form bounds parts 0 captures) c.print_damaged.new.out =
    same_put start c.print_damaged.new.out
    (ap₂ (λ (f : Form) (b : ℕ → Option KnownBound). lost ++ all_damaged f b parts 0 captures) same_form same_bounds)
    (c.print_damaged.ensures parts captures read start lost unknown) in
    let summed : HasPut start (listing_text form detail selected counted parts shown captures) c.print_sums.new.out =
    same_put start c.print_sums.new.out
    (ap₂ (λ (f : Form) (s : Selection).
    (lost ++ all_damaged form bounds parts 0 captures)
    ++ all_sums f (selection_seen s) counted missing.0 0 captures) same_form same_selection)
    (c.print_sums.ensures counted parts captures missing.0 read are missing.1 start
    (lost ++ all_damaged form bounds parts 0 captures) damaged) in
    let after = c.finish.new.self in
    let short = c.args.cut in
    let known_text = listing_text form detail selected counted parts shown captures in
    let text = with_cut short known_text in
    let put : HasPut start text c.put.new.self =
    same_put start c.put.new.self
    (ap (λ (line : List ℕ). known_text ++ line) (c.as_slice.ensures.value ∙ c.in_ok-line.ensures)
    ∙ with_line short known_text)
    (c.put.ensures start known_text summed) in
    let all = c.finish.ensures.all start text put in
    let prefix = c.finish.ensures.prefix start text put in
    let whole = cut_ending short (ending_of true (are_all_intact captures)) in
    let end =
    ended_so c.finish.result (has_failed after) whole start.contents (contents_of after) text all prefix
    c.finish.ensures.fault in
    let same = c.in_ok-collector.ensures parts captures read in
    let ending : (if is_ok c.finish.result then whole else NotWritten) ≡ c.ending_with.result =
    ap (λ (w : Bool). if w then whole else NotWritten) (sym c.is_ok-is_written.ensures.value)
    ∙ ap (λ (b : Bool). if c.is_ok-is_written.result then cut_ending short (ending_of true b) else NotWritten)
    (sym (c.are_intact.ensures parts captures read))
    ∙ sym c.ending_with.ensures in
    let said : Listed = record {
      ending = c.ending_with.result;
      cut = c.walk_lines.new.taker.cut;
      malformed = c.args.malformed;
      is_unnamed = false;
    } in
    let listed : IsListedCut short form detail selected counted parts captures start.contents (contents_of after)
    (has_failed after) said =
    record {
      shown = shown;
      is_print =
          same_print c.in_ok-collector.collector (parcels_of_captures 0 captures) shown same
          record { lines = walk.1; runs = missing.1 };
      written =
          subst
          (λ (e : Ending).
          IsTextWritten NotWritten start.contents (contents_of after) (has_failed after) text
          whole e)
          ending end;
      cut_is = cut ∙ ap (λ (n : ℕ). min n (2 ^ 64 - 1)) (from_none (count_by (is_listed_cut detail selected) walk.0));
      malformed_are = describes.malformed_are;
    } in
    let name = c.finish.ensures.writer start _ put ∙ c.new-out.ensures.same_writer in
    search rules
