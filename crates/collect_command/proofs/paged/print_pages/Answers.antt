use Rattle.std.proofs.Common.{rules, ◌≡◌, ◌++◌, ℕ, List, [], Bool, true, false, Option, None, flat_map}
use Rattle.std.proofs.Common.{map, inl, inr, refl, ◌∙◌, ap, ap₂, sym}
use Rattle.std.proofs.Common.{subst, ◌+◌, ◌-◌, ◌^◌, min, arith}
use Rattle.std.specs.Prelude.{count_by, fold}
use Rattle.std.specs.Result.{is_ok}
use Rattle.std.specs.List.{AllByRecursion}
use Rattle.trace_model.specs.declared.limits.TheConstants.{MAX_CPUS}
use Rattle.trace_model.specs.Listing.{Line as ModelLine, IsListing}
use Rattle.world_model.specs.Printing.{Shown}
use Rattle.trace_dat.specs.declared.kernel_texts.counters.Counters.{Counters}
use Rattle.time_merge.specs.Merging.{merged_lists}
use Rattle.capture.specs.Rings.{parcels_of_captures}
use Rattle.capture_text.specs.declared.form.Form.{Form}
use Rattle.capture_text.specs.declared.printer.Printer.{Printer}
use Rattle.capture_text.specs.Selection.{selection_seen}
use Rattle.capture_text.specs.Window.{KnownBound, bound_at, bound_by, listed_bound, noted_of}
use Rattle.capture_text.specs.Listed.{listed_line, is_listed_cut}
use Rattle.capture_text.specs.Printed.{bounds_of}
use Rattle.command_io.specs.Written.{IsTextWritten}
use Rattle.text_values.specs.Putting.{start_of, contents_of, has_failed, HasPut}
use Rattle.page_lines.specs.Sources.{Reading}
use Rattle.page_lines.specs.Tallies.{runs_from}
use Rattle.page_lines.proofs.Listing.{lines_listed, runs_listed}
use Rattle.collect_command.specs.declared.ending.Listed.{Listed}
use Rattle.collect_command.specs.declared.ending.Ending.{Ending}
use Rattle.collect_command.specs.declared.ending.Ending.TheVariants.{NotWritten}
use Rattle.collect_command.specs.Listings.{bounds_by, ending_of, are_all_intact}
use Rattle.collect_command.specs.Listings.{listing_text, IsListed}
use Rattle.collect_command.specs.Paged.{AreRawOf, CpusRise, HasEnded, captures_of, own_of, part_of}
use Rattle.collect_command.specs.Paged.{ListsPart, first_halt, input_of, raw_losses}
use Rattle.collect_command.proofs.PagedGiven.{partly_listed}
use Rattle.collect_command.proofs.PagedParts.{none_first, walked_by}
use Rattle.collect_command.proofs.PagedWhole.{whole_of, cpus_rise}
use Rattle.collect_command.proofs.RawTexts.{intact_same, raw_text}
use Rattle.collect_command.proofs.Printing.{walked, walked_form, walked_selection, walked_cut, walked_bound}
use Rattle.collect_command.proofs.Printing.{PrintsLine, same_put, ended}
use Rattle.collect_command.proofs.paged.print_pages.Goals as goal

from_none : (n : ℕ) → 0 + n ≡ n
from_none n = omega arith

pub returns-clause-listed : goal.returns-clause-listed
returns-clause-listed g c detail describes = inl (λ inputs opened.
    let remaining = g.R.Source.remaining in
    let failed = g.R.Source.failed in
    let size = c.args.size in
    let form = c.args.form in
    let selected = selection_seen c.args.selection in
    let printer : Printer = record {
      form = form;
      naming = c.args.naming;
      selection = c.args.selection;
      cut = 0;
      window = c.new-2.result;
    } in
    let out = c.new-out.result in
    let start = start_of out in
    let news = c.in_ok-walked.walked.sources.items in
    let walk = c.in_ok-walked.ensures.whole c.if-not-walked.false in
    let going : AllByRecursion (λ (s : Reading g.row.R.Denot). s.halt ≡ None) c.args.sources.items =
    subst (λ (all : List (Reading g.row.R.Denot)). AllByRecursion (λ (s : Reading g.row.R.Denot). s.halt ≡ None) all)
    c.deref.ensures.value (c.can_go_on.ensures c.if-not-can_go_on.false) in
    let over : AllByRecursion (HasEnded remaining failed) news =
    subst (λ (all : List (Reading g.row.R.Denot)). AllByRecursion (HasEnded remaining failed) all)
    c.as_slice-sources.ensures.value (c.have_ended.ensures c.if-not-have_ended.false) in
    let rises : CpusRise 0 news =
    subst (λ (all : List (Reading g.row.R.Denot)). CpusRise 0 all) c.as_slice-sources.ensures.value
    (c.are_rising.ensures c.if-not-are_rising.false) in
    let whole =
    whole_of remaining failed size c.requires.size inputs c.args.sources.items walk.lists news opened going walk.pass
    walk.ended over in
    let raws = whole.raws in
    let rise = cpus_rise 0 news raws whole.raw_of rises in
    let captures = captures_of raws in
    let lines : List ModelLine = merged_lists walk.lists in
    let shown : Shown = record { lines = lines; runs = map (runs_from 0 0) captures } in
    let counted : ℕ → Option Counters = λ cpu. None in
    let parts = map (part_of size) raws in
    let put_lines =
    walked detail lines (printer, out) (c.walk_sources.new.taker, c.walk_sources.new.writer) describes.is_detail
    walk.taken start [] c.new-out.ensures.empty in
    let same_form : c.walk_sources.new.taker.form ≡ form =
    walked_form lines (printer, out) (c.walk_sources.new.taker, c.walk_sources.new.writer) walk.taken in
    let same_selection : c.walk_sources.new.taker.selection ≡ c.args.selection =
    walked_selection lines (printer, out) (c.walk_sources.new.taker, c.walk_sources.new.writer) walk.taken in
    let bound : (cpu : ℕ) → bound_at c.walk_sources.new.taker.window cpu ≡ bound_by selected cpu lines = λ cpu.
    walked_bound cpu lines (printer, out) (c.walk_sources.new.taker, c.walk_sources.new.writer) walk.taken
    ∙ ap (λ (known : KnownBound). fold (noted_of selected cpu) known lines) (c.new-2.ensures cpu) in
    let same_bounds : bounds_of c.walk_sources.new.taker ≡ bounds_by selected lines = λ i cpu.
    listed_bound (selection_seen (same_selection i)) (λ n. bound n i) cpu in
    let cut = walked_cut detail lines (printer, out) (c.walk_sources.new.taker, c.walk_sources.new.writer)
    describes.is_detail walk.taken (omega arith) in
    let bounds = bounds_by selected lines in
    let records = flat_map (listed_line form detail selected) lines in
    let raw_of : AreRawOf c.as_slice-sources.result.now raws =
    subst (λ (all : List (Reading g.row.R.Denot)). AreRawOf all raws) (sym c.as_slice-sources.ensures.value)
    whole.raw_of in
    let text = listing_text form detail selected counted parts shown captures in
    let same_text : records ++ raw_losses form bounds size raws ≡ text =
    raw_text form detail selected size raws rise lines in
    let losses : HasPut start text c.print_losses.new.out =
    same_put start c.print_losses.new.out
    (ap₂ (λ (f : Form) (b : ℕ → Option KnownBound). records ++ raw_losses f b size raws) same_form same_bounds
    ∙ same_text)
    (c.print_losses.ensures raws raw_of start records put_lines) in
    let after = c.finish.new.self in
    let all = c.finish.ensures.all start text losses in
    let prefix = c.finish.ensures.prefix start text losses in
    let end =
    ended c.finish.result (has_failed after) (are_all_intact captures) start.contents (contents_of after) text all
    prefix c.finish.ensures.fault in
    let intact : c.are_intact.result ≡ are_all_intact captures =
    c.are_intact.ensures raws raw_of ∙ sym (intact_same raws rise) in
    let ending : ending_of (is_ok c.finish.result) (are_all_intact captures) ≡ c.ending_of.result =
    ap (λ (w : Bool). ending_of w (are_all_intact captures)) (sym c.is_ok-is_written.ensures.value)
    ∙ ap (ending_of c.is_ok-is_written.result) (sym intact)
    ∙ sym c.ending_of.ensures in
    let said : Listed = record {
      ending = c.ending_of.result;
      cut = c.walk_sources.new.taker.cut;
      malformed = c.args.malformed;
      is_unnamed = false;
    } in
    let listing : IsListing (parcels_of_captures 0 captures) lines =
    subst (λ (lists : List (List ModelLine)). IsListing (parcels_of_captures 0 captures) (merged_lists lists))
    (sym whole.lists_are) (lines_listed MAX_CPUS (map own_of raws) rise whole.none_falls) in
    let listed : IsListed form detail selected counted parts captures start.contents (contents_of after)
    (has_failed after) said =
    record {
      shown = shown;
      is_print = record { lines = listing; runs = runs_listed captures };
      written =
          subst
          (λ (e : Ending).
          IsTextWritten NotWritten start.contents (contents_of after) (has_failed after) text
          (ending_of true (are_all_intact captures)) e)
          ending end;
      cut_is = cut
          ∙ ap (λ (n : ℕ). min n (2 ^ 64 - 1)) (from_none (count_by (is_listed_cut detail selected) lines));
      malformed_are = describes.malformed_are;
    } in
    let name = c.finish.ensures.writer start _ losses ∙ c.new-out.ensures.same_writer in
    record {
      new = map input_of news;
      raws = raws;
      read = whole.read;
      rise = rise;
      are_raw = whole.are_raw;
      are_plain = whole.are_plain;
      is_listed = search rules;
    })

-- a source couldn't be opened
pub returns-then-not-can_go_on-clause-listed : goal.returns-then-not-can_go_on-clause-listed
unfolding none_first
returns-then-not-can_go_on-clause-listed g c detail describes =
    let remaining = g.R.Source.remaining in
    let sources = c.args.sources.items in
    let start = start_of c.new-out.result in
    let empty = c.new-out.ensures.empty in
    let after = c.end_early-ending.new.out in
    let halts : c.first_halt.result ≡ first_halt 0 sources =
    c.first_halt.ensures ∙ ap (first_halt 0) c.deref-then-not-can_go_on.ensures.value in
    let name = c.end_early-ending.ensures.writer start [] empty ∙ c.new-out.ensures.same_writer in
    let part : ListsPart remaining c.args.form detail (selection_seen c.args.selection) sources start.contents
    (contents_of after) (has_failed after) c.nothing.result =
    partly_listed remaining c.args.form detail (selection_seen c.args.selection) sources sources _ _ _ c.nothing.result
    c.end_early-ending.result c.first_halt.result [] (none_first remaining sources) (inl refl) c.nothing.ensures.ending
    halts (c.end_early-ending.ensures.written start [] empty) in
    inr (search rules)

-- a source couldn't go on, or isn't as it has to be
pub returns-then-not-walked-clause-listed : goal.returns-then-not-walked-clause-listed
returns-then-not-walked-clause-listed g c detail describes =
    let remaining = g.R.Source.remaining in
    let form = c.args.form in
    let selected = selection_seen c.args.selection in
    let printer : Printer = record {
      form = form;
      naming = c.args.naming;
      selection = c.args.selection;
      cut = 0;
      window = c.new-2.result;
    } in
    let sources = c.args.sources.items in
    let out = c.new-out.result in
    let start = start_of out in
    let news = c.in_ok-walked.walked.sources.items in
    let walk =
    walked_by remaining PrintsLine sources (printer, out) news (c.walk_sources.new.taker, c.walk_sources.new.writer)
    c.in_ok-walked.walked.is_whole _ refl c.in_ok-walked.ensures.whole c.in_ok-walked.ensures.part in
    let put =
    walked detail walk.front (printer, out) (c.walk_sources.new.taker, c.walk_sources.new.writer) describes.is_detail
    walk.taken start [] c.new-out.ensures.empty in
    let after = c.end_early-ending-then-not-walked.new.out in
    let halts : c.first_halt-then-not-walked.result ≡ first_halt 0 news =
    c.first_halt-then-not-walked.ensures ∙ ap (first_halt 0) c.as_slice-sources.ensures.value in
    let name = c.end_early-ending-then-not-walked.ensures.writer start _ put ∙ c.new-out.ensures.same_writer in
    let part : ListsPart remaining form detail selected sources start.contents (contents_of after) (has_failed after)
    c.nothing-then-not-walked.result =
    partly_listed remaining form detail selected sources news _ _ _ c.nothing-then-not-walked.result c.end_early-ending-then-not-walked.result
    c.first_halt-then-not-walked.result walk.front walk.goes walk.are_left c.nothing-then-not-walked.ensures.ending halts
    (c.end_early-ending-then-not-walked.ensures.written start _ put) in
    inr (search rules)
