use Rattle.std.proofs.Common.{◌≡◌, Bool, List, Option, sym, subst, ap, ◌∙◌}
use Rattle.std.specs.Option.{option_map}
use Rattle.kernel_names.specs.declared.symbol_names.SymbolNames.{SymbolNames}
use Rattle.kernel_names.specs.declared.tasks.TaskNames.{TaskNames}
use Rattle.trace_dat.specs.declared.kernel_texts.names.EventNames.{EventNames}
use Rattle.trace_dat.specs.kernel_texts.Names.{HasEvents}
use Rattle.capture.specs.declared.files.captured.CpuCapture.{CpuCapture}
use Rattle.capture_text.specs.Printed.{AreTasks, AreSymbols}
use Rattle.capture_text.specs.Selection.{Selected, selection_seen}
use Rattle.collect_command.specs.declared.ending.Listed.{Listed}
use Rattle.collect_command.specs.Gathered.{AreReadFrom}
use Rattle.collect_command.specs.Listings.{AreCounted, AreTexts, IsListedCut, detail_by, is_unnamed, with_marks}
use Rattle.collect_command.specs.Runs.{marks_for, text_in}
use Rattle.collect_command.proofs.Given.{marks_are}
use Rattle.collect_command.proofs.collect.list_named.Goals as goal

pub returns-clause-listed : goal.returns-clause-listed
returns-clause-listed g c formats tasks symbols counted parts captures given read are =
    let collecting = c.args.collecting.now in
    let own = selection_seen collecting.selection in
    let said = c.texts_of-texts.ensures in
    let texts : AreTexts c.texts_of-texts.result formats tasks symbols = record {
      names_are = subst (λ (names : EventNames). HasEvents names formats) (sym said.names) given.names_are;
      tasks_are = subst (λ (t : Option TaskNames). AreTasks t tasks) (sym said.tasks) given.tasks_are;
      symbols_are = subst (λ (s : Option SymbolNames). AreSymbols s symbols) (sym said.symbols) given.symbols_are;
    } in
    let marks : option_map (λ m. m.now) c.lent_marks-marks.result ≡ marks_for collecting formats =
    c.lent_marks-marks.ensures ∙ c.in_ok-marks.ensures
    ∙ marks_are (text_in collecting.pattern) c.args.captured.now.names formats given.names_are in
    let listed =
    c.in_ok-listed.ensures.listed formats tasks symbols counted parts captures texts
    (subst (λ (cpus : List CpuCapture). AreReadFrom parts 0 cpus captures) (sym c.deref.ensures.value) read)
    (subst (λ (cpus : List CpuCapture). AreCounted counted 0 cpus) (sym c.deref.ensures.value) are) in
    let all : Listed = record c.in_ok-listed.listed { is_unnamed = c.is_unnamed.result } in
    record {
      is_listed = subst (λ (s : Selected).
          IsListedCut c.args.captured.now.cut collecting.form (detail_by collecting.detail formats tasks symbols) s counted parts captures
          (g.W.Sink.contents c.args.writer.now) (g.W.Sink.contents c.print_captured.new.writer)
          (g.W.Sink.failed c.print_captured.new.writer) all)
          (c.with_events-selection.ensures ∙ ap (λ (m : Option (List Bool)). with_marks m own) marks)
          (record {
            shown = listed.shown;
            is_print = listed.is_print;
            written = listed.written;
            cut_is = listed.cut_is;
            malformed_are = listed.malformed_are;
          });
      unnamed_is = c.is_unnamed.ensures ∙ ap is_unnamed marks;
    }
