use Rattle.std.proofs.Common.{◌≡◌, Option, Vec, Global, ap, sym, subst, ◌∙◌}
use Rattle.std.proofs.lemmas.Result.{IfOk-weaker}
use Rattle.capture.specs.declared.files.captured.CpuCapture.{CpuCapture}
use Rattle.capture.specs.declared.files.captured.CutFile.{CutFile}
use Rattle.capture.specs.declared.files.captured.Wanted.{Wanted}
use Rattle.capture.specs.files.Files.{all_formats, all_lines, if_wanted, symbols_of, tasks_of}
use Rattle.capture.specs.files.Losses.{cpu_counters_in}
use Rattle.capture_text.specs.Printed.{AreTasks, AreSymbols}
use Rattle.collect_command.specs.Gathered.{AreReadFrom}
use Rattle.collect_command.specs.Listings.{AreCounted, IsListedCut}
use Rattle.collect_command.specs.Runs.{AreGiven, detail_for, selected_for, formats_for, kept_if, lines_for, text_in}
use Rattle.collect_command.proofs.Given.{lines_asked}
use Rattle.collect_command.proofs.PagesOfAll.{pages_captured}
use Rattle.collect_command.proofs.collect.list_captured.Goals as goal

pub list_named-requires-clause-read : goal.list_named-requires-clause-read
list_named-requires-clause-read g c =
    let (files, captured) = c.requires.read in
    let all = pages_captured (cpu_counters_in c.args.collecting.now.buffer.now files) captured.parts
    c.args.captured.now.cpus.items captured.cpus_are in
    let read = subst (λ (cpus : Vec CpuCapture Global). AreReadFrom captured.parts 0 cpus.items all.captures)
    (sym c.add_given.ensures.kept.cpus) all.read in
    (captured.parts, all.captures, read)

pub returns-clause-listed : goal.returns-clause-listed
returns-clause-listed g c files captured =
    let collecting = c.args.collecting.now in
    let new = c.add_given.new.captured in
    let counted = cpu_counters_in collecting.buffer.now files in
    let parts = captured.parts in
    let all = pages_captured counted parts c.args.captured.now.cpus.items captured.cpus_are in
    let cpus = sym c.add_given.ensures.kept.cpus in
    let tasks = all_lines tasks_of files in
    let symbols = all_lines symbols_of files in
    let known =
    c.in_ok-add_given.ensures.given (all_formats files) _ _ captured.names_are captured.tasks_are
    captured.symbols_are in
    let tasks_are : lines_for (text_in collecting.tasks) (if_wanted c.args.captured.now.wanted.tasks tasks)
    ≡ lines_for (text_in collecting.tasks) tasks =
    ap (λ (wanted : Wanted). lines_for (text_in collecting.tasks) (if_wanted wanted.tasks tasks)) c.requires.wanted
    ∙ lines_asked collecting.tasks tasks in
    let symbols_are : lines_for (text_in collecting.symbols) (if_wanted c.args.captured.now.wanted.symbols symbols)
    ≡ lines_for (text_in collecting.symbols) symbols =
    ap (λ (wanted : Wanted). lines_for (text_in collecting.symbols) (if_wanted wanted.symbols symbols))
    c.requires.wanted
    ∙ lines_asked collecting.symbols symbols in
    let given : AreGiven collecting new (formats_for collecting files) (lines_for (text_in collecting.tasks) tasks)
    (lines_for (text_in collecting.symbols) symbols) = record {
      names_are = known.names_are;
      tasks_are = subst (AreTasks (kept_if collecting.tasks new.tasks)) tasks_are known.tasks_are;
      symbols_are = subst (AreSymbols (kept_if collecting.symbols new.symbols)) symbols_are known.symbols_are;
    } in
    let read = subst (λ (found : Vec CpuCapture Global). AreReadFrom parts 0 found.items all.captures) cpus all.read in
    let are = subst (λ (found : Vec CpuCapture Global). AreCounted counted 0 found.items) cpus all.counters_are in
    IfOk-weaker c.list_named.result _ _ (λ listed is. record {
      parts = parts;
      parts_are = captured.parts_are;
      captures = all.captures;
      pages_are = all.pages_are;
      count = all.count ∙ captured.cpus_are.count;
      is_listed = subst (λ (cut : Option CutFile).
          IsListedCut cut collecting.form (detail_for collecting files) (selected_for collecting files) counted parts
          all.captures (g.W.Sink.contents c.args.writer.now) (g.W.Sink.contents c.list_named.new.writer)
          (g.W.Sink.failed c.list_named.new.writer) listed)
          (c.add_given.ensures.kept.cut ∙ captured.cut_is) is.is_listed;
      unnamed_is = is.unnamed_is;
    }) (c.list_named.ensures.listed (formats_for collecting files) _ _ counted parts all.captures given read are)
