use Rattle.std.proofs.Common.{◌≡◌, Bool, List, Option, [], ap, ◌∙◌}
use Rattle.std.specs.Option.{option_map}
use Rattle.capture_text.specs.Selection.{selection_seen}
use Rattle.collect_command.specs.Following.{formats_given}
use Rattle.collect_command.specs.Listings.{is_unnamed, with_marks}
use Rattle.collect_command.specs.Paged.{selected_given}
use Rattle.collect_command.specs.Runs.{marks_for, text_in}
use Rattle.collect_command.proofs.Given.{marks_are}
use Rattle.collect_command.proofs.Followed.{texts_given}
use Rattle.collect_command.proofs.PagedGiven.{given_of}
use Rattle.collect_command.proofs.by_page.list_given.Goals as goal

pub returns-clause-listed : goal.returns-clause-listed
returns-clause-listed g c =
    let remaining = g.R.Source.remaining in
    let failed = g.R.Source.failed in
    let collecting = c.args.collecting.now in
    let own = selection_seen collecting.selection in
    let formats = formats_given collecting in
    let contents = g.W.Sink.contents c.args.writer.now in
    let after = g.W.Sink.contents c.print_named.new.writer in
    let broken = g.W.Sink.failed c.print_named.new.writer in
    let nothing = c.nothing_captured-given.ensures in
    let given = c.in_ok-add_given.ensures.given [] [] [] nothing.names nothing.tasks nothing.symbols in
    let said = c.texts_of-texts.ensures in
    let texts =
    texts_given c.texts_of-texts.result _ formats _ _ _ _ said.names said.tasks said.symbols given.names_are
    given.tasks_are given.symbols_are in
    let marks : option_map (λ m. m.now) c.lent_marks-marks.result ≡ marks_for collecting formats =
    c.lent_marks-marks.ensures ∙ c.in_ok-marks.ensures
    ∙ marks_are (text_in collecting.pattern) c.add_given.new.captured.names formats given.names_are in
    let selected : selection_seen c.with_events-selection.result ≡ selected_given collecting =
    c.with_events-selection.ensures ∙ ap (λ (m : Option (List Bool)). with_marks m own) marks in
    given_of remaining failed collecting c.args.sources.items contents after broken c.in_ok-listed.listed
    c.is_unnamed.result _ selected (c.is_unnamed.ensures ∙ ap is_unnamed marks)
    (c.in_ok-listed.ensures.listed formats _ _ texts)
