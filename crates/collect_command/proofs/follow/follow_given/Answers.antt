use Rattle.std.proofs.Common.{◌≡◌, Bool, List, Option, [], subst, ap, ◌∙◌}
use Rattle.std.specs.Option.{option_map}
use Rattle.capture_text.specs.Selection.{Selected, selection_seen}
use Rattle.collect_command.specs.declared.follow.LiveCollected.{LiveCollected}
use Rattle.collect_command.specs.Following.{IsFollowed, formats_given}
use Rattle.collect_command.specs.Listings.{detail_by, is_unnamed, with_marks}
use Rattle.collect_command.specs.Runs.{marks_for, lines_for, text_in}
use Rattle.collect_command.proofs.Given.{marks_are}
use Rattle.collect_command.proofs.Followed.{texts_given, with_unnamed}
use Rattle.collect_command.proofs.follow.follow_given.Goals as goal

pub follow_inputs-requires-clause-texts : goal.follow_inputs-requires-clause-texts
follow_inputs-requires-clause-texts g c =
    let collecting = c.args.collecting.now in
    let nothing = c.nothing_captured-given.ensures in
    let given = c.in_ok-add_given.ensures.given [] [] [] nothing.names nothing.tasks nothing.symbols in
    let said = c.texts_of-texts.ensures in (
      formats_given collecting,
      lines_for (text_in collecting.tasks) [],
      lines_for (text_in collecting.symbols) [],
      texts_given c.texts_of-texts.result _ (formats_given collecting) _ _ _ _ said.names said.tasks said.symbols
          given.names_are given.tasks_are given.symbols_are,
    )

pub returns-clause-followed : goal.returns-clause-followed
returns-clause-followed g c =
    let collecting = c.args.collecting.now in
    let own = selection_seen collecting.selection in
    let formats = formats_given collecting in
    let nothing = c.nothing_captured-given.ensures in
    let given = c.in_ok-add_given.ensures.given [] [] [] nothing.names nothing.tasks nothing.symbols in
    let said = c.texts_of-texts.ensures in
    let texts =
    texts_given c.texts_of-texts.result _ formats _ _ _ _ said.names said.tasks said.symbols given.names_are
    given.tasks_are given.symbols_are in
    let marks : option_map (λ m. m.now) c.lent_marks-marks.result ≡ marks_for collecting formats =
    c.lent_marks-marks.ensures ∙ c.in_ok-marks.ensures
    ∙ marks_are (text_in collecting.pattern) c.add_given.new.captured.names formats given.names_are in
    let all : LiveCollected = record {
      listed = record c.in_ok-collected.collected.listed { is_unnamed = c.is_unnamed-collected.result };
      late = c.in_ok-collected.collected.late;
    } in
    record {
      followed = subst (λ (s : Selected).
          IsFollowed g.S.Happenings.gives c.args.cpus.now collecting.page collecting.form
          (detail_by collecting.detail formats (lines_for (text_in collecting.tasks) [])
          (lines_for (text_in collecting.symbols) [])) s c.args.happenings.now c.follow_inputs.new.happenings
          (g.W.Sink.contents c.args.writer.now) (g.W.Sink.contents c.follow_inputs.new.writer)
          (g.W.Sink.failed c.follow_inputs.new.writer) all)
          (c.with_events-selection.ensures ∙ ap (λ (m : Option (List Bool)). with_marks m own) marks)
          (with_unnamed c.is_unnamed-collected.result c.in_ok-collected.collected
          (c.in_ok-collected.ensures.followed formats _ _ texts));
      unnamed_is = c.is_unnamed-collected.ensures ∙ ap is_unnamed marks;
    }
