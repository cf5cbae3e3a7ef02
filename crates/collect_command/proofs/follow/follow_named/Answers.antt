use Rattle.std.proofs.Common.{[], refl}
use Rattle.capture_text.specs.Selection.{selection_seen}
use Rattle.collect_command.proofs.follow.follow_named.Goals as goal

pub follow_pages-requires-clause-printed : goal.follow_pages-requires-clause-printed
follow_pages-requires-clause-printed g c =
    let some = c.requires.detail in (
      c.args.collecting.now.form,
      some.0,
      selection_seen c.args.selection,
      [],
      record {
        form_is = refl;
        detail_is = some.1;
        selected_is = refl;
        bounds_are = c.new.ensures;
        cut_is = refl;
      },
    )
