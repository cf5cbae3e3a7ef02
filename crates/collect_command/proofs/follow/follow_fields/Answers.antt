use Rattle.std.proofs.Common.{true, refl, ap, ◌∙◌}
use Rattle.event_fields.specs.Malformed.{malformed_events}
use Rattle.capture_text.specs.Printing.{fielded}
use Rattle.collect_command.proofs.follow.follow_fields.Goals as goal

pub follow_named-requires-clause-detail : goal.follow_named-requires-clause-detail
follow_named-requires-clause-detail g c =
    let (formats, tasks, symbols, texts) = c.requires.texts in (
      fielded formats (record { tasks = tasks; tables = true; symbols = symbols }),
      (texts.names_are, record { tasks = texts.tasks_are; tables = refl; symbols = texts.symbols_are }),
    )

pub returns-clause-followed : goal.returns-clause-followed
returns-clause-followed g c formats tasks symbols texts =
    c.follow_named.ensures (fielded formats (record { tasks = tasks; tables = true; symbols = symbols }))
    (record {
      is_detail = (
        texts.names_are,
        record { tasks = texts.tasks_are; tables = refl; symbols = texts.symbols_are },
      );
      malformed_are = c.in_ok-malformed.ensures ∙ ap malformed_events (λ i id. texts.names_are id i);
    })
