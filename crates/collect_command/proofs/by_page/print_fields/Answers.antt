use Rattle.std.proofs.Common.{true, refl, ap, ◌∙◌}
use Rattle.event_fields.specs.Malformed.{malformed_events}
use Rattle.capture_text.specs.Printing.{fielded}
use Rattle.collect_command.proofs.by_page.print_fields.Goals as goal

pub returns-clause-listed : goal.returns-clause-listed
returns-clause-listed g c formats tasks symbols texts =
    c.print_pages.ensures.listed (fielded formats (record { tasks = tasks; tables = true; symbols = symbols }))
    (record {
      is_detail = (
        texts.names_are,
        record { tasks = texts.tasks_are; tables = refl; symbols = texts.symbols_are },
      );
      malformed_are = c.in_ok-malformed.ensures ∙ ap malformed_events (λ i id. texts.names_are id i);
    })
