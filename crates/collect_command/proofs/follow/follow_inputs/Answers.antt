use Rattle.capture_text.specs.Printing.{named}
use Rattle.collect_command.proofs.follow.follow_inputs.Goals as goal

pub follow_named-requires-in-Names-clause-detail : goal.follow_named-requires-in-Names-clause-detail
follow_named-requires-in-Names-clause-detail g c =
    let (formats, tasks, symbols, texts) = c.requires.texts in
    (named formats tasks, (texts.names_are, texts.tasks_are))
