use Rattle.std.proofs.Common.{Bool, inl, ap, ◌∙◌}
use Rattle.capture.specs.files.Captures.{texts_held}
use Rattle.collect_command.specs.Runs.{is_missing}
use Rattle.collect_command.proofs.collect.collect_to.Goals as goal

pub returns-in-Ok : goal.returns-in-Ok
returns-in-Ok g c =
    let read = c.in-Ok.ensures.read in
    let kept = c.list_or_tell-listed.ensures.kept in
    inl record {
      files = read.0;
      are_read = read.1;
      told = c.list_or_tell-listed.ensures.listed read.0 read.2;
      others_are = ap (λ others. texts_held others.items) kept.others ∙ read.2.others_are;
      missing_is =
          c.is_missing.ensures
          ∙ ap (λ (found : Bool). is_missing c.args.collecting.now.buffer.now found) (kept.found ∙ read.2.found_is);
    }
