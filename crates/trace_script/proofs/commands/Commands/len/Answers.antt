use Rattle.std.proofs.Common.{length, sym, ◌∙◌, ap}
use Rattle.trace_script.proofs.KeptLemmas.{length-commands_kept}
use Rattle.trace_script.proofs.commands.Commands.len.Goals as goal

pub returns : goal.returns
returns c =
    c.len.ensures ∙ sym (length-commands_kept c.self.inside.payloads.items 0 0 c.self.inside.lines)
    ∙ ap length c.self.view_is
