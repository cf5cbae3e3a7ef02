use Rattle.std.proofs.Common.{◌≡◌, ℕ, ◌+◌, List, Option, Some, length, sym, ◌∙◌, ap, arith}
use Rattle.std.specs.List.{slice_get}
use Rattle.text_model.specs.Script.{Command}
use Rattle.trace_script.specs.Kept.{part, shown, start_of}
use Rattle.trace_script.proofs.KeptLemmas.{length-commands_kept, command_at, line_within}
use Rattle.trace_script.proofs.commands.Commands.line.Goals as goal

pub line-line-requires : goal.line-line-requires
line-line-requires c =
    omega (
      arith,
      c.requires,
      length-commands_kept c.self.inside.payloads.items 0 0 c.self.inside.lines,
      ap (λ (cs : List (ℕ × Command)). length cs) c.self.view_is,
    )

pub overflow_add-result : goal.overflow_add-result
overflow_add-result c =
    let within =
    line_within 0 0 (length c.self.inside.payloads.items) c.self.inside.lines c.args.index c.line-line.result
    c.self.invariant c.line-line.ensures in
    omega (arith, within.2)

pub returns : goal.returns
returns c =
    let line = c.line-line.result in
    let payloads = c.self.inside.payloads.items in
    let bytes = part payloads (start_of 0 c.self.inside.lines c.args.index) line.end in
    let number : (0 + c.args.index) + line.above ≡ c.args.index + line.above = omega arith in
    sym (ap (λ (cs : List (ℕ × Command)). slice_get cs c.args.index) c.self.view_is)
    ∙ command_at payloads 0 0 c.self.inside.lines c.args.index line c.line-line.ensures
    ∙ ap (λ (n : ℕ). let o : Option (ℕ × Command) = Some (n, shown bytes line) in o) number
    ∙ ap (λ (command : Command). let o : Option (ℕ × Command) = Some (c.args.index + line.above, command) in o)
    (sym c.lent.ensures)
