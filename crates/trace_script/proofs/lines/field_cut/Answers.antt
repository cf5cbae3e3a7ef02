use Rattle.std.proofs.Common.{◌==◌}
use Rattle.trace_script.proofs.TextParts.{parts_behind, one_part}
use Rattle.trace_script.proofs.lines.field_cut.Goals as goal

pub returns-in-Some-clause-parts : goal.returns-in-Some-clause-parts
returns-in-Some-clause-parts c = parts_behind (λ b. b == 32) c.args.line.now c.in-Some.at c.in-Some.ensures

pub returns-in-None-clause-parts : goal.returns-in-None-clause-parts
returns-in-None-clause-parts c = one_part (λ b. b == 32) c.args.line.now c.in-None.ensures
