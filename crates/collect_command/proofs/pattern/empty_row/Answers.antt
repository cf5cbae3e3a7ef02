use Rattle.std.proofs.Common.{rules}
use Rattle.collect_command.proofs.PatternRows.{first_row}
use Rattle.collect_command.proofs.pattern.empty_row.Goals as goal

pub returns : goal.returns
returns c = first_row c.args.text.now c.push.new.self.items (search rules)
