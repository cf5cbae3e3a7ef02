use Rattle.run_command.proofs.RunHeadlines.{headline_written}
use Rattle.run_command.proofs.running.run_to.Goals as goal

pub returns-clause-headline : goal.returns-clause-headline
returns-clause-headline g c = λ is. headline_written _ _ c.carry_out.result c.carry_out.ensures is
