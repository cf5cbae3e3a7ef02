use Rattle.std.proofs.Common.{refl}
use Rattle.std.specs.Fmt.{digits}
use Rattle.command_io.proofs.laws.constants_are.Goals as goal

pub returns-clause-input_too_long : goal.returns-clause-input_too_long
unfolding digits
returns-clause-input_too_long c = refl
