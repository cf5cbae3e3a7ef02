use Rattle.std.proofs.Common.{refl, arith}
use Rattle.std.proofs.lemmas.Grind.{common_steps}
use Rattle.page_lines.proofs.StatedLosses.{states_counted, states_unknown}
use Rattle.page_lines.proofs.stated.Stated.with.Goals as goal

pub returns-then-loss : goal.returns-then-loss
returns-then-loss c page parcel found =
    states_unknown c.args.self _ c.args.loss parcel page found c.if-loss.true (grind (arith, common_steps)) refl

pub returns : goal.returns
returns c page parcel found =
    states_counted c.args.self _ c.args.loss parcel page found c.if-loss.false refl (grind (arith, common_steps))
