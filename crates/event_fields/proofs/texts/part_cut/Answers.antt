use Rattle.std.proofs.Common.{◌==◌}
use Rattle.event_fields.proofs.Parts.{parts_after, one_part}
use Rattle.event_fields.proofs.texts.part_cut.Goals as goal

pub returns-in-Some-clause-parts : goal.returns-in-Some-clause-parts
returns-in-Some-clause-parts c =
    parts_after (λ b. b == c.args.byte) c.args.text.now c.in-Some.at c.in-Some.ensures.place

pub returns-in-None-clause-parts : goal.returns-in-None-clause-parts
returns-in-None-clause-parts c = one_part (λ b. b == c.args.byte) c.args.text.now c.in-None.ensures.place
