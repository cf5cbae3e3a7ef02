use Rattle.command_line.proofs.ListParts.{cut_part, whole_part}
use Rattle.command_line.proofs.lists.first_part.Goals as goal

pub returns-in-Some-clause-parts : goal.returns-in-Some-clause-parts
returns-in-Some-clause-parts c =
    let split = c.in-Some.ensures.cut in
    cut_part c.args.list.now c.in-Some.part.now c.in-Some.rest.now split.0 split.1 split.2 split.3

pub returns-in-None-clause-parts : goal.returns-in-None-clause-parts
returns-in-None-clause-parts c = whole_part c.args.list.now c.in-None.ensures.cut
