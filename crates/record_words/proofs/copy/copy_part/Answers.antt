use Rattle.std.proofs.Common.{length}
use Rattle.std.specs.Simd.Lanes.{chunk}
use Rattle.record_words.proofs.Copies.{part_len, part_front, part_behind}
use Rattle.record_words.proofs.copy.copy_part.Goals as goal

pub returns-clause-front : goal.returns-clause-front
returns-clause-front g c =
    λ n near front.
    part_front g.row.N c.args.out.now c.args.payload.now c.args.at n c.requires.room c.requires.within near front

pub returns-clause-behind : goal.returns-clause-behind
returns-clause-behind g c =
    part_behind g.row.N c.args.out.now (chunk c.args.at g.row.N c.args.payload.now) c.args.at
    (length c.args.payload.now) c.requires.room c.requires.within
    (part_len g.row.N c.args.payload.now c.args.at c.requires.within)
