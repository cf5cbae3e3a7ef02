use Rattle.std.proofs.Common.{⊎_elim}
use Rattle.script_replay.proofs.WritesAlone as alone
use Rattle.script_replay.proofs.WritesAbove as above
use Rattle.script_replay.proofs.lane.Lane.write.Goals as goal

pub write_at_once-requires : goal.write_at_once-requires
write_at_once-requires g c =
    let (n, size, start, lane, is, knows) = c.requires in (c.args.at.cpu.0, (n, size, start, lane, is))

pub returns-in-Record : goal.returns-in-Record
returns-in-Record g c = λ n size start lane is knows.
    let wrote = c.write_at_once.ensures.wrote c.in-Record.is in
    let untold = c.write_at_once.ensures.untold c.in-Record.is in
    ⊎_elim
    (λ writes.
    alone.line_written n size start c.args.at.cpu.0 c.args.at.line c.args.moment c.args.payload.now c.args.self.now
    c.write_at_once.new.self c.args.reports.now lane is (writes n size start lane.core is.is_core) wrote.core untold)
    (λ writes.
    above.line_written n size start c.args.at.cpu.0 c.args.at.line c.args.moment c.args.payload.now c.args.self.now
    c.write_at_once.new.self c.args.reports.now lane is (writes n size start lane.core is.is_core) wrote.core untold)
    wrote.writes
