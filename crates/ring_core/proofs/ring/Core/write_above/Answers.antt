use Rattle.std.proofs.Common.{sym, subst}
use Rattle.ring_core.specs.Value.{CoreValue}
use Rattle.ring_core.specs.Inside.{core_of}
use Rattle.ring_core.specs.Steps.{IsReachedCore}
use Rattle.ring_core.specs.Above.{WritesAbove}
use Rattle.ring_core.proofs.Above.{written_above}
use Rattle.ring_core.proofs.ring.Core.write_above.Goals as goal

pub write_above-requires : goal.write_above-requires
unfolding IsReachedCore
write_above-requires c =
    let (n, size, start, m, core) = subst IsReachedCore (sym c.self.view_is) c.requires.ring in
    record { frames = (n, size, start, m, record { reached = core.reached; are = core.shows.frames }) }

pub returns-clause-wrote : goal.returns-clause-wrote
returns-clause-wrote c = λ is.
    let v : CoreValue = core_of c.self.inside in
    subst
    (λ (x : CoreValue).
    WritesAbove x c.args.moment c.args.payload.now (core_of record c.self.inside { frames = c.write_above.new.self }))
    c.self.view_is
    (written_above v c.write_above.new.self c.args.moment c.args.payload.now (c.write_above.ensures.fits.0 is).0.0
    (c.write_above.ensures.wrote is))
