use Rattle.std.proofs.Common.{◌≤◌, length, sym, subst, arith}
use Rattle.nested_writer.specs.AtOnce.{FitsAtOnce}
use Rattle.ring_core.specs.Value.{CoreValue}
use Rattle.ring_core.specs.Inside.{core_of}
use Rattle.ring_core.specs.Steps.{IsReachedCore}
use Rattle.ring_core.specs.AtOnce.{MayWriteAlone, WritesAlone}
use Rattle.ring_core.proofs.AtOnce.{written_alone}
use Rattle.ring_core.proofs.ring.Core.write_at_once.Goals as goal

pub write-requires : goal.write-requires
unfolding IsReachedCore
write-requires c =
    let (n, size, start, m, core) = subst IsReachedCore (sym c.self.view_is) c.requires.ring in
    record { frames = (n, size, start, m, record { reached = core.reached; are = core.shows.frames }) }

pub returns-clause-may : goal.returns-clause-may
returns-clause-may c = λ is.
    let v : CoreValue = core_of c.self.inside in
    let past : v.wish ≤ v.stack.done = omega (arith, c.done.ensures) in
    subst (λ (x : CoreValue). MayWriteAlone x c.args.moment (length c.args.payload.now)) c.self.view_is
    (c.write.ensures.fits is, past)

pub returns-clause-any : goal.returns-clause-any
returns-clause-any c = λ kind may.
    c.write.ensures.any kind
    (subst (λ (x : CoreValue). FitsAtOnce x.stack c.args.moment (length c.args.payload.now)) (sym c.self.view_is)
    may.0)

pub returns-clause-wrote : goal.returns-clause-wrote
returns-clause-wrote c = λ is.
    let v : CoreValue = core_of c.self.inside in
    let past : v.wish ≤ v.stack.done = omega (arith, c.done.ensures) in
    subst
    (λ (x : CoreValue).
    WritesAlone x c.args.moment c.args.payload.now (core_of record c.self.inside { frames = c.write.new.self }))
    c.self.view_is
    (written_alone v c.write.new.self c.args.moment c.args.payload.now past (c.write.ensures.wrote is)
    (c.write.ensures.alone is))
