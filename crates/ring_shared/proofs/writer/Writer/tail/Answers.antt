use Rattle.std.proofs.Common.{subst, arith}
use Rattle.std.specs.Option.{IsSome}
use Rattle.ring_shared.specs.contracts.writer.Writer.{the_view}
use Rattle.ring_shared.proofs.Called.{writer_seen}
use Rattle.ring_shared.proofs.Bounds.{some_open}
use Rattle.ring_shared.specs.Calls.{IsWriter}
use Rattle.ring_shared.proofs.writer.Writer.tail.Goals as goal

pub unreachable-requires : goal.unreachable-requires
unfolding IsWriter
unreachable-requires c =
    let some = some_open (the_view c.self.inside) (writer_seen c.self.view_is c.requires.writer) in
    let wide = c.self.inside.pages.ok.0 in
    let there = subst IsSome c.in-None.is (c.back.ensures.variant.1 (omega arith)) in cc
