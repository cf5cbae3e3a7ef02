use Rattle.std.proofs.Common.{Option, IfSome, sym, subst}
use Rattle.tracering_c.specs.declared.ends.HeldWriter.{HeldWriter}
use Rattle.tracering_c.specs.declared.ends.HeldReader.{HeldReader}
use Rattle.tracering_c.specs.Held.{writer_of, reader_of}
use Rattle.tracering_c.specs.Ends.{IsHeldReader, AreOfOneRing}
use Rattle.tracering_c.proofs.CallAnswers.{held_is}
use Rattle.tracering_c.proofs.settling.tracering_raw_settle.Goals as goal

pub settle_into-requires-clause-reader : goal.settle_into-requires-clause-reader
settle_into-requires-clause-reader c =
    let right = c.in-Some-take_out.right in
    let held =
    held_is (λ b. b.value) (reader_of c.args.r.now.held.value) c.take_out-2.result right c.in-Some-take_out.is
    c.take_out-2.ensures.none c.take_out-2.ensures.some in
    let is = subst (λ (o : Option HeldReader). IfSome o IsHeldReader) held c.requires.reader in
    subst IsHeldReader (sym c.into_inner-2.ensures) is

pub settle_into-requires-clause-one_ring : goal.settle_into-requires-clause-one_ring
settle_into-requires-clause-one_ring c =
    let left = c.in-Some.left in
    let right = c.in-Some-take_out.right in
    let writer =
    held_is (λ b. b.value) (writer_of c.args.w.now.held.value) c.take_out.result left c.in-Some.is
    c.take_out.ensures.none c.take_out.ensures.some in
    let reader =
    held_is (λ b. b.value) (reader_of c.args.r.now.held.value) c.take_out-2.result right c.in-Some-take_out.is
    c.take_out-2.ensures.none c.take_out-2.ensures.some in
    let one = c.requires.one_ring left.value right.value writer reader in
    subst (λ (w : HeldWriter). AreOfOneRing w.writer c.into_inner-2.result.reader) (sym c.into_inner.ensures)
    (subst (λ (r : HeldReader). AreOfOneRing left.value.writer r.reader) (sym c.into_inner-2.ensures) one)
