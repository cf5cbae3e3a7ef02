use Rattle.std.proofs.Common.{ap, arith}
use Rattle.ring_steps.specs.declared.rule.Shape.{Shape}
use Rattle.page_image.specs.Contents.{Contents}
use Rattle.tracering_c.proofs.Unread.{unread_is}
use Rattle.tracering_c.proofs.settling.settle_into.Goals as goal

pub put_parcel-len-requires-clause-there : goal.put_parcel-len-requires-clause-there
put_parcel-len-requires-clause-there c =
    let tail = ap (λ (page : Contents). page.size) (unread_is c.in-Ok.settled c.in-Some.page.now c.in-Some.ensures) in
    let size = c.in-Ok.ensures.settled.tail.size_is in
    let same = ap (λ (shape : Shape). shape.size) c.requires.one_ring.shape_is in
    let room = c.requires.room in
    omega arith
