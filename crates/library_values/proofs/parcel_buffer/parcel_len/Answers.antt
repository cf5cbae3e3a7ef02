use Rattle.std.proofs.Common.{◌≡◌, ◌+◌, sym, ap, ◌∙◌, arith}
use Rattle.trace_model.specs.Image.{stores_count}
use Rattle.library_values.proofs.Fronts.{stored_len}
use Rattle.library_values.proofs.parcel_buffer.parcel_len.Goals as goal

pub returns-then-stores_count : goal.returns-then-stores_count
returns-then-stores_count c =
    let page = c.args.page.now in
    let end = c.end-end.ensures in
    let room = c.room.ensures.room in
    let size_is : c.end-end.result + c.room.result ≡ page.size = omega arith in
    let stored : c.stores_count.result ≡ stores_count page.bytes c.args.missed page.size =
    c.stores_count.ensures page.bytes (sym end) ∙ ap (stores_count page.bytes c.args.missed) size_is in
    let len = stored_len page.bytes c.args.missed page.size (sym stored ∙ c.if-stores_count.true) in
    omega (arith, len)
