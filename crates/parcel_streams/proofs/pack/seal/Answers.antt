use Rattle.std.proofs.Common.{ap, ◌∙◌, arith}
use Rattle.parcel_streams.specs.crc32c.Castagnoli.{crc32c}
use Rattle.parcel_streams.proofs.Sealing.{sealed_is}
use Rattle.parcel_streams.proofs.pack.seal.Goals as goal

pub returns : goal.returns
returns c =
    sealed_is c.args.kind c.args.stream.0 _ c.from.result c.args.body.now c.in_ok-bytes.bytes.items
    c.extend_from_slice.new.self.items c.put_number.new.bytes.items c.put_number-2.new.bytes.items
    c.put_number-3.new.bytes.items c.extend_from_slice-2.new.self.items c.put_number-4.new.bytes.items
    c.in_ok-bytes.ensures.items c.in_ok-extend_from_slice.ensures.items c.in_ok-put_number.ensures
    c.in_ok-put_number-2.ensures (omega arith)
    c.in_ok-put_number-3.ensures c.in_ok-extend_from_slice-2.ensures.items
    (c.from.ensures ∙ c.crc32c-sum.ensures ∙ ap crc32c c.deref.ensures.value) c.in_ok-put_number-4.ensures
