use Rattle.std.proofs.Common.{◌∙◌, sym, arith}
use Rattle.parcel_streams.proofs.Bytes.{remainder_after-split, remainder_after-more, remainder_after-end}
use Rattle.parcel_streams.proofs.crc32c.step.remainder_after.Goals as goal

pub loop-word-preserved : goal.loop-word-preserved
loop-word-preserved c =
    let split = remainder_after-split c.loop-word.remainder 8 c.loop-word.rest.now in
    let word = c.in-Some.ensures.cases.0 in
    let behind = c.in-Some.ensures.cases.1 in
    cc

pub loop-byte-preserved : goal.loop-byte-preserved
loop-byte-preserved c =
    let more = remainder_after-more c.loop-byte.remainder c.loop-byte.byte-index c.loop-word.rest.now (omega arith) in
    cc

pub returns : goal.returns
returns c =
    let end = remainder_after-end c.loop-byte.remainder c.loop-byte.byte-index c.loop-word.rest.now (omega arith) in
    sym end ∙ c.loop-byte.invariant
