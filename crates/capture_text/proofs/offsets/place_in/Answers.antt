use Rattle.std.proofs.Common.{arith}
use Rattle.capture_text.proofs.Places.{begins_within}
use Rattle.capture_text.proofs.offsets.place_in.Goals as goal

pub overflow_mul-result : goal.overflow_mul-result
overflow_mul-result c =
    let inside = begins_within c.args.part c.args.index c.requires in omega arith
