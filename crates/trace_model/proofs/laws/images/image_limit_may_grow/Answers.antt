use Rattle.std.proofs.Common.{arith}
use Rattle.trace_model.specs.declared.limits.TheConstants.{MAX_IMAGE}
use Rattle.trace_model.proofs.images.Images.{DecodesImageWithin-other, DecodesImageWithin-larger}
use Rattle.trace_model.proofs.images.Images.{DecodesImageWithin-unique}
use Rattle.trace_model.proofs.laws.images.image_limit_may_grow.Goals as goal

pub returns : goal.returns
returns c = record {
  reads_within_a_larger_limit = DecodesImageWithin-larger;
  others_are_longer =
      λ small large bytes time size missed records fits d.
      DecodesImageWithin-other large small bytes time size missed records fits d;
  one_reading = DecodesImageWithin-unique;
  kernel_pages =
      λ bytes time size missed records d.
      DecodesImageWithin-larger 4096 MAX_IMAGE bytes time size missed records (omega arith) d;
}
