-- What is promised by a call that raises a bound.
use Rattle.std.proofs.Common.{◌≡◌, ℕ, ◌≤◌, Ok, refl, arith}
use Rattle.stream_collector.specs.Marking.{AreWithinEnds}
use Rattle.stream_collector.specs.Forgetting.{RaisesBound}
use Rattle.stream_collector.specs.Stream.{Stream, bound_of}
use Rattle.stream_collector.specs.declared.added.Marked.TheVariants.{Known}
use Rattle.stream_collector.proofs.WithinEnds.{bound_within}

-- the bound is as high already, and nothing changes
pub bound_known : (old new : Stream) (cpu bound : ℕ) → AreWithinEnds old → bound ≤ bound_of old cpu → new ≡ old
    → RaisesBound old new cpu bound (Ok Known)
bound_known old new cpu bound within low same = record {
  known = ((λ is. low), (λ le. refl));
  unchanged = λ is. same;
  higher = λ is. absurd (let no = is in cc);
  raised = λ is. absurd (let no = is in cc);
  within = λ end is. let most = bound_within old cpu within end is in omega arith;
  refused = tt;
}
