use Rattle.std.proofs.Common.{◌-◌, ◌^◌, subst, arith}
use Rattle.collector.specs.Sound.{AreSound}
use Rattle.collector.proofs.RunLists.{same_runs}
use Rattle.collector.proofs.Stretches.{missing_fits}
use Rattle.stream_collector.specs.Stream.{Stream, IsUndelivered}
use Rattle.stream_collector.specs.Kinds.{IsOfKindWithin}
use Rattle.stream_collector.specs.declared.kinds.Kind.TheVariants.{Undelivered}
use Rattle.stream_collector.proofs.stream.StreamCollector.undelivered.Goals as goal

pub returns : goal.returns
returns c =
    let s = c.args.self.now in
    let cpu = c.args.cpu.0 in
    same_runs {P = IsOfKindWithin Undelivered s cpu 0 (2 ^ 64 - 1)} {Q = IsUndelivered s cpu} c.runs.result
    (λ n h. record { given_up = h.of_kind.0; not_known = h.of_kind.1 })
    (λ n h. record {
      from = omega arith;
      below = missing_fits s.given_up
          (subst (λ (s : Stream). AreSound s.given_up) c.self.view_is c.parcels-given_up.ensures.sound)
          cpu n h.given_up;
      of_kind = (h.given_up, h.not_known);
    })
    c.runs.ensures
