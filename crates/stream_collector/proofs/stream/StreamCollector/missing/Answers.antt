use Rattle.std.proofs.Common.{◌-◌, ◌^◌, ap, subst, arith}
use Rattle.collector.specs.Sound.{AreSound}
use Rattle.collector.proofs.RunLists.{same_runs}
use Rattle.collector.proofs.Stretches.{missing_fits}
use Rattle.stream_collector.specs.Stream.{Stream, IsMissing}
use Rattle.stream_collector.specs.declared.marks.Marks.{Marks}
use Rattle.stream_collector.specs.Kinds.{IsOfKindWithin}
use Rattle.stream_collector.specs.declared.kinds.Kind.TheVariants.{Missing}
use Rattle.stream_collector.proofs.stream.StreamCollector.missing.Goals as goal

pub returns : goal.returns
returns c =
    let s = c.args.self.now in
    let own = ap (λ (m : Marks). m.bound) c.marks.ensures in
    let cpu = c.args.cpu.0 in
    same_runs {P = IsOfKindWithin Missing s cpu c.marks.result.bound (2 ^ 64 - 1)} {Q = IsMissing s cpu} c.runs.result
    (λ n h. record { from = (let a = h.from in omega arith); misses = h.of_kind })
    (λ n h. record {
      from = let a = h.from in omega arith;
      below = missing_fits s.parcels
          (subst (λ (s : Stream). AreSound s.parcels) c.self.view_is c.parcels-kept.ensures.sound) cpu n h.misses;
      of_kind = h.misses;
    })
    c.runs.ensures
