use Rattle.std.proofs.Common.{◌≡◌, ℕ, Err, Option, Some, get_or, map, ◌∙◌, subst, arith}
use Rattle.std.proofs.lemmas.Grind.{common_steps}
use Rattle.std.specs.List.{slice_get}
use Rattle.std.proofs.lemmas.List.{length-set}
use Rattle.std.proofs.lemmas.Option.{slice_get-get_or, slice_get_within}
use Rattle.capture.specs.declared.pages.CaptureFault.TheVariants.{Numbers}
use Rattle.capture.specs.declared.files.captured.CpuCapture.{CpuCapture}
use Rattle.capture.specs.files.Files.{parts_of_cpu}
use Rattle.trace_dat.specs.declared.kernel_texts.counters.Counters.{Counters}
use Rattle.capture.specs.files.Losses.{overrun_by}
use Rattle.capture.specs.files.Captures.{IsCpuCaptured, IsOwnPast}
use Rattle.capture.specs.files.Giving.{part_seen}
use Rattle.capture.proofs.Settled.{settled-next, plain-capture, counted-at}
use Rattle.capture.proofs.files.settle.settle.Goals as goal

pub loop-cpu-init : goal.loop-cpu-init
loop-cpu-init c = record {
  count = c.requires.count;
  settled = record {
    done = λ cpu found at below. absurd (omega (arith, below));
    left = λ cpu found at above. c.requires.each cpu found at;
  };
  known = c.counters_of_cpus-counted.ensures;
}

pub settle_counted-requires : goal.settle_counted-requires
settle_counted-requires c =
    let at : ℕ = c.loop-cpu.cpu in
    let found : CpuCapture = get_or c.loop-cpu.cpus at c.index-cpus-cpu.result in
    let here : slice_get c.loop-cpu.cpus at ≡ Some found =
    slice_get-get_or c.loop-cpu.cpus at c.index-cpus-cpu.result
    (omega (arith, c.loop-cpu-test.true, c.loop-cpu.invariant.count)) in
    let own = c.loop-cpu.invariant.settled.left at found here (omega arith) in
    record {
      cpu = omega (arith, own.cpu_is, c.loop-cpu-test.true);
      known = (own.pages, plain-capture at _ found own);
    }

pub returns-in_err-settle_counted-clause-past : goal.returns-in_err-settle_counted-clause-past
returns-in_err-settle_counted-clause-past c = λ numbers.
    let at : ℕ = c.loop-cpu.cpu in
    let found : CpuCapture = get_or c.loop-cpu.cpus at c.index-cpus-cpu.result in
    let here : slice_get c.loop-cpu.cpus at ≡ Some found =
    slice_get-get_or c.loop-cpu.cpus at c.index-cpus-cpu.result
    (omega (arith, c.loop-cpu-test.true, c.loop-cpu.invariant.count)) in
    let own = c.loop-cpu.invariant.settled.left at found here (omega arith) in
    let reported : c.settle_counted.result ≡ Err Numbers = grind (arith, common_steps) in (
      at,
      subst (λ (o : Option Counters). IsOwnPast (overrun_by o) at (map part_seen c.args.parts.now))
          (counted-at c.counters_of_cpus-counted.result at _ _ (c.loop-cpu.invariant.known at c.loop-cpu-test.true))
          (c.settle_counted.ensures.past at own reported),
    )

pub loop-cpu-preserved : goal.loop-cpu-preserved
loop-cpu-preserved c =
    let at : ℕ = c.loop-cpu.cpu in
    let found : CpuCapture = get_or c.loop-cpu.cpus at c.index-cpus-cpu.result in
    let here : slice_get c.loop-cpu.cpus at ≡ Some found =
    slice_get-get_or c.loop-cpu.cpus at c.index-cpus-cpu.result
    (omega (arith, c.loop-cpu-test.true, c.loop-cpu.invariant.count)) in
    let own = c.loop-cpu.invariant.settled.left at found here (omega arith) in
    let new =
    subst (λ (o : Option Counters).
    IsCpuCaptured at o (parts_of_cpu at (map part_seen c.args.parts.now)) c.settle_counted.new.found)
    (counted-at c.counters_of_cpus-counted.result at _ _ (c.loop-cpu.invariant.known at c.loop-cpu-test.true))
    (c.in_ok-settle_counted.ensures.settled at own) in
    record {
      count = length-set c.loop-cpu.cpus at c.settle_counted.new.found ∙ c.loop-cpu.invariant.count;
      settled = settled-next _ _ at c.loop-cpu.cpus c.settle_counted.new.found c.loop-cpu.invariant.settled new;
      known = c.loop-cpu.invariant.known;
    }

pub returns-clause-settled : goal.returns-clause-settled
returns-clause-settled c = record {
  count = c.loop-cpu.invariant.count;
  each = λ cpu found at. c.loop-cpu.invariant.settled.done cpu found at
      (let within = slice_get_within c.loop-cpu.cpus cpu found at in
      omega (arith, within, c.loop-cpu.invariant.count, c.loop-cpu-test.false));
}
