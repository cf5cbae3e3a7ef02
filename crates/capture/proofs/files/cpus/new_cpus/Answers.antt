use Rattle.std.proofs.Common.{◌≡◌, ℕ, [], Some, ⊎_elim, subst, List, arith}
use Rattle.std.specs.List.{slice_get}
use Rattle.trace_model.specs.Image.{unknown}
use Rattle.capture.specs.declared.files.captured.CpuCapture.{CpuCapture}
use Rattle.capture.specs.files.Captures.{IsCpuRead}
use Rattle.capture.proofs.CpuLists.{get-push, none_some}
use Rattle.capture.proofs.files.cpus.new_cpus.Goals as goal

pub loop-cpu-init : goal.loop-cpu-init
loop-cpu-init c = record {
  count = c.new-cpus.ensures.len;
  each =
      λ cpu found at.
      absurd
      (none_some
      (subst (λ (cs : List CpuCapture). slice_get cs cpu ≡ Some found) c.new-cpus.ensures.items at));
}

pub loop-cpu-preserved : goal.loop-cpu-preserved
loop-cpu-preserved c =
    let count = c.loop-cpu.invariant.count in
    let len = c.loop-cpu.cpus.ok.0 in
    record {
      count = omega (arith, c.in_ok-push.ensures.len, count);
      each = λ cpu found at. ⊎_elim
          (λ there. c.loop-cpu.invariant.each cpu found there)
          (λ here. subst (IsCpuRead unknown cpu []) here.1
          (subst (λ (n : ℕ). IsCpuRead unknown n [] c.new.result)
          (let same : c.loop-cpu.cpu ≡ cpu = omega (arith, here.0, count, len) in same)
          (c.new.ensures.none unknown)))
          (get-push c.loop-cpu.cpus.items c.new.result cpu found
          (subst (λ (cs : List CpuCapture). slice_get cs cpu ≡ Some found) c.in_ok-push.ensures.items at));
    }

pub returns : goal.returns
returns c = record {
  count = let count = c.loop-cpu.invariant.count in let len = c.loop-cpu.cpus.ok.0 in
      omega (arith, count, len, c.loop-cpu-test.false, c.loop-cpu.auto.cpu-end);
  each = c.loop-cpu.invariant.each;
}
