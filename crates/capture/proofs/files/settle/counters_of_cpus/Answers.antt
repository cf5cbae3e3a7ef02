use Rattle.std.proofs.Common.{◌-◌, ◌∙◌, Some, None, sym, ap, arith}
use Rattle.capture.proofs.Overruns.{get-replicate, none-left, one-before}
use Rattle.capture.proofs.files.settle.counters_of_cpus.Goals as goal

pub loop-at-init : goal.loop-at-init
loop-at-init c = record {
  within = omega arith;
  each =
      λ cpu below. get-replicate None 256 cpu below ∙ sym (ap Some (none-left (λ text. text.now) cpu c.args.texts.now));
}

pub loop-at-preserved : goal.loop-at-preserved
loop-at-preserved c = record {
  within = omega (arith, c.loop-at.invariant.within);
  each = λ cpu below.
      c.note_counters.ensures cpu _ (c.loop-at.invariant.each cpu below)
      ∙ ap Some
      (one-before (λ text. text.now) cpu c.args.texts.now (c.loop-at.at - 1) c.loop-at.at _
      (omega (arith, c.loop-at-test.true)) (omega (arith, c.loop-at.invariant.within, c.loop-at-test.true)));
}
