use Rattle.std.proofs.Common.{ℕ, ◌≤◌, List, length, sym, ap, ◌∙◌, subst}
use Rattle.trace_model.specs.declared.limits.TheConstants.{MAX_INPUT}
use Rattle.ring_region.specs.Regions.{IsRegion}
use Rattle.ring_region.specs.Answers.{region_seen}
use Rattle.collect_command.proofs.AllRead.{not_set}
use Rattle.collect_command.proofs.recovery.read.read_input.Goals as goal

pub returns-in-Ok-read_region-clause-region : goal.returns-in-Ok-read_region-clause-region
returns-in-Ok-read_region-clause-region g c = record {
  bytes = c.in-Ok.bytes.items;
  whole = record {
    taken = c.in-Ok.ensures.whole.0;
    end = c.in-Ok.ensures.whole.1;
    short = subst (λ (n : ℕ). n ≤ MAX_INPUT) (sym c.deref.ensures.len ∙ ap length c.deref.ensures.value)
        c.in-Ok.ensures.limited;
    sound = not_set (g.R.Source.failed c.read_all.new.reader) c.in-Ok.ensures.read_fault (λ is. cc);
  };
  is_region = subst (λ (bytes : List ℕ). IsRegion bytes (region_seen c.in-Ok-read_region.region)) c.deref.ensures.value
      c.in-Ok-read_region.ensures.region;
}
