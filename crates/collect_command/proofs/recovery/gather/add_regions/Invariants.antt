use Rattle.std.proofs.Common.{◌≡◌, take}
use Rattle.collect_command.specs.recovery.Gathering.{gathering_of, AddsRegions}
use Rattle.collect_command.proofs.recovery.gather.add_regions.Given as goal

abbrev pub invariant-loop-region : goal.invariant-loop-region
invariant-loop-region g l = record {
  input_is : l.input ≡ l.region-index;
  added : AddsRegions (take l.region-index l.regions) (gathering_of l.fn.fleet l.fn.out)
      (gathering_of l.fleet l.out);
}
