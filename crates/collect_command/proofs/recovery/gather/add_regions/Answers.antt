use Rattle.std.proofs.Common.{suc, ◌+◌, ◌++◌, List, take, drop, length-take-le, sym, ap, ◌∙◌, subst}
use Rattle.ring_region.specs.declared.regions.Region.{Region}
use Rattle.collect_command.specs.recovery.Gathering.{gathering_of, AddsRegions}
use Rattle.collect_command.proofs.Told.{told_more}
use Rattle.collect_command.proofs.Adds.{adds_both, cut_at, next_taken}
use Rattle.collect_command.proofs.recovery.gather.add_regions.Goals as goal

pub returns-in-Err-clause-stopped : goal.returns-in-Err-clause-stopped
returns-in-Err-clause-stopped g c =
    let rs = c.args.regions.now in
    let k = c.loop-region.region-index in
    let item = c.region-item.result in
    let inv = c.loop-region.invariant in
    let s = c.in-Err.ensures.stopped in
    let start = gathering_of c.args.fleet.now c.args.out.now in
    let mid = gathering_of c.loop-region.fleet c.loop-region.out in
    let now = gathering_of c.add_region.new.fleet c.add_region.new.out in
    record {
      front = take k rs;
      this = item;
      behind = drop (suc k) rs;
      regions_are = cut_at rs k item c.loop-region-test.true c.region-item.is;
      input_is = inv.input_is ∙ sym (length-take-le k rs c.loop-region.auto.region-index-end);
      before = inv.added.pieces;
      told = inv.added.told;
      own = s.pieces;
      adds = adds_both inv.added.pieces s.pieces start mid now inv.added.adds s.adds;
      why = s.why;
    }

pub loop-region-preserved : goal.loop-region-preserved
loop-region-preserved g c =
    let rs = c.args.regions.now in
    let k = c.loop-region.region-index in
    let item = c.region-item.result in
    let inv = c.loop-region.invariant in
    let one = c.in_default.ensures.added in
    let start = gathering_of c.args.fleet.now c.args.out.now in
    let mid = gathering_of c.loop-region.fleet c.loop-region.out in
    let now = gathering_of c.add_region.new.fleet c.add_region.new.out in
    record {
      input_is = ap (λ n. n + 1) inv.input_is;
      added = subst (λ (xs : List Region). AddsRegions xs start now)
          (next_taken rs k item c.loop-region-test.true c.region-item.is) record {
            pieces = inv.added.pieces ++ one.pieces;
            told = told_more (take k rs) inv.added.pieces item one.pieces inv.added.told one.told;
            adds = adds_both inv.added.pieces one.pieces start mid now inv.added.adds one.adds;
          };
    }
