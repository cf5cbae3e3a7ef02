use Rattle.std.proofs.Common.{◌-◌, sym, subst, rules, arith}
use Rattle.page_numbers.specs.Parcels.{as_parcel}
use Rattle.collector.specs.Adding.{IsLookedAt}
use Rattle.collector.proofs.Looking.{shown_kept, shown_missing, shown_none}
use Rattle.collector.proofs.Adding.{missing_is_taken, missing_known, missing_new}
use Rattle.collector.proofs.collector.Collector.look_at_missing.Goals.{in-Some-Missing, in-None}
use Rattle.collector.proofs.collector.Collector.look_at_missing.Goals as goal

pub returns-in-Some-Kept-clause-fault : goal.returns-in-Some-Kept-clause-fault
returns-in-Some-Kept-clause-fault c =
    missing_is_taken c.args.self.now (as_parcel c.args.parcel.now) c.in-Some-Kept.field-0-0 c.cpu-cpu.result.0
    c.loop-at.at c.cpu-cpu.ensures.cpu c.stretch-stretch.ensures.agree
    (shown_kept c.args.self.now c.cpu-cpu.result.0 c.loop-at.at c.in-Some-Kept.field-0-0
    c.stretch-stretch.result.content (search rules) c.stretch-stretch.ensures.here)
    c.loop-at.invariant.from (omega arith) c.loop-at.invariant.seen.fits

pub loop-at-preserved : goal.loop-at-preserved
loop-at-preserved c =
    let ps = c.args.self.now in
    let p = as_parcel c.args.parcel.now in
    let stretch = c.stretch-stretch in
    let low = p.first - p.missed in
    elim c.match-stretch.branch [
      | in-Some-Missing w ↦ record {
        from = omega arith;
        up_to = omega arith;
        seen = subst (IsLookedAt ps p low c.min-at.result) (sym w.grows-is)
            (missing_known ps p c.cpu-cpu.result.0 c.loop-at.at c.min-at.result c.loop-at.grows c.cpu-cpu.ensures.cpu
            stretch.ensures.agree (omega arith) c.loop-at.invariant.seen
            (λ n a b.
            shown_missing ps c.cpu-cpu.result.0 n stretch.result.content (search rules)
            (stretch.ensures.shown n a (omega arith))));
      }
      | in-None w ↦ record {
        from = omega arith;
        up_to = omega arith;
        seen = subst (IsLookedAt ps p low c.min-at.result) (sym w.grows-is)
            (missing_new ps p c.cpu-cpu.result.0 c.loop-at.at c.min-at.result c.loop-at.grows c.cpu-cpu.ensures.cpu
            c.loop-at.invariant.from (omega arith) (omega arith) c.loop-at.invariant.seen
            (λ n a b.
            shown_none ps c.cpu-cpu.result.0 n stretch.result.content (search rules)
            (stretch.ensures.shown n a (omega arith))));
      }
    ]
